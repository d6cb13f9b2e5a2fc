-- Counting writes the counters alone; so it keeps the plan's index.
use Prim.Native.Nat.{ℕ}
use mathlib.Core.Path.{◌≡◌, refl}
use native.Mathlib.Omega.{arith}
use Rattle.disac4.specs.System.{System}
use Rattle.cells.proofs.RegionsKept.{RegionsKept, kept_same, kept_then, kept_either, kept_repeated, kept_stored, kept_fewer}
use Rattle.cells.specs.Layout.{COUNTERS}
use Rattle.cells.specs.Memory.{Mem}
use Rattle.cells.specs.View.{counter_row}
use Rattle.index.proofs.Kept.{IndexKept}
use Rattle.counting.specs.Count.{count_value_m, count_pair_m, count_against_m, count_both_m, count_variable_m, count_supports_m}

-- beside the counters, `n` is what `m` is
abbrev pub SameElse : Mem → Mem → Type 0
SameElse = RegionsKept (λ r. r ≡ COUNTERS → ⊥)

-- so the index is kept
pub counters_alone : {m n : Mem} → SameElse m n → IndexKept m n
counters_alone = kept_fewer (λ r h. omega arith)

module _ (sys : System) where
  pub pair_else : (x y : ℕ) (m : Mem) → SameElse m (count_pair_m sys x y m)
  unfolding count_pair_m
  pair_else x y m =
      kept_repeated (count_value_m sys x y (counter_row m x y)) (λ v o. kept_stored COUNTERS (counter_row m x y) v _ (λ d. d refl) kept_same) _ m

  pub against_else : (x y : ℕ) (m : Mem) → SameElse m (count_against_m sys x y m)
  unfolding count_against_m
  against_else x y m = kept_either (sys.net.linked x y) (pair_else x y m) kept_same

  pub both_else : (x y : ℕ) (m : Mem) → SameElse m (count_both_m sys x y m)
  unfolding count_both_m
  both_else x y m = kept_then (against_else x y m) (against_else y x (count_against_m sys x y m))

  pub variable_else : (x : ℕ) (m : Mem) → SameElse m (count_variable_m sys x m)
  unfolding count_variable_m
  variable_else x = kept_repeated (λ y. count_both_m sys y x) (λ y. both_else y x) x

  pub count_else : (m : Mem) → SameElse m (count_supports_m sys m)
  unfolding count_supports_m
  count_else = kept_repeated (count_variable_m sys) variable_else sys.net.variables
