-- Treating a label keeps the plan's index.
use Prim.Native.Nat.{ℕ, suc, ◌-◌}
use native.Mathlib.Omega.{arith}
use lib.Dec.{eqb}
use Rattle.disac4.specs.System.{System}
use Rattle.cells.specs.Layout.{COUNTERS}
use Rattle.cells.specs.Memory.{Mem, store}
use Rattle.cells.specs.View.{in_domain, counter_row}
use Rattle.cells.proofs.RegionsKept.{kept_same, kept_either, kept_repeated, kept_stored, delete_kept}
use Rattle.index.proofs.Kept.{IndexKept}
use Rattle.treating.specs.Treat.{lose_m, touch_m, touch_variable_m, touch_variables_m}

pub lose_kept : (i x v y : ℕ) (m : Mem) → IndexKept m (lose_m i x v y m)
unfolding lose_m
lose_kept i x v y m =
    let p : IndexKept m (store m COUNTERS (counter_row m x y) v (m COUNTERS (counter_row m x y) v - 1)) =
    kept_stored COUNTERS (counter_row m x y) v (m COUNTERS (counter_row m x y) v - 1) (omega arith) kept_same in
    kept_either (eqb (m COUNTERS (counter_row m x y) v - 1) 0) (delete_kept i x v (λ r h. omega arith) p) p

module _ (sys : System) (i y w : ℕ) where
  pub touch_kept : (x v : ℕ) (m : Mem) → IndexKept m (touch_m sys i y w x v m)
  unfolding touch_m
  touch_kept x v m = kept_either (in_domain m x v) (kept_either (sys.net.allows x v y w) (lose_kept i x v y m) kept_same) kept_same

  pub touch_variable_kept : (x : ℕ) (m : Mem) → IndexKept m (touch_variable_m sys i y w x m)
  unfolding touch_variable_m
  touch_variable_kept x m =
      kept_either (eqb (sys.owner x) (suc i))
      (kept_either (sys.net.linked x y) (kept_repeated (touch_m sys i y w x) (touch_kept x) (sys.net.size x) m) kept_same) kept_same

  pub touch_variables_kept : (m : Mem) → IndexKept m (touch_variables_m sys i y w m)
  unfolding touch_variables_m
  touch_variables_kept = kept_repeated (touch_variable_m sys i y w) touch_variable_kept sys.net.variables
