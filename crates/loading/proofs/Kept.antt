-- Listing the labels keeps the counters and the plan's index.
use Prim.Native.Nat.{ℕ, ◌-◌, ◌≤◌}
use mathlib.Core.Bool.{Bool}
use native.Mathlib.Omega.{arith}
use Rattle.base.specs.Below.{loop}
use Rattle.disac4.specs.System.{System}
use Rattle.cells.proofs.RegionsKept.{RegionsKept, kept_same, kept_then, kept_either, kept_repeated, kept_stored, kept_fewer, delete_kept}
use Rattle.cells.specs.Layout.{DOMAIN, COUNTERS, LISTED}
use Rattle.cells.specs.Memory.{Mem, store}
use Rattle.counting.proofs.Kept.{counters_alone, count_else}
use Rattle.counting.specs.Count.{count_supports_m}
use Rattle.index.proofs.Kept.{IndexKept}
use Rattle.loading.specs.Load.{list_label_m, list_value_m, list_values_m, list_variable_m, list_m, load_m}

-- from the counters on, `n` is what `m` is
abbrev pub CountersKept : Mem → Mem → Type 0
CountersKept = RegionsKept (λ r. COUNTERS ≤ r)

-- so the index is kept
pub index_behind : {m n : Mem} → CountersKept m n → IndexKept m n
index_behind = kept_fewer (λ r h. omega arith)

module _ (sys : System) where
  pub list_label_kept : (x v : ℕ) (supported : Bool) (m : Mem) → CountersKept m (list_label_m sys x v supported m)
  unfolding list_label_m
  list_label_kept x v supported m =
      let p : CountersKept m (store m DOMAIN x v LISTED) = kept_stored DOMAIN x v LISTED (omega arith) kept_same in
      kept_either supported p (delete_kept (sys.owner x - 1) x v (λ r h. omega arith) p)

  pub list_variable_kept : (x : ℕ) (m : Mem) → CountersKept m (list_variable_m sys x m)
  unfolding list_variable_m list_values_m
  list_variable_kept x m = kept_repeated (list_value_m sys x _) (λ v. list_label_kept x v _) (sys.net.size x) m

  -- the first `n` variables
  pub list_variables_kept : (n : ℕ) (m : Mem) → CountersKept m (loop n (list_variable_m sys) m)
  list_variables_kept = kept_repeated (list_variable_m sys) list_variable_kept

  pub load_kept : (m : Mem) → IndexKept m (load_m sys m)
  unfolding load_m list_m
  load_kept m =
      kept_then (counters_alone (count_else sys m)) (index_behind (list_variables_kept sys.net.variables (count_supports_m sys m)))
