-- Loading: counters over the loaded domains, before any deletion, and each worker's first deletions.
use Rattle.std.specs.Prelude.{ℕ, Bool, false, cond, ◌&&◌, not, List, [], eqb}
use Rattle.std.proofs.Math.Option.{none}
use Rattle.base.specs.Below.{any_below}
use Rattle.network.specs.Network.{Network, Label, loaded, labels_where, support_count}
use Rattle.disac4.specs.State.{State}
use Rattle.disac4.specs.System.{System}

-- for each label and each variable it shares a constraint with, its supports over the loaded domains; 0 where there is no such count
unfoldable pub loaded_counter : Network → ℕ → ℕ → ℕ → ℕ
loaded_counter net x v y = cond (loaded net x v) (support_count net x v y) 0

-- a label with a count of 0
unfoldable pub unsupported : Network → ℕ → ℕ → Bool
unsupported net x v = any_below net.variables (λ y. net.linked x y && eqb (loaded_counter net x v y) 0)

-- the labels that worker `k` deletes at loading, variables and values ascending
unfoldable pub loaded_deletions : System → ℕ → List Label
loaded_deletions sys k = labels_where sys.net (λ x v. eqb (sys.owner x) k && unsupported sys.net x v)

-- the plan as loaded: counts of lists and the poll number at 0, channels empty, no poll open or held
unfoldable pub load : System → State
load sys = record {
  domain = λ x v. loaded sys.net x v && not (unsupported sys.net x v);
  counter = loaded_counter sys.net;
  work_list = loaded_deletions sys;
  to_send = loaded_deletions sys;
  held = λ k. none;
  list_counter = λ k. 0;
  channel = λ j k. [];
  controller = record { timestamp = 0; poll_open = false; marked = λ k. false; closed = false };
}
