-- The state in which no deletion is on its way.
use Prim.Native.Nat.{ℕ, ◌≤◌}
use mathlib.Core.List.{[]}
use mathlib.Core.Path.{◌≡◌}
use Rattle.base.proofs.Weight.{weigh}
use Rattle.disac4.proofs.ByKind.{list_message}
use Rattle.disac4.specs.State.{State}
use Rattle.disac4.specs.System.{System, Worker}

-- no worker has a label to treat or to send, and no list message is on its way
pub record Quiet (sys : System) (st : State) : Type 0 where
  pub no_work : (k : ℕ) → Worker sys k → st.work_list k ≡ []
  pub no_send : (k : ℕ) → Worker sys k → st.to_send k ≡ []
  pub no_list : (j k : ℕ) → j ≤ sys.workers → k ≤ sys.workers → weigh list_message (st.channel j k) ≡ 0
