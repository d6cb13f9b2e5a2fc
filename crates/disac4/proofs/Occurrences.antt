-- How often one label occurs: in a list, in a message, in the events of a run.
use Prim.Native.Nat.{ℕ}
use mathlib.Core.Bool.{cond, ◌&&◌}
use mathlib.Core.List.{List}
use lib.Dec.{eqb}
use Rattle.base.proofs.Weight.{weigh}
use Rattle.base.specs.Below.{one}
use Rattle.network.specs.Network.{Label, is_label}
use Rattle.disac4.specs.Event.{Event, sent, taken, treated, is_treat_of}
use Rattle.disac4.specs.State.{Message, list, poll, reply}

module _ (x v : ℕ) where
  -- in a list
  abbrev pub occurs : List Label → ℕ
  occurs l = weigh (λ a. one (is_label x v a)) l

  -- in a message
  abbrev pub carried : Message → ℕ
  carried (list labels) = occurs labels
  carried (poll q) = 0
  carried (reply n) = 0

  -- in messages that worker `j` sent
  abbrev pub sent_by : ℕ → Event → ℕ
  sent_by j (sent k labels) = cond (eqb k j) (occurs labels) 0
  sent_by j (taken i k labels) = 0
  sent_by j (treated k a) = 0

  -- in messages from `j` that actor `i` read
  abbrev pub read_by : ℕ → ℕ → Event → ℕ
  read_by i j (taken l k labels) = cond (eqb l i && eqb k j) (occurs labels) 0
  read_by i j (sent k labels) = 0
  read_by i j (treated k a) = 0

  -- 1 where worker `k` treated it
  abbrev pub treated_by : ℕ → Event → ℕ
  treated_by k e = one (is_treat_of k x v e)
