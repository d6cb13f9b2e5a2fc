-- The events of a run, and when a deletion (strike) is unsent, unread or untreated.
use Rattle.std.specs.Prelude.{ℕ, suc, Bool, false, cond, ◌&&◌, ◌||◌, not, List, [], ◌∷◌, ◌++◌, leb, eqb}
use Rattle.base.specs.Below.{all_below}
use Rattle.base.specs.Choice.{any_of}
use Rattle.network.specs.Network.{Label, is_label, loaded}
use Rattle.disac4.specs.Fold.{gather_by}
use Rattle.disac4.specs.Report.{is_send}
use Rattle.disac4.specs.State.{State, Message, list, poll, reply}
use Rattle.disac4.specs.System.{System}
use Rattle.disac4.specs.Turn.{Turn, treat_action, step, changes}

-- what happened to labels: from these follows which deletions are unsent, unread or untreated
pub data Event : Type 0 where
  -- a worker sent a list message with these labels
  sent : ℕ → List Label → Event
  -- a reader took a list message with these labels from a sender: `taken reader sender labels`
  taken : ℕ → ℕ → List Label → Event
  -- a worker treated a label
  treated : ℕ → Label → Event

-- the event of a treat with this work list: its oldest label is treated
abbrev pub treat_event : ℕ → List Label → List Event
treat_event k [] = []
treat_event k (a ∷ rest) = treated k a ∷ []

-- the event of a read with these messages in the channel from `j` to `k`: none unless the oldest is a list message
abbrev pub read_event : ℕ → ℕ → List Message → List Event
read_event k j [] = []
read_event k j (list labels ∷ rest) = taken k j labels ∷ []
read_event k j (poll q ∷ rest) = []
read_event k j (reply n ∷ rest) = []

-- a turn in which a worker treats
abbrev pub is_treat : Turn → Bool
is_treat t = not (eqb t.actor 0) && eqb t.action treat_action

-- a turn that reads: its action is the sender's number
abbrev pub is_read : ℕ → Turn → Bool
is_read p t = leb t.action p

-- what a turn did to labels
unfoldable pub events_at : System → State → Turn → List Event
events_at sys st t =
    cond (changes sys st t)
    (cond (is_send t) (sent t.actor (st.to_send t.actor) ∷ [])
    (cond (is_treat t) (treat_event t.actor (st.work_list t.actor))
    (cond (is_read sys.workers t) (read_event t.actor t.action (st.channel t.action t.actor)) [])))
    []

-- the events of a list of turns, in their order
abbrev pub events : System → State → List Turn → List Event
events sys = gather_by (step sys) [] ◌++◌ (events_at sys)

-- the label is in the list
unfoldable pub holds : List Label → ℕ → ℕ → Bool
holds labels x v = any_of (is_label x v) labels

-- the event is worker `k`'s send of a message that carries label `v` of `x`
abbrev pub is_sent_with : ℕ → ℕ → ℕ → Event → Bool
is_sent_with k x v (sent j labels) = eqb j k && holds labels x v
is_sent_with k x v (taken i j labels) = false
is_sent_with k x v (treated j a) = false

-- the event is `reader`'s read of a message from worker `k` that carries label `v` of `x`; a label is sent at most once
-- (`sent_once`, `proofs/Treated.antt`), so this is the message that carries it
abbrev pub is_read_with : ℕ → ℕ → ℕ → ℕ → Event → Bool
is_read_with k reader x v (taken i j labels) = eqb i reader && eqb j k && holds labels x v
is_read_with k reader x v (sent j labels) = false
is_read_with k reader x v (treated j a) = false

-- the event is worker `k`'s treating of label `v` of `x`
abbrev pub is_treat_of : ℕ → ℕ → ℕ → Event → Bool
is_treat_of k x v (treated j a) = eqb j k && is_label x v a
is_treat_of k x v (sent j labels) = false
is_treat_of k x v (taken i j labels) = false

-- Of a deleted label; what the state shows of it then is in `specs/Pending.antt`:

-- unsent until a send of its owner carries it
unfoldable pub unsent : System → List Event → ℕ → ℕ → Bool
unsent sys es x v = not (any_of (is_sent_with (sys.owner x) x v) es)

-- unread until every other worker and the controller have read the message that carries it
unfoldable pub unread : System → List Event → ℕ → ℕ → Bool
unread sys es x v =
    not
    (all_below (suc sys.workers)
    (λ i. eqb i (sys.owner x) || any_of (is_read_with (sys.owner x) i x v) es))

-- untreated until every worker, its owner too, has treated it
unfoldable pub untreated : System → List Event → ℕ → ℕ → Bool
untreated sys es x v = not (all_below sys.workers (λ i. any_of (is_treat_of (suc i) x v) es))

-- the label was loaded and is no longer in its domain
unfoldable pub deleted : System → State → ℕ → ℕ → Bool
deleted sys st x v = loaded sys.net x v && not (st.domain x v)
