-- The actions (deeds) of workers and controller, each as document 01 words it: the next state, or nothing where it is idle.
-- A state after an action names only what changes; `st` is the state before it throughout.
use Rattle.std.specs.Prelude.{ℕ, suc, ◌-◌, Bool, true, false, cond, ◌&&◌, not, List, [], ◌∷◌, ◌++◌, leb, eqb}
use Rattle.std.proofs.Math.Option.{Option, none, some}
use Rattle.base.specs.Below.{all_below}
use Rattle.base.specs.Choice.{update}
use Rattle.network.specs.Network.{Label, labels_where, supports}
use Rattle.disac4.specs.State.{State, Message, list, poll, reply, ◌|>◌, set_domain, set_counter, set_work_list, set_to_send, set_held, set_list_counter, set_channels, set_channel, set_timestamp, set_poll_open, set_marked, set_closed}
use Rattle.disac4.specs.System.{System}
use Rattle.disac4.specs.declared.ListCounter.{ListCounter}
use Rattle.disac4.specs.declared.Poll.{Poll}
use Rattle.disac4.specs.declared.Timestamp.{Timestamp}

-- the channels after actor `k` sent a message to every other actor
unfoldable pub broadcast : ℕ → ℕ → Message → (ℕ → ℕ → List Message) → ℕ → ℕ → List Message
broadcast p k m channel j i =
    cond (eqb j k && leb i p && not (eqb i k)) (channel j i ++ (m ∷ [])) (channel j i)

-- the list has no member
abbrev pub is_empty {ℓ} : {A : Type ℓ} → List A → Bool
is_empty [] = true
is_empty (a ∷ l) = false

-- ---- Treat: take the oldest label from the work list

-- a label of worker `k`'s own variables that is still in its domain and had label `a` as a support
unfoldable pub loses : System → ℕ → Label → State → ℕ → ℕ → Bool
loses sys k a st x v =
    eqb (sys.owner x) k && st.domain x v && supports sys.net x v a.variable a.value

-- it loses one from that count
unfoldable pub lowered : System → ℕ → Label → State → ℕ → ℕ → ℕ → ℕ
lowered sys k a st x v y =
    cond (loses sys k a st x v && eqb y a.variable) (st.counter x v y - 1) (st.counter x v y)

-- at 0 it is deleted
unfoldable pub deletes : System → ℕ → Label → State → ℕ → ℕ → Bool
deletes sys k a st x v = loses sys k a st x v && eqb (lowered sys k a st x v a.variable) 0

-- the labels that treating `a` deletes, variables and values ascending
unfoldable pub deletions : System → ℕ → Label → State → List Label
deletions sys k a st = labels_where sys.net (deletes sys k a st)

-- worker `k` has treated `a`, and `rest` was behind it on the work list
unfoldable pub after_treat : System → ℕ → Label → List Label → State → State
after_treat sys k a rest st =
    st
    |> set_counter (lowered sys k a st)
    |> set_domain (λ x v. st.domain x v && not (deletes sys k a st x v))
    |> set_work_list k (rest ++ deletions sys k a st)
    |> set_to_send k (st.to_send k ++ deletions sys k a st)

-- treat, with this work list: idle where it is empty
abbrev pub treat_from : System → ℕ → State → List Label → Option State
treat_from sys k st [] = none
treat_from sys k st (a ∷ rest) = some (after_treat sys k a rest st)

-- worker `k` treats
unfoldable pub treat : System → ℕ → State → Option State
treat sys k st = treat_from sys k st (st.work_list k)

-- ---- Send: if the out list is not empty, one list message with all of it goes to every other worker and the controller

-- worker `k` has sent
unfoldable pub after_send : System → ℕ → State → State
after_send sys k st =
    st
    |> set_channels (broadcast sys.workers k (list (st.to_send k)) st.channel)
    |> set_to_send k []
    |> set_list_counter k (suc (st.list_counter k))  -- one more list sent

-- worker `k` sends
unfoldable pub send : System → ℕ → State → Option State
send sys k st = cond (is_empty (st.to_send k)) none (some (after_send sys k st))

-- ---- Read, worker

-- worker `k` has read a list message from `j`; `rest` was behind it in the channel
unfoldable pub after_list : ℕ → ℕ → List Label → List Message → State → State
after_list j k labels rest st =
    st
    |> set_channel j k rest
    |> set_work_list k (st.work_list k ++ labels)
    |> set_list_counter k (suc (st.list_counter k))  -- one more list read

-- a poll replaces the poll that is held
unfoldable pub after_poll : ℕ → ℕ → Poll → List Message → State → State
after_poll j k q rest st = st |> set_channel j k rest |> set_held k (some q)

-- a message that its reader has no use for is dropped
unfoldable pub after_drop : ℕ → ℕ → List Message → State → State
after_drop j k rest st = set_channel j k rest st

-- read, with these messages in the channel from `j`: idle where there is none. No worker is ever sent a reply
abbrev pub read_from : ℕ → ℕ → State → List Message → Option State
read_from j k st [] = none
read_from j k st (list labels ∷ rest) = some (after_list j k labels rest st)
read_from j k st (poll q ∷ rest) = some (after_poll j k q rest st)
read_from j k st (reply n ∷ rest) = some (after_drop j k rest st)

-- worker `k` reads from sender `j`
unfoldable pub read_worker : ℕ → ℕ → State → Option State
read_worker j k st = read_from j k st (st.channel j k)

-- ---- Answer: if a poll is held and the worker is ready, a reply with the poll's number goes to the controller

-- worker `k` has answered poll `q`, which is no longer held
unfoldable pub after_answer : ℕ → Poll → State → State
after_answer k q st = st |> set_channel k 0 (st.channel k 0 ++ (reply q.number ∷ [])) |> set_held k none

-- both lists are empty, and the count of lists equals the wanted count
unfoldable pub ready : ℕ → Poll → State → Bool
ready k q st = is_empty (st.work_list k) && is_empty (st.to_send k) && eqb (st.list_counter k) q.wanted.0

-- answer, with this poll held, if any
abbrev pub answer_to : ℕ → State → Option Poll → Option State
answer_to k st none = none
answer_to k st (some q) = cond (ready k q st) (some (after_answer k q st)) none

-- worker `k` answers
unfoldable pub answer : ℕ → State → Option State
answer k st = answer_to k st (st.held k)

-- ---- Poll: if no poll is open, a new one goes to every worker

-- the number of the next poll
abbrev pub next_number : State → Timestamp
next_number st = record { 0 = suc st.controller.timestamp }

-- the lists that the controller has read
abbrev pub lists_read : State → ListCounter
lists_read st = record { 0 = st.list_counter 0 }

-- it carries its own number, and as the wanted count the lists that the controller has read: each of its own type
unfoldable pub next_poll : State → Poll
next_poll st = record { number = next_number st; wanted = lists_read st }

-- the poll number goes up by one, and all marks are cleared
unfoldable pub after_new_poll : System → State → State
after_new_poll sys st =
    st
    |> set_timestamp (suc st.controller.timestamp)
    |> set_poll_open true
    |> set_marked (λ k. false)
    |> set_channels (broadcast sys.workers 0 (poll (next_poll st)) st.channel)

-- the controller polls
unfoldable pub new_poll : System → State → Option State
new_poll sys st = cond st.controller.poll_open none (some (after_new_poll sys st))

-- ---- Read, controller

-- a list message adds one to the count and ends an open poll
unfoldable pub after_count : ℕ → List Message → State → State
after_count k rest st =
    st
    |> set_channel k 0 rest
    |> set_list_counter 0 (suc (st.list_counter 0))
    |> set_poll_open false

-- every worker is marked
unfoldable pub all_marked : System → (ℕ → Bool) → Bool
all_marked sys marked = all_below sys.workers (λ i. marked (suc i))

-- a reply to the open poll marks its worker; with all marked, the plan is closed
unfoldable pub after_mark : System → ℕ → List Message → State → State
after_mark sys k rest st =
    st
    |> set_channel k 0 rest
    |> set_marked (update st.controller.marked k true)
    |> set_closed (all_marked sys (update st.controller.marked k true))

-- a reply to the open poll, and no other
unfoldable pub current : Timestamp → State → Bool
current n st = st.controller.poll_open && eqb n.0 st.controller.timestamp

-- read, with these messages in the channel from worker `k`; other replies are dropped. The controller is never sent a poll
abbrev pub controller_from : System → ℕ → State → List Message → Option State
controller_from sys k st [] = none
controller_from sys k st (list labels ∷ rest) = some (after_count k rest st)
controller_from sys k st (poll q ∷ rest) = some (after_drop k 0 rest st)
controller_from sys k st (reply n ∷ rest) = some (cond (current n st) (after_mark sys k rest st) (after_drop k 0 rest st))

-- the controller reads from worker `k`
unfoldable pub read_controller : System → ℕ → State → Option State
read_controller sys k st = controller_from sys k st (st.channel k 0)
