-- What the work cells mean: the state of document 01 that a memory and the controller's tally stand for.
use Rattle.std.specs.Prelude.{ℕ, ◌+◌, ◌-◌, ◌*◌, ◌/◌, ◌%◌, ◌<◌, ◌≤◌, Bool, false, cond, ◌&&◌, List, [], leb, ltb, eqb}
use Rattle.std.proofs.Math.Option.{Option, none, some}
use Rattle.format.specs.Limits.{max_pairs}
use Rattle.base.specs.Below.{one, list_below}
use Rattle.base.specs.Choice.{between}
use Rattle.base.specs.Row.{bit}
use Rattle.disac4.specs.State.{State, Message, list, poll, reply}
use Rattle.disac4.specs.System.{System}
use Rattle.disac4.specs.declared.Poll.{Poll}
use Rattle.disac4.specs.declared.Tally.{Tally}
use Rattle.network.specs.Network.{Label, label, loaded}
use Rattle.cells.specs.Layout.{WORKERS, CURSORS, BOUNDS, LOG, WORK, OUT, WANTED, DOMAIN, COUNTERS, PAIRS, HEAD, TAIL, LOGEND, SENDS, LISTS, HELD, POLLS, OUTEND, OUTREAD, VALUEROOM, LISTED, LISTMARK}
use Rattle.cells.specs.Memory.{Mem}

-- ---- single cells

-- a label in a cell: VALUEROOM for each variable before it, and its value
abbrev pub label_number : ℕ → ℕ → ℕ
label_number x v = x * VALUEROOM + v

-- the label that a cell holds
abbrev pub label_of : ℕ → Label
label_of c = label (c / VALUEROOM) (c % VALUEROOM)

-- whether a value is in its variable's domain
abbrev pub in_domain : Mem → ℕ → ℕ → Bool
in_domain m x v = eqb (m DOMAIN x v) LISTED

-- the row of the counters of `x` against `y`
unfoldable pub counter_row : Mem → ℕ → ℕ → ℕ
counter_row m x y = 2 * m PAIRS x y - 1 + one (ltb y x)

-- the two variables have a row of counters
pub record Numbered (m : Mem) (x y : ℕ) : Type 0 where
  pub low : 0 < m PAIRS x y
  pub high : m PAIRS x y ≤ max_pairs

-- ---- queues in a row

-- where a queue begins, where it ends, and what stands at each place
pub record Queue (A : Type 0) : Type 0 where
  pub start : ℕ
  pub stop : ℕ
  pub place : ℕ → A

-- a queue by its parts
abbrev pub queue : {A : Type 0} → ℕ → ℕ → (ℕ → A) → Queue A
queue start stop place = record { start = start; stop = stop; place = place }

-- what stands in it, oldest first
unfoldable pub contents : {A : Type 0} → Queue A → List A
contents q = list_below (q.stop - q.start) (λ d. q.place (q.start + d))

-- the labels of a row of WORK or LOG from one column to another
unfoldable pub labels_between : Mem → ℕ → ℕ → ℕ → ℕ → List Label
labels_between m r i from to = contents (queue from to (λ d. label_of (m r i d)))

-- the n-th list message of row `i`
unfoldable pub list_at : Mem → ℕ → ℕ → List Label
list_at m i n = labels_between m LOG i (m BOUNDS i n) (m BOUNDS i (n + 1))

-- a message to the controller
unfoldable pub message_of : Mem → ℕ → ℕ → Message
message_of m i c = cond (leb LISTMARK c) (list (list_at m i (c - LISTMARK))) (reply (record { 0 = c }))

-- a poll by its number
unfoldable pub poll_at : Mem → ℕ → Poll
poll_at m n = record { number = record { 0 = n }; wanted = record { 0 = m WANTED 0 n } }

-- ---- what a worker's row stands for

-- its work list
abbrev pub work_of : Mem → ℕ → List Label
work_of m i = labels_between m WORK i (m WORKERS i HEAD) (m WORKERS i TAIL)

-- what it has to send: the labels behind its last list message
abbrev pub send_of : Mem → ℕ → List Label
send_of m i = labels_between m LOG i (m BOUNDS i (m WORKERS i SENDS)) (m WORKERS i LOGEND)

-- the poll that it holds
abbrev pub held_of : Mem → ℕ → Option Poll
held_of m i = cond (eqb (m WORKERS i HELD) 0) none (some (poll_at m (m WORKERS i HELD)))

-- the list messages of row `j` that row `i` has not read
abbrev pub list_messages_queue : Mem → ℕ → ℕ → Queue Message
list_messages_queue m j i = queue (m CURSORS j i) (m WORKERS j SENDS) (λ n. list (list_at m j n))

-- its messages that the controller has not read
abbrev pub out_queue : Mem → ℕ → Queue Message
out_queue m i = queue (m WORKERS i OUTREAD) (m WORKERS i OUTEND) (λ e. message_of m i (m OUT i e))

-- the polls that it has not read
abbrev pub polls_queue : Mem → Tally → ℕ → Queue Message
polls_queue m t i = queue (m WORKERS i POLLS + 1) (t.timestamp.0 + 1) (λ n. poll (poll_at m n))

-- ---- from rows to actors: worker `k`'s cells stand in row `k - 1`

-- whether an actor is a worker
abbrev pub is_worker : System → ℕ → Bool
is_worker sys k = between 1 sys.workers k

-- a worker's row, and `other` for everyone else
abbrev pub at_actor {ℓ} : {A : Type ℓ} → System → (ℕ → A) → A → ℕ → A
at_actor sys row other k = cond (is_worker sys k) (row (k - 1)) other

-- the messages on their way: from a row to another, from a row to the controller, from the controller to a row
pub record Rows : Type 0 where
  pub list_messages : ℕ → ℕ → List Message
  pub out : ℕ → List Message
  pub polls : ℕ → List Message

-- those that a memory and a tally stand for
abbrev pub rows_of : Mem → Tally → Rows
rows_of m t = record {
  list_messages = λ j i. contents (list_messages_queue m j i);
  out = λ i. contents (out_queue m i);
  polls = λ i. contents (polls_queue m t i);
}

-- the channel from an actor to an actor
abbrev pub at_channel : System → Rows → ℕ → ℕ → List Message
at_channel sys r j k =
    cond (is_worker sys j)
    (cond (is_worker sys k) (cond (eqb j k) [] (r.list_messages (j - 1) (k - 1))) (cond (eqb k 0) (r.out (j - 1)) []))
    (cond (eqb j 0 && is_worker sys k) (r.polls (k - 1)) [])

-- ---- the state

-- a label's counter against a variable that it shares a constraint with, and 0 for all others
unfoldable pub view_counter : System → Mem → ℕ → ℕ → ℕ → ℕ
view_counter sys m x v y = cond (loaded sys.net x v && sys.net.linked x y) (m COUNTERS (counter_row m x y) v) 0

-- an actor's list counter: the controller's is in the tally
unfoldable pub view_lists : System → Mem → Tally → ℕ → ℕ
view_lists sys m t k = cond (eqb k 0) t.lists.0 (at_actor sys (λ i. m WORKERS i LISTS) 0 k)

-- the state that the cells and the tally stand for
unfoldable pub view : System → Mem → Tally → State
view sys m t = record {
  domain = in_domain m;
  counter = view_counter sys m;
  work_list = at_actor sys (work_of m) [];
  to_send = at_actor sys (send_of m) [];
  held = at_actor sys (held_of m) none;
  list_counter = view_lists sys m t;
  channel = at_channel sys (rows_of m t);
  controller = record {
    timestamp = t.timestamp.0;
    poll_open = t.polling;
    marked = at_actor sys (bit t.marks) false;
    closed = t.closed;
  };
}
