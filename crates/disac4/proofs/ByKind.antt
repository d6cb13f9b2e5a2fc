-- Messages and events by their kind, as weights.
use Prim.Native.Nat.{ℕ}
use Rattle.disac4.specs.Event.{Event, sent, taken, treated}
use Rattle.disac4.specs.State.{Message, list, poll, reply}

-- 1 for a list message
abbrev pub list_message : Message → ℕ
list_message (list labels) = 1
list_message (poll q) = 0
list_message (reply n) = 0

-- 1 for a poll
abbrev pub poll_message : Message → ℕ
poll_message (list labels) = 0
poll_message (poll q) = 1
poll_message (reply n) = 0

-- 1 for a reply
abbrev pub reply_message : Message → ℕ
reply_message (list labels) = 0
reply_message (poll q) = 0
reply_message (reply n) = 1

-- 1 for a send
abbrev pub send_event : Event → ℕ
send_event (sent k labels) = 1
send_event (taken i j labels) = 0
send_event (treated k a) = 0
