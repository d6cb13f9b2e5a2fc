-- Send in memory: the memory after, or nothing where it is idle. A test against a region's size stands for room
-- that the refinement shows is never lacking.
use Rattle.std.specs.Prelude.{ℕ, ◌+◌, Bool, cond, ◌&&◌, not, ltb, eqb}
use Rattle.std.proofs.Math.Option.{Option, none, some}
use Rattle.cells.specs.Layout.{WORKERS, BOUNDS, OUT, LOGEND, SENDS, LISTS, OUTEND, SENDROOM, OUTROOM, LISTSMAX, LISTMARK}
use Rattle.cells.specs.Memory.{Mem, store}

-- a list message is sent, from what the row's cells hold: list messages sent, the log's end, messages put, list counter
unfoldable pub sent_with : ℕ → ℕ → ℕ → ℕ → ℕ → Mem → Mem
sent_with i sends end outs lists m =
    store
    (store
    (store
    (store
    (store m BOUNDS i (sends + 1) end)
    OUT i outs (LISTMARK + sends))
    WORKERS i SENDS (sends + 1))
    WORKERS i OUTEND (outs + 1))
    WORKERS i LISTS (lists + 1)

-- what row `i` has to send is sent
unfoldable pub sent_m : ℕ → Mem → Mem
unfolding sent_with
sent_m i m = sent_with i (m WORKERS i SENDS) (m WORKERS i LOGEND) (m WORKERS i OUTEND) (m WORKERS i LISTS) m

-- whether row `i` has labels to send, and room for the message
unfoldable pub may_send : ℕ → Mem → Bool
may_send i m =
    not (eqb (m BOUNDS i (m WORKERS i SENDS)) (m WORKERS i LOGEND))
    && ltb (m WORKERS i SENDS) SENDROOM
    && ltb (m WORKERS i OUTEND) OUTROOM
    && ltb (m WORKERS i LISTS) LISTSMAX

-- Send of row `i`
unfoldable pub send_m : ℕ → Mem → Option Mem
send_m i m = cond (may_send i m) (some (sent_m i m)) none
