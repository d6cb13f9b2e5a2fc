-- Answer in memory: the memory after, or nothing where it is idle. A test against a region's size stands for room
-- that the refinement shows is never lacking.
use Rattle.std.specs.Prelude.{ℕ, ◌+◌, Bool, cond, ◌&&◌, not, leb, ltb, eqb}
use Rattle.std.proofs.Math.Option.{Option, none, some}
use Rattle.cells.specs.Layout.{WORKERS, BOUNDS, OUT, WANTED, HEAD, TAIL, LOGEND, SENDS, LISTS, HELD, OUTEND, SENDROOM, OUTROOM, POLLROOM}
use Rattle.cells.specs.Memory.{Mem, store}

-- a reply to poll `held` is put behind `outs` messages
unfoldable pub answered_with : ℕ → ℕ → ℕ → Mem → Mem
answered_with i held outs m = store (store (store m OUT i outs held) WORKERS i OUTEND (outs + 1)) WORKERS i HELD 0

-- the held poll of row `i` is replied to
unfoldable pub answered_m : ℕ → Mem → Mem
unfolding answered_with
answered_m i m = answered_with i (m WORKERS i HELD) (m WORKERS i OUTEND) m

-- both lists of row `i` are empty
unfoldable pub empty_m : ℕ → Mem → Bool
empty_m i m =
    eqb (m WORKERS i HEAD) (m WORKERS i TAIL)
    && ltb (m WORKERS i SENDS) SENDROOM
    && eqb (m BOUNDS i (m WORKERS i SENDS)) (m WORKERS i LOGEND)

-- whether a poll is held, both lists are empty, the list counter equals the wanted count, and there is room for a reply
unfoldable pub may_answer : ℕ → Mem → Bool
may_answer i m =
    not (eqb (m WORKERS i HELD) 0)
    && leb (m WORKERS i HELD) POLLROOM
    && empty_m i m
    && eqb (m WORKERS i LISTS) (m WANTED 0 (m WORKERS i HELD))
    && ltb (m WORKERS i OUTEND) OUTROOM

-- Answer of row `i`
unfoldable pub answer_m : ℕ → Mem → Option Mem
answer_m i m = cond (may_answer i m) (some (answered_m i m)) none
