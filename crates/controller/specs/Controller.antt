-- The controller's actions in memory: poll and read, on the work cells and the tally beside them. A test against a region's
-- size stands for room that the refinement shows is never lacking.
use Rattle.std.specs.Prelude.{ℕ, ◌+◌, ◌^◌, ◌<◌, ◌≤◌, Bool, true, false, cond, ◌&&◌, not, List, ◌≡◌, leb, ltb, eqb, length}
use Rattle.std.proofs.Math.Option.{Option, none, some}
use Rattle.format.specs.Limits.{max_workers}
use Rattle.base.specs.Row.{bit}
use Rattle.cells.specs.Acts.{Acts}
use Rattle.cells.specs.Layout.{OUT, WANTED, WORKERS, OUTEND, OUTREAD, OUTROOM, POLLROOM, LISTSMAX, LISTMARK}
use Rattle.cells.specs.Memory.{Mem, mem_of, store}
use Rattle.disac4.specs.System.{System}
use Rattle.disac4.specs.Need.{work_need}
use Rattle.disac4.specs.declared.Tally.{Tally}

-- the work cells as a memory, and the tally beside them
pub record Machine : Type 0 where
  pub mem : Mem
  pub tally : Tally

-- those of a run's cells and tally
abbrev pub machine : List ℕ → Tally → Machine
machine cells t = record { mem = mem_of cells; tally = t }

-- ---- Poll

-- the tally after a poll was sent
unfoldable pub polled_t : Tally → Tally
polled_t t = record {
  lists = t.lists;
  timestamp = record { 0 = t.timestamp.0 + 1 };
  polling = true;
  marks = 0;
  closed = t.closed;
}

-- whether a poll is sent
unfoldable pub may_poll_t : Tally → Bool
may_poll_t t = not t.polling && ltb t.timestamp.0 POLLROOM

-- the wanted count of the next poll is put at its number
unfoldable pub put_poll_m : Tally → Mem → Mem
put_poll_m t m = store m WANTED 0 (t.timestamp.0 + 1) t.lists.0

-- the controller polls
unfoldable pub poll_m : Machine → Option Machine
poll_m s =
    cond (may_poll_t s.tally) (some (record { mem = put_poll_m s.tally s.mem; tally = polled_t s.tally })) none

-- ---- Read, controller

-- a list message adds one to the count and ends an open poll
unfoldable pub counted_t : Tally → Tally
counted_t t = record {
  lists = record { 0 = t.lists.0 + 1 };
  timestamp = t.timestamp;
  polling = false;
  marks = t.marks;
  closed = t.closed;
}

-- a row of marks with that of row `i`
unfoldable pub with_mark : ℕ → ℕ → ℕ
with_mark marks i = cond (bit marks i) marks (marks + 2 ^ i)

-- a reply to the open poll marks its worker; with all `p` marked, the plan is closed
unfoldable pub marked_t : ℕ → ℕ → Tally → Tally
marked_t p i t = record {
  lists = t.lists;
  timestamp = t.timestamp;
  polling = t.polling;
  marks = with_mark t.marks i;
  closed = eqb (with_mark t.marks i + 1) (2 ^ p);
}

-- the tally after a message from row `i` was read: a list message, a reply to the open poll, or another reply
unfoldable pub told_t : ℕ → ℕ → ℕ → Tally → Tally
told_t p i c t =
    cond (leb LISTMARK c) (counted_t t) (cond t.polling (cond (eqb c t.timestamp.0) (marked_t p i t) t) t)

-- whether the controller finds a message from row `i`
unfoldable pub has_out : ℕ → Tally → Mem → Bool
has_out i t m =
    ltb (m WORKERS i OUTREAD) (m WORKERS i OUTEND) && ltb (m WORKERS i OUTREAD) OUTROOM && ltb t.lists.0 LISTSMAX

-- one message more of row `i` is read
unfoldable pub out_read_m : ℕ → Mem → Mem
out_read_m i m = store m WORKERS i OUTREAD (m WORKERS i OUTREAD + 1)

-- the controller reads from row `i`
unfoldable pub controller_read_m : System → ℕ → Machine → Option Machine
controller_read_m sys i s =
    cond (has_out i s.tally s.mem)
    (some (record {
      mem = out_read_m i s.mem;
      tally = told_t sys.workers i (s.mem OUT i (s.mem WORKERS i OUTREAD)) s.tally;
    }))
    none

-- what the code of that read asks: the needed cells, and a tally, a count of workers and a row in range
abbrev pub MayRead : List ℕ → Tally → ℕ → ℕ → Type 0
MayRead cells t p i = (work_need ≤ length cells) × (t.marks < 2 ^ max_workers) × (i < max_workers) × (p ≤ max_workers)

-- and what it does to cells and tally, of `p` workers, and whether something changed
abbrev pub HasRead : List ℕ → Tally → ℕ → ℕ → List ℕ → Tally → Bool → Type 0
HasRead before t p i after u changed =
    (sys : System) → sys.workers ≡ p → Acts (controller_read_m sys i) (machine before t) (machine after u) changed
