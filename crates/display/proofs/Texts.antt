-- From a call's outcome and a buffer that holds its answer to the whole text in the buffer.
use Prim.Native.Nat.{ℕ, ◌≤◌}
use mathlib.Core.List.{List}
use native.Mathlib.Omega.{arith}
use lib.ListN.{length, take, drop}
use lib.Seq.{drop_at, length-take-le}
use Rattle.buffer.proofs.Puts.{holds_whole}
use Rattle.buffer.specs.Buffer.{Holds}
use Rattle.lending.specs.Call.{Gives}
use Rattle.disac4.specs.Outcome.{Lent, RunOutcome}
use Rattle.disac4.specs.declared.Report.{Report}
use Rattle.faults.specs.declared.Decline.{Decline}
use Rattle.std.specs.Prelude.{Result}
use Rattle.text.specs.Printed.{printed}
use Rattle.display.specs.Shown.{shown_of, Shows}

-- the text of an answer and its list cells is that of the outcome which the call gives
pub outcome_held : (b : List ℕ) {o : RunOutcome} {a : Result Report Decline} {l : Lent} {before after : List ℕ} {count : ℕ} → Gives o a l
    → Holds (printed a b l.lists) before after count → Holds (shown_of b o) before after count
unfolding shown_of
outcome_held b g h = rw (← g.answer, ← g.cells) h

-- a buffer with room for the text starts with all of it
pub shows_whole : {text before after : List ℕ} {count : ℕ} → Holds text before after count → length text ≤ length before
    → Shows text before after count
shows_whole {text} {before} {after} {count} h room = record {
  counted = omega (arith, h.counted);
  whole = holds_whole h room;
  kept =
      rw h.cells
      (drop_at (take count text) (drop count before) count (length-take-le count text (omega (arith, h.counted))));
}
