-- `display::show` puts the whole text of a run: it fits. Assumes nothing.
use Rattle.std.proofs.Common.{ℕ, ◌^◌, ◌<◌, ◌≤◌, true, false, List, [], length, Bor}
use Rattle.std.specs.Prelude.{Result, IfSome, IfNone, Some, None}
use Rattle.std.specs.declared.option.Option.{Option}
use native.Mathlib.Omega.{arith}
use Rattle.text.specs.Printed.{printed, text_room}
use Rattle.base.specs.Bytes.{byte_at}
use Rattle.buffer.specs.Buffer.{Holds}
use Rattle.faults.specs.declared.Decline.{Decline}
use Rattle.lending.specs.Call.{Gives}
use Rattle.disac4.specs.Need.{work_need, list_need}
use Rattle.disac4.specs.Outcome.{Lent, lent, run_of}
use Rattle.disac4.specs.declared.Report.{Report}
use Rattle.display.proofs.Fits.{shown_fits}
use Rattle.display.proofs.Texts.{outcome_held, shows_whole}
use Rattle.display.specs.Shown.{run_by, shown, fresh, Shows}
use Rattle.display.proofs.show.Goals as goal

-- the buffer has room for each text
module _ (b : List ℕ) (a : Result Report Decline) (l : Lent) {before after : List ℕ} {count : ℕ} (short : length b < 2 ^ 64) (bytes : (i : ℕ) → byte_at b i < 256)
    (room : text_room ≤ length before) (held : Holds (printed a b l.lists) before after count) where
  by_turns : (turns : Option (Bor (List ℕ))) → IfSome turns (λ list. length list.now < 2 ^ 64)
      → IfSome turns (λ list. Gives (run_of (run_by b list.now false) fresh) a l)
      → IfSome turns (λ list. Shows (shown b list.now false) before after count)
  unfolding shown
  by_turns (Some list) few g = shows_whole (outcome_held b g held) (omega (arith, shown_fits b short bytes list.now few false))
  by_turns None few g = tt

  by_rounds : (turns : Option (Bor (List ℕ))) → IfNone turns (Gives (run_of (run_by b [] true) fresh) a l)
      → IfNone turns (Shows (shown b [] true) before after count)
  unfolding shown
  by_rounds (Some list) g = tt
  by_rounds None g = shows_whole (outcome_held b g held) (omega (arith, shown_fits b short bytes [] (omega arith) true))

pub returns-clause-by_turns : goal.returns-clause-by_turns
unfolding fresh work_need list_need byte_at
returns-clause-by_turns c =
    by_turns c.args.plan.now c.run-answer.result (lent c.run-answer.new.work c.run-answer.new.lists) (omega arith) (λ i. (c.type_inv.plan i).fits) (omega (arith, c.print_answer-arg-1.given.0.1)) c.print_answer.ensures
    c.args.turns c.run-answer.ensures.few c.run-answer.ensures.by_turns

pub returns-clause-by_rounds : goal.returns-clause-by_rounds
unfolding fresh work_need list_need byte_at
returns-clause-by_rounds c =
    by_rounds c.args.plan.now c.run-answer.result (lent c.run-answer.new.work c.run-answer.new.lists) (omega arith) (λ i. (c.type_inv.plan i).fits) (omega (arith, c.print_answer-arg-1.given.0.1)) c.print_answer.ensures
    c.args.turns c.run-answer.ensures.by_rounds
