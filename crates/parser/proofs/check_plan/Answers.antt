-- `parser::check_plan` gives the plan check's whole outcome for any bytes. Assumes nothing.
use borrow.Author.Tests.{eq-eqb, ne_eqb}
use mathlib.Core.Path.{ap}
use Rattle.std.specs.Prelude.{Err}
use Rattle.faults.proofs.Branches.{holds, fails}
use Rattle.plan.specs.Answer.{check_of, plan_check}
use Rattle.plan.specs.Decode.{plan_fault, decode}
use Rattle.parser.proofs.check_plan.Goals as goal

pub returns-then-plan-eq0 : goal.returns-then-plan-eq0
unfolding plan_check decode plan_fault
returns-then-plan-eq0 c = rw (eq-eqb _ 0 c.if-plan-eq0.true) (ap Err c.decline_at.ensures)

pub returns-then-not-between : goal.returns-then-not-between
unfolding plan_check decode plan_fault
returns-then-not-between c =
    rw (
      ne_eqb _ 0 c.if-plan-eq0.false,
      ← c.number.ensures.0,
      fails c.between.ensures c.if-not-between.true,
    )
    (ap Err c.decline_at-then-not-between.ensures)

pub returns : goal.returns
unfolding plan_check decode plan_fault check_of
returns c =
    rw (
      ne_eqb _ 0 c.if-plan-eq0.false,
      ← c.number.ensures.0,
      holds c.between.ensures c.if-not-between.false,
    )
    c.check_sections.ensures
