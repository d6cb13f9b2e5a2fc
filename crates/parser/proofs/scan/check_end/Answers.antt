-- `parser::scan::check_end` gives 8 for bytes behind the last section, and else the plan's counts. Assumes nothing.
use borrow.Author.Tests.{lt-ltb, le-ltb}
use mathlib.Core.Path.{ap}
use lib.ListN.{length}
use Rattle.plan.proofs.PlanCounts.{counts_built}
use Rattle.plan.specs.Decode.{trailing_fault}
use Rattle.plan.specs.Answer.{check_of}
use Rattle.std.specs.Prelude.{Ok, Err}
use Rattle.parser.proofs.scan.check_end.Goals as goal

pub returns-then-at-plan : goal.returns-then-at-plan
unfolding check_of trailing_fault
returns-then-at-plan c =
    rw (← c.requires.0, lt-ltb c.args.at (length c.args.plan.now) c.if-at-plan.true) (ap Err c.decline_at.ensures)

pub returns : goal.returns
unfolding check_of trailing_fault
returns c =
    let b = c.args.plan.now in
    rw (← c.requires.0, le-ltb c.args.at (length b) c.if-at-plan.false)
    (ap Ok
    (counts_built b _ c.worker_count.ensures.0 c.variable_count.ensures.0
    c.constraint_count.ensures.0 c.requires.1))
