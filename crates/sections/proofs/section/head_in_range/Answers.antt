-- `sections::section::head_in_range` says whether the head's three counts are in range. Assumes nothing.
use Rattle.faults.proofs.Branches.{holds, fails}
use Rattle.plan.specs.Check.{head_in_range}
use Rattle.sections.proofs.section.head_in_range.Goals as goal

pub returns-then-not-between : goal.returns-then-not-between
unfolding head_in_range
returns-then-not-between c = rw (← c.worker_count.ensures.0, fails c.between.ensures c.if-not-between.true)

pub returns-then-not-between-2 : goal.returns-then-not-between-2
unfolding head_in_range
returns-then-not-between-2 c =
    rw (
      ← c.worker_count.ensures.0,
      holds c.between.ensures c.if-not-between.false,
      ← c.variable_count.ensures.0,
      fails c.between-2.ensures c.if-not-between-2.true,
    )

pub returns : goal.returns
unfolding head_in_range
returns c =
    rw (
      ← c.worker_count.ensures.0,
      holds c.between.ensures c.if-not-between.false,
      ← c.variable_count.ensures.0,
      holds c.between-2.ensures c.if-not-between-2.false,
      ← c.constraint_count.ensures.0,
    )
