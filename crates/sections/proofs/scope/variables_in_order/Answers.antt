-- `sections::scope::variables_in_order` says whether a constraint's variables are in range and in order. Assumes nothing.
use borrow.Author.Tests.{le-leb, lt-leb, lt-ltb, le-ltb}
use Rattle.plan.specs.Check.{variables_in_order}
use Rattle.sections.proofs.scope.variables_in_order.Goals as goal

pub returns-then-first-lt1 : goal.returns-then-first-lt1
unfolding variables_in_order
returns-then-first-lt1 c = rw (← c.first-first.ensures.0, lt-leb 1 _ c.if-first-lt1.true)

pub returns-then-second-first : goal.returns-then-second-first
unfolding variables_in_order
returns-then-second-first c =
    rw (← c.first-first.ensures.0, ← c.second-second.ensures.0, le-leb 1 _ c.if-first-lt1.false, le-ltb _ _ c.if-second-first.true)

pub returns : goal.returns
unfolding variables_in_order
returns c =
    rw (
      ← c.first-first.ensures.0,
      ← c.second-second.ensures.0,
      ← c.variable_count.ensures.0,
      le-leb 1 _ c.if-first-lt1.false,
      lt-ltb _ _ c.if-second-first.false,
    )
