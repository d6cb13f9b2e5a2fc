-- `sections::section::check_head` gives the first fault of the head, in the order of its checks. Assumes nothing.
use borrow.Author.Tests.{eq-eqb, ne_eqb}
use mathlib.Core.List.{List}
use Rattle.faults.proofs.Branches.{holds, fails, Stage, begin, next}
use Rattle.faults.specs.CheckList.{Check}
use Rattle.plan.specs.Check.{head_checks}
use Rattle.sections.proofs.section.check_head.Goals as goal
use Rattle.sections.proofs.section.check_head.Goals.{Else-not-complete, Else-not-head_in_range, Else-word_at-ne3, Start}

abbrev checks : Start → List Check
checks s = head_checks s.args.plan.now s.args.at

abbrev whole : Else-not-complete → Stage checks
unfolding head_checks
whole c = next (begin checks (goal.at.Else-not-complete c).Start) (rw (holds c.complete.ensures c.if-not-complete.false))

abbrev exact : Else-word_at-ne3 → Stage checks
unfolding head_checks
exact c = next (whole (goal.at.Else-word_at-ne3 c).Else-not-complete) (rw (← c.word_at.ensures.0, eq-eqb _ 3 c.if-word_at-ne3.false))

abbrev in_range : Else-not-head_in_range → Stage checks
unfolding head_checks
in_range c = next (exact (goal.at.Else-not-head_in_range c).Else-word_at-ne3) (rw (holds c.head_in_range.ensures c.if-not-head_in_range.false))

pub returns-then-not-complete : goal.returns-then-not-complete
unfolding head_checks
returns-then-not-complete c = rw (fails c.complete.ensures c.if-not-complete.true)

pub returns-then-word_at-ne3 : goal.returns-then-word_at-ne3
unfolding head_checks
returns-then-word_at-ne3 c = rw ((whole (goal.at.returns-then-word_at-ne3 c).Else-not-complete).past, ← c.word_at.ensures.0, ne_eqb _ 3 c.if-word_at-ne3.true)

pub returns-then-not-head_in_range : goal.returns-then-not-head_in_range
unfolding head_checks
returns-then-not-head_in_range c = rw ((exact (goal.at.returns-then-not-head_in_range c).Else-word_at-ne3).past, fails c.head_in_range.ensures c.if-not-head_in_range.true)

pub returns : goal.returns
unfolding head_checks
returns c = rw (in_range (goal.at.returns c).Else-not-head_in_range).past
