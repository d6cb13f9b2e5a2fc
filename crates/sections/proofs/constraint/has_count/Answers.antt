-- `sections::constraint::has_count` says whether a set rule has room for its count. Assumes nothing.
use Rattle.format.proofs.KindTests.{other_kind}
use Rattle.format.specs.declared.kind.Kind.TheVariants.{SetLimit}
use Rattle.plan.specs.Check.{has_count}
use Rattle.sections.proofs.constraint.has_count.Goals as goal

pub returns-then-ne : goal.returns-then-ne
unfolding has_count
returns-then-ne c = rw (other_kind _ _ SetLimit c.at.ensures c.if-ne.ensures)

pub returns : goal.returns
unfolding has_count
returns c = rw (other_kind _ _ SetLimit c.at.ensures c.if-ne.ensures, ← c.word_at.ensures.0)
