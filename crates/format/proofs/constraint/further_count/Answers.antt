-- `format::constraint::further_count`: the count of a set rule, 0 of any other. Assumes a section that starts within the plan.
use native.Mathlib.Omega.{arith}
use Rattle.format.proofs.KindTests.{same_kind}
use Rattle.format.specs.Format.{further_count}
use Rattle.format.specs.declared.kind.Kind.TheVariants.{SetLimit}
use Rattle.format.proofs.constraint.further_count.Goals as goal

pub returns-then-eq : goal.returns-then-eq
unfolding further_count
returns-then-eq c =
    (rw (← same_kind _ _ SetLimit c.at.ensures, ← c.if-eq.ensures, c.byte_at.ensures.0), c.byte_at.ensures.1)

pub returns-else-eq : goal.returns-else-eq
unfolding further_count
returns-else-eq c = (rw (← same_kind _ _ SetLimit c.at.ensures, ← c.if-eq.ensures), omega arith)
