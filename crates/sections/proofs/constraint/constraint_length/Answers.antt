-- `sections::constraint::constraint_length` gives the length that a constraint's content calls for. Assumes nothing.
use Prim.Native.Nat.{◌*◌, ◌≤◌}
use native.Mathlib.Omega.{arith}
use Rattle.format.proofs.KindTests.{same_kind}
use Rattle.format.proofs.Widths.{rows_short}
use Rattle.format.specs.Format.{rows_room}
use Rattle.format.specs.declared.kind.Kind.TheVariants.{Table, SetLimit}
use Rattle.plan.proofs.InOrder.{ordered}
use Rattle.plan.specs.Check.{constraint_length}
use Rattle.sections.proofs.constraint.constraint_length.Goals as goal
use Rattle.sections.proofs.constraint.constraint_length.Goals.{After-numbered_size}

pub numbered_size-requires : goal.numbered_size-requires
numbered_size-requires c =
    let o = ordered c.args.plan.now c.args.at c.requires.2 in
    (c.requires.0, omega (arith, o, c.first.ensures.0), omega (arith, o, c.first.ensures.0))

-- the rows together
short : (c : After-numbered_size) → c.row_bytes.result * c.numbered_size.result ≤ rows_room
short c =
    rows_short c.args.plan.now c.row_bytes.result c.numbered_size.result c.row_bytes.ensures
    (omega (arith, c.numbered_size.ensures.1))

pub overflow_mul-result : goal.overflow_mul-result
overflow_mul-result c = omega (arith, short (goal.at.overflow_mul-result c).After-numbered_size)

pub overflow_add-result : goal.overflow_add-result
overflow_add-result c = omega (arith, short (goal.at.overflow_add-result c).After-numbered_size)

pub returns-in-Some-Table : goal.returns-in-Some-Table
unfolding constraint_length
returns-in-Some-Table c =
    rw (
      ← same_kind _ _ Table c.at.ensures,
      c.in-Some-Table.is,
      c.in-Some-Table.field-0-is,
      ← c.row_bytes.ensures,
      ← c.first.ensures.0,
      ← c.numbered_size.ensures.0,
    )

pub returns-in-Some-SetLimit : goal.returns-in-Some-SetLimit
unfolding constraint_length
returns-in-Some-SetLimit c =
    rw (
      ← same_kind _ _ Table c.at.ensures,
      ← same_kind _ _ SetLimit c.at.ensures,
      c.in-Some-SetLimit.is,
      c.in-Some-SetLimit.field-0-is,
      ← c.further_count.ensures.0,
    )

pub returns-in-Some-Limit : goal.returns-in-Some-Limit
unfolding constraint_length
returns-in-Some-Limit c =
    rw (
      ← same_kind _ _ Table c.at.ensures,
      ← same_kind _ _ SetLimit c.at.ensures,
      c.in-Some-Limit.is,
      c.in-Some-Limit.field-0-is,
    )

pub returns-in-None : goal.returns-in-None
unfolding constraint_length
returns-in-None c =
    rw (← same_kind _ _ Table c.at.ensures, ← same_kind _ _ SetLimit c.at.ensures, c.in-None.is)
