-- `indexing::put_constraint` puts a table over its two variables, or a limit over each two of its scope. Assumes nothing.
use Prim.Native.Nat.{ℕ, ◌≤◌}
use mathlib.Core.List.{List}
use native.Mathlib.Omega.{arith}
use Rattle.format.proofs.KindTests.{same_kind}
use Rattle.format.specs.Format.{first_at, second_at}
use Rattle.format.specs.Limits.{max_variables}
use Rattle.format.specs.declared.kind.Kind.TheVariants.{Table}
use Rattle.index.specs.Index.{Scoped, constraint_m}
use Rattle.plan.proofs.InOrder.{scope_first, scope_second}
use Rattle.rows.specs.Permits.{is_table}
use Rattle.indexing.proofs.put_constraint.Goals as goal

-- the first two variables of a scope
first_range : (b : List ℕ) (at : ℕ) → Scoped b at → (1 ≤ first_at b at) × (first_at b at ≤ max_variables)
first_range b at s = omega (arith, scope_first b at, s.low 0 (omega arith), s.high 0 (omega arith))

second_range : (b : List ℕ) (at : ℕ) → Scoped b at → (1 ≤ second_at b at) × (second_at b at ≤ max_variables)
second_range b at s = omega (arith, scope_second b at, s.low 1 (omega arith), s.high 1 (omega arith))

pub overflow_sub-first : goal.overflow_sub-first
overflow_sub-first c =
    omega (arith, c.first.ensures.0, first_range c.args.plan.now c.args.at c.requires.0)

pub overflow_sub-second : goal.overflow_sub-second
overflow_sub-second c =
    omega (arith, c.second.ensures.0, second_range c.args.plan.now c.args.at c.requires.0)

pub put_table-requires : goal.put_table-requires
put_table-requires c =
    let b = c.args.plan.now in
    let at = c.args.at in (
      omega (arith, c.first.ensures.0, first_range b at c.requires.0),
      omega (arith, c.second.ensures.0, second_range b at c.requires.0),
      c.requires.2,
      c.requires.3,
    )

pub returns-then-eq : goal.returns-then-eq
unfolding constraint_m is_table
returns-then-eq c =
    rw (← c.requires.1, ← same_kind _ _ Table c.at.ensures, ← c.if-eq.ensures, ← c.first.ensures.0, ← c.second.ensures.0) c.put_table.ensures

pub returns-else-eq : goal.returns-else-eq
unfolding constraint_m is_table
returns-else-eq c =
    rw (← c.requires.1, ← same_kind _ _ Table c.at.ensures, ← c.if-eq.ensures) c.put_limits.ensures
