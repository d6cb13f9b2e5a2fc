-- `indexing::index_constraints` puts all constraints into the index. Invariant: the first c are there. Assumes nothing.
use Prim.Native.Nat.{◌<◌, ◌≤◌}
use mathlib.Core.Logic.{inl}
use mathlib.Core.Path.{◌≡◌, sym, ◌∙◌, ap, subst}
use native.Mathlib.Omega.{arith}
use Rattle.index.proofs.ConstraintIndex.{constraint_keeps}
use Rattle.index.proofs.Inside.{scoped}
use Rattle.index.proofs.Places.{few_sections, located_done}
use Rattle.index.specs.Index.{Located, Scoped, constraints_m}
use Rattle.cells.proofs.Done.{done_none, done_more, done_all}
use Rattle.cells.specs.Layout.{PLACES}
use Rattle.format.specs.Format.{section_start, constraint_start, variable_count, constraint_count}
use Rattle.format.specs.Limits.{max_variables, max_constraints}
use Rattle.indexing.proofs.index_constraints.Goals as goal
use Rattle.indexing.proofs.index_constraints.Goals.{At-loop-c}

module _ (l : At-loop-c) where
  -- while constraints are put, the sections' places are known
  places-known : Located l.args.plan.now l.loop-c.cells
  places-known =
      located_done l.args.plan.now l.requires l.loop-c.invariant
      (λ c m k. constraint_keeps PLACES 0 k c (inl (λ e. omega arith, λ e. omega arith, λ a e. omega arith)) l.args.plan.now m)

  -- the plan's variables and constraints are few
  few : (variable_count l.args.plan.now ≤ max_variables) × (constraint_count l.args.plan.now ≤ max_constraints)
  few = few_sections l.args.plan.now l.requires.sound

pub loop-c-init : goal.loop-c-init
loop-c-init c = done_none

pub place-at-requires : goal.place-at-requires
place-at-requires c =
    (places-known (goal.at.place-at-requires c).At-loop-c, omega (arith, c.variable_count-variables.ensures.0, c.constraint_count-count.ensures.0))

-- the constraint's place, and its scope
pub put_constraint-requires : goal.put_constraint-requires
put_constraint-requires c =
    let b = c.args.plan.now in
    let listed : c.loop-c.c < constraint_count b = omega (arith, c.constraint_count-count.ensures.0) in
    let found : c.place-at.result ≡ constraint_start b c.loop-c.c =
    c.place-at.ensures.start ∙ ap (section_start b) (omega (arith, c.variable_count-variables.ensures.0)) in (
      subst (Scoped b) (sym found) (scoped b c.requires.sound c.loop-c.c listed),
      found,
      omega (arith, few (goal.at.put_constraint-requires c).At-loop-c),
      omega (arith, c.loop-c.invariant.size, c.requires.long),
    )

pub loop-c-preserved : goal.loop-c-preserved
loop-c-preserved c =
    done_more c.loop-c.invariant c.put_constraint.auto.cells c.put_constraint.ensures

pub returns : goal.returns
unfolding constraints_m
returns c = done_all _ c.loop-c.invariant (omega (arith, c.constraint_count-count.ensures.0))
