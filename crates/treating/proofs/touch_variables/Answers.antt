-- `treating::touch_variables` follows the chain of the row's variables that are linked with the treated one. Invariant:
-- what is done is what the definition does up to the chain's next variable. Assumes nothing.
use Prim.Native.Nat.{ℕ, suc, ◌-◌, ◌<◌}
use mathlib.Core.Bool.{true}
use mathlib.Core.List.{List}
use mathlib.Core.Path.{◌≡◌, refl, sym, ◌∙◌, ap}
use native.Mathlib.Omega.{arith}
use lib.ListN.{length}
use Rattle.base.specs.Below.{loop}
use Rattle.disac4.specs.System.{system_at}
use Rattle.format.specs.Format.{variable_count}
use Rattle.index.proofs.Labels.{variables_are}
use Rattle.index.proofs.Places.{few_sections}
use Rattle.index.specs.Index.{own_linked, next_own, Ready}
use Rattle.cells.proofs.Ranges.{may_get}
use Rattle.cells.specs.Memory.{mem_of}
use Rattle.index.proofs.Kept.{ready_kept}
use Rattle.treating.proofs.Kept.{touch_variable_kept}
use Rattle.treating.proofs.Chain.{reached_start, reached_next, chain_left, chain_falls}
use Rattle.treating.specs.Treat.{touch_variable_m, touch_variables_m}
use Rattle.treating.proofs.touch_variables.Goals as goal
use Rattle.treating.proofs.touch_variables.Goals.{After-get-next-in-loop-next, After-touch_variable, In-loop-next}

pub get-next-requires : goal.get-next-requires
get-next-requires c =
    may_get _ _ _ refl _
    (omega (arith, c.requires.0.long, c.requires.1, c.requires.2.variable, few_sections c.args.plan.now c.requires.0.sound))

pub loop-next-init : goal.loop-next-init
loop-next-init c =
    let a = c.args in (
      c.requires.0,
      refl,
      reached_start a.plan.now a.i a.y a.w (mem_of a.cells.now) c.get-next.result
          (c.get-next.ensures.0 ∙ c.requires.0.index.first a.i c.requires.1 a.y c.requires.2.variable),
    )

-- the variable that the chain has come to
module _ (t : In-loop-next) where
  abbrev plan-of : List ℕ
  plan-of = t.args.plan.now

  abbrev variable_of_lem : ℕ
  variable_of_lem = t.loop-next.next - 1

  here : t.loop-next.next ≡ suc variable_of_lem
  here = omega (arith, t.loop-next-test.true)

  inside : variable_of_lem < variable_count plan-of
  inside = t.loop-next.invariant.2.inside variable_of_lem here

  mine : own_linked plan-of t.args.i t.args.y variable_of_lem ≡ true
  mine = t.loop-next.invariant.2.mine variable_of_lem here

pub overflow_sub-next : goal.overflow_sub-next
overflow_sub-next c = omega (arith, here (goal.at.overflow_sub-next c).In-loop-next)

pub touch_variable-requires : goal.touch_variable-requires
touch_variable-requires c =
    (c.loop-next.invariant.0, c.requires.1, c.requires.2, mine (goal.at.touch_variable-requires c).In-loop-next)

pub overflow_sub-next-in-loop-next : goal.overflow_sub-next-in-loop-next
overflow_sub-next-in-loop-next c =
    omega (arith, here (goal.at.overflow_sub-next-in-loop-next c).In-loop-next)

-- when it is done, the index is as it was
module _ (v : After-touch_variable) where
  same_size : length v.touch_variable.new.cells ≡ length v.loop-next.cells
  same_size = v.touch_variable.auto.cells

  ready : Ready (plan-of (goal.at.After-touch_variable v).In-loop-next) v.touch_variable.new.cells
  ready =
      let a = v.args in
      ready_kept (plan-of (goal.at.After-touch_variable v).In-loop-next) v.loop-next.cells _ v.loop-next.invariant.0 same_size v.touch_variable.ensures
      (touch_variable_kept (system_at (plan-of (goal.at.After-touch_variable v).In-loop-next)) a.i a.y a.w (variable_of_lem (goal.at.After-touch_variable v).In-loop-next) _)

pub get-next-requires-in-loop-next : goal.get-next-requires-in-loop-next
get-next-requires-in-loop-next c =
    may_get _ _ _ refl _
    (omega (arith, (ready (goal.at.get-next-requires-in-loop-next c).After-touch_variable).long, inside (goal.at.get-next-requires-in-loop-next c).In-loop-next, c.requires.2.variable, few_sections c.args.plan.now c.requires.0.sound))

follows : (c : After-get-next-in-loop-next) → c.get-next-in-loop-next.result ≡ next_own (plan-of (goal.at.After-get-next-in-loop-next c).In-loop-next) c.args.i c.args.y (variable_count (plan-of (goal.at.After-get-next-in-loop-next c).In-loop-next) - suc (variable_of_lem (goal.at.After-get-next-in-loop-next c).In-loop-next))
follows c =
    c.get-next-in-loop-next.ensures.0
    ∙ (ready (goal.at.After-get-next-in-loop-next c).After-touch_variable).index.follow c.args.i c.requires.1 (variable_of_lem (goal.at.After-get-next-in-loop-next c).In-loop-next) c.args.y (inside (goal.at.After-get-next-in-loop-next c).In-loop-next) c.requires.2.variable (mine (goal.at.After-get-next-in-loop-next c).In-loop-next)

pub loop-next-smaller : goal.loop-next-smaller
loop-next-smaller c =
    let a = c.args in
    omega (
      arith,
      chain_falls (plan-of (goal.at.loop-next-smaller c).In-loop-next) a.i a.y (variable_of_lem (goal.at.loop-next-smaller c).In-loop-next) c.get-next-in-loop-next.result (inside (goal.at.loop-next-smaller c).In-loop-next) (follows (goal.at.loop-next-smaller c).After-get-next-in-loop-next),
      ap (chain_left (variable_count (plan-of (goal.at.loop-next-smaller c).In-loop-next))) (here (goal.at.loop-next-smaller c).In-loop-next),
    )

pub loop-next-preserved : goal.loop-next-preserved
loop-next-preserved c =
    let a = c.args in
    let inv = c.loop-next.invariant in (
      ready (goal.at.loop-next-preserved c).After-touch_variable,
      same_size (goal.at.loop-next-preserved c).After-touch_variable ∙ inv.1,
      reached_next (plan-of (goal.at.loop-next-preserved c).In-loop-next) a.i a.y a.w _ _ _ (variable_of_lem (goal.at.loop-next-preserved c).In-loop-next) c.get-next-in-loop-next.result (inside (goal.at.loop-next-preserved c).In-loop-next) (inv.2.before (variable_of_lem (goal.at.loop-next-preserved c).In-loop-next) (here (goal.at.loop-next-preserved c).In-loop-next))
          c.touch_variable.ensures (follows (goal.at.loop-next-preserved c).After-get-next-in-loop-next),
    )

pub returns : goal.returns
unfolding touch_variables_m
returns c =
    let a = c.args in
    let b = a.plan.now in
    c.loop-next.invariant.2.done (omega (arith, c.loop-next-test.false))
    ∙ ap (λ (n : ℕ). loop n (touch_variable_m (system_at b) a.i a.y a.w) (mem_of a.cells.now)) (sym (variables_are b))
