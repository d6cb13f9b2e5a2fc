-- `touching::touch_before` takes the pairs of one variable of a scope into its row.
-- Invariant: the row has taken in the first `i` of the scope. Assumes nothing.
use Prim.Native.Nat.{ℕ, suc, ◌+◌, ◌-◌, ◌<◌, ◌≤◌}
use mathlib.Core.List.{List}
use mathlib.Core.Bool.{Bool, not}
use mathlib.Core.Path.{◌≡◌, ◌∙◌, ap}
use native.Mathlib.Omega.{arith}
use Rattle.base.proofs.Sums.{one_byte, one_le}
use Rattle.base.specs.Below.{one}
use Rattle.format.specs.Format.{scope_at, variable_count}
use Rattle.format.specs.Limits.{max_variables}
use Rattle.plan.proofs.InOrder.{Ascends}
use Rattle.touching.proofs.Grown.{grown_none, grown_more}
use Rattle.touching.proofs.Joins.{joined_row}
use Rattle.touching.proofs.ScopePairs.{among_none, among_more, joins_same, joins_other, scope_ascends}
use Rattle.touching.specs.Touching.{among_first, joins_at}
use Rattle.touching.proofs.touch_before.Goals as goal
use Rattle.touching.proofs.touch_before.Goals.{After-scope_at-x, After-scope_at-y}

-- the second variable of the pairs
module _ (c : After-scope_at-y) where
  abbrev plan-of : List ℕ
  plan-of = c.args.plan.now

  rises : Ascends plan-of c.args.at
  rises = scope_ascends plan-of c.args.at c.requires.0

  y-range : (1 ≤ c.scope_at-y.result) × (c.scope_at-y.result ≤ variable_count plan-of) × (c.scope_at-y.result ≤ max_variables)
  y-range =
      let j = c.args.j in
      omega (
        arith,
        c.scope_at-y.ensures.0,
        rises.low j c.requires.1,
        rises.high j c.requires.1,
        c.requires.0.few_variables,
      )

pub overflow_sub-y : goal.overflow_sub-y
overflow_sub-y c = omega (arith, y-range (goal.at.overflow_sub-y c).After-scope_at-y)

pub bounds-rows-y : goal.bounds-rows-y
bounds-rows-y c = omega (arith, y-range (goal.at.bounds-rows-y c).After-scope_at-y)

pub loop-i-init : goal.loop-i-init
loop-i-init c =
    let a = c.args in (
      omega arith,
      grown_none (c.scope_at-y.result - 1) (among_first a.plan.now a.at 0) _ (among_none a.plan.now a.at),
    )

-- a first variable of them
module _ (c : After-scope_at-x) where
  x-range : (1 ≤ c.scope_at-x.result) × (c.scope_at-x.result < c.scope_at-y.result)
  x-range =
      let i = c.loop-i.i in
      let up = rises (goal.at.After-scope_at-x c).After-scope_at-y in
      omega (
        arith,
        c.scope_at-x.ensures.0,
        c.scope_at-y.ensures.0,
        up.low i (omega (arith, c.loop-i-test.true, c.requires.1)),
        up.ascending i c.args.j c.loop-i-test.true c.requires.1,
      )

pub overflow_sub-x : goal.overflow_sub-x
overflow_sub-x c = omega (arith, x-range (goal.at.overflow_sub-x c).After-scope_at-x)

pub row_holds-requires : goal.row_holds-requires
row_holds-requires c = omega (arith, x-range (goal.at.row_holds-requires c).After-scope_at-x, y-range (goal.at.row_holds-requires c).After-scope_at-y)

pub power-row-requires : goal.power-row-requires
power-row-requires c = omega (arith, x-range (goal.at.power-row-requires c).After-scope_at-x, y-range (goal.at.power-row-requires c).After-scope_at-y)

pub loop-i-preserved : goal.loop-i-preserved
loop-i-preserved c =
    let l = c.loop-i in
    let a = c.args in
    let b = a.plan.now in
    let x : ℕ = c.scope_at-x.result - 1 in
    let range = x-range (goal.at.loop-i-preserved c).After-scope_at-x in
    let number : scope_at b a.at l.i ≡ suc x = omega (arith, c.scope_at-x.ensures.0) in
    let fresh : c.from-fresh.result ≡ one (not c.row_holds.result) = c.from-fresh.ensures ∙ one_byte (not c.row_holds.result) in (
      omega (arith, fresh, one_le (not c.row_holds.result), l.invariant),
      rw c.power-row.ensures
          (grown_more (c.scope_at-y.result - 1) (among_first b a.at l.i) (among_first b a.at (l.i + 1)) _ l.row
          l.fresh x c.from-fresh.result l.invariant.1 (omega arith) (fresh ∙ ap (λ (held : Bool). one (not held)) c.row_holds.ensures) (among_more b a.at l.i x number)),
    )

pub bounds-rows-y-2 : goal.bounds-rows-y-2
bounds-rows-y-2 c = omega (arith, y-range (goal.at.bounds-rows-y-2 c).After-scope_at-y)

pub returns : goal.returns
returns c =
    let l = c.loop-i in
    let a = c.args in
    let b = a.plan.now in
    let y : ℕ = c.scope_at-y.result - 1 in
    let range = y-range (goal.at.returns c).After-scope_at-y in
    let number : scope_at b a.at a.j ≡ suc y = omega (arith, c.scope_at-y.ensures.0) in
    let all : l.i ≡ a.j = omega arith in (
      joined_row (variable_count b) (among_first b a.at a.j) (joins_at b a.at a.j) a.rows.now y l.row l.fresh (omega arith)
          (omega arith) c.requires.0.few_variables (rw all at l.invariant.1) (joins_same b a.at a.j y number) (joins_other b a.at a.j y number),
      omega (arith, l.invariant),
    )
