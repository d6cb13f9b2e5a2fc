-- `sections::scope::further_in_order` says whether the further numbers of a scope ascend and are in range.
-- Invariant: those before further number `i` are, and `last` is the number before it. Assumes nothing.
use Prim.Native.Nat.{ℕ, ◌+◌, ◌<◌, ◌≤◌}
use borrow.Author.Tests.{leb-true, ltb-true}
use mathlib.Core.Bool.{true, false}
use mathlib.Core.List.{List}
use mathlib.Core.Path.{◌≡◌, sym}
use native.Mathlib.Omega.{arith}
use lib.Dec.{leb, ltb}
use Rattle.base.proofs.Below.{all_below_lem}
use Rattle.base.proofs.Bools.{and_left, and_right, refuted}
use Rattle.base.specs.Below.{all_below}
use Rattle.format.specs.Format.{further_count, scope_at, variable_count}
use Rattle.plan.specs.Check.{further_in_order}
use Rattle.sections.proofs.scope.further_in_order.Goals as goal
use Rattle.sections.proofs.scope.further_in_order.Invariants.{ascends-at}
use Rattle.sections.proofs.scope.further_in_order.Goals.{After-scope_at-number}

module _ (b : List ℕ) (at i last number most : ℕ) (p : last ≡ scope_at b at (i + 1)) (q : number ≡ scope_at b at (i + 2))
    (m : most ≡ variable_count b) where
  -- where number i is not so, the answer is no
  order-fails : (last < number → number ≤ most → ⊥) → i < further_count b at → false ≡ further_in_order b at
  unfolding further_in_order
  order-fails f h =
      sym
      (refuted (all_below (further_count b at) (ascends-at b at))
      (λ e.
      let both = all_below_lem (further_count b at) (ascends-at b at) e i h in
      f
      (omega (arith, ltb-true (scope_at b at (i + 1)) (scope_at b at (i + 2)) (and_left (ltb (scope_at b at (i + 1)) (scope_at b at (i + 2))) (leb (scope_at b at (i + 2)) (variable_count b)) both)))
      (omega (arith, leb-true (scope_at b at (i + 2)) (variable_count b) (and_right (ltb (scope_at b at (i + 1)) (scope_at b at (i + 2))) (leb (scope_at b at (i + 2)) (variable_count b)) both)))))

-- number i is not so
module _ (c : After-scope_at-number) where
  fails : (c.loop-i.last < c.scope_at-number.result → c.scope_at-number.result ≤ c.variable_count-most.result → ⊥)
      → false ≡ further_in_order c.args.plan.now c.args.at
  fails f =
      order-fails c.args.plan.now c.args.at c.loop-i.i c.loop-i.last c.scope_at-number.result
      c.variable_count-most.result c.loop-i.invariant.0 c.scope_at-number.ensures.0 c.variable_count-most.ensures.0 f
      (omega (arith, c.loop-i-test.true, c.further_count-further.ensures.0))

pub returns-then-number-last : goal.returns-then-number-last
returns-then-number-last c = fails (goal.at.returns-then-number-last c).After-scope_at-number (λ l k. omega (arith, c.if-number-last.true))

pub returns-then-most-number : goal.returns-then-most-number
returns-then-most-number c = fails (goal.at.returns-then-most-number c).After-scope_at-number (λ l k. omega (arith, c.if-most-number.true))

pub returns : goal.returns
unfolding further_in_order
returns c =
    let all : c.loop-i.i ≡ further_count c.args.plan.now c.args.at = omega (arith, c.further_count-further.ensures.0) in
    sym (rw all at c.loop-i.invariant.1)
