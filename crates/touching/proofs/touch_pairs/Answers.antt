-- `touching::touch_pairs` takes the pairs of a scope into the rows.
-- Invariant: those that end among the first `j` of the scope are in. Assumes nothing.
use Prim.Native.Nat.{ℕ, ◌+◌, ◌≤◌}
use mathlib.Core.List.{List}
use mathlib.Core.Path.{◌≡◌, ◌∙◌, ap}
use native.Mathlib.Omega.{arith}
use Rattle.format.specs.Format.{scope_size, scope_of, variable_count}
use Rattle.format.specs.Limits.{max_further}
use Rattle.plan.specs.Network.{joins}
use Rattle.touching.proofs.Joins.{joined_none, joined_ext}
use Rattle.touching.proofs.ScopePairs.{joins_below, joins_none, joins_all, scope_ascends}
use Rattle.touching.proofs.touch_pairs.Goals as goal
use Rattle.touching.proofs.touch_pairs.Goals.{After-further_count-size}

-- the scope's size, which is small
module _ (c : After-further_count-size) where
  abbrev plan-of : List ℕ
  plan-of = c.args.plan.now

  sized : (2 + c.further_count-size.result ≡ scope_size plan-of c.args.at) × (2 + c.further_count-size.result ≤ 2 + max_further)
  sized = omega (arith, c.further_count-size.ensures.0, c.requires.few_further)

pub loop-j-init : goal.loop-j-init
loop-j-init c =
    let a = c.args in
    let b = a.plan.now in (
      omega arith,
      joined_none (variable_count b) (joins_below b a.at 1) a.rows.now (omega arith) (joins_none b a.at),
    )

pub returns : goal.returns
returns c =
    let l = c.loop-j in
    let a = c.args in
    let b = a.plan.now in
    let all : l.j ≡ scope_size b a.at = omega (arith, sized (goal.at.returns c).After-further_count-size, c.loop-j-test.false) in (
      joined_ext (variable_count b) (joins_below b a.at l.j) (joins (scope_of b a.at)) a.rows.now l.rows l.fresh
          (λ x y. ap (λ (k : ℕ). joins_below b a.at k x y) all ∙ joins_all b a.at (scope_ascends b a.at c.requires) x y) l.invariant.1,
      omega (arith, sized (goal.at.returns c).After-further_count-size, l.invariant.0),
    )
