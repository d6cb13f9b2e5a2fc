-- `indexing::index_own` writes the chains of the workers' own variables. Invariant: they go through those from x on.
-- Assumes nothing.
use Prim.Native.Nat.{ℕ, ◌+◌, ◌-◌, ◌<◌}
use mathlib.Core.List.{List}
use mathlib.Core.Path.{◌≡◌, ◌∙◌}
use native.Mathlib.Omega.{arith}
use Rattle.cells.proofs.Done.{done_none, done_more, done_all}
use Rattle.cells.specs.Layout.{PLACES}
use Rattle.format.specs.Format.{variable_count}
use Rattle.index.proofs.Leads.{leads_same}
use Rattle.index.proofs.OwnChains.{leads_last}
use Rattle.index.proofs.Places.{few_sections, located_done}
use Rattle.index.specs.Index.{Located, own_m}
use Rattle.indexing.proofs.index_own.Goals as goal
use Rattle.indexing.proofs.index_own.Goals.{After-owner, At-loop-x}

pub loop-x-init : goal.loop-x-init
loop-x-init c =
    let start : variable_count c.args.plan.now - c.variable_count-n.result ≡ 0 = omega (arith, c.variable_count-n.ensures.0) in
    rw start done_none

-- while the chains grow, the sections' places are known
places-known : (l : At-loop-x) → Located l.args.plan.now l.loop-x.cells
places-known l =
    located_done _ l.requires l.loop-x.invariant
    (λ j m k. leads_same _ _ _ m PLACES 0 k (λ r e h. omega arith) (λ r e h. omega arith))

pub owner-requires : goal.owner-requires
owner-requires c =
    (places-known (goal.at.owner-requires c).At-loop-x, omega (arith, c.variable_count-n.ensures.0, c.loop-x-test.true))

-- the walk before a variable
module _ (c : After-owner) where
  abbrev plan-of : List ℕ
  plan-of = c.args.plan.now

  listed : c.loop-x.x - 1 < variable_count plan-of
  listed = omega (arith, c.variable_count-n.ensures.0, c.loop-x-test.true)

pub leads-requires : goal.leads-requires
leads-requires c =
    let few = few_sections (plan-of (goal.at.leads-requires c).After-owner) c.requires.sound in
    omega (arith, c.owner.ensures, listed (goal.at.leads-requires c).After-owner, c.variable_count-n.ensures.0, c.loop-x.invariant.size, c.requires.long)

pub loop-x-preserved : goal.loop-x-preserved
loop-x-preserved c =
    let x = c.loop-x.x in
    let b = c.args.plan.now in
    let count = c.variable_count-n.ensures.0 in
    let more : variable_count b - (x - 1) ≡ variable_count b - x + 1 = omega (arith, listed (goal.at.loop-x-preserved c).After-owner) in
    rw more
    (done_more c.loop-x.invariant c.leads.auto.cells
    (c.leads.ensures
    ∙ leads_last b (x - 1) c.owner.result _ (variable_count b - x) _
    (omega (arith, count, c.loop-x-test.true)) count c.owner.ensures.0))

pub returns : goal.returns
unfolding own_m
returns c = done_all _ c.loop-x.invariant (omega (arith, c.loop-x-test.false))
