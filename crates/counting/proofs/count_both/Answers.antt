-- `counting::count_both` counts two variables' supports in each other, if they are linked. Assumes nothing.
use mathlib.Core.Bool.{Bool}
use mathlib.Core.Path.{◌≡◌, sym, ◌∙◌}
use native.Mathlib.Omega.{arith}
use Rattle.counting.proofs.CountLaws.{both_linked, both_apart}
use Rattle.counting.proofs.Kept.{counters_alone, pair_else}
use Rattle.disac4.specs.System.{system_of, system_at}
use Rattle.index.proofs.Kept.{ready_kept}
use Rattle.index.proofs.Places.{few_sections}
use Rattle.plan.proofs.Links.{linked_symmetric}
use Rattle.plan.specs.Decode.{plan_of}
use Rattle.plan.specs.Network.{share_constraint, network_of}
use Rattle.counting.proofs.count_both.Goals as goal
use Rattle.counting.proofs.count_both.Goals.{After-linked}

pub linked-requires : goal.linked-requires
linked-requires c =
    omega (arith, c.requires.0.long, c.requires.1, c.requires.2, few_sections c.args.plan.now c.requires.0.sound)

-- the test of the index says whether the two are linked, in either order
module _ (c : After-linked) where
  found : (t : Bool) → c.linked.result ≡ t
      → (share_constraint (plan_of c.args.plan.now) c.args.x c.args.y ≡ t)
      × (share_constraint (plan_of c.args.plan.now) c.args.y c.args.x ≡ t)
  found t e =
      let p = sym (c.linked.ensures c.args.plan.now c.requires.0.index) ∙ e in
      (p, sym (linked_symmetric (plan_of c.args.plan.now) c.args.x c.args.y) ∙ p)

pub put_counts-requires-then-linked : goal.put_counts-requires-then-linked
put_counts-requires-then-linked c = (
  ready_kept c.args.plan.now c.args.cells.now _ c.requires.0 c.put_counts.auto.cells c.put_counts.ensures
      (counters_alone (pair_else (system_at c.args.plan.now) c.args.x c.args.y _)),
  (found (goal.at.put_counts-requires-then-linked c).After-linked _ c.if-linked.true).1,
  c.support_rows-rows.ensures.1,
)

pub returns-then-linked : goal.returns-then-linked
unfolding system_of network_of
returns-then-linked c =
    let a = c.args in
    let f = found (goal.at.returns-then-linked c).After-linked _ c.if-linked.true in
    both_linked (system_at a.plan.now) a.x a.y _ _ _ f.0 f.1 c.put_counts.ensures c.put_counts-then-linked.ensures

pub returns-else-linked : goal.returns-else-linked
unfolding system_of network_of
returns-else-linked c =
    let a = c.args in
    let f = found (goal.at.returns-else-linked c).After-linked _ c.if-linked.false in
    both_apart (system_at a.plan.now) a.x a.y _ f.0 f.1
