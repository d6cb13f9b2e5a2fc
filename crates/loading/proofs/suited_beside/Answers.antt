-- `loading::suited_beside` takes the values with a counter of 0 from the row. Assumes nothing.
use mathlib.Core.Path.{◌≡◌, sym, ◌∙◌}
use native.Mathlib.Omega.{arith}
use Rattle.cells.specs.Memory.{mem_of}
use Rattle.disac4.specs.System.{system_of, system_at}
use Rattle.index.proofs.Places.{few_sections}
use Rattle.loading.proofs.LoadLaws.{suited_apart, suited_linked}
use Rattle.plan.specs.Decode.{plan_of}
use Rattle.plan.specs.Network.{network_of, share_constraint}
use Rattle.loading.proofs.suited_beside.Goals as goal
use Rattle.loading.proofs.suited_beside.Goals.{After-linked}

pub linked-requires : goal.linked-requires
linked-requires c =
    omega (arith, c.requires.0.long, c.requires.1, c.requires.2, few_sections c.args.plan.now c.requires.0.sound)

-- what the test tells
module _ (tested : After-linked) where
  told : share_constraint (plan_of tested.args.plan.now) tested.args.x tested.args.y ≡ tested.linked.result
  told = sym (tested.linked.ensures tested.args.plan.now tested.requires.0.index)

pub returns-then-not-linked : goal.returns-then-not-linked
unfolding system_of network_of
returns-then-not-linked c =
    let a = c.args in
    suited_apart (system_at a.plan.now) (mem_of a.cells.now) a.x a.y a.row
    (told (goal.at.returns-then-not-linked c).After-linked ∙ c.if-not-linked.true) c.requires.3

pub returns : goal.returns
unfolding system_of network_of
returns c =
    let a = c.args in
    suited_linked (system_at a.plan.now) (mem_of a.cells.now) a.x a.y a.row c.counted_row.result
    (told (goal.at.returns c).After-linked ∙ c.if-not-linked.false) c.requires.3 c.counted_row.ensures
