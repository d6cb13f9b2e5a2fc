-- `revising::has_support` tells whether a value has a support in another variable's row: whether its row of supports and
-- that row have a value in common. Assumes nothing.
use Rattle.disac4.specs.System.{network_at}
use Rattle.plan.specs.Network.{network_of}
use Rattle.revising.proofs.Common.{common_support}
use Rattle.revising.proofs.has_support.Goals as goal

pub returns : goal.returns
unfolding network_of
returns c d is_row =
    let a = c.args in
    common_support (network_at a.plan.now) d a.x a.v a.y c.requires.2 c.support_row.result a.other
    c.support_row.ensures is_row
