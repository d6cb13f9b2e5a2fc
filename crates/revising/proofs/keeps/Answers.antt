-- `revising::keeps` tells whether a row holds a value that has a support in another variable's row. Assumes nothing.
use native.Mathlib.Omega.{arith}
use Rattle.index.proofs.Labels.{label_small}
use Rattle.revising.proofs.keeps.Goals as goal
use Rattle.revising.proofs.keeps.Goals.{Start}

pub row_holds-requires : goal.row_holds-requires
row_holds-requires c =
    omega
    (arith, label_small c.args.plan.now c.requires.0.sound c.args.x c.args.v c.requires.1)
