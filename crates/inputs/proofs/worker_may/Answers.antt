-- `inputs::worker_may` is the test of a worker's actions. Assumes nothing.
use lib.Dec.{leb, eqb}
use mathlib.Core.Bool.{Bool, ◌&&◌, ◌||◌, not}
use mathlib.Core.Path.{ap}
use Rattle.disac4.specs.Turn.{worker_may}
use Rattle.inputs.proofs.worker_may.Goals as goal

pub returns : goal.returns
unfolding worker_may
returns c =
    let a = c.args in
    ap (λ (t : Bool). (leb a.action a.p && not (eqb a.action a.actor)) || t) c.between.ensures
