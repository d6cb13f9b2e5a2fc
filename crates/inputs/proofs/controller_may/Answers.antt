-- `inputs::controller_may` is the test of the controller's actions. Assumes nothing.
use lib.Dec.{eqb}
use mathlib.Core.Bool.{Bool, ◌||◌}
use mathlib.Core.Path.{ap}
use Rattle.disac4.specs.Turn.{controller_may, poll_action}
use Rattle.inputs.proofs.controller_may.Goals as goal

pub returns : goal.returns
unfolding controller_may
returns c = ap (λ (t : Bool). t || eqb c.args.action poll_action) c.between.ensures
