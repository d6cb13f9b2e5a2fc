-- `controller::counted` gives the tally after a list message. Assumes nothing.
use mathlib.Core.Path.{refl}
use Rattle.controller.specs.Controller.{counted_t}
use Rattle.controller.proofs.counted.Goals as goal

pub returns : goal.returns
unfolding counted_t
returns c = refl
