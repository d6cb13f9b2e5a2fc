-- `controller::polled` gives the tally after a poll. Assumes nothing.
use mathlib.Core.Path.{refl}
use Rattle.controller.specs.Controller.{polled_t}
use Rattle.controller.proofs.polled.Goals as goal

pub returns : goal.returns
unfolding polled_t
returns c = refl
