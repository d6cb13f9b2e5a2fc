-- `base::row_holds` says whether a row holds a value. Assumes nothing.
use mathlib.Core.Path.{refl}
use Rattle.base.specs.Row.{bit}
use Rattle.base.proofs.row_holds.Goals as goal

pub returns : goal.returns
unfolding bit
returns c = refl
