-- `touching::Touched::none` has rows without a bit. Assumes nothing.
use Rattle.touching.proofs.Joins.{touching_none}
use Rattle.touching.proofs.Touched.none.Goals as goal

pub returns : goal.returns
returns c = touching_none
