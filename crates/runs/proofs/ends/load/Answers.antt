-- `runs::ends::load` loads an accepted plan. Assumes nothing.
use Rattle.runs.proofs.Starting.{begins}
use Rattle.runs.proofs.ends.load.Goals as goal

pub returns : goal.returns
returns c = begins _ _ _ _ c.start-t.ensures
