use Rattle.cells.proofs.Done.{Done}
use Rattle.index.specs.Index.{lead_m}
use Rattle.indexing.proofs.leads.Given as goal

abbrev pub invariant-loop-y : goal.invariant-loop-y
invariant-loop-y l = Done (lead_m l.i l.x) l.initial.cells l.y l.cells
