-- `report::report` gives the report of a run that has come so far. Assumes nothing.
use Rattle.report.proofs.Reported.{report_law}
use Rattle.cells.specs.Memory.{mem_of}
use Rattle.report.proofs.report.Goals as goal

pub returns : goal.returns
returns c =
    rw c.unwrap_or.ensures
    (report_law c.args.plan.now (mem_of c.args.cells.now) c.args.g c.status_of.result c.lowest_empty-empty.result
    c.lowest_empty-empty.ensures.from_one c.status_of.ensures (c.lowest_empty-empty.ensures.lowest c.args.g.tally))
