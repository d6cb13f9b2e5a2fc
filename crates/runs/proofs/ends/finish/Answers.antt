-- `runs::ends::finish` ends a run. Assumes nothing.
use Rattle.runs.proofs.Finishing.{finishes}
use Rattle.refinement.proofs.Underway.{going_ready}
use Rattle.runs.proofs.ends.finish.Goals as goal

pub write_lists-requires : goal.write_lists-requires
write_lists-requires c = (going_ready _ _ _ c.requires.0, c.requires.1)

pub report-r-requires : goal.report-r-requires
report-r-requires c = going_ready _ _ _ c.requires.0

pub returns-clause-ended : goal.returns-clause-ended
returns-clause-ended c =
    let g = c.args.run.now.progress in
    finishes _ _ _ g _ _ _ c.requires.0.sound c.clear.ensures c.report-r.ensures (c.write_lists.ensures g.tally)
