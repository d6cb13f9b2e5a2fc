-- `indexing::leads` puts a variable in front of a row's chains. Invariant: in front of those for the first y. Assumes nothing.
use Rattle.cells.proofs.Done.{done_none, done_more}
use Rattle.indexing.proofs.leads.Goals as goal

pub loop-y-init : goal.loop-y-init
loop-y-init c = done_none

pub loop-y-preserved : goal.loop-y-preserved
loop-y-preserved c =
    done_more c.loop-y.invariant c.lead.auto.cells c.lead.ensures
