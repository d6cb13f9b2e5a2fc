-- `reads::copy_between` copies the labels between two places of a log. Assumes nothing.
use Rattle.reads.proofs.ReadLaws.{copied_none}
use Rattle.reads.proofs.copy_between.Goals as goal

pub returns-else-from-to : goal.returns-else-from-to
returns-else-from-to c =
    copied_none c.args.j c.args.i c.args.from c.args.to _ c.if-from-to.false
