-- `reads::take_list` takes a list message. Assumes nothing.
use Rattle.reads.proofs.ReadLaws.{taken}
use Rattle.reads.proofs.take_list.Goals as goal

pub returns : goal.returns
returns c =
    taken _ _ _ _ c.args.j c.args.i c.args.read c.args.from c.args.to
    c.args.lists c.copy_between.ensures c.put.ensures c.put-2.ensures
