-- `answers::put_reply` puts a reply. Assumes nothing.
use Rattle.answers.proofs.AnswerLaws.{answered}
use Rattle.answers.proofs.put_reply.Goals as goal

pub returns : goal.returns
returns c =
    answered _ _ _ _ c.args.i c.args.number.0 c.args.outs c.put.ensures
    c.put-2.ensures c.put-3.ensures
