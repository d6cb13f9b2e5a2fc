-- `sends::put_list` sends a list message. Assumes nothing.
use Rattle.sends.proofs.SendLaws.{sent}
use Rattle.sends.proofs.put_list.Goals as goal

pub returns : goal.returns
returns c =
    sent _ _ _ _ c.args.i c.args.sends c.args.end c.args.outs
    c.args.lists _ _ c.put.ensures c.put-2.ensures c.put-3.ensures
    c.put-4.ensures c.put-5.ensures
