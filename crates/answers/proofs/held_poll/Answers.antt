-- `answers::held_poll` gives the poll that a worker holds. Assumes nothing.
use Rattle.answers.proofs.AnswerLaws.{held_as}
use Rattle.answers.proofs.held_poll.Goals as goal

pub returns : goal.returns
returns c =
    held_as _ _ c.get-number.ensures.0 c.get-wanted.ensures.0
