-- `answers::both_empty` says whether both lists are empty. Assumes nothing.
use native.Mathlib.Omega.{arith}
use Rattle.answers.proofs.AnswerLaws.{some_left, empty_by}
use Rattle.answers.proofs.both_empty.Goals as goal

pub returns-then-head-tail : goal.returns-then-head-tail
returns-then-head-tail c = some_left _ _ (λ none_left. omega arith)

pub returns : goal.returns
returns c =
    empty_by _ _ (cc) c.if-sends-ge-SENDROOM.false c.get-sends.ensures.0 c.get-start.ensures.0 c.get-end.ensures.0
