-- `playing::settle::no_answer` sees that there is no poll to answer, or something to treat first. Assumes nothing.
use native.Mathlib.Omega.{arith}
use borrow.Author.Tests.{eqb-false, not-true}
use Rattle.answers.proofs.AnswerLaws.{answer_idle, empty_lists}
use Rattle.playing.proofs.settle.no_answer.Goals as goal

pub returns-then-held-eq0 : goal.returns-then-held-eq0
returns-then-held-eq0 c e = answer_idle _ _ (λ may. omega arith)

pub returns-else-held-eq0 : goal.returns-else-held-eq0
returns-else-held-eq0 c e =
    answer_idle _ _ (λ may.
    eqb-false c.get-head.result c.get-tail.result (not-true _ e) (cc (empty_lists _ _ may.empty).no_work))
