-- `answers::answer` replies to the held poll. Assumes nothing.
use mathlib.Core.Path.{sym, ◌∙◌}
use native.Mathlib.Omega.{arith}
use Rattle.base.proofs.Bools.{clash}
use Rattle.cells.proofs.Acting.{idle, acts}
use Rattle.answers.proofs.AnswerLaws.{answer_goes, answer_idle, answered_from, counts_agree, counts_differ}
use Rattle.answers.proofs.answer.Goals as goal

pub returns-then-held-eq0 : goal.returns-then-held-eq0
returns-then-held-eq0 c = idle _ _ (answer_idle _ _ (λ may. omega arith))

pub returns-then-not-both_empty : goal.returns-then-not-both_empty
returns-then-not-both_empty c = idle _ _ (answer_idle _ _ (λ may. clash (c.both_empty.ensures ∙ may.empty) c.if-not-both_empty.true))

pub returns-then-ne : goal.returns-then-ne
returns-then-ne c =
    idle _ _ (answer_idle _ _ (λ may.
    counts_differ _ _ c.list_counter.ensures c.held_poll-q.ensures
    c.ne.ensures c.if-ne.true may.wanted))

pub returns-then-outs-ge-OUTROOM : goal.returns-then-outs-ge-OUTROOM
returns-then-outs-ge-OUTROOM c = idle _ _ (answer_idle _ _ (λ may. omega arith))

pub returns : goal.returns
returns c =
    acts _ _ _ _
    (answer_goes _ _ (record {
      holds = λ e. c.if-held-eq0.false (cc);
      known = omega (arith, c.get-held.ensures.0, c.if-held-gt-POLLROOM.false);
      empty = sym c.both_empty.ensures ∙ c.if-not-both_empty.false;
      wanted = counts_agree _ _ c.list_counter.ensures c.held_poll-q.ensures
          c.ne.ensures c.if-ne.false;
      out_room = omega (arith, c.get-outs.ensures.0);
    }))
    (answered_from _ _ c.held_poll-q.ensures c.get-outs.ensures.0 c.put_reply.ensures)
