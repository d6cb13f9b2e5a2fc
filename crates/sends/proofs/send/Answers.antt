-- `sends::send` sends what was deleted since the last list message. Assumes nothing.
use native.Mathlib.Omega.{arith}
use Rattle.cells.proofs.Acting.{idle, acts}
use Rattle.sends.proofs.SendLaws.{send_goes, send_idle, sent_from}
use Rattle.sends.proofs.send.Goals as goal

pub returns-then-sends-ge-SENDROOM : goal.returns-then-sends-ge-SENDROOM
returns-then-sends-ge-SENDROOM c = idle _ _ (send_idle _ _ (λ may. omega arith))

pub returns-then-start-end : goal.returns-then-start-end
returns-then-start-end c = idle _ _ (send_idle _ _ (λ may. may.unsent (cc)))

pub returns-then-outs-ge-OUTROOM : goal.returns-then-outs-ge-OUTROOM
returns-then-outs-ge-OUTROOM c = idle _ _ (send_idle _ _ (λ may. omega arith))

pub returns : goal.returns
returns c =
    acts _ _ _ _
    (send_goes _ _ (record {
      unsent = λ e. c.if-start-end.false (cc);
      send_room = omega arith;
      out_room = omega arith;
      count_room = omega arith;
    }))
    (sent_from _ _ c.get-sends.ensures.0 c.get-end.ensures.0 c.get-outs.ensures.0
    c.get-lists.ensures.0 c.put_list.ensures)
