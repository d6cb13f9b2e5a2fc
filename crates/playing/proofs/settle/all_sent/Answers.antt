-- `playing::settle::all_sent` sees that there is nothing to send. Assumes nothing.
use native.Mathlib.Omega.{arith}
use borrow.Author.Tests.{eqb-true}
use Rattle.sends.proofs.SendLaws.{send_idle}
use Rattle.playing.proofs.settle.all_sent.Goals as goal

pub returns-then-sends-ge-SENDROOM : goal.returns-then-sends-ge-SENDROOM
returns-then-sends-ge-SENDROOM c e = send_idle _ _ (λ may. omega arith)

pub returns : goal.returns
returns c e = send_idle _ _ (λ may. may.unsent (cc (eqb-true c.get-start.result c.get-end.result e)))
