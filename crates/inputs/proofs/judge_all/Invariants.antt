use Rattle.inputs.proofs.Judging.{Judging}
use Rattle.inputs.proofs.judge_all.Given as goal

abbrev pub invariant-loop-i : goal.invariant-loop-i
invariant-loop-i l = Judging l.p l.i l.table
