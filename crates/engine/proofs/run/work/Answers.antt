-- `engine::run::work` plays a worker's action. Assumes nothing.
use native.Mathlib.Omega.{arith}
use Rattle.cells.proofs.Acting.{acts_as}
use Rattle.engine.proofs.RunLaws.{worker_treats, worker_sends, worker_answers, worker_reads}
use Rattle.engine.proofs.run.work.Goals as goal

pub returns-in-9 : goal.returns-in-9
returns-in-9 c = acts_as (worker_treats _ _ _ _ _ c.in-9.is) c.treat.ensures

pub returns-in-10 : goal.returns-in-10
returns-in-10 c = acts_as (worker_sends _ _ _ _ _ (omega arith) c.in-10.is) c.send.ensures

pub returns-in-11 : goal.returns-in-11
returns-in-11 c = acts_as (worker_answers _ _ _ _ _ (omega arith) (omega arith) c.in-11.is) c.answer.ensures

pub returns-in_default : goal.returns-in_default
returns-in_default c = acts_as (worker_reads _ _ _ _ _ (omega arith) (omega arith) (omega arith)) c.read.ensures
