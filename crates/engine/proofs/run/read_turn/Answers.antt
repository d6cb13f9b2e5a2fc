-- `engine::run::read_turn` plays a worker's read. Assumes nothing.
use native.Mathlib.Omega.{arith}
use Rattle.base.specs.Below.{one}
use Rattle.cells.proofs.Acting.{acts_as}
use Rattle.engine.proofs.RunLaws.{worker_reads}
use Rattle.engine.proofs.Working.{worked_closed, worked_open, may_act, no_send}
use Rattle.engine.proofs.run.read_turn.Goals as goal

pub returns-then-t : goal.returns-then-t
returns-then-t c =
    let a = c.args in
    rw (no_send a.j 0 c.requires.3) at
    (worked_closed a.plan.now a.cells.now a.t a.k a.j c.requires.0 (omega (arith, c.requires.2)) c.if-t.true)

pub read-requires : goal.read-requires
read-requires c =
    let a = c.args in
    let w = may_act a.plan.now a.cells.now a.t a.k a.j c.requires.0 (omega (arith, c.requires.2)) c.requires.1
    c.requires.4 in
    (w.0.ready.long, omega (arith, w.0.workers, w.1), c.requires.3)

pub returns : goal.returns
returns c =
    let a = c.args in
    rw (no_send a.j (one c.read.result) c.requires.3) at
    (worked_open a.plan.now a.cells.now a.t a.k a.j c.requires.0 (omega (arith, c.requires.2)) c.requires.1 c.requires.4
    _ _ c.if-t.false
    (acts_as (worker_reads _ _ _ _ _ (omega (arith, c.requires.3)) (omega (arith, c.requires.3)) (omega (arith, c.requires.3)))
    c.read.ensures))
