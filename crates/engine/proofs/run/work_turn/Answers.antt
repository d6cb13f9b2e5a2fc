-- `engine::run::work_turn` plays one turn of a worker. Assumes nothing.
use native.Mathlib.Omega.{arith}
use Rattle.engine.proofs.Working.{worked_closed, worked_open, may_act}
use Rattle.engine.proofs.run.work_turn.Goals as goal

pub returns-then-t : goal.returns-then-t
returns-then-t c =
    let a = c.args in
    worked_closed a.plan.now a.cells.now a.t a.k a.d c.requires.0 (omega (arith, c.requires.2)) c.if-t.true

pub work-requires : goal.work-requires
work-requires c =
    let a = c.args in
    may_act a.plan.now a.cells.now a.t a.k a.d c.requires.0 (omega (arith, c.requires.2)) c.requires.1 c.requires.3

pub returns : goal.returns
returns c =
    let a = c.args in
    worked_open a.plan.now a.cells.now a.t a.k a.d c.requires.0 (omega (arith, c.requires.2)) c.requires.1 c.requires.3
    _ _ c.if-t.false c.work.ensures
