-- `runs::ends::start` loads the plan. Assumes nothing.
use native.Mathlib.Omega.{arith}
use Rattle.runs.proofs.Starting.{start_ready, start_made}
use Rattle.runs.proofs.ends.start.Goals as goal

pub load_plan-requires : goal.load_plan-requires
load_plan-requires c =
    let i = c.index_plan in
    let k = c.clear in
    start_ready c.args.plan.now c.args.cells.now k.new.cells i.new.cells c.requires.0 k.ensures i.ensures
    (omega (arith, c.requires.1, k.auto.cells, i.auto.cells))

pub returns : goal.returns
returns c =
    let l = c.load_plan in
    let i = c.index_plan in
    let k = c.clear in
    start_made c.args.plan.now c.args.cells.now k.new.cells i.new.cells c.requires.0 k.ensures i.ensures
    l.new.cells c.fresh.result l.ensures c.fresh.ensures
