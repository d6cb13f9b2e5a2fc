-- `sweeping::sweep_plan` makes the sweeps of an accepted plan, with its index in zeroed cells. Assumes nothing.
use native.Mathlib.Omega.{arith}
use Rattle.disac4.specs.Need.{work_need}
use Rattle.disac4.specs.System.{network_at}
use Rattle.format.specs.Version.{row_words}
use Rattle.index.specs.Index.{Ready}
use Rattle.sweeping.proofs.Going.{all_given}
use Rattle.index.proofs.Zeroed.{zeros_long, zeroed_ready}
use Rattle.sweeping.specs.Outcome.{two_lists}
use Rattle.sweeping.proofs.sweep_plan.Goals as goal
use Rattle.sweeping.proofs.sweep_plan.Goals.{After-index_plan}

pub index_plan-requires : goal.index_plan-requires
unfolding work_need
index_plan-requires c =
    (c.requires.0, zeros_long)

-- the cells hold the index
indexed : (c : After-index_plan) → Ready c.args.plan.now c.index_plan.new.cells
unfolding work_need
indexed c =
    zeroed_ready c.args.plan.now c.index_plan.new.cells work_need c.requires.0 c.index_plan.ensures
    (omega (arith, zeros_long, c.index_plan.auto.cells))

pub put_loaded-requires : goal.put_loaded-requires
put_loaded-requires c =
    (indexed (goal.at.put_loaded-requires c).After-index_plan, c.requires.1)

pub sweep_all-requires : goal.sweep_all-requires
sweep_all-requires c =
    (indexed (goal.at.sweep_all-requires c).After-index_plan, omega (arith, c.put_loaded.auto.lists, c.requires.1), c.requires.2)

pub returns : goal.returns
returns c =
    let lent = two_lists c.args.first.now c.args.second.now in
    all_given (row_words c.args.plan.now) (network_at c.args.plan.now) lent _ c.sweep_all.result _ c.put_loaded.ensures
    (c.sweep_all.ensures lent)
