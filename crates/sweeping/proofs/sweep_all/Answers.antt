-- `sweeping::sweep_all` sweeps until nothing is deleted. Invariant: k sweeps were made of the loaded lists, each of which deleted
-- something, so that they are no more than the labels; the buffers keep their lengths. Assumes nothing.
use mathlib.Core.Path.{◌∙◌}
use native.Mathlib.Omega.{arith}
use Rattle.disac4.specs.System.{network_at}
use Rattle.format.specs.Version.{row_words}
use Rattle.listing.proofs.ListCells.{plan_wide}
use Rattle.listing.specs.ListCells.{WideEnough}
use Rattle.plan.proofs.WellFormed.{read_well_formed}
use Rattle.sweeping.proofs.Going.{going_few, going_on, going_ends}
use Rattle.sweeping.proofs.sweep_all.Goals as goal
use Rattle.sweeping.proofs.sweep_all.Goals.{Start}

-- the rows in the buffers have a bit for each value
wide : (s : Start) → WideEnough (row_words s.args.plan.now) (network_at s.args.plan.now)
wide s = plan_wide s.args.plan.now s.requires.0.sound

pub returns-then-shorter-eq0 : goal.returns-then-shorter-eq0
returns-then-shorter-eq0 c l e =
    going_ends (wide (goal.at.returns-then-shorter-eq0 c).Start) c.sweep_at-shorter.result (c.loop-k.invariant.going l e) c.sweep_at-shorter.ensures c.if-shorter-eq0.true

pub loop-k-preserved : goal.loop-k-preserved
loop-k-preserved c = record {
  first = c.sweep_at-shorter.auto.first ∙ c.loop-k.invariant.first;
  second = c.sweep_at-shorter.auto.second ∙ c.loop-k.invariant.second;
  going = λ l e. going_on (wide (goal.at.loop-k-preserved c).Start) c.sweep_at-shorter.result (c.loop-k.invariant.going l e) c.sweep_at-shorter.ensures c.if-shorter-eq0.false;
}

pub returns : goal.returns
returns c l e =
    let plan = c.args.plan.now in
    absurd
    (omega (
      arith,
      going_few (c.loop-k.invariant.going l e),
      (read_well_formed plan c.requires.0.sound).few_labels,
    ))
