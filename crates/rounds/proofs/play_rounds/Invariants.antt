use Rattle.disac4.proofs.Potential.{potential}
use Rattle.rounds.proofs.Rounding.{Rounding, state_at}
use Rattle.disac4.specs.System.{system_at}
use Rattle.rounds.proofs.play_rounds.Given as goal

abbrev pub invariant-loop-run : goal.invariant-loop-run
invariant-loop-run l = Rounding l.initial.run l.run

abbrev pub decreases-loop-run : goal.decreases-loop-run
decreases-loop-run l = potential (system_at l.initial.run.plan.now) (state_at l.initial.run.plan.now l.run.cells.now l.run.progress)
