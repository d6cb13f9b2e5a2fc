-- `rounds::play_rounds` plays rounds until the plan is closed. The loop's invariant: what is played and what is left are
-- the whole run. The measure is the potential, which every round lowers. Assumes nothing.
use Rattle.rounds.proofs.Rounding.{no_round, rounding_goes, rounds_done, loop_falls, round_more}
use Rattle.rounds.proofs.play_rounds.Goals as goal

pub loop-run-init : goal.loop-run-init
loop-run-init c = no_round _ c.requires.0 c.requires.1

pub play_round-requires : goal.play_round-requires
play_round-requires c = rounding_goes _ c.requires.0 c.requires.1 _ c.loop-run.invariant

pub loop-run-smaller : goal.loop-run-smaller
loop-run-smaller c =
    loop_falls _ c.requires.0 c.requires.1 _ c.loop-run.invariant c.loop-run-test.true _ c.play_round.ensures

pub loop-run-preserved : goal.loop-run-preserved
loop-run-preserved c =
    round_more _ c.requires.0 c.requires.1 _ c.loop-run.invariant c.loop-run-test.true _ c.play_round.ensures

pub returns-clause-played : goal.returns-clause-played
returns-clause-played c = rounds_done _ c.requires.0 c.requires.1 _ c.loop-run.invariant c.loop-run-test.false

pub returns-clause-same_cells : goal.returns-clause-same_cells
returns-clause-same_cells c = c.loop-run.invariant.advances.cells
