-- `display::run` is a run by the turn list, or by rounds where there is none. Assumes nothing.
use Rattle.display.specs.Shown.{run_by}
use Rattle.display.proofs.run.Goals as goal

pub returns-in-Some-clause-by_turns : goal.returns-in-Some-clause-by_turns
unfolding run_by
returns-in-Some-clause-by_turns c = rw c.in-Some.is c.run_turns.ensures

pub returns-in-None-clause-by_rounds : goal.returns-in-None-clause-by_rounds
unfolding run_by
returns-in-None-clause-by_rounds c = rw c.in-None.is c.run_round.ensures
