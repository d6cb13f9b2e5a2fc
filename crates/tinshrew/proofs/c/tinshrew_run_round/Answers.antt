-- `tinshrew::c::tinshrew_run_round` writes the numbers of `run_round`. Assumes nothing.
use Rattle.tinshrew.proofs.Numbers.{as_numbers}
use Rattle.tinshrew.proofs.c.tinshrew_run_round.Goals as goal

pub returns : goal.returns
returns c =
    as_numbers _ _ _ _ _ c.answer_numbers.ensures c.run_round.ensures
