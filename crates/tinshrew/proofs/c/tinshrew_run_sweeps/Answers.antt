-- `tinshrew::c::tinshrew_run_sweeps` writes the numbers of `run_sweeps`. Assumes nothing.
use Rattle.tinshrew.proofs.Numbers.{as_numbers}
use Rattle.tinshrew.proofs.c.tinshrew_run_sweeps.Goals as goal

pub returns : goal.returns
returns c =
    as_numbers _ _ _ _ _ c.swept_numbers.ensures c.run_sweeps.ensures
