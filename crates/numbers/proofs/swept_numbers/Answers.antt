-- `numbers::swept_numbers` gives the numbers of the sweeps' answer. Assumes nothing.
use Rattle.numbers.specs.Numbers.{swept_numbers}
use Rattle.numbers.proofs.swept_numbers.Goals as goal

pub returns-in-Ok : goal.returns-in-Ok
unfolding swept_numbers
returns-in-Ok c = rw c.in-Ok.is

pub returns-in-Err : goal.returns-in-Err
unfolding swept_numbers
returns-in-Err c = rw (c.in-Err.is, c.from.ensures)
