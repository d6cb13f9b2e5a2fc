-- `numbers::checked_numbers` gives the numbers of a plan check. Assumes nothing.
use Rattle.numbers.specs.Numbers.{checked_numbers}
use Rattle.numbers.proofs.checked_numbers.Goals as goal

pub returns-in-Ok : goal.returns-in-Ok
unfolding checked_numbers
returns-in-Ok c = rw c.in-Ok.is

pub returns-in-Err : goal.returns-in-Err
unfolding checked_numbers
returns-in-Err c = rw (c.in-Err.is, c.from.ensures)
