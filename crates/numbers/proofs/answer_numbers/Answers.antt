-- `numbers::answer_numbers` gives the numbers of a run's answer. Assumes nothing.
use Rattle.numbers.specs.Numbers.{answer_numbers}
use Rattle.numbers.proofs.answer_numbers.Goals as goal

pub returns-in-Ok : goal.returns-in-Ok
unfolding answer_numbers
returns-in-Ok c = rw (c.in-Ok.is, c.status_number.ensures)

pub returns-in-Err : goal.returns-in-Err
unfolding answer_numbers
returns-in-Err c = rw (c.in-Err.is, c.from.ensures)
