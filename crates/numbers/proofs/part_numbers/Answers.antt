-- `numbers::part_numbers` gives the numbers that tell a part. Assumes nothing.
use Prim.Native.Nat.{◌%◌}
use borrow.Author.Tests.{eq-eqb, ne_eqb}
use Rattle.numbers.specs.Numbers.{part_numbers}
use Rattle.numbers.proofs.part_numbers.Goals as goal

pub returns-then-sweeps-eq1 : goal.returns-then-sweeps-eq1
unfolding part_numbers
returns-then-sweeps-eq1 c = rw (eq-eqb (c.args.sweeps % 2) 1 c.if-sweeps-eq1.true)

pub returns-else-sweeps-eq1 : goal.returns-else-sweeps-eq1
unfolding part_numbers
returns-else-sweeps-eq1 c = rw (ne_eqb (c.args.sweeps % 2) 1 c.if-sweeps-eq1.false)
