-- `treating::lose_against` lowers the counters in the row against a variable, on either side of its test. Assumes nothing.
use Rattle.treating.proofs.lose_against.Goals as goal

pub returns-then-y-x : goal.returns-then-y-x
returns-then-y-x c n h =
    c.lose_values.ensures n c.args.y h c.counter_row-row.ensures.0

pub returns-else-y-x : goal.returns-else-y-x
returns-else-y-x c n h =
    c.lose_values-else-y-x.ensures n c.args.y h c.counter_row-row-else-y-x.ensures.0
