-- `buffer::Text::push_number` calls itself: the measure is the number, whose tenth is less.
use Rattle.buffer.proofs.Text.+push_number.Given as goal

abbrev pub decreases-push_number : goal.decreases-push_number
decreases-push_number l = l.n
