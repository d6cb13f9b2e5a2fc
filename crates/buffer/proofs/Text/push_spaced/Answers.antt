-- `buffer::Text::push_spaced` puts a number after a space.
use Rattle.buffer.proofs.Puts.{◌then◌}
use Rattle.buffer.specs.Decimal.{spaced}
use Rattle.buffer.proofs.Text.push_spaced.Goals as goal

pub returns : goal.returns
unfolding spaced
returns c = c.push.ensures then c.push_number.ensures
