-- `buffer::Text::push` puts one byte into the buffer.
use Rattle.buffer.proofs.Puts.{takes_room, takes_full}
use Rattle.buffer.proofs.Text.push.Goals as goal

pub returns-then-self : goal.returns-then-self
returns-then-self c = takes_room c.args.self.now c.args.byte c.if-self.true

pub returns-else-self : goal.returns-else-self
returns-else-self c = takes_full c.args.self.now c.args.byte c.if-self.false
