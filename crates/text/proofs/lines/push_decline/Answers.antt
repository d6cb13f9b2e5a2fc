-- `text::lines::push_decline` puts the line of a decline. Assumes nothing.
use mathlib.Core.Path.{sym}
use Rattle.buffer.proofs.Puts.{◌then◌}
use Rattle.text.specs.Printed.{declined_word, decline_line}
use Rattle.text.proofs.lines.push_decline.Goals as goal

pub returns : goal.returns
unfolding decline_line declined_word
returns c =
    rw (sym c.from.ensures)
    (c.push_word.ensures then c.push_spaced.ensures then c.push_spaced-2.ensures then c.push.ensures)
