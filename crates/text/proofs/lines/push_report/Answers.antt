-- `text::lines::push_report` puts the report's line. Assumes nothing.
use Rattle.buffer.proofs.Puts.{◌then◌}
use Rattle.text.specs.Printed.{report_line}
use Rattle.text.proofs.lines.push_report.Goals as goal

pub returns : goal.returns
unfolding report_line
returns c =
    rw (← c.word.ensures)
    (c.push_word.ensures
    then c.push_spaced.ensures
    then c.push_spaced-2.ensures
    then c.push_spaced-3.ensures
    then c.push_spaced-4.ensures
    then c.push.ensures)
