-- `text::push_answer` puts the text of an answer. Assumes nothing.
use Rattle.buffer.proofs.Puts.{◌then◌}
use Rattle.text.specs.Printed.{printed}
use Rattle.text.proofs.push_answer.Goals as goal

pub returns-in-Ok : goal.returns-in-Ok
unfolding printed
returns-in-Ok c = rw c.in-Ok.is (c.push_report.ensures then c.push_domains.ensures)

pub returns-in-Err : goal.returns-in-Err
unfolding printed
returns-in-Err c = rw c.in-Err.is c.push_decline.ensures
