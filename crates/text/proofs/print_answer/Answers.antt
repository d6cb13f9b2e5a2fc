-- `text::print_answer` begins a text in the buffer, where the text of the answer is put. Assumes nothing.
use Rattle.std.proofs.Common.{rules}
use Rattle.buffer.proofs.Puts.{holds_taken}
use Rattle.text.proofs.print_answer.Goals as goal

pub returns : goal.returns
returns c =
    let held = holds_taken c.new-text.ensures c.push_answer.ensures in
    search rules
