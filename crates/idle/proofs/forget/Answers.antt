-- `idle::forget` clears the cells of the turns that a turn may have enabled. Assumes nothing.
use Rattle.idle.proofs.Tables.{puts_both, forgets_reads, forgets_own}
use Rattle.idle.proofs.forget.Goals as goal

pub returns-then-d-gt-TREAT_ACTION : goal.returns-then-d-gt-TREAT_ACTION
returns-then-d-gt-TREAT_ACTION c =
    let a = c.args in
    forgets_reads a.k a.d c.if-d-gt-TREAT_ACTION.true
    (puts_both (puts_both c.note.ensures c.forget_own.ensures) c.forget_reads.ensures)

pub returns-else-d-gt-TREAT_ACTION : goal.returns-else-d-gt-TREAT_ACTION
returns-else-d-gt-TREAT_ACTION c =
    let a = c.args in
    forgets_own a.k a.d c.if-d-gt-TREAT_ACTION.false (puts_both c.note.ensures c.forget_own.ensures)
