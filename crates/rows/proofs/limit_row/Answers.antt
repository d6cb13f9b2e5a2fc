-- `rows::limit_row` gives the row of the values that a limit permits. Assumes nothing.
use borrow.Author.Rules.{rules}
use Rattle.format.specs.Format.{figure_at}
use Rattle.rows.specs.Permits.{limited}
use Rattle.rows.proofs.limit_row.Goals as goal

pub returns : goal.returns
unfolding limited
returns c =
    let a = c.args in
    c.row_where.ensures (limited a.plan.now a.limit a.f a.place)
    (λ k h held post.
    let judged = c.room_beside-room.ensures (figure_at a.plan.now a.place k) in
    search rules)
