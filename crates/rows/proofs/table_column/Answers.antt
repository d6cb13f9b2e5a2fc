-- `rows::table_column` gives the row of the values whose rows in a table hold a value. Assumes nothing.
use Prim.Native.Nat.{ℕ, ◌-◌, ◌*◌, ◌/◌, ◌%◌}
use mathlib.Core.Path.{◌∙◌, ap}
use native.Mathlib.Omega.{arith}
use borrow.Author.Rules.{rules}
use Rattle.base.specs.Bytes.{byte_at}
use Rattle.base.specs.Row.{bit}
use Rattle.format.proofs.Widths.{words_range}
use Rattle.format.specs.Format.{table_byte_at}
use Rattle.format.specs.Limits.{word_bytes}
use Rattle.rows.proofs.Rows.{column_byte}
use Rattle.rows.specs.Permits.{in_column}
use Rattle.rows.proofs.table_column.Goals as goal

pub overflow_mul-part : goal.overflow_mul-part
overflow_mul-part c = omega (arith, c.requires.0, words_range c.args.plan.now)

pub returns : goal.returns
unfolding byte_at
returns c =
    let a = c.args in
    let b = a.plan.now in
    c.row_where.ensures (in_column b a.at a.v)
    (λ k h held post.
    let column =
    ap (λ (n : ℕ). bit (table_byte_at b a.at k (word_bytes * n - 1 - a.v / 8)) (a.v % 8)) c.requires.0
    ∙ column_byte b (λ i. (c.type_inv.plan i).fits) a.at a.v c.requires.1 k in
    search rules)
