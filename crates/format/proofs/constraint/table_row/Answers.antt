-- `format::constraint::table_row` reads a table's row word after word. Assumes nothing.
use Prim.Native.Nat.{ℕ, ◌+◌, ◌*◌, ◌≤◌}
use mathlib.Core.Path.{◌∙◌, ap₂}
use native.Mathlib.Omega.{arith}
use borrow.Author.Rules.{rules}
use Rattle.base.proofs.Bytes.{number_words}
use Rattle.base.specs.Bytes.{word_at}
use Rattle.base.specs.Digits.{number_at}
use Rattle.format.proofs.Widths.{words_range}
use Rattle.format.specs.Limits.{word_bytes, max_words}
use Rattle.format.proofs.constraint.table_row.Goals as goal

pub of_words-requires-clause-few : goal.of_words-requires-clause-few
of_words-requires-clause-few c = omega (arith, c.requires.0, words_range c.args.plan.now)

pub of_words-requires-clause-callable : goal.of_words-requires-clause-callable
of_words-requires-clause-callable c k h =
    let few : c.args.words ≤ max_words = omega (arith, c.requires.0, words_range c.args.plan.now) in
    (λ κs p s r l u f. omega arith, λ κs p s r l u f. omega (arith, c.table_row_start-start.ensures.1, l.1))

pub returns : goal.returns
returns c =
    let b = c.args.plan.now in
    let start = c.table_row_start-start in
    c.of_words.ensures (λ k. word_at b (start.result + word_bytes * k)) (λ k h value post. search rules)
    ∙ number_words b start.result c.args.words
    ∙ ap₂ (λ (i n : ℕ). number_at 8 b i (word_bytes * n)) start.ensures.0 c.requires.0
