-- `format::lists::row_at` reads a variable's row cell after cell. Assumes nothing.
use Prim.Native.Nat.{◌+◌, ◌*◌}
use borrow.Author.Rules.{rules}
use lib.ListN.{get_or}
use Rattle.base.specs.Digits.{number_at}
use Rattle.format.specs.Lists.{row_in}
use Rattle.format.proofs.lists.row_at.Goals as goal

pub returns : goal.returns
unfolding row_in number_at
returns c =
    let a = c.args in
    c.of_words.ensures (λ k. get_or a.cells.now (a.words * a.x + k) 0) (λ k h value post. search rules)
