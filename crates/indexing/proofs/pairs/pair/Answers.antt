-- `indexing::pairs::pair` gives the number of a pair, or 0 for one that no pair can have. Assumes nothing.
use mathlib.Core.Path.{sym, ◌∙◌}
use native.Mathlib.Omega.{arith}
use borrow.Author.Tests.{le-leb, lt-leb}
use Rattle.base.proofs.Choice.{cond_true, cond_false}
use Rattle.cells.specs.Layout.{PAIRS}
use Rattle.cells.specs.Memory.{mem_of}
use Rattle.format.specs.Limits.{max_pairs}
use Rattle.index.specs.Index.{pair_in}
use Rattle.indexing.proofs.pairs.pair.Goals as goal

pub returns-then-number-le-MAX_PAIRS : goal.returns-then-number-le-MAX_PAIRS
unfolding pair_in
returns-then-number-le-MAX_PAIRS c =
    let n = mem_of c.args.cells.now PAIRS c.args.x c.args.y in
    (c.get-number.ensures.0 ∙ sym (cond_true n 0 (le-leb n max_pairs (omega (arith, c.get-number.ensures.0, c.if-number-le-MAX_PAIRS.true)))), c.if-number-le-MAX_PAIRS.true)

pub returns-else-number-le-MAX_PAIRS : goal.returns-else-number-le-MAX_PAIRS
unfolding pair_in
returns-else-number-le-MAX_PAIRS c =
    let n = mem_of c.args.cells.now PAIRS c.args.x c.args.y in
    (sym (cond_false n 0 (lt-leb n max_pairs (omega (arith, c.get-number.ensures.0, c.if-number-le-MAX_PAIRS.false)))), omega arith)
