-- `format::version::row_words`: one word in version 1, two in version 2. Assumes nothing.
use native.Mathlib.Omega.{arith}
use Rattle.format.proofs.Widths.{words_range}
use Rattle.format.specs.Version.{row_words}
use Rattle.format.proofs.version.row_words.Goals as goal

pub returns : goal.returns
unfolding row_words
returns c =
    let range = words_range c.args.plan.now in
    (c.by_version.ensures, omega (arith, c.by_version.ensures, range), omega (arith, c.by_version.ensures, range))
