-- `touching::Touched::few_pairs` takes a constraint's pairs in, and says whether there are not too many then. Assumes nothing.
use Prim.Native.Nat.{ℕ, ◌+◌}
use borrow.Author.Tests.{leb-true}
use mathlib.Core.Path.{ap}
use lib.Dec.{leb}
use Rattle.format.specs.Limits.{max_pairs}
use Rattle.touching.proofs.Joins.{pairs_more, touching_more}
use Rattle.touching.proofs.Touched.few_pairs.Goals as goal

pub returns : goal.returns
returns c r e known =
    let a = c.args in
    let b = a.plan.now in
    let n : ℕ = a.self.now.pairs in
    let more : ℕ = c.touch_pairs.result in
    let joined = c.touch_pairs.ensures.0 in (
      ap (λ (k : ℕ). leb k max_pairs) (pairs_more b r a.at a.self.now.rows _ n more known e joined),
      λ few. touching_more b r a.at a.self.now.rows _ n more known e joined (leb-true (n + more) max_pairs few),
    )
