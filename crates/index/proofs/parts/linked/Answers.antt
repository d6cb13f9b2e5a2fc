-- `index::parts::linked` says whether two variables share a constraint: whether they have a number. Assumes nothing.
use Prim.Native.Nat.{ℕ}
use mathlib.Core.Bool.{not, not-not}
use mathlib.Core.Path.{sym, ◌∙◌, ap}
use lib.Dec.{eqb}
use Rattle.index.proofs.Linked.{linked_over}
use Rattle.index.specs.Index.{any_over}
use Rattle.index.proofs.parts.linked.Goals as goal

pub returns : goal.returns
returns c b index =
    let x = c.args.x in
    let y = c.args.y in
    ap (λ (n : ℕ). not (eqb n 0)) c.get.ensures.0 ∙ ap not (index.numbered x y) ∙ not-not (any_over b x y) ∙ sym (linked_over b x y)
