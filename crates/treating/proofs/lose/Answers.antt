-- `treating::lose` lowers one counter, and deletes its label at 0. Assumes nothing.
use mathlib.Core.Path.{refl}
use native.Mathlib.Omega.{arith}
use Rattle.cells.proofs.Ranges.{may_put}
use Rattle.treating.proofs.TreatLaws.{lost_last, lost_one}
use Rattle.treating.proofs.lose.Goals as goal

pub put-requires : goal.put-requires
put-requires c = may_put _ _ _ refl _ _ (omega arith)

pub put-requires-else-count-le1 : goal.put-requires-else-count-le1
put-requires-else-count-le1 c = may_put _ _ _ refl _ _ (omega arith)

pub returns-then-count-le1 : goal.returns-then-count-le1
returns-then-count-le1 c =
    let a = c.args in
    λ y e.
    lost_last a.i a.x a.v y _ _ _ _ e c.get-count.ensures.0 _
    c.if-count-le1.true
    c.put.ensures c.delete.ensures

pub returns-else-count-le1 : goal.returns-else-count-le1
returns-else-count-le1 c =
    let a = c.args in
    λ y e.
    lost_one a.i a.x a.v y _ _ _ _ e c.get-count.ensures.0 c.if-count-le1.false
    c.put-else-count-le1.ensures
