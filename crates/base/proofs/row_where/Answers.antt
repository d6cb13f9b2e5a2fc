-- `base::row_where` gives the row of the values that pass a test. Invariant: the row holds those from k on, counted from there.
-- Assumes nothing.
use Prim.Native.Nat.{◌-◌}
use mathlib.Core.Path.{◌∙◌}
use native.Mathlib.Omega.{arith}
use Rattle.base.proofs.Sums.{one_byte, one_le}
use Rattle.base.proofs.Upper.{upper_more, upper_room, upper_all}
use Rattle.base.proofs.row_where.Goals as goal

pub overflow_mul-row : goal.overflow_mul-row
overflow_mul-row g c =
    let l = c.loop-k in
    omega (arith, upper_room _ _ l.row l.k c.loop-k-test.true c.requires.few l.invariant)

pub overflow_add-row : goal.overflow_add-row
overflow_add-row g c =
    let l = c.loop-k in
    omega (
      arith,
      upper_room _ _ l.row l.k c.loop-k-test.true c.requires.few l.invariant,
      c.from.ensures ∙ one_byte c.test.result,
      one_le c.test.result,
    )

pub loop-k-preserved : goal.loop-k-preserved
loop-k-preserved g c =
    let l = c.loop-k in
    rw (c.from.ensures ∙ one_byte c.test.result) (
    upper_more _ _ l.row l.k c.test.result c.loop-k-test.true
    (λ t told. told (l.k - 1) (omega (arith, l.auto.k)) c.test.result c.test.ensures) l.invariant
    )

pub returns : goal.returns
returns g c = upper_all _ _ c.loop-k.row c.loop-k.k (omega (arith, c.loop-k-test.false)) c.loop-k.invariant
