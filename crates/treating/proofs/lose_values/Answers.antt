-- `treating::lose_values` takes the lowest value off the rest of a row and lowers its counter, until none is left. Invariant:
-- what the rest still loses is what the row lost at the start, at any width that the row fits. The rest falls. Assumes nothing.
use Prim.Native.Nat.{ℕ, ◌-◌, ◌^◌, ◌<◌}
use mathlib.Core.Path.{◌≡◌, refl, sym, ◌∙◌, ap}
use native.Mathlib.Omega.{arith}
use lib.Bits.{and_le_l, and_le_r}
use lib.Count.{trailing_le}
use Rattle.cells.specs.Layout.{PAIRS, VALUEROOM}
use Rattle.cells.specs.Memory.{Mem, mem_of}
use Rattle.cells.specs.View.{counter_row}
use Rattle.index.proofs.Kept.{row_pairs}
use Rattle.treating.proofs.Kept.{lose_kept}
use Rattle.treating.proofs.LoseLaws.{lowest_low, lowest_lost, empty_lost}
use Rattle.treating.specs.Treat.{lose_m, lose_row_m}
use Rattle.treating.proofs.lose_values.Goals as goal
use Rattle.treating.proofs.lose_values.Goals.{In-loop-rest}

-- the counters stay in their row
row_stays : (i x v y : ℕ) (m n : Mem) → n ≡ lose_m i x v y m → counter_row n x y ≡ counter_row m x y
row_stays i x v y m n e =
    ap (λ (n : Mem). counter_row n x y) e ∙ row_pairs m _ x y ((lose_kept i x v y m).kept PAIRS x y (omega arith))

pub loop-rest-init : goal.loop-rest-init
loop-rest-init c = (omega arith, refl, λ n y h r. record { counted = r; same = refl })

-- in the loop there is a value left, and it is one that there is room for
module _ (t : In-loop-rest) where
  abbrev rest : ℕ
  rest = t.loop-rest.rest

  some : 0 < rest
  some = omega (arith, t.loop-rest-test.true)

  fits : rest < 2 ^ 64
  fits = omega arith

  low : (n : ℕ) → t.args.losing < 2 ^ n → rest < 2 ^ n
  low n h = omega (arith, t.loop-rest.invariant.0)

pub overflow_cast-rest : goal.overflow_cast-rest
overflow_cast-rest c = omega (arith, trailing_le 64 (rest (goal.at.overflow_cast-rest c).In-loop-rest))

pub lose-requires : goal.lose-requires
lose-requires c =
    omega (arith, c.requires, c.loop-rest.invariant.1, lowest_low 64 VALUEROOM (rest (goal.at.lose-requires c).In-loop-rest) (some (goal.at.lose-requires c).In-loop-rest) (fits (goal.at.lose-requires c).In-loop-rest) (low (goal.at.lose-requires c).In-loop-rest VALUEROOM c.requires.3))

pub overflow_sub-rest : goal.overflow_sub-rest
overflow_sub-rest c = some (goal.at.overflow_sub-rest c).In-loop-rest

pub loop-rest-smaller : goal.loop-rest-smaller
loop-rest-smaller c =
    omega (arith, some (goal.at.loop-rest-smaller c).In-loop-rest, and_le_r (rest (goal.at.loop-rest-smaller c).In-loop-rest) (rest (goal.at.loop-rest-smaller c).In-loop-rest - 1))

pub loop-rest-preserved : goal.loop-rest-preserved
loop-rest-preserved c =
    let l = c.loop-rest in
    let a = c.args in
    let lost = c.lose.ensures in (
      omega (arith, l.invariant.0, and_le_l (rest (goal.at.loop-rest-preserved c).In-loop-rest) (rest (goal.at.loop-rest-preserved c).In-loop-rest - 1)),
      omega arith,
      λ n y h r.
          let left = l.invariant.2 n y h r in
          let e = lost y left.counted in record {
            counted = left.counted ∙ sym (row_stays a.i a.x _ y _ _ e);
            same =
                ap (lose_row_m n a.i a.x y _) e
                ∙ sym (lowest_lost a.i a.x y 64 n (rest (goal.at.loop-rest-preserved c).In-loop-rest) _ (some (goal.at.loop-rest-preserved c).In-loop-rest) (fits (goal.at.loop-rest-preserved c).In-loop-rest) (low (goal.at.loop-rest-preserved c).In-loop-rest n h)) ∙ left.same;
          },
    )

pub returns : goal.returns
returns c n y h r =
    let l = c.loop-rest in
    let none : l.rest ≡ 0 = omega (arith, c.loop-rest-test.false) in
    let a = c.args in
    sym (empty_lost a.i a.x y n (mem_of l.cells))
    ∙ ap (λ (k : ℕ). lose_row_m n a.i a.x y k (mem_of l.cells)) (sym none) ∙ (l.invariant.2 n y h r).same
