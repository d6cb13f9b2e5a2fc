-- `base::count_four` looks up how many values a row of four has. Assumes nothing.
use Prim.Native.Nat.{ℕ, ◌*◌, ◌/◌, ◌%◌, ◌^◌}
use mathlib.Core.Bool.{true}
use mathlib.Core.Path.{◌≡◌, refl}
use native.Mathlib.Omega.{arith}
use borrow.Author.Tests.{eqb-true}
use lib.Dec.{eqb}
use Rattle.base.proofs.Below.{all_below_lem}
use Rattle.base.specs.Below.{all_below}
use Rattle.base.specs.Row.{row_count, row_count_in, without_lowest}
use Rattle.base.proofs.count_four.Goals as goal

-- what `OF_FOUR` (src/lib.rt) has for row `k`
abbrev looked-up : ℕ → ℕ
looked-up k = 0x4332322132212110 / 2 ^ (4 * k) % 16

-- it is that row's count
looked-up-counts : all_below 16 (λ k. eqb (looked-up k) (row_count 4 k)) ≡ true
unfolding row_count row_count_in without_lowest
looked-up-counts = refl

pub returns : goal.returns
returns c =
    let row = c.args.row % 16 in
    eqb-true _ _ (all_below_lem 16 (λ k. eqb (looked-up k) (row_count 4 k)) looked-up-counts row (omega arith))
