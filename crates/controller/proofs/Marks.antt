-- The marks as a row of bits: one more mark, and all of them.
use Prim.Native.Nat.{ℕ, ◌+◌, ◌^◌, ◌<◌}
use mathlib.Core.Bool.{Bool, true, false, cond}
use mathlib.Core.Path.{◌≡◌, refl, sym, ap, subst}
use native.Mathlib.Omega.{arith}
use borrow.Author.Tests.{eqb-true, eq-eqb}
use lib.Dec.{eqb}
use lib.Pow.{pow_pos}
use Rattle.base.proofs.Below.{all_below_lem, every_below}
use Rattle.base.proofs.Bools.{bool_ext}
use Rattle.base.proofs.Choice.{update_same, update_other}
use Rattle.base.proofs.Row.{row_held, row_small, row_ext, row_of_bits, row_full}
use Rattle.base.proofs.Sums.{sum_change}
use Rattle.base.specs.Below.{all_below}
use Rattle.base.specs.Choice.{update}
use Rattle.base.specs.Row.{bit, row_of}
use Rattle.controller.specs.Controller.{with_mark}

module _ (p marks : ℕ) (small : marks < 2 ^ p) where
  -- the marks with that of row `i` are the row of a test changed at `i`
  mark_row : (i : ℕ) → i < p → with_mark marks i ≡ row_of p (update (bit marks) i true)
  unfolding with_mark row_of
  mark_row i h = go (bit marks i) refl
    where
      part : (ℕ → Bool) → ℕ → ℕ
      part t w = cond (t w) (2 ^ w) 0

      new : ℕ → Bool
      new = update (bit marks) i true

      same : (j : ℕ) → j < p → (j ≡ i → ⊥) → part (bit marks) j ≡ part new j
      same j l n = ap (λ (b : Bool). cond b (2 ^ j) 0) (sym (update_other (bit marks) i true j n))

      go : (b : Bool) → bit marks i ≡ b → cond b marks (marks + 2 ^ i) ≡ row_of p new
      go b e =
          omega (
            arith,
            row_of_bits p marks small,
            sum_change p (part (bit marks)) (part new) i h same,
            ap (λ (b : Bool). cond b (2 ^ i) 0) (update_same (bit marks) i true),
            ap (λ (b : Bool). cond b (2 ^ i) 0) e,
            either b,
          )
        where
          either : (b : Bool) → cond b marks (marks + 2 ^ i) + cond b (2 ^ i) 0 ≡ marks + 2 ^ i
          either true = refl
          either false = omega arith

  -- one more mark stays within the row
  pub mark_small : (i : ℕ) → i < p → with_mark marks i < 2 ^ p
  mark_small i h = subst (λ (r : ℕ). r < 2 ^ p) (sym (mark_row i h)) (row_small p (update (bit marks) i true))

  -- it is there, and the others are as they were
  pub mark_bit : (i : ℕ) → i < p → (w : ℕ) → w < p → bit (with_mark marks i) w ≡ update (bit marks) i true w
  mark_bit i h w l = row_held p _ (update (bit marks) i true) (mark_row i h) w l

  -- all are there exactly if the row is one less than the next power of two
  pub marks_full : eqb (marks + 1) (2 ^ p) ≡ all_below p (bit marks)
  marks_full =
      bool_ext (eqb (marks + 1) (2 ^ p)) (all_below p (bit marks))
      (λ e.
      let r : marks ≡ row_of p (λ w. true) = omega (arith, eqb-true (marks + 1) (2 ^ p) e, row_full p) in
      every_below p (bit marks) (row_held p _ (λ w. true) r))
      (λ e.
      eq-eqb (marks + 1) (2 ^ p)
      (omega (arith, row_full p, pow_pos p, row_of_bits p marks small, row_ext p (bit marks) (λ w. true) (all_below_lem p (bit marks) e))))
