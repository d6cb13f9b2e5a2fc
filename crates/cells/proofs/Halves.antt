-- What a cell has for a row of a region, and the cell with another number for that row, by whether the region is halved.
use Prim.Native.Nat.{ℕ, ◌+◌, ◌*◌, ◌/◌, ◌%◌, ◌^◌, ◌<◌}
use mathlib.Core.Bool.{true, false}
use mathlib.Core.Logic.{⊎_elim}
use mathlib.Core.Path.{◌≡◌, refl, sym, ◌∙◌}
use native.Mathlib.Omega.{arith}
use borrow.Author.Tests.{eqb-true, eqb-false, eq-eqb, ne_eqb}
use lib.Bits.{bit_and, and_mask, and_high}
use Rattle.base.proofs.Bools.{decided}
use Rattle.base.proofs.Choice.{cond_true, cond_false, cond_same}
use Rattle.base.specs.Row.{is_odd}
use Rattle.cells.specs.Layout.{cell_row, room}
use Rattle.cells.specs.Memory.{share_of, with_share}
use Rattle.cells.specs.declared.Region.{Region}

-- a row is odd or even
by_parity : {A : Type 0} (i : ℕ) → (is_odd i ≡ true → i % 2 ≡ 1 → A) → (is_odd i ≡ false → i % 2 ≡ 0 → A) → A
by_parity i odd even =
    ⊎_elim (λ p. odd p (eqb-true (i % 2) 1 p)) (λ p. even p (omega (arith, eqb-false (i % 2) 1 p))) (decided (is_odd i))

module _ (g : Region) where
  pub room_halved : g.halved ≡ true → room g ≡ 256
  room_halved e = cond_true 256 65536 e

  pub room_whole : g.halved ≡ false → room g ≡ 65536
  room_whole e = cond_false 256 65536 e

  -- a cell of 0 has 0 for every row
  pub share_none : (i : ℕ) → share_of g i 0 ≡ 0
  unfolding share_of
  share_none i = cond_same g.halved _ 0 0 (cond_same (is_odd i) _ _ 0 refl refl) refl

  module _ (i c : ℕ) where
    pub share_whole : g.halved ≡ false → share_of g i c ≡ c
    unfolding share_of
    share_whole e = cond_false _ c e

    share_odd : g.halved ≡ true → is_odd i ≡ true → share_of g i c ≡ c / 256
    unfolding share_of
    share_odd e p = cond_true _ c e ∙ cond_true (c / 256) (c % 256) p

    share_even : g.halved ≡ true → is_odd i ≡ false → share_of g i c ≡ c % 256
    unfolding share_of
    share_even e p = cond_true _ c e ∙ cond_false (c / 256) (c % 256) p

  module _ (i v c : ℕ) where
    pub with_whole : g.halved ≡ false → with_share g i v c ≡ v
    unfolding with_share
    with_whole e = cond_false _ v e

    with_odd : g.halved ≡ true → is_odd i ≡ true → with_share g i v c ≡ v * 256 + c % 256
    unfolding with_share
    with_odd e p = cond_true _ v e ∙ cond_true (v * 256 + c % 256) (c / 256 * 256 + v) p

    with_even : g.halved ≡ true → is_odd i ≡ false → with_share g i v c ≡ c / 256 * 256 + v
    unfolding with_share
    with_even e p = cond_true _ v e ∙ cond_false (v * 256 + c % 256) (c / 256 * 256 + v) p

  -- the half of a cell, as the code works it out
  pub share_shifted : (i c : ℕ) → g.halved ≡ true → c < 65536 → c / 2 ^ (i % 2 * 8) % 256 ≡ share_of g i c
  share_shifted i c h low =
      by_parity i (λ p q. rw q (omega (arith, share_odd i c h p))) (λ p q. rw q (omega (arith, share_even i c h p)))

  -- and the cell with another number there, which fits again
  pub with_shifted : (i v c : ℕ) → g.halved ≡ true → v < room g → c < 65536
      → (bit_and c (65280 / 2 ^ (i % 2 * 8)) + v * 2 ^ (i % 2 * 8) % 2 ^ 64 ≡ with_share g i v c) × (with_share g i v c < 65536)
  with_shifted i v c h small low =
      by_parity i (λ p q. rw q (omega (arith, room_halved h, with_odd i v c h p, and_mask c 8)))
      (λ p q. rw q (omega (arith, room_halved h, with_even i v c h p, and_high c 8 8)))

  module _ (i v c : ℕ) (small : v < room g) where
    -- the row has the number that was put for it
    pub share_same : share_of g i (with_share g i v c) ≡ v
    share_same =
        ⊎_elim
        (λ h.
        by_parity i (λ p q. share_odd i (with_share g i v c) h p ∙ omega (arith, with_odd i v c h p))
        (λ p q. share_even i (with_share g i v c) h p ∙ omega (arith, room_halved h, with_even i v c h p)))
        (λ h. share_whole i (with_share g i v c) h ∙ with_whole i v c h) (decided g.halved)

    -- and the other row that shares its cells what it had
    pub share_other : (k : ℕ) → cell_row g k ≡ cell_row g i → (k ≡ i → ⊥) → share_of g k (with_share g i v c) ≡ share_of g k c
    share_other k e n =
        ⊎_elim
        (λ h.
        let pair : k / 2 ≡ i / 2 = sym (cond_true (k / 2) k h) ∙ e ∙ cond_true (i / 2) i h in
        by_parity i
        (λ p q.
        let even : is_odd k ≡ false = ne_eqb (k % 2) 1 (omega (arith, n)) in
        share_even k (with_share g i v c) h even ∙ omega (arith, with_odd i v c h p) ∙ sym (share_even k c h even))
        (λ p q.
        let odd : is_odd k ≡ true = eq-eqb (k % 2) 1 (omega (arith, n)) in
        share_odd k (with_share g i v c) h odd ∙ omega (arith, room_halved h, with_even i v c h p) ∙ sym (share_odd k c h odd)))
        (λ h. absurd (n (sym (cond_false (k / 2) k h) ∙ e ∙ cond_false (i / 2) i h))) (decided g.halved)
