-- The lowest value of a row: where it stands, and the row without it.
use Prim.Native.Nat.{ℕ, zero, suc, ◌+◌, ◌-◌, ◌*◌, ◌/◌, ◌%◌, ◌^◌, ◌<◌, min}
use mathlib.Core.Bool.{true, false, cond}
use mathlib.Core.Logic.{⊎_elim}
use mathlib.Core.Path.{◌≡◌, refl, sym, ◌∙◌, ap}
use native.Mathlib.Nat.{not-suc-le-zero, le_of_suc-le-suc}
use native.Mathlib.Omega.{arith}
use borrow.Author.Tests.{eqb-true, eqb-false, eq-eqb, ne_eqb}
use lib.Bits.{bit_and, and_step, and_self}
use lib.Count.{count_trailing_zeros, under}
use lib.Dec.{eqb}
use Rattle.base.proofs.Bools.{decided}
use Rattle.base.proofs.Choice.{cond_true, cond_false}
use Rattle.base.proofs.Row.{bit_zero, bit_suc, half_small}
use Rattle.base.specs.Row.{is_odd, bit, without_lowest}

-- `r & (r - 1)` is the row without its lowest value
lowest_and : (n r : ℕ) → 0 < r → r < 2 ^ n → bit_and r (r - 1) ≡ without_lowest n r
unfolding without_lowest
lowest_and zero r l h = omega arith
lowest_and (suc n) r l h =
    ⊎_elim
    (λ p.
    let odd : r % 2 ≡ 1 = eqb-true (r % 2) 1 p in
    omega
    (arith, halves (r / 2) (omega arith), and_self (r / 2), cond_true (r - 1) (2 * without_lowest n (r / 2)) p))
    (λ p.
    let even : r % 2 ≡ 0 = omega (arith, eqb-false (r % 2) 1 p) in
    omega (
      arith,
      halves (r / 2 - 1) (omega arith),
      lowest_and n (r / 2) (omega arith) (half_small n r h),
      cond_false (r - 1) (2 * without_lowest n (r / 2)) p,
    ))
    (decided (is_odd r))
  where
    halves : (a : ℕ) → (r - 1) / 2 ≡ a → bit_and r (r - 1) ≡ bit_and (r / 2) a * 2 + min (r % 2) ((r - 1) % 2)
    halves a e = and_step r (r - 1) ∙ ap (λ (k : ℕ). bit_and (r / 2) k * 2 + min (r % 2) ((r - 1) % 2)) e

-- value `t` is the lowest of row `r`, and `rest` is the row without it
pub record Lowest (r t rest : ℕ) : Type 0 where
  pub held : bit r t ≡ true
  pub none_before : (u : ℕ) → u < t → bit r u ≡ false
  pub gone : bit rest t ≡ false
  pub others : (u : ℕ) → (u ≡ t → ⊥) → bit rest u ≡ bit r u

-- of an odd row it is value 0
odd_lowest : (r : ℕ) → is_odd r ≡ true → Lowest r 0 (r - 1)
odd_lowest r p =
    let odd : r % 2 ≡ 1 = eqb-true (r % 2) 1 p in record {
      held = bit_zero r ∙ p;
      none_before = λ u h. absurd (not-suc-le-zero h);
      gone = bit_zero (r - 1) ∙ ne_eqb ((r - 1) % 2) 1 (λ e. omega arith);
      others = other odd;
    }
  where
    other : r % 2 ≡ 1 → (u : ℕ) → (u ≡ 0 → ⊥) → bit (r - 1) u ≡ bit r u
    other odd zero n = absurd (n refl)
    other odd (suc u) n =
        let e : (r - 1) / 2 ≡ r / 2 = omega arith in
        bit_suc (r - 1) u ∙ ap (λ (k : ℕ). bit k u) e ∙ sym (bit_suc r u)

-- of an even one it is one more than that of its half
even_lowest : (r t rest : ℕ) → is_odd r ≡ false → Lowest (r / 2) t rest → Lowest r (suc t) (2 * rest)
even_lowest r t rest p l = record {
  held = bit_suc r t ∙ l.held;
  none_before = before;
  gone = doubled t ∙ l.gone;
  others = other;
}
  where
    doubled : (u : ℕ) → bit (2 * rest) (suc u) ≡ bit rest u
    doubled u = let e : 2 * rest / 2 ≡ rest = omega arith in bit_suc (2 * rest) u ∙ ap (λ (k : ℕ). bit k u) e

    before : (u : ℕ) → u < suc t → bit r u ≡ false
    before zero h = bit_zero r ∙ p
    before (suc u) h = bit_suc r u ∙ l.none_before u (le_of_suc-le-suc h)

    other : (u : ℕ) → (u ≡ suc t → ⊥) → bit (2 * rest) u ≡ bit r u
    other zero n = bit_zero (2 * rest) ∙ ne_eqb (2 * rest % 2) 1 (λ e. omega arith) ∙ sym (bit_zero r ∙ p)
    other (suc u) n = doubled u ∙ l.others u (λ e. n (ap suc e)) ∙ sym (bit_suc r u)

-- `count_trailing_zeros` finds it
lowest_found : (n r : ℕ) → 0 < r → r < 2 ^ n → Lowest r (count_trailing_zeros n r) (without_lowest n r)
unfolding count_trailing_zeros without_lowest
lowest_found zero r l h = absurd (omega arith)
lowest_found (suc n) r l h = go (r % 2) refl (λ e. lowest_found n (r / 2) (omega arith) (half_small n r h))
  where
    go : (d : ℕ) → r % 2 ≡ d → (r % 2 ≡ 0 → Lowest (r / 2) (count_trailing_zeros n (r / 2)) (without_lowest n (r / 2)))
        → Lowest r (under d (count_trailing_zeros n (r / 2))) (cond (eqb d 1) (r - 1) (2 * without_lowest n (r / 2)))
    go zero e half = even_lowest r _ _ (ne_eqb (r % 2) 1 (λ p. omega arith)) (half e)
    go (suc zero) e half = odd_lowest r (eq-eqb (r % 2) 1 e)
    go (suc (suc d)) e half = absurd (omega arith)

-- and `r & (r - 1)` is the row without it
pub lowest_value : (n r : ℕ) → 0 < r → r < 2 ^ n → Lowest r (count_trailing_zeros n r) (bit_and r (r - 1))
lowest_value n r l h = rw (lowest_and n r l h) (lowest_found n r l h)
