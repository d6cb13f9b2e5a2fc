-- A row of bits that takes in values: what it holds then, and how many of them are new.
use Prim.Native.Nat.{ℕ, ◌+◌, ◌^◌, ◌<◌}
use mathlib.Core.Bool.{Bool, true, false, ◌||◌, not, or_assoc}
use mathlib.Core.Path.{◌≡◌, refl, sym, ◌∙◌, ap}
use native.Mathlib.Omega.{arith}
use borrow.Author.Tests.{eq-eqb, ne_eqb}
use lib.Bits.{bit_or}
use lib.Dec.{eqb}
use Rattle.base.proofs.Bools.{or_right}
use Rattle.base.proofs.Row.{bit-bit_or, bit_power}
use Rattle.base.proofs.Sums.{sum_change}
use Rattle.base.specs.Below.{one, count_below}
use Rattle.base.specs.Row.{bit}

-- row `after` has what `before` has and the values below `y` that pass a test; so many of these are new
pub record Grown (y : ℕ) (t : ℕ → Bool) (before after fresh : ℕ) : Type 0 where
  pub bits : (x : ℕ) → x < y → bit after x ≡ bit before x || t x
  pub counted : count_below y (bit after) ≡ count_below y (bit before) + fresh

-- a test that fails adds nothing
pub or_none : (a b : Bool) → b ≡ false → a ≡ a || b
or_none true b e = refl
or_none false b e = sym e

-- none taken in yet
pub grown_none : (y : ℕ) (t : ℕ → Bool) (row : ℕ) → ((x : ℕ) → t x ≡ false) → Grown y t row row 0
grown_none y t row h = record { bits = λ x l. or_none (bit row x) (t x) (h x); counted = omega arith }

-- value x taken in
module _ (row x : ℕ) where
  abbrev with_it : ℕ
  with_it = bit_or row (2 ^ x)

  with_bit : (z : ℕ) → bit with_it z ≡ bit row z || eqb z x
  with_bit z = bit-bit_or row (2 ^ x) z ∙ ap (λ (a : Bool). bit row z || a) (bit_power x z)

  with_self : bit with_it x ≡ true
  with_self = with_bit x ∙ or_right (bit row x) (eq-eqb x x refl)

  with_other : (z : ℕ) → (z ≡ x → ⊥) → bit row z ≡ bit with_it z
  with_other z d = or_none (bit row z) (eqb z x) (ne_eqb z x d) ∙ sym (with_bit z)

  either : (a : Bool) → one a + one (not a) ≡ 1
  either true = refl
  either false = refl

  with_count : (y : ℕ) → x < y → count_below y (bit with_it) ≡ count_below y (bit row) + one (not (bit row x))
  with_count y l =
      omega (
        arith,
        sum_change y (λ z. one (bit row z)) (λ z. one (bit with_it z)) x l (λ z h d. ap one (with_other z d)),
        ap one with_self,
        either (bit row x),
      )

pub grown_more : (y : ℕ) (t u : ℕ → Bool) (before row fresh x new : ℕ) → Grown y t before row fresh → x < y
    → new ≡ one (not (bit row x)) → ((z : ℕ) → u z ≡ t z || eqb z x) → Grown y u before (bit_or row (2 ^ x)) (fresh + new)
grown_more y t u before row fresh x new g l e h = record {
  bits = λ z p.
      with_bit row x z ∙ ap (λ (a : Bool). a || eqb z x) (g.bits z p) ∙ or_assoc (bit before z) (t z) (eqb z x)
      ∙ ap (λ (a : Bool). bit before z || a) (sym (h z));
  counted = omega (arith, with_count row x y l, g.counted);
}
