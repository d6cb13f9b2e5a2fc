-- Boolean tests, taken apart and put together.
use mathlib.Core.Bool.{Bool, true, false, ◌&&◌, ◌||◌, not, false≢true}
use mathlib.Core.Logic.{◌⊎◌, inl, inr}
use mathlib.Core.Path.{◌≡◌, refl, sym, ◌∙◌, ap}

-- a test holds or fails
pub decided : (b : Bool) → (b ≡ true) ⊎ (b ≡ false)
decided true = inl refl
decided false = inr refl

-- and never both
pub clash {ℓ} : {A : Type ℓ} {b : Bool} → b ≡ true → b ≡ false → A
clash p q = absurd (false≢true (sym q ∙ p))

-- ---- &&

-- where two tests hold, the first does
pub and_left : (a b : Bool) → a && b ≡ true → a ≡ true
and_left true b e = refl
and_left false b e = e

-- and the second
pub and_right : (a b : Bool) → a && b ≡ true → b ≡ true
and_right true b e = e
and_right false b e = absurd (false≢true e)

-- tests that hold each hold together
pub and_intro : {a b : Bool} → a ≡ true → b ≡ true → a && b ≡ true
and_intro {a} {b} p q = ap (λ (x : Bool). x && b) p ∙ q

-- a test beside one that holds decides alone
pub and_true : (a : Bool) {b : Bool} → b ≡ true → a && b ≡ a
and_true true e = e
and_true false e = refl

-- two tests fail where the first does
pub and_false_left : {a : Bool} (b : Bool) → a ≡ false → a && b ≡ false
and_false_left b p = ap (λ (x : Bool). x && b) p

-- or the second
pub and_false_right : (a : Bool) {b : Bool} → b ≡ false → a && b ≡ false
and_false_right true q = q
and_false_right false q = refl

-- where two tests fail, one of them does
pub and-false : (a b : Bool) → a && b ≡ false → (a ≡ false) ⊎ (b ≡ false)
and-false true b e = inr e
and-false false b e = inl refl

-- ---- ||

-- where one of two tests holds, the first does or the second
pub or_cases : (a b : Bool) → a || b ≡ true → (a ≡ true) ⊎ (b ≡ true)
or_cases true b e = inl refl
or_cases false b e = inr e

-- one of two tests holds where the first does
pub or_left : {a : Bool} (b : Bool) → a ≡ true → a || b ≡ true
or_left b p = ap (λ (x : Bool). x || b) p

-- or the second
pub or_right : (a : Bool) {b : Bool} → b ≡ true → a || b ≡ true
or_right true q = refl
or_right false q = q

-- the middle two of four tests change places
pub and_swap : (a b c d : Bool) → (a && b) && (c && d) ≡ (a && c) && (b && d)
and_swap true true c d = refl
and_swap true false true d = refl
and_swap true false false d = refl
and_swap false b c d = refl

-- where neither holds, the first fails
pub or_false_left : (a b : Bool) → a || b ≡ false → a ≡ false
or_false_left true b e = e
or_false_left false b e = refl

-- and the second
pub or_false_right : (a b : Bool) → a || b ≡ false → b ≡ false
or_false_right true b e = absurd (false≢true (sym e))
or_false_right false b e = e

-- the second of two tests holds where the first fails
pub or_second : {a : Bool} (b : Bool) → a ≡ false → a || b ≡ true → b ≡ true
or_second b p e = ap (λ (x : Bool). x || b) (sym p) ∙ e

-- tests that fail each fail together
pub or_false : {a b : Bool} → a ≡ false → b ≡ false → a || b ≡ false
or_false {a} {b} p q = ap (λ (x : Bool). x || b) p ∙ q

-- ---- not

-- the contrary of a test that fails
pub not_of : {b : Bool} → b ≡ false → not b ≡ true
not_of p = ap not p

-- and of one that holds
pub not_of_true : {b : Bool} → b ≡ true → not b ≡ false
not_of_true p = ap not p

-- ---- two tests are equal where each implies the other

-- tests that imply each other are equal
pub bool_ext : (a b : Bool) → (a ≡ true → b ≡ true) → (b ≡ true → a ≡ true) → a ≡ b
bool_ext true b f g = sym (f refl)
bool_ext false true f g = g refl
bool_ext false false f g = refl

-- a test that cannot hold fails
pub refuted : (b : Bool) → (b ≡ true → ⊥) → b ≡ false
refuted true h = absurd (h refl)
refuted false h = refl

-- ---- not a || b: where the first test holds, so does the second

-- what follows from a test that holds
pub implied : (a b : Bool) → not a || b ≡ true → a ≡ true → b ≡ true
implied true b e p = e
implied false b e p = absurd (false≢true p)

-- a test follows from another where it holds with it
pub implies : (a b : Bool) → (a ≡ true → b ≡ true) → not a || b ≡ true
implies true b f = f refl
implies false b f = refl

-- where it does not follow, the first holds and it fails
pub not_implied : (a b : Bool) → not a || b ≡ false → (a ≡ true) × (b ≡ false)
not_implied true b e = (refl, e)
not_implied false b e = absurd (false≢true (sym e))
