-- Laws of a choice by a test, of results, of pointwise change, and of numbers between bounds.
use Prim.Native.Nat.{ℕ, ◌≤◌}
use mathlib.Core.Bool.{Bool, true, false, cond, ◌&&◌}
use mathlib.Core.Option.{Option, none, some}
use mathlib.Core.Path.{◌≡◌, refl, sym, ap, subst}
use native.Mathlib.Decide.{ℕ_discrete}
use native.Mathlib.Omega.{arith}
use borrow.Author.Tests.{leb-true, le-leb, eq-eqb, ne_eqb}
use lib.Dec.{leb, eqb}
use Rattle.base.proofs.Bools.{and_left, and_right, and_intro, and_false_left, and_false_right}
use Rattle.base.specs.Choice.{update, update₂, between}

-- what holds at one number and at every other, holds at each
pub everywhere : (P : ℕ → Type 0) (i : ℕ) → P i → ((k : ℕ) → (k ≡ i → ⊥) → P k) → (k : ℕ) → P k
everywhere P i here there k = elim (ℕ_discrete k i) [ yes e ↦ subst P (sym e) here | no n ↦ there k n ]

-- two numbers that are not both the same as two others
pub pair_other : (i k j l : ℕ) → (j ≡ i → l ≡ k → ⊥) → eqb j i && eqb l k ≡ false
pair_other i k j l h =
    elim (ℕ_discrete j i) [
      | yes p ↦ and_false_right (eqb j i) (ne_eqb l k (h p))
      | no n ↦ and_false_left (eqb l k) (ne_eqb j i n)
    ]

module _ {ℓ} {A : Type ℓ} where
  -- what is chosen where the test holds
  pub cond_true : {b : Bool} (x y : A) → b ≡ true → cond b x y ≡ x
  cond_true x y p = ap (λ (b : Bool). cond b x y) p

  -- and where it fails
  pub cond_false : {b : Bool} (x y : A) → b ≡ false → cond b x y ≡ y
  cond_false x y p = ap (λ (b : Bool). cond b x y) p

  -- choices whose parts agree where they are taken
  pub cond_ext : (b : Bool) (x x' y y' : A) → (b ≡ true → x ≡ x') → (b ≡ false → y ≡ y') → cond b x y ≡ cond b x' y'
  cond_ext true x x' y y' f g = f refl
  cond_ext false x x' y y' f g = g refl

  -- a choice between equals
  pub cond_same : (b : Bool) (x y a : A) → x ≡ a → y ≡ a → cond b x y ≡ a
  cond_same true x y a p q = p
  cond_same false x y a p q = q

  -- a choice taken apart
  pub by_test {κ} : {P : Type κ} (b : Bool) {x y a : A} → cond b x y ≡ a → (b ≡ true → x ≡ a → P) → (b ≡ false → y ≡ a → P)
      → P
  by_test true e f g = f refl e
  by_test false e f g = g refl e

  -- the value at the place that was changed
  pub update_same : (f : ℕ → A) (i : ℕ) (v : A) → update f i v i ≡ v
  update_same f i v = cond_true v (f i) (eq-eqb i i refl)

  -- and at any other
  pub update_other : (f : ℕ → A) (i : ℕ) (v : A) (j : ℕ) → (j ≡ i → ⊥) → update f i v j ≡ f j
  update_other f i v j h = cond_false v (f j) (ne_eqb j i h)

  -- the same for a function of two numbers
  pub update₂_same : (f : ℕ → ℕ → A) (i k : ℕ) (v : A) → update₂ f i k v i k ≡ v
  update₂_same f i k v = cond_true v (f i k) (and_intro (eq-eqb i i refl) (eq-eqb k k refl))

  -- and at any other place
  pub update₂_other : (f : ℕ → ℕ → A) (i k : ℕ) (v : A) (j l : ℕ) → (j ≡ i → l ≡ k → ⊥) → update₂ f i k v j l ≡ f j l
  update₂_other f i k v j l h = cond_false v (f j l) (pair_other i k j l h)

  -- so at another first number
  pub update₂_first : (f : ℕ → ℕ → A) (i k : ℕ) (v : A) (j l : ℕ) → (j ≡ i → ⊥) → update₂ f i k v j l ≡ f j l
  update₂_first f i k v j l h = update₂_other f i k v j l (λ p q. h p)

  -- and at another second number
  pub update₂_second : (f : ℕ → ℕ → A) (i k : ℕ) (v : A) (j l : ℕ) → (l ≡ k → ⊥) → update₂ f i k v j l ≡ f j l
  update₂_second f i k v j l h = update₂_other f i k v j l (λ p q. h q)

  -- what holds at the place that was changed and at every other, holds everywhere
  pub update_each : (P : ℕ → A → Type 0) (f : ℕ → A) (i : ℕ) (v : A) → P i v
      → ((j : ℕ) → (j ≡ i → ⊥) → P j (f j)) → (j : ℕ) → P j (update f i v j)
  update_each P f i v here there =
      everywhere (λ j. P j (update f i v j)) i (rw (update_same f i v) here) (λ j n. rw (update_other f i v j n) (there j n))

  -- the same for a function of two numbers
  pub update₂_each : (P : ℕ → ℕ → A → Type 0) (f : ℕ → ℕ → A) (i k : ℕ) (v : A) → P i k v
      → ((j l : ℕ) → (j ≡ i → l ≡ k → ⊥) → P j l (f j l)) → (j l : ℕ) → P j l (update₂ f i k v j l)
  update₂_each P f i k v here there j l =
      elim (ℕ_discrete j i) [
        | yes e ↦ elim (ℕ_discrete l k) [
          | yes d ↦ rw (e, d, update₂_same f i k v) here
          | no n ↦ rw (update₂_second f i k v j l n) (there j l (λ p q. n q))
        ]
        | no n ↦ rw (update₂_first f i k v j l n) (there j l (λ p q. n p))
      ]

-- nothing is not a result
pub none≢some {ℓ κ} : {A : Type ℓ} {B : Type κ} {a : A} → none ≡ some a → B
none≢some e = absurd (let z : ◌≡◌ {A = ℕ} 0 1 = cc in omega arith)

module _ {ℓ} {A : Type ℓ} where
  -- a result that there is only where a test holds
  pub if_some : (b : Bool) {o : Option A} {a : A} → cond b o none ≡ some a → (b ≡ true) × (o ≡ some a)
  if_some true e = (refl, e)
  if_some false e = none≢some e

  -- or only where it fails
  pub unless_some : (b : Bool) {o : Option A} {a : A} → cond b none o ≡ some a → (b ≡ false) × (o ≡ some a)
  unless_some true e = none≢some e
  unless_some false e = (refl, e)

  -- what holds of a result holds of the result that it equals
  pub some_same : (P : A → Type 0) {a b : A} → some a ≡ some b → P a → P b
  some_same P {a} {b} e p = let same : a ≡ b = cc in subst P same p

  -- a result that there is only where a test holds has what it has there
  pub if_holds : (P : A → Type 0) (b : Bool) {x a : A} → cond b (some x) none ≡ some a → (b ≡ true → P x) → P a
  if_holds P b e f = let went = if_some b e in some_same P went.1 (f went.0)

-- a number between two bounds
pub between_intro : (low high x : ℕ) → low ≤ x → x ≤ high → between low high x ≡ true
between_intro low high x p q = and_intro (le-leb low x p) (le-leb x high q)

-- it is at least the lower one
pub between_low : (low high x : ℕ) → between low high x ≡ true → low ≤ x
between_low low high x e = leb-true low x (and_left (leb low x) (leb x high) e)

-- and at most the upper one
pub between_high : (low high x : ℕ) → between low high x ≡ true → x ≤ high
between_high low high x e = leb-true x high (and_right (leb low x) (leb x high) e)
