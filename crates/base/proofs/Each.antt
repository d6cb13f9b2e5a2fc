-- The members of a list: where they stand, and what holds of each of them.
use Prim.Native.Nat.{ℕ, zero, suc, ◌<◌, zero-le, suc-le-suc}
use mathlib.Core.Bool.{Bool, true}
use mathlib.Core.List.Memᴰ
use mathlib.Core.List.{List, [], ◌∷◌, ◌++◌, map, Memᴰ}
use mathlib.Core.Logic.{⊎_elim}
use mathlib.Core.Path.{◌≡◌, refl, sym, subst}
use native.Mathlib.Nat.{not-suc-le-zero, le_of_suc-le-suc, le_step, le_refl}
use lib.ListN.{length, get_or}
use Rattle.base.proofs.Below.{below_cases}
use Rattle.base.proofs.Bools.{and_intro}
use Rattle.base.specs.Below.{gather_below}
use Rattle.base.specs.Choice.{all_of}

module _ {ℓ} {A : Type ℓ} where
  -- a member of one of the lists is a member of all of them joined
  pub member_gather : (n : ℕ) (f : ℕ → List A) (i : ℕ) {a : A} → i < n → Memᴰ a (f i) → Memᴰ a (gather_below n f)
  member_gather zero f i h m = absurd (not-suc-le-zero h)
  member_gather (suc n) f i {a} h m =
      ⊎_elim
      (λ e. Memᴰ.append_right (gather_below n f) (subst (λ (j : ℕ). Memᴰ a (f j)) e m))
      (λ l. Memᴰ.append_left (f n) (member_gather n f i l m))
      (below_cases h)

  -- and a member of all of them joined is one of theirs
  pub gather_member : (n : ℕ) (f : ℕ → List A) {a : A} → Memᴰ a (gather_below n f) → (i : ℕ) × (i < n) × Memᴰ a (f i)
  gather_member zero f m = absurd (Memᴰ.not-nil m)
  gather_member (suc n) f m =
      ⊎_elim (λ l. let r = gather_member n f l in (r.0, le_step r.1, r.2)) (λ r. (n, le_refl (suc n), r))
      (Memᴰ.append_cases (gather_below n f) m)

  -- what stands at a place of a list is a member
  pub at_member : (l : List A) (d : A) (i : ℕ) → i < length l → Memᴰ (get_or l i d) l
  at_member [] d i h = absurd (not-suc-le-zero h)
  at_member (a ∷ l) d zero h = Memᴰ.head refl
  at_member (a ∷ l) d (suc i) h = Memᴰ.tail (at_member l d i (le_of_suc-le-suc h))

  -- and a member stands at some place
  pub member_at : (l : List A) (d : A) {a : A} → Memᴰ a l → (i : ℕ) × (i < length l) × (get_or l i d ≡ a)
  member_at [] d m = absurd (Memᴰ.not-nil m)
  member_at (b ∷ l) d m =
      ⊎_elim (λ e. (zero, suc-le-suc zero-le, sym e))
      (λ t. let r = member_at l d t in (suc r.0, suc-le-suc r.1, r.2)) (Memᴰ.cases_cons m)

  -- the statement holds of each member of the list
  abbrev pub Each : (A → Type 0) → List A → Type 0
  Each P [] = Unit
  Each P (a ∷ l) = P a × Each P l

  module _ (P : A → Type 0) where
    -- so it holds of any member
    pub each_member : (l : List A) → Each P l → {a : A} → Memᴰ a l → P a
    each_member [] h i = absurd (Memᴰ.not-nil i)
    each_member (b ∷ l) h i =
        ⊎_elim (λ x. subst P (sym x) h.0) (λ x. each_member l h.1 x) (Memᴰ.cases_cons i)

    -- two lists joined
    pub each_append : (l m : List A) → Each P l → Each P m → Each P (l ++ m)
    each_append [] m h g = g
    each_append (a ∷ l) m h g = (h.0, each_append l m h.1 g)

    -- many lists joined
    pub each_gather : (n : ℕ) (f : ℕ → List A) → ((i : ℕ) → i < n → Each P (f i)) → Each P (gather_below n f)
    each_gather zero f h = tt
    each_gather (suc n) f h =
        each_append (gather_below n f) (f n) (each_gather n f (λ i l. h i (le_step l))) (h n (le_refl (suc n)))

    -- what follows from it for each member
    pub each_mono : (Q : A → Type 0) → ((a : A) → P a → Q a) → (l : List A) → Each P l → Each Q l
    each_mono Q f [] h = tt
    each_mono Q f (a ∷ l) h = (f a h.0, each_mono Q f l h.1)

-- the members' images
pub each_map {ℓ κ} : {A : Type ℓ} {B : Type κ} (P : B → Type 0) (g : A → B) (l : List A) → Each (λ a. P (g a)) l
    → Each P (map g l)
each_map P g [] h = tt
each_map P g (a ∷ l) h = (h.0, each_map P g l h.1)

-- a test that each member passes is passed by all
pub each_all {ℓ} : {A : Type ℓ} (t : A → Bool) (l : List A) → Each (λ a. t a ≡ true) l → all_of t l ≡ true
each_all t [] h = refl
each_all t (a ∷ l) h = and_intro h.0 (each_all t l h.1)
