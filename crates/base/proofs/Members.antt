-- Tests over the members of a list: by their places, and of lists joined.
use Prim.Native.Nat.{ℕ, zero, suc, ◌<◌, zero-le, suc-le-suc}
use mathlib.Core.Bool.{Bool, true, ◌||◌, false≢true}
use mathlib.Core.List.{List, [], ◌∷◌, ◌++◌}
use mathlib.Core.Logic.{◌⊎◌, inl, inr, ⊎_elim}
use mathlib.Core.Path.{◌≡◌, refl, ap₂}
use native.Mathlib.Nat.{not-suc-le-zero, le_of_suc-le-suc}
use lib.ListN.{length, get_or}
use Rattle.base.proofs.Below.{all_below_lem, every_below, any_below_lem, some_below}
use Rattle.base.proofs.Bools.{and_left, and_right, and_intro, or_cases, or_left, or_right, bool_ext}
use Rattle.base.specs.Below.{all_below, any_below}
use Rattle.base.specs.Choice.{any_of, all_of}

module _ {ℓ} {A : Type ℓ} where
  -- a test that all members pass is passed at each place
  pub all_at : (t : A → Bool) (l : List A) (d : A) → all_of t l ≡ true → (i : ℕ) → i < length l → t (get_or l i d) ≡ true
  all_at t [] d e i h = absurd (not-suc-le-zero h)
  all_at t (a ∷ l) d e zero h = and_left (t a) (all_of t l) e
  all_at t (a ∷ l) d e (suc i) h = all_at t l d (and_right (t a) (all_of t l) e) i (le_of_suc-le-suc h)

  -- a test that is passed at each place is passed by all members
  pub at_all : (t : A → Bool) (l : List A) (d : A) → ((i : ℕ) → i < length l → t (get_or l i d) ≡ true) → all_of t l ≡ true
  at_all t [] d f = refl
  at_all t (a ∷ l) d f =
      and_intro (f zero (suc-le-suc zero-le)) (at_all t l d (λ i h. f (suc i) (suc-le-suc h)))

  -- a test that some member passes is passed at some place
  pub any_at : (t : A → Bool) (l : List A) (d : A) → any_of t l ≡ true → (i : ℕ) × (i < length l) × (t (get_or l i d) ≡ true)
  any_at t [] d e = absurd (false≢true e)
  any_at t (a ∷ l) d e =
      ⊎_elim (λ p. (zero, suc-le-suc zero-le, p))
      (λ p.
      let r : (i : ℕ) × (i < length l) × (t (get_or l i d) ≡ true) = any_at t l d p in
      (suc r.0, suc-le-suc r.1, r.2))
      (or_cases (t a) (any_of t l) e)

  -- a test that is passed at some place is passed by some member
  pub at_any : (t : A → Bool) (l : List A) (d : A) (i : ℕ) → i < length l → t (get_or l i d) ≡ true → any_of t l ≡ true
  at_any t [] d i h e = absurd (not-suc-le-zero h)
  at_any t (a ∷ l) d zero h e = or_left (any_of t l) e
  at_any t (a ∷ l) d (suc i) h e = or_right (t a) (at_any t l d i (le_of_suc-le-suc h) e)

  module _ (t : A → Bool) (l : List A) (d : A) where
    -- all members pass where each place below the length does
    pub all_places : all_of t l ≡ all_below (length l) (λ i. t (get_or l i d))
    all_places =
        bool_ext (all_of t l) (all_below (length l) (λ i. t (get_or l i d)))
        (λ e. every_below (length l) (λ i. t (get_or l i d)) (all_at t l d e))
        (λ e. at_all t l d (all_below_lem (length l) (λ i. t (get_or l i d)) e))

    -- some member passes where some place does
    pub any_places : any_of t l ≡ any_below (length l) (λ i. t (get_or l i d))
    any_places =
        bool_ext (any_of t l) (any_below (length l) (λ i. t (get_or l i d)))
        (λ e.
        let r = any_at t l d e in
        any_below_lem (length l) (λ i. t (get_or l i d)) r.0 r.1 r.2)
        (λ e.
        let r = some_below (length l) (λ i. t (get_or l i d)) e in
        at_any t l d r.0 r.1 r.2)

  -- equal tests are passed by the same lists
  pub any_ext : (s t : A → Bool) → ((a : A) → s a ≡ t a) → (l : List A) → any_of s l ≡ any_of t l
  any_ext s t h [] = refl
  any_ext s t h (a ∷ l) = ap₂ ◌||◌ (h a) (any_ext s t h l)

  -- a member of two lists joined that passes is one of the first or of the second
  pub any_of_split : (t : A → Bool) (l m : List A) → any_of t (l ++ m) ≡ true → (any_of t l ≡ true) ⊎ (any_of t m ≡ true)
  any_of_split t [] m e = inr e
  any_of_split t (a ∷ l) m e =
      ⊎_elim (λ p. inl (or_left (any_of t l) p))
      (λ q. ⊎_elim (λ p. inl (or_right (t a) p)) (λ p. inr p) (any_of_split t l m q))
      (or_cases (t a) (any_of t (l ++ m)) e)

  -- one of the first that passes is one of both
  pub any_of_left : (t : A → Bool) (l m : List A) → any_of t l ≡ true → any_of t (l ++ m) ≡ true
  any_of_left t [] m e = absurd (false≢true e)
  any_of_left t (a ∷ l) m e =
      ⊎_elim (λ p. or_left (any_of t (l ++ m)) p) (λ p. or_right (t a) (any_of_left t l m p)) (or_cases (t a) (any_of t l) e)

  -- and so is one of the second
  pub any_of_right : (t : A → Bool) (l m : List A) → any_of t m ≡ true → any_of t (l ++ m) ≡ true
  any_of_right t [] m e = e
  any_of_right t (a ∷ l) m e = or_right (t a) (any_of_right t l m e)
