-- Laws of the tests and lists below a bound.
use Prim.Native.Nat.{ℕ, zero, suc, ◌+◌, ◌-◌, ◌*◌, ◌<◌, ◌≤◌}
use mathlib.Core.Bool.{Bool, true, false, ◌&&◌, ◌||◌, not, false≢true}
use mathlib.Core.List.{List, [], ◌∷◌, ◌++◌, map, map-append}
use mathlib.Core.Logic.{◌⊎◌, ⊎_elim}
use mathlib.Core.Option.{Option, none, some}
use mathlib.Core.Path.{◌≡◌, refl, sym, ◌∙◌, ap, ap₂, subst}
use native.Mathlib.Decide.{ℕ_discrete}
use native.Mathlib.Nat.{not-suc-le-zero, eq-or-lt_of_le, le_of_suc-le-suc, le_step, le_refl, mul-zero, mul-suc, mul-le-mul_left}
use native.Mathlib.Numerals.{add-one}
use native.Mathlib.Omega.{arith}
use lib.ListN.{length, get_or, length-append, get_or-append}
use lib.Seq.{get_or_at, get_or-append-add}
use Rattle.base.proofs.Bools.{clash, refuted, and_left, and_right, and_intro, and-false, or_cases, or_left, or_right, or_false, and_swap}
use Rattle.base.proofs.Choice.{none≢some}
use Rattle.base.specs.Below.{sum_below, any_below, all_below, gather_below, list_below, first_below}
use Rattle.base.specs.Choice.{first_of}

-- below n + 1: below n, or n itself
pub below_cases : {n i : ℕ} → i < suc n → (i ≡ n) ⊎ (i < n)
below_cases h = eq-or-lt_of_le (le_of_suc-le-suc h)

-- what holds at a number and before it holds up to it
pub up_to : (P : ℕ → Type 0) (x : ℕ) → P x → ((n : ℕ) → n < x → P n) → (n : ℕ) → n < x + 1 → P n
up_to P x last before n h = elim (ℕ_discrete n x) [ yes e ↦ subst P (sym e) last | no d ↦ before n (omega arith) ]

-- what holds at a number other than 0 holds at one more than the number before it
pub at_suc : (P : ℕ → Type 0) (n : ℕ) → (n ≡ 0 → ⊥) → P n → P (suc (n - 1))
at_suc P n h p = subst P (omega arith) p

-- an index that passes makes some pass
pub any_below_lem : (n : ℕ) (t : ℕ → Bool) (i : ℕ) → i < n → t i ≡ true → any_below n t ≡ true
any_below_lem zero t i h e = absurd (not-suc-le-zero h)
any_below_lem (suc n) t i h e =
    ⊎_elim (λ p. or_right (any_below n t) (subst (λ (j : ℕ). t j ≡ true) p e))
    (λ p. or_left (t n) (any_below_lem n t i p e)) (below_cases h)

-- where some pass, here is one
pub some_below : (n : ℕ) (t : ℕ → Bool) → any_below n t ≡ true → (i : ℕ) × (i < n) × (t i ≡ true)
some_below zero t e = absurd (false≢true e)
some_below (suc n) t e =
    ⊎_elim (λ p. let r = some_below n t p in (r.0, le_step r.1, r.2)) (λ p. (n, le_refl (suc n), p))
    (or_cases (any_below n t) (t n) e)

-- one more index fails, or passes
pub any_more : (n : ℕ) (t : ℕ → Bool) → any_below n t ≡ false → t n ≡ false → any_below (n + 1) t ≡ false
any_more n t e p = rw add-one (or_false e p)

pub all_more : (n : ℕ) (t : ℕ → Bool) → all_below n t ≡ true → t n ≡ true → all_below (n + 1) t ≡ true
all_more n t e p = rw add-one (and_intro e p)

-- no index passes
pub none_below : (n : ℕ) (t : ℕ → Bool) → any_below n t ≡ false → (i : ℕ) → i < n → t i ≡ false
none_below n t e i h = refuted (t i) (λ p. clash (any_below_lem n t i h p) e)

-- where all pass, each does
pub all_below_lem : (n : ℕ) (t : ℕ → Bool) → all_below n t ≡ true → (i : ℕ) → i < n → t i ≡ true
all_below_lem zero t e i h = absurd (not-suc-le-zero h)
all_below_lem (suc n) t e i h =
    ⊎_elim (λ p. subst (λ (j : ℕ). t j ≡ true) (sym p) (and_right (all_below n t) (t n) e))
    (λ p. all_below_lem n t (and_left (all_below n t) (t n) e) i p) (below_cases h)

-- where each passes, all do
pub every_below : (n : ℕ) (t : ℕ → Bool) → ((i : ℕ) → i < n → t i ≡ true) → all_below n t ≡ true
every_below zero t f = refl
every_below (suc n) t f = and_intro (every_below n t (λ i h. f i (le_step h))) (f n (le_refl (suc n)))

-- tests that agree below the bound all hold alike
pub all_ext : (n : ℕ) (t u : ℕ → Bool) → ((i : ℕ) → i < n → t i ≡ u i) → all_below n t ≡ all_below n u
all_ext zero t u h = refl
all_ext (suc n) t u h = ap₂ ◌&&◌ (all_ext n t u (λ i l. h i (le_step l))) (h n (le_refl (suc n)))

-- and one holds alike
pub any_below_ext : (n : ℕ) (t u : ℕ → Bool) → ((i : ℕ) → i < n → t i ≡ u i) → any_below n t ≡ any_below n u
any_below_ext zero t u h = refl
any_below_ext (suc n) t u h = ap₂ ◌||◌ (any_below_ext n t u (λ i l. h i (le_step l))) (h n (le_refl (suc n)))

-- two tests that all pass
pub all_both : (n : ℕ) (t u : ℕ → Bool) → all_below n (λ i. t i && u i) ≡ all_below n t && all_below n u
all_both zero t u = refl
all_both (suc n) t u =
    ap (λ (b : Bool). b && (t n && u n)) (all_both n t u) ∙ and_swap (all_below n t) (all_below n u) (t n) (u n)

-- all fail where none passes
pub all_not : (n : ℕ) (t : ℕ → Bool) → all_below n (λ i. not (t i)) ≡ not (any_below n t)
all_not zero t = refl
all_not (suc n) t = rw (all_not n t) (both (any_below n t) (t n))
  where
    both : (a b : Bool) → not a && not b ≡ not (a || b)
    both true b = refl
    both false b = refl

-- some index fails
pub fails_below : (n : ℕ) (t : ℕ → Bool) → all_below n t ≡ false → (i : ℕ) × (i < n) × (t i ≡ false)
fails_below zero t e = absurd (false≢true (sym e))
fails_below (suc n) t e =
    ⊎_elim (λ p. let r = fails_below n t p in (r.0, le_step r.1, r.2)) (λ p. (n, le_refl (suc n), p))
    (and-false (all_below n t) (t n) e)

module _ {ℓ} {A : Type ℓ} where
  -- parts that agree below the bound are gathered alike
  pub gather_ext : (n : ℕ) (f g : ℕ → List A) → ((i : ℕ) → i < n → f i ≡ g i) → gather_below n f ≡ gather_below n g
  gather_ext zero f g h = refl
  gather_ext (suc n) f g h = ap₂ ◌++◌ (gather_ext n f g (λ i p. h i (le_step p))) (h n (le_refl (suc n)))

  -- empty parts gather nothing
  pub gather_none : (n : ℕ) (f : ℕ → List A) → ((i : ℕ) → i < n → f i ≡ []) → gather_below n f ≡ []
  gather_none zero f h = refl
  gather_none (suc n) f h = ap₂ ◌++◌ (gather_none n f (λ i p. h i (le_step p))) (h n (le_refl (suc n)))

  -- parts of at most `c i` members each gather at most the sum of these
  pub gather_length : (n : ℕ) (c : ℕ → ℕ) (f : ℕ → List A) → ((i : ℕ) → i < n → length (f i) ≤ c i)
      → length (gather_below n f) ≤ sum_below n c
  gather_length zero c f h = omega arith
  gather_length (suc n) c f h =
      omega (
        arith,
        length-append (gather_below n f) (f n),
        gather_length n c f (λ i p. h i (le_step p)),
        h n (le_refl (suc n)),
      )

  -- parts of `c` members each: so many together
  pub gather_even : (n c : ℕ) (f : ℕ → List A) → ((i : ℕ) → length (f i) ≡ c) → length (gather_below n f) ≡ c * n
  gather_even zero c f h = omega (arith, mul-zero c)
  gather_even (suc n) c f h = omega (arith, mul-suc c n, length-append (gather_below n f) (f n), gather_even n c f h, h n)

  -- and each part at its place
  pub gather_at : (n c : ℕ) (f : ℕ → List A) → ((i : ℕ) → length (f i) ≡ c) → (d : A) (x j : ℕ) → x < n → j < c
      → get_or (gather_below n f) (c * x + j) d ≡ get_or (f x) j d
  gather_at zero c f h d x j p q = absurd (not-suc-le-zero p)
  gather_at (suc n) c f h d x j p q =
      ⊎_elim
      (λ e.
      let at_end : c * x + j ≡ length (gather_below n f) + j = omega (arith, gather_even n c f h, ap (λ (k : ℕ). c * k) e) in
      ap (λ (k : ℕ). get_or (gather_below n f ++ f n) k d) at_end
      ∙ get_or-append-add (gather_below n f) (f n) j d
      ∙ ap (λ (k : ℕ). get_or (f k) j d) (sym e))
      (λ l.
      let inside : c * x + j < length (gather_below n f) = omega (arith, gather_even n c f h, mul-suc c x, mul-le-mul_left c l) in
      get_or-append (gather_below n f) (f n) d (c * x + j) inside ∙ gather_at n c f h d x j l q)
      (below_cases p)

  -- a function of every member of gathered parts
  pub map_gather : {B : Type ℓ} (h : A → B) (n : ℕ) (f : ℕ → List A) → gather_below n (λ i. map h (f i)) ≡ map h (gather_below n f)
  map_gather h zero f = refl
  map_gather h (suc n) f =
      ap (λ l. l ++ map h (f n)) (map_gather h n f) ∙ sym (map-append h (gather_below n f) (f n))

  -- results that agree below the bound are listed alike
  pub list_ext : (n : ℕ) (f g : ℕ → A) → ((i : ℕ) → i < n → f i ≡ g i) → list_below n f ≡ list_below n g
  list_ext n f g h = gather_ext n (λ i. f i ∷ []) (λ i. g i ∷ []) (λ i p. ap (λ (a : A). a ∷ []) (h i p))

  -- the first result apart
  pub list_first_lem : (n : ℕ) (f : ℕ → A) → list_below (suc n) f ≡ f 0 ∷ list_below n (λ i. f (suc i))
  list_first_lem zero f = refl
  list_first_lem (suc n) f = ap (λ (l : List A). l ++ (f (suc n) ∷ [])) (list_first_lem n f)

  -- a list of n results has length n
  pub length_list_below : (n : ℕ) (f : ℕ → A) → length (list_below n f) ≡ n
  length_list_below zero f = refl
  length_list_below (suc n) f = length-append (list_below n f) (f n ∷ []) ∙ omega (arith, length_list_below n f)

  -- and holds each result at its index
  pub get_d_list_below : (n : ℕ) (f : ℕ → A) (d : A) (i : ℕ) → i < n → get_or (list_below n f) i d ≡ f i
  get_d_list_below zero f d i h = absurd (not-suc-le-zero h)
  get_d_list_below (suc n) f d i h =
      ⊎_elim
      (λ p.
      get_or_at (list_below n f) (f n) [] d i (length_list_below n f ∙ sym p) ∙ ap f (sym p))
      (λ p.
      get_or-append (list_below n f) (f n ∷ []) d i (subst (λ (m : ℕ). i < m) (sym (length_list_below n f)) p)
      ∙ get_d_list_below n f d i p)
      (below_cases h)

  -- the lowest index with a result, and what it gives
  pub first_below_lem : (n : ℕ) (f : ℕ → Option A) (a : A) → first_below n f ≡ some a
      → (i : ℕ) × (i < n) × (f i ≡ some a) × (first_below i f ≡ none)
  first_below_lem zero f a e = none≢some e
  first_below_lem (suc n) f a e = go (first_below n f) refl (first_below_lem n f a)
    where
      go : (o : Option A) → first_below n f ≡ o
          → (first_below n f ≡ some a → (i : ℕ) × (i < n) × (f i ≡ some a) × (first_below i f ≡ none))
          → (i : ℕ) × (i < suc n) × (f i ≡ some a) × (first_below i f ≡ none)
      go none p ih = (n, le_refl (suc n), ap (λ (o : Option A). first_of o (f n)) (sym p) ∙ e, p)
      go (some b) p ih =
          let r : (i : ℕ) × (i < n) × (f i ≡ some a) × (first_below i f ≡ none) =
          ih (p ∙ (ap (λ (o : Option A). first_of o (f n)) (sym p) ∙ e)) in
          (r.0, le_step r.1, r.2, r.3)

  -- the first result, where it is known at which index it stands
  pub first_at_lem : (n : ℕ) (f : ℕ → Option A) (i : ℕ) (a : A) → i < n → first_below i f ≡ none → f i ≡ some a
      → first_below n f ≡ some a
  first_at_lem zero f i a h e p = absurd (not-suc-le-zero h)
  first_at_lem (suc n) f i a h e p =
      ⊎_elim (λ q. rw (← q, e) p)
      (λ q. ap (λ (o : Option A). first_of o (f n)) (first_at_lem n f i a q e p))
      (below_cases h)

  -- one more index without a result
  pub first_more : (n : ℕ) (f : ℕ → Option A) → first_below n f ≡ none → f n ≡ none → first_below (n + 1) f ≡ none
  first_more n f e p = rw (add-one, e) p

  -- no index has a result
  pub none_first : (n : ℕ) (f : ℕ → Option A) → first_below n f ≡ none → (i : ℕ) → i < n → f i ≡ none
  none_first zero f e i h = absurd (not-suc-le-zero h)
  none_first (suc n) f e i h = go (first_below n f) refl (none_first n f)
    where
      go : (o : Option A) → first_below n f ≡ o → (first_below n f ≡ none → (i : ℕ) → i < n → f i ≡ none) → f i ≡ none
      go none p ih =
          ⊎_elim (λ q. ap f q ∙ (ap (λ (o : Option A). first_of o (f n)) (sym p) ∙ e)) (λ q. ih p i q) (below_cases h)
      go (some b) p ih = none≢some (sym (ap (λ (o : Option A). first_of o (f n)) (sym p) ∙ e))
