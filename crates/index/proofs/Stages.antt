-- The memory while constraints are put into the index: which pairs have a number, and what stands for each of them.
use Prim.Native.Nat.{ℕ, suc, ◌+◌, ◌<◌, ◌≤◌}
use mathlib.Core.Bool.{Bool, true, false, cond, ◌&&◌, ◌||◌, not, or_comm, and_comm}
use mathlib.Core.Logic.{◌⊎◌, inl, inr, ⊎_elim}
use mathlib.Core.Path.{◌≡◌, refl, sym, ◌∙◌, ap, ap₂, fun_ext, subst}
use native.Mathlib.Numerals.{add-one}
use native.Mathlib.Omega.{arith}
use borrow.Author.Tests.{lt-ltb, le-ltb, le-leb, leb-true, leb-false, eqb-true, eqb-false, eq-eqb, ne_eqb}
use lib.Dec.{leb, ltb, eqb}
use Rattle.base.proofs.Bools.{decided, or_right, or_false_left, clash, refuted}
use Rattle.base.proofs.Choice.{cond_true, cond_false}
use Rattle.cells.proofs.Stores.{store_same, store_other}
use Rattle.cells.specs.Layout.{PAIRS, NEXT, LASTS, LIMITS, PAIREND, LIMITED, LOWEST}
use Rattle.cells.specs.Memory.{Mem, store}
use Rattle.format.specs.Limits.{max_pairs}
use Rattle.index.proofs.SamePairs.{same_pair, same_pair_lem, pair_same, with_pair, pairs_below, pairs_more}
use Rattle.index.specs.Index.{SamePair, within_lowest, pair_in, pair_m, number_m, chain_m, lower_m}
use Rattle.plan.proofs.Limits.{lower_decides}
use Rattle.plan.specs.Network.{within_limit}

-- of `n` variables, the pairs that pass `t` have a number each; `l` is one more than the last table of a pair, and `g` says which
-- figures its limits permit together; pairs without a number have neither
pub record Stage (n : ℕ) (t : ℕ → ℕ → Bool) (l : ℕ → ℕ → ℕ) (g : ℕ → ℕ → ℕ → ℕ → Bool) (m : Mem) : Type 0 where
  pub turned : (x y : ℕ) → m PAIRS x y ≡ m PAIRS y x
  pub given : (x y : ℕ) → eqb (m PAIRS x y) 0 ≡ not (t x y)
  pub low : (x y : ℕ) → m PAIRS x y ≤ m PAIREND 0 0
  pub own : (x y x' y' : ℕ) → 0 < m PAIRS x y → m PAIRS x y ≡ m PAIRS x' y' → SamePair x y x' y'
  pub counted : m PAIREND 0 0 ≡ pairs_below n t
  pub few : m PAIREND 0 0 ≤ max_pairs
  pub no_last : (x y : ℕ) → t x y ≡ false → l x y ≡ 0
  pub no_limit : (x y : ℕ) → t x y ≡ false → (f e : ℕ) → g x y f e ≡ true
  pub lasts : (x y : ℕ) → t x y ≡ true → m LASTS 0 (m PAIRS x y) ≡ l x y
  pub limits : (x y : ℕ) → t x y ≡ true → (f e : ℕ) → within_lowest m (m PAIRS x y) f e ≡ g x y f e
  pub free_last : (p : ℕ) → m PAIREND 0 0 < p → m LASTS 0 p ≡ 0
  pub free_limit : (p : ℕ) → m PAIREND 0 0 < p → m LIMITS p LIMITED ≡ 0

-- equal tests and values say the same of a memory
pub stage_ext : (n : ℕ) {t t' : ℕ → ℕ → Bool} {l l' : ℕ → ℕ → ℕ} {g g' : ℕ → ℕ → ℕ → ℕ → Bool} {m : Mem}
    → ((x y : ℕ) → t x y ≡ t' x y) → ((x y : ℕ) → l x y ≡ l' x y) → ((x y f e : ℕ) → g x y f e ≡ g' x y f e)
    → Stage n t l g m → Stage n t' l' g' m
stage_ext n {t} {t'} {l} {l'} {g} {g'} {m} p q r s =
    subst (λ (a : ℕ → ℕ → Bool). Stage n a l' g' m) (fun_ext λ x. fun_ext λ y. p x y)
    (subst (λ (a : ℕ → ℕ → ℕ). Stage n t a g' m) (fun_ext λ x. fun_ext λ y. q x y)
    (subst (λ (a : ℕ → ℕ → ℕ → ℕ → Bool). Stage n t l a m) (fun_ext λ x. fun_ext λ y. fun_ext λ f. fun_ext λ e. r x y f e) s))

-- tests are equal where their contraries are
same_not : (a b : Bool) → not a ≡ not b → a ≡ b
same_not true true e = refl
same_not true false e = sym e
same_not false true e = sym e
same_not false false e = refl

module _ (n : ℕ) (t : ℕ → ℕ → Bool) (l : ℕ → ℕ → ℕ) (g : ℕ → ℕ → ℕ → ℕ → Bool) (m : Mem) (s : Stage n t l g m) where
  -- the test goes both ways
  test_turned : (x y : ℕ) → t x y ≡ t y x
  test_turned x y = same_not (t x y) (t y x) (sym (s.given x y) ∙ ap (λ (p : ℕ). eqb p 0) (s.turned x y) ∙ s.given y x)

  -- so it is the same for the same two
  test_same : (x y x' y' : ℕ) → SamePair x' y' x y → t x' y' ≡ t x y
  test_same x y x' y' (inl p) = ap₂ t p.0 p.1
  test_same x y x' y' (inr p) = ap₂ t p.0 p.1 ∙ test_turned y x

  -- and so is their number
  number_same : (x y x' y' : ℕ) → SamePair x' y' x y → m PAIRS x' y' ≡ m PAIRS x y
  number_same x y x' y' (inl p) = ap₂ (m PAIRS) p.0 p.1
  number_same x y x' y' (inr p) = ap₂ (m PAIRS) p.0 p.1 ∙ s.turned y x

  -- a pair that passes has a number, which no guard takes away
  pub numbered : (x y : ℕ) → t x y ≡ true → (0 < m PAIRS x y) × (pair_in m x y ≡ m PAIRS x y)
  unfolding pair_in
  numbered x y e =
      let some : m PAIRS x y ≡ 0 → ⊥ = eqb-false (m PAIRS x y) 0 (s.given x y ∙ ap not e) in
      (omega arith, cond_true (m PAIRS x y) 0 (le-leb (m PAIRS x y) max_pairs (omega (arith, s.low x y, s.few))))

  -- one that does not has none
  unnumbered : (x y : ℕ) → t x y ≡ false → pair_in m x y ≡ 0
  unfolding pair_in
  unnumbered x y e =
      let none : m PAIRS x y ≡ 0 = eqb-true (m PAIRS x y) 0 (s.given x y ∙ ap not e) in
      rw none refl

-- ---- a number for a pair

module _ (x y p : ℕ) (less : x < y) (m : Mem) where
  -- the two have the number, either way round
  pair_here : (x' y' : ℕ) → SamePair x' y' x y → pair_m x y p m PAIRS x' y' ≡ p
  unfolding pair_m
  pair_here x' y' (inl e) =
      rw (e.0, e.1)
      (store_other (store (store m PAIREND 0 0 p) PAIRS x y p) PAIRS y x p PAIRS x y (λ r i j. omega arith)
      ∙ store_same (store m PAIREND 0 0 p) PAIRS x y p)
  pair_here x' y' (inr e) = rw (e.0, e.1) (store_same (store (store m PAIREND 0 0 p) PAIRS x y p) PAIRS y x p)

  -- all others keep theirs
  pair_other : (x' y' : ℕ) → (SamePair x' y' x y → ⊥) → pair_m x y p m PAIRS x' y' ≡ m PAIRS x' y'
  unfolding pair_m
  pair_other x' y' d =
      store_other (store (store m PAIREND 0 0 p) PAIRS x y p) PAIRS y x p PAIRS x' y' (λ r i j. d (inr (i, j)))
      ∙ store_other (store m PAIREND 0 0 p) PAIRS x y p PAIRS x' y' (λ r i j. d (inl (i, j)))

  pair_end : pair_m x y p m PAIREND 0 0 ≡ p
  unfolding pair_m
  pair_end = refl

  pair_last : (q : ℕ) → pair_m x y p m LASTS 0 q ≡ m LASTS 0 q
  unfolding pair_m
  pair_last q = refl

  pair_limit_lem : (q j : ℕ) → pair_m x y p m LIMITS q j ≡ m LIMITS q j
  unfolding pair_m
  pair_limit_lem q j = refl

-- what a memory's limits permit goes by its cells for them
pub within_same : (m o : Mem) (p q : ℕ) → ((j : ℕ) → o LIMITS q j ≡ m LIMITS p j) → (f e : ℕ) → within_lowest o q f e ≡ within_lowest m p f e
unfolding within_lowest
within_same m o p q same f e =
    ap₂ (λ (a b : ℕ). cond (eqb a 0) true (within_limit b f e)) (same LIMITED) (same LOWEST)

-- without a limit everything is permitted
within_none : (m : Mem) (p : ℕ) → m LIMITS p LIMITED ≡ 0 → (f e : ℕ) → within_lowest m p f e ≡ true
unfolding within_lowest
within_none m p none f e = rw none refl

-- a pair is one of the two, or none of them
one_of : (x y x' y' : ℕ) → SamePair x' y' x y ⊎ (SamePair x' y' x y → ⊥)
one_of x y x' y' =
    ⊎_elim (λ e. inl (same_pair_lem x y x' y' e)) (λ e. inr (λ d. clash (pair_same x y x' y' d) e)) (decided (same_pair x y x' y'))

module _ (n : ℕ) (t : ℕ → ℕ → Bool) (l : ℕ → ℕ → ℕ) (g : ℕ → ℕ → ℕ → ℕ → Bool) (m : Mem) (s : Stage n t l g m)
    (x y : ℕ) (less : x < y) (inside : y < n) where
  abbrev end : ℕ
  end = m PAIREND 0 0

  -- a test with the pair passes for it, and for others as before
  with_here : (x' y' : ℕ) → SamePair x' y' x y → with_pair t x y x' y' ≡ true
  with_here x' y' d = or_right (t x' y') (pair_same x y x' y' d)

  with_other : (x' y' : ℕ) → (SamePair x' y' x y → ⊥) → with_pair t x y x' y' ≡ t x' y'
  with_other x' y' d =
      ap (λ (e : Bool). t x' y' || e) (refuted (same_pair x y x' y') (λ e. d (same_pair_lem x y x' y' e))) ∙ or_comm (t x' y') false

  -- a pair without a number gets the next one
  module _ (new : t x y ≡ false) (room : end < max_pairs) where
    abbrev next : Mem
    next = pair_m x y (end + 1) m

    pair_given : (x' y' : ℕ) → eqb (next PAIRS x' y') 0 ≡ not (with_pair t x y x' y')
    pair_given x' y' =
        ⊎_elim
        (λ d. rw (pair_here x y (end + 1) less m x' y' d, with_here x' y' d) (ne_eqb (end + 1) 0 (omega arith)))
        (λ d. rw (pair_other x y (end + 1) less m x' y' d, with_other x' y' d) (s.given x' y'))
        (one_of x y x' y')

    pair_low : (x' y' : ℕ) → next PAIRS x' y' ≤ next PAIREND 0 0
    pair_low x' y' =
        ⊎_elim (λ d. omega (arith, pair_here x y (end + 1) less m x' y' d, pair_end x y (end + 1) less m))
        (λ d. omega (arith, pair_other x y (end + 1) less m x' y' d, s.low x' y', pair_end x y (end + 1) less m))
        (one_of x y x' y')

    pair_turned : (x' y' : ℕ) → next PAIRS x' y' ≡ next PAIRS y' x'
    pair_turned x' y' =
        ⊎_elim
        (λ d. pair_here x y (end + 1) less m x' y' d ∙ sym (pair_here x y (end + 1) less m y' x' (flip x' y' d)))
        (λ d.
        pair_other x y (end + 1) less m x' y' d ∙ s.turned x' y'
        ∙ sym (pair_other x y (end + 1) less m y' x' (λ e. d (flip y' x' e))))
        (one_of x y x' y')
      where
        flip : (x' y' : ℕ) → SamePair x' y' x y → SamePair y' x' x y
        flip x' y' (inl p) = inr (p.1, p.0)
        flip x' y' (inr p) = inl (p.1, p.0)

    pair_own : (a b c d : ℕ) → 0 < next PAIRS a b → next PAIRS a b ≡ next PAIRS c d → SamePair a b c d
    pair_own a b c d some same = go (one_of x y a b) (one_of x y c d)
      where
        both : (a b c d : ℕ) → SamePair a b x y → SamePair c d x y → SamePair a b c d
        both a b c d (inl p) (inl q) = inl (omega arith)
        both a b c d (inl p) (inr q) = inr (omega arith)
        both a b c d (inr p) (inl q) = inr (omega arith)
        both a b c d (inr p) (inr q) = inl (omega arith)

        go : SamePair a b x y ⊎ (SamePair a b x y → ⊥) → SamePair c d x y ⊎ (SamePair c d x y → ⊥) → SamePair a b c d
        go (inl p) (inl q) = both a b c d p q
        go (inl p) (inr q) =
            absurd (omega (arith, pair_here x y (end + 1) less m a b p, pair_other x y (end + 1) less m c d q, s.low c d))
        go (inr p) (inl q) =
            absurd (omega (arith, pair_other x y (end + 1) less m a b p, pair_here x y (end + 1) less m c d q, s.low a b))
        go (inr p) (inr q) =
            s.own a b c d (omega (arith, pair_other x y (end + 1) less m a b p))
            (sym (pair_other x y (end + 1) less m a b p) ∙ same ∙ pair_other x y (end + 1) less m c d q)

    -- what stands for another pair stands as before, and nothing stands for the new one
    pair_lasts : (x' y' : ℕ) → with_pair t x y x' y' ≡ true → next LASTS 0 (next PAIRS x' y') ≡ l x' y'
    pair_lasts x' y' e =
        ⊎_elim
        (λ d.
        ap (next LASTS 0) (pair_here x y (end + 1) less m x' y' d) ∙ pair_last x y (end + 1) less m (end + 1)
        ∙ s.free_last (end + 1) (omega arith) ∙ sym (s.no_last x' y' (test_same n t l g m s x y x' y' d ∙ new)))
        (λ d.
        ap (next LASTS 0) (pair_other x y (end + 1) less m x' y' d) ∙ pair_last x y (end + 1) less m (m PAIRS x' y')
        ∙ s.lasts x' y' (sym (with_other x' y' d) ∙ e))
        (one_of x y x' y')

    pair_limits_lem : (x' y' : ℕ) → with_pair t x y x' y' ≡ true → (f e : ℕ) → within_lowest next (next PAIRS x' y') f e ≡ g x' y' f e
    pair_limits_lem x' y' k f e =
        ⊎_elim
        (λ d.
        ap (λ (p : ℕ). within_lowest next p f e) (pair_here x y (end + 1) less m x' y' d)
        ∙ within_none next (end + 1) (pair_limit_lem x y (end + 1) less m (end + 1) LIMITED ∙ s.free_limit (end + 1) (omega arith)) f e
        ∙ sym (s.no_limit x' y' (test_same n t l g m s x y x' y' d ∙ new) f e))
        (λ d.
        ap (λ (p : ℕ). within_lowest next p f e) (pair_other x y (end + 1) less m x' y' d)
        ∙ within_same m next (m PAIRS x' y') (m PAIRS x' y') (pair_limit_lem x y (end + 1) less m (m PAIRS x' y')) f e
        ∙ s.limits x' y' (sym (with_other x' y' d) ∙ k) f e)
        (one_of x y x' y')

    -- so the stage has one pair more
    pair_stage : Stage n (with_pair t x y) l g next
    pair_stage = record {
      turned = pair_turned;
      given = pair_given;
      low = pair_low;
      own = pair_own;
      counted = omega (arith, pair_end x y (end + 1) less m, s.counted, pairs_more n t x y less inside new);
      few = omega (arith, pair_end x y (end + 1) less m);
      no_last = λ x' y' e. s.no_last x' y' (or_false_left (t x' y') (same_pair x y x' y') e);
      no_limit = λ x' y' e. s.no_limit x' y' (or_false_left (t x' y') (same_pair x y x' y') e);
      lasts = pair_lasts;
      limits = pair_limits_lem;
      free_last = λ p h. pair_last x y (end + 1) less m p ∙ s.free_last p (omega (arith, pair_end x y (end + 1) less m));
      free_limit = λ p h. pair_limit_lem x y (end + 1) less m p LIMITED ∙ s.free_limit p (omega (arith, pair_end x y (end + 1) less m));
    }

  -- one with a number keeps it
  pub number_stage : (t x y ≡ false → end < max_pairs) → Stage n (with_pair t x y) l g (number_m x y m)
  unfolding number_m
  number_stage room =
      ⊎_elim
      (λ old.
      let has = numbered n t l g m s x y old in
      rw (cond_false (cond (ltb end max_pairs) (pair_m x y (end + 1) m) m) m (ne_eqb (pair_in m x y) 0 (λ e. omega (arith, has))))
      (stage_ext n (λ x' y'. sym (kept old x' y' (one_of x y x' y'))) (λ x' y'. refl) (λ x' y' f e. refl) s))
      (λ new.
      rw (cond_true (cond (ltb end max_pairs) (pair_m x y (end + 1) m) m) m (eq-eqb (pair_in m x y) 0 (unnumbered n t l g m s x y new)), cond_true (pair_m x y (end + 1) m) m (lt-ltb end max_pairs (room new)))
      (pair_stage new (room new)))
      (decided (t x y))
    where
      kept : t x y ≡ true → (x' y' : ℕ) → SamePair x' y' x y ⊎ (SamePair x' y' x y → ⊥) → with_pair t x y x' y' ≡ t x' y'
      kept old x' y' (inl d) = with_here x' y' d ∙ sym (test_same n t l g m s x y x' y' d ∙ old)
      kept old x' y' (inr d) = with_other x' y' d

-- ---- a limit for a number

module _ (p limit : ℕ) (m : Mem) where
  abbrev lowered : Mem
  lowered = store (store m LIMITS p LIMITED 1) LIMITS p LOWEST limit

  -- all else is as it was
  pub lower_keeps : (r i j : ℕ) → (r ≡ LIMITS → i ≡ p → ⊥) → lower_m p limit m r i j ≡ m r i j
  unfolding lower_m
  lower_keeps r i j d = go (not (eqb (m LIMITS p LIMITED) 0) && leb (m LIMITS p LOWEST) limit)
    where
      go : (b : Bool) → cond b m lowered r i j ≡ m r i j
      go true = refl
      go false =
          store_other (store m LIMITS p LIMITED 1) LIMITS p LOWEST limit r i j (λ a e k. d a e)
          ∙ store_other m LIMITS p LIMITED 1 r i j (λ a e k. d a e)

  -- a limit that stands there decides
  within_some : eqb (m LIMITS p LIMITED) 0 ≡ false → (f e : ℕ) → within_lowest m p f e ≡ within_limit (m LIMITS p LOWEST) f e
  unfolding within_lowest
  within_some some f e = cond_false true (within_limit (m LIMITS p LOWEST) f e) some

  -- the limit stands there afterwards
  lowered_within : (f e : ℕ) → within_lowest lowered p f e ≡ within_limit limit f e
  unfolding within_lowest
  lowered_within f e =
      ap₂ (λ (a b : ℕ). cond (eqb a 0) true (within_limit b f e))
      (store_other (store m LIMITS p LIMITED 1) LIMITS p LOWEST limit LIMITS p LIMITED (λ r i j. omega arith)
      ∙ store_same m LIMITS p LIMITED 1)
      (store_same (store m LIMITS p LIMITED 1) LIMITS p LOWEST limit)

  -- it permits what was permitted and is within this limit too
  lower_within : (f e : ℕ) → within_lowest (lower_m p limit m) p f e ≡ within_lowest m p f e && within_limit limit f e
  unfolding lower_m
  lower_within f e =
      go (eqb (m LIMITS p LIMITED) 0) refl (leb (m LIMITS p LOWEST) limit) refl
    where
      go : (a : Bool) → eqb (m LIMITS p LIMITED) 0 ≡ a → (b : Bool) → leb (m LIMITS p LOWEST) limit ≡ b
          → within_lowest (cond (not a && b) m lowered) p f e ≡ within_lowest m p f e && within_limit limit f e
      go true none b h =
          lowered_within f e ∙ ap (λ (k : Bool). k && within_limit limit f e) (sym (within_none m p (eqb-true (m LIMITS p LIMITED) 0 none) f e))
      go false some true h =
          rw (within_some some f e)
          (sym (lower_decides (m LIMITS p LOWEST) limit f e (leb-true (m LIMITS p LOWEST) limit h)))
      go false some false h =
          lowered_within f e
          ∙ sym
          (ap (λ (k : Bool). k && within_limit limit f e) (within_some some f e)
          ∙ and_comm (within_limit (m LIMITS p LOWEST) f e) (within_limit limit f e)
          ∙ lower_decides limit (m LIMITS p LOWEST) f e (omega (arith, leb-false (m LIMITS p LOWEST) limit h)))

-- ---- what stands for a pair with a number

module _ (n : ℕ) (t : ℕ → ℕ → Bool) (l : ℕ → ℕ → ℕ) (g : ℕ → ℕ → ℕ → ℕ → Bool) (m : Mem) (s : Stage n t l g m)
    (x y : ℕ) (old : t x y ≡ true) where
  abbrev pair : ℕ
  pair = pair_in m x y

  pair_is : pair ≡ m PAIRS x y
  pair_is = (numbered n t l g m s x y old).1

  -- another pair has another number
  apart : (x' y' : ℕ) → (SamePair x' y' x y → ⊥) → t x' y' ≡ true → m PAIRS x' y' ≡ pair → ⊥
  apart x' y' d e same = d (s.own x' y' x y (numbered n t l g m s x' y' e).0 (same ∙ pair_is))

  -- a table in front of the pair's chain
  pub chain_stage : (c : ℕ) → Stage n t (λ x' y'. cond (same_pair x y x' y') (suc c) (l x' y')) g (chain_m pair c m)
  unfolding chain_m
  chain_stage c = record {
    turned = s.turned;
    given = s.given;
    low = s.low;
    own = s.own;
    counted = s.counted;
    few = s.few;
    no_last = λ x' y' e.
        cond_false (suc c) (l x' y')
        (refuted (same_pair x y x' y') (λ d. clash (test_same n t l g m s x y x' y' (same_pair_lem x y x' y' d) ∙ old) e))
        ∙ s.no_last x' y' e;
    no_limit = s.no_limit;
    lasts = λ x' y' e.
        ⊎_elim
        (λ d.
        ap (chain_m pair c m LASTS 0) (number_same n t l g m s x y x' y' d ∙ sym pair_is)
        ∙ store_same (store m NEXT 0 c (m LASTS 0 pair)) LASTS 0 pair (c + 1)
        ∙ add-one c ∙ sym (cond_true (suc c) (l x' y') (pair_same x y x' y' d)))
        (λ d.
        store_other (store m NEXT 0 c (m LASTS 0 pair)) LASTS 0 pair (c + 1) LASTS 0 (m PAIRS x' y') (λ r i j. apart x' y' d e j)
        ∙ s.lasts x' y' e
        ∙ sym (cond_false (suc c) (l x' y') (refuted (same_pair x y x' y') (λ q. d (same_pair_lem x y x' y' q)))))
        (one_of x y x' y');
    limits = λ x' y' e f h. within_same m (chain_m pair c m) (m PAIRS x' y') (m PAIRS x' y') (λ j. refl) f h ∙ s.limits x' y' e f h;
    free_last = λ p h.
        store_other (store m NEXT 0 c (m LASTS 0 pair)) LASTS 0 pair (c + 1) LASTS 0 p (λ r i j. omega (arith, pair_is, s.low x y))
        ∙ s.free_last p h;
    free_limit = s.free_limit;
  }

  -- the chain goes on with what headed it
  pub chain_next : (c : ℕ) → chain_m pair c m NEXT 0 c ≡ l x y
  unfolding chain_m
  chain_next c = store_same m NEXT 0 c (m LASTS 0 pair) ∙ ap (m LASTS 0) pair_is ∙ s.lasts x y old

  -- a limit for the pair
  module _ (limit : ℕ) where
    abbrev after : Mem
    after = lower_m pair limit m

    kept_pairs : (x' y' : ℕ) → after PAIRS x' y' ≡ m PAIRS x' y'
    kept_pairs x' y' = lower_keeps pair limit m PAIRS x' y' (λ r i. omega arith)

    kept_end : after PAIREND 0 0 ≡ m PAIREND 0 0
    kept_end = lower_keeps pair limit m PAIREND 0 0 (λ r i. omega arith)

    kept_last : (p : ℕ) → after LASTS 0 p ≡ m LASTS 0 p
    kept_last p = lower_keeps pair limit m LASTS 0 p (λ r i. omega arith)

    judged : (x' y' : ℕ) → t x' y' ≡ true → (f h : ℕ) → SamePair x' y' x y ⊎ (SamePair x' y' x y → ⊥)
        → within_lowest after (m PAIRS x' y') f h ≡ cond (same_pair x y x' y') (g x' y' f h && within_limit limit f h) (g x' y' f h)
    judged x' y' e f h (inl d) =
        let its : m PAIRS x' y' ≡ pair = number_same n t l g m s x y x' y' d ∙ sym pair_is in
        ap (λ (p : ℕ). within_lowest after p f h) its ∙ lower_within pair limit m f h
        ∙ ap (λ (b : Bool). b && within_limit limit f h) (ap (λ (p : ℕ). within_lowest m p f h) (sym its) ∙ s.limits x' y' e f h)
        ∙ sym (cond_true (g x' y' f h && within_limit limit f h) (g x' y' f h) (pair_same x y x' y' d))
    judged x' y' e f h (inr d) =
        within_same m after (m PAIRS x' y') (m PAIRS x' y')
        (λ j. lower_keeps pair limit m LIMITS (m PAIRS x' y') j (λ r i. apart x' y' d e i)) f h
        ∙ s.limits x' y' e f h
        ∙ sym
        (cond_false (g x' y' f h && within_limit limit f h) (g x' y' f h) (refuted (same_pair x y x' y') (λ q. d (same_pair_lem x y x' y' q))))

    pub lower_stage : Stage n t l (λ x' y' f e. cond (same_pair x y x' y') (g x' y' f e && within_limit limit f e) (g x' y' f e)) after
    lower_stage = record {
      turned = λ x' y'. kept_pairs x' y' ∙ s.turned x' y' ∙ sym (kept_pairs y' x');
      given = λ x' y'. ap (λ (p : ℕ). eqb p 0) (kept_pairs x' y') ∙ s.given x' y';
      low = λ x' y'. rw (kept_pairs x' y', kept_end) (s.low x' y');
      own = λ a b c d some same.
          s.own a b c d (rw (kept_pairs a b) at some) (sym (kept_pairs a b) ∙ same ∙ kept_pairs c d);
      counted = kept_end ∙ s.counted;
      few = rw kept_end s.few;
      no_last = s.no_last;
      no_limit = λ x' y' e f h.
          cond_false (g x' y' f h && within_limit limit f h) (g x' y' f h)
          (refuted (same_pair x y x' y') (λ d. clash (test_same n t l g m s x y x' y' (same_pair_lem x y x' y' d) ∙ old) e))
          ∙ s.no_limit x' y' e f h;
      lasts = λ x' y' e. kept_last (after PAIRS x' y') ∙ ap (m LASTS 0) (kept_pairs x' y') ∙ s.lasts x' y' e;
      limits = λ x' y' e f h. ap (λ (p : ℕ). within_lowest after p f h) (kept_pairs x' y') ∙ judged x' y' e f h (one_of x y x' y');
      free_last = λ p h. kept_last p ∙ s.free_last p (rw kept_end at h);
      free_limit = λ p h.
          lower_keeps pair limit m LIMITS p LIMITED (λ r i. omega (arith, kept_end, pair_is, s.low x y))
          ∙ s.free_limit p (rw kept_end at h);
    }

-- ---- what the code puts

module _ (x y : ℕ) (m : Mem) where
  -- a pair with a number gets none
  pub number_passed : (p : ℕ) → p ≡ pair_in m x y → (p ≡ 0 → ⊥) → m ≡ number_m x y m
  unfolding number_m
  number_passed p e some = sym (cond_false _ m (ne_eqb (pair_in m x y) 0 (λ z. some (e ∙ z))))

  module _ (p end : ℕ) (e : p ≡ pair_in m x y) (none : p ≡ 0) (last : end ≡ m PAIREND 0 0) where
    abbrev new : Mem
    new = pair_m x y (m PAIREND 0 0 + 1) m

    -- nor does one where there are no more
    pub number_full : max_pairs ≤ end → m ≡ number_m x y m
    unfolding number_m
    number_full full =
        sym
        (cond_true (cond (ltb (m PAIREND 0 0) max_pairs) new m) m (eq-eqb (pair_in m x y) 0 (sym e ∙ none))
        ∙ cond_false new m (le-ltb (m PAIREND 0 0) max_pairs (omega arith)))

    -- all others get the next one, in three stores
    pub number_put : end < max_pairs → (a b c : Mem) → a ≡ store m PAIREND 0 0 (end + 1) → b ≡ store a PAIRS x y (end + 1)
        → c ≡ store b PAIRS y x (end + 1) → c ≡ number_m x y m
    unfolding number_m pair_m
    number_put room a b c p q r =
        r
        ∙ ap (λ (o : Mem). store o PAIRS y x (end + 1))
        (q ∙ ap (λ (o : Mem). store o PAIRS x y (end + 1)) p)
        ∙ ap (λ (k : ℕ). store (store (store m PAIREND 0 0 (k + 1)) PAIRS x y (k + 1)) PAIRS y x (k + 1)) last
        ∙ sym
        (cond_true (cond (ltb (m PAIREND 0 0) max_pairs) new m) m (eq-eqb (pair_in m x y) 0 (sym e ∙ none))
        ∙ cond_true new m (lt-ltb (m PAIREND 0 0) max_pairs (omega arith)))

module _ (p limit : ℕ) (m : Mem) (low : Bool) (is : low ≡ (not (eqb (m LIMITS p LIMITED) 0) && leb (m LIMITS p LOWEST) limit)) where
  -- a limit that is as low stays
  pub lower_passed : low ≡ true → m ≡ lower_m p limit m
  unfolding lower_m
  lower_passed e = sym (cond_true m (lowered p limit m) (sym is ∙ e))

  -- any other gives way, in two stores
  pub lower_put : low ≡ false → (a b : Mem) → a ≡ store m LIMITS p LIMITED 1 → b ≡ store a LIMITS p LOWEST limit → b ≡ lower_m p limit m
  unfolding lower_m
  lower_put e a b q r =
      r ∙ ap (λ (o : Mem). store o LIMITS p LOWEST limit) q ∙ sym (cond_false m (lowered p limit m) (sym is ∙ e))
