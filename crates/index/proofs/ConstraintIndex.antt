-- The memory with the plan's constraints in it: after each of them, the pairs that have a number are those that it and those before it
-- are over, and what stands for a pair is what these constraints say of it.
use Prim.Native.Nat.{ℕ, suc, ◌+◌, ◌-◌, ◌<◌, ◌≤◌}
use mathlib.Core.Bool.{Bool, true, false, cond, ◌&&◌, ◌||◌, not, or_assoc, or_comm, false≢true}
use mathlib.Core.List.{List}
use mathlib.Core.Logic.{◌⊎◌, inl, inr, ⊎_elim}
use mathlib.Core.Option.{none}
use mathlib.Core.Path.{◌≡◌, refl, sym, ◌∙◌, ap, ap₂}
use native.Mathlib.Nat.{le_refl}
use native.Mathlib.Omega.{arith}
use lib.Dec.{ltb, eqb}
use Rattle.base.proofs.Below.{any_below_lem, some_below, any_below_ext}
use Rattle.base.proofs.Bools.{decided, and_left, and_right, and_true, and_false_right, or_cases, or_left, or_right, bool_ext}
use Rattle.base.proofs.Choice.{cond_true, cond_false}
use Rattle.base.proofs.Loops.{loop_carries, loop_same, loop_from}
use Rattle.base.proofs.Sums.{sum_ext, sum_zero, sum_le, count_ext, one_mono}
use Rattle.base.specs.Below.{any_below, count_below, one, loop}
use Rattle.cells.proofs.Stores.{store_other, store_apart}
use Rattle.cells.specs.Layout.{PAIRS, NEXT, LASTS, LIMITS, PAIREND, LIMITED}
use Rattle.cells.specs.Memory.{Mem, store}
use Rattle.format.specs.Format.{constraint_start, variable_count, constraint_count, first_at, second_at, limit_at, scope_size, scope_at}
use Rattle.format.specs.Limits.{max_pairs}
use Rattle.index.proofs.Nearest.{near_none, near_past, near_ext}
use Rattle.index.proofs.SamePairs.{same_pair, same_pair_lem, pair_same, with_pair, pairs_below, pairs_more}
use Rattle.index.proofs.Stages.{Stage, stage_ext, number_stage, chain_stage, chain_next, lower_keeps, lower_stage}
use Rattle.index.specs.Index.{SamePair, nearest, table_over, limit_over, table_below, within_each, any_over, pair_in, pair_m, number_m, chain_m, lower_m, table_m, limit_m, beside_m, limits_m, constraint_m, constraints_m}
use Rattle.network.specs.Network.{pair_count}
use Rattle.plan.proofs.Links.{joins_of}
use Rattle.plan.proofs.Parts.{variables_read}
use Rattle.plan.proofs.PlanCounts.{linked_any}
use Rattle.plan.proofs.WellFormed.{read_well_formed}
use Rattle.plan.specs.Decode.{plan_fault, plan_of}
use Rattle.plan.specs.Network.{within_limit, share_constraint, network_of}
use Rattle.rows.proofs.Scopes.{JoinedBy, over_turned, over_sides, side_over, member, member_low, members_joined, joined_members, ends_joined, table_ends}
use Rattle.rows.specs.Permits.{over, is_table}

-- with one pair more the limit judges that pair too
one_limit_more : (g d s w : Bool) → cond s ((g && (not d || w)) && w) (g && (not d || w)) ≡ g && (not (d || s) || w)
one_limit_more true true true true = refl
one_limit_more true true true false = refl
one_limit_more true true false w = refl
one_limit_more true false true w = refl
one_limit_more true false false w = refl
one_limit_more false d true w = refl
one_limit_more false d false w = refl

-- ---- which points change

-- a region of what stands for pairs
abbrev pub ForPairs : ℕ → Type 0
ForPairs r = (r ≡ PAIRS) ⊎ ((LASTS ≤ r) × (r ≤ PAIREND))

-- a region where the constraints put nothing
abbrev pub OffConstraints : ℕ → Type 0
OffConstraints r = (r ≡ PAIRS → ⊥) × (r ≡ NEXT → ⊥) × (LASTS ≤ r → r ≤ PAIREND → ⊥)

-- a number touches PAIRS and PAIREND alone
number_keeps : (x y : ℕ) (m : Mem) (r i j : ℕ) → (r ≡ PAIRS → ⊥) → (r ≡ PAIREND → ⊥) → number_m x y m r i j ≡ m r i j
unfolding number_m pair_m
number_keeps x y m r i j h l = go (eqb (pair_in m x y) 0) (ltb (m PAIREND 0 0) max_pairs)
  where
    go : (a b : Bool) → cond a (cond b (pair_m x y (m PAIREND 0 0 + 1) m) m) m r i j ≡ m r i j
    go false b = refl
    go true false = refl
    go true true =
        store_apart (store (store m PAIREND 0 0 (m PAIREND 0 0 + 1)) PAIRS x y (m PAIREND 0 0 + 1)) PAIRS y x (m PAIREND 0 0 + 1) r i j h
        ∙ store_apart (store m PAIREND 0 0 (m PAIREND 0 0 + 1)) PAIRS x y (m PAIREND 0 0 + 1) r i j h
        ∙ store_apart m PAIREND 0 0 (m PAIREND 0 0 + 1) r i j l

-- a constraint leaves the other regions alone, and what the other constraints go on with
module _ (r i j c : ℕ) (off : OffConstraints r ⊎ ((r ≡ NEXT) × (j ≡ c → ⊥))) where
  abbrev Kept : Mem → Mem → Type 0
  Kept m o = o r i j ≡ m r i j

  off_number : (x y : ℕ) (m : Mem) → Kept m (number_m x y m)
  off_number x y m =
      ⊎_elim (λ (h : OffConstraints r). number_keeps x y m r i j h.0 (λ e. h.2 (omega arith) (omega arith)))
      (λ (h : (r ≡ NEXT) × (j ≡ c → ⊥)). number_keeps x y m r i j (λ e. omega arith) (λ e. omega arith)) off

  off_chain : (p : ℕ) (m : Mem) → Kept m (chain_m p c m)
  unfolding chain_m
  off_chain p m =
      ⊎_elim
      (λ (h : OffConstraints r).
      store_apart (store m NEXT 0 c (m LASTS 0 p)) LASTS 0 p (c + 1) r i j (λ e. h.2 (omega arith) (omega arith))
      ∙ store_apart m NEXT 0 c (m LASTS 0 p) r i j h.1)
      (λ (h : (r ≡ NEXT) × (j ≡ c → ⊥)).
      store_apart (store m NEXT 0 c (m LASTS 0 p)) LASTS 0 p (c + 1) r i j (λ e. omega arith)
      ∙ store_other m NEXT 0 c (m LASTS 0 p) r i j (λ a b e. h.1 e))
      off

  off_lower : (p limit : ℕ) (m : Mem) → Kept m (lower_m p limit m)
  off_lower p limit m =
      ⊎_elim (λ (h : OffConstraints r). lower_keeps p limit m r i j (λ e k. h.2 (omega arith) (omega arith)))
      (λ (h : (r ≡ NEXT) × (j ≡ c → ⊥)). lower_keeps p limit m r i j (λ e k. omega arith)) off

  off_limit : (limit x y : ℕ) (m : Mem) → Kept m (limit_m limit x y m)
  unfolding limit_m
  off_limit limit x y m = off_lower (pair_in (number_m x y m) x y) limit (number_m x y m) ∙ off_number x y m

  pub constraint_keeps : (b : List ℕ) (m : Mem) → constraint_m b c m r i j ≡ m r i j
  unfolding constraint_m table_m limits_m beside_m
  constraint_keeps b m = go (is_table b c)
    where
      at : ℕ
      at = constraint_start b c

      f : ℕ
      f = first_at b at - 1

      s : ℕ
      s = second_at b at - 1

      go : (t : Bool) → cond t (table_m f s c m) (limits_m b at m) r i j ≡ m r i j
      go true = off_chain (pair_in (number_m f s m) f s) (number_m f s m) ∙ off_number f s m
      go false =
          loop_same (λ o. o r i j) (scope_size b at) (λ j. beside_m b at j j)
          (λ k h o.
          loop_same (λ o. o r i j) k (λ i. limit_m (limit_at b at) (scope_at b at i - 1) (scope_at b at k - 1))
          (λ i l o. off_limit (limit_at b at) (scope_at b at i - 1) (scope_at b at k - 1) o) o)
          m

-- so do all of them
pub constraints_keep : (b : List ℕ) (m : Mem) (r i j : ℕ) → OffConstraints r → constraints_m b m r i j ≡ m r i j
unfolding constraints_m
constraints_keep b m r i j off =
    loop_same (λ o. o r i j) (constraint_count b) (constraint_m b) (λ c h o. constraint_keeps r i j c (inl off) b o) m

-- ---- one pair more

module _ (b : List ℕ) (None-found : plan_fault b ≡ none) where
  abbrev n : ℕ
  n = variable_count b

  -- the linked pairs are not too many
  pairs_few : pairs_below n (any_over b) ≤ max_pairs
  unfolding pair_count network_of over
  pairs_few =
      let few = (read_well_formed b None-found).few_pairs in
      let read : pair_count (network_of (plan_of b)) ≡ pairs_below n (any_over b) =
      ap (λ (k : ℕ). pairs_below k (share_constraint (plan_of b))) (variables_read b)
      ∙ sum_ext n (λ y. count_below y (λ x. share_constraint (plan_of b) x y)) (λ y. count_below y (λ x. any_over b x y))
      (λ y h. count_ext y (λ x. share_constraint (plan_of b) x y) (λ x. any_over b x y) (λ x l. linked_any b x y)) in
      omega (arith, read, few)

  -- a pair of linked variables finds a number, if no others have one
  room : (t : ℕ → ℕ → Bool) → ((x y : ℕ) → t x y ≡ true → any_over b x y ≡ true) → (x y : ℕ) → x < y → y < n → any_over b x y ≡ true
      → t x y ≡ false → pairs_below n t < max_pairs
  room t linked x y less inside o new =
      let more : pairs_below n (with_pair t x y) ≤ pairs_below n (any_over b) =
      sum_le n (λ z. count_below z (λ k. with_pair t x y k z)) (λ z. count_below z (λ k. any_over b k z))
      (λ z h. sum_le z (λ k. one (with_pair t x y k z)) (λ k. one (any_over b k z)) (λ k l. one_mono (with_pair t x y k z) (any_over b k z) (also k z))) in
      omega (arith, more, pairs_more n t x y less inside new, pairs_few)
    where
      turned : (k z : ℕ) → SamePair k z x y → any_over b k z ≡ true
      turned k z (inl e) = ap₂ (any_over b) e.0 e.1 ∙ o
      turned k z (inr e) =
          ap₂ (any_over b) e.0 e.1 ∙ any_below_ext (constraint_count b) (over b y x) (over b x y) (λ c h. over_turned b y x c) ∙ o

      also : (k z : ℕ) → with_pair t x y k z ≡ true → any_over b k z ≡ true
      also k z e =
          ⊎_elim (linked k z) (λ q. turned k z (same_pair_lem x y k z q)) (or_cases (t k z) (same_pair x y k z) e)

  module _ (t : ℕ → ℕ → Bool) (l : ℕ → ℕ → ℕ) (g : ℕ → ℕ → ℕ → ℕ → Bool) (m : Mem) (s : Stage n t l g m)
      (linked : (x y : ℕ) → t x y ≡ true → any_over b x y ≡ true) (c x y : ℕ) (h : c < constraint_count b) (joined : JoinedBy b c x y) where
    less : x < y
    less = (joins_of _ x y joined).0

    inside : y < n
    inside =
        let r = joined_members b None-found c h x y joined in
        omega (arith, member_low b None-found c h r.1 r.3, r.5)

    linked_here : any_over b x y ≡ true
    linked_here = any_below_lem (constraint_count b) (over b x y) c h (side_over b x y c joined)

    given : Stage n (with_pair t x y) l g (number_m x y m)
    given =
        number_stage n t l g m s x y less inside
        (λ new. omega (arith, s.counted, room t linked x y less inside linked_here new))

    has : with_pair t x y x y ≡ true
    has = or_right (t x y) (pair_same x y x y (inl (refl, refl)))

    -- by a table
    table_step : Stage n (with_pair t x y) (λ x' y'. cond (same_pair x y x' y') (suc c) (l x' y')) g (table_m x y c m)
    unfolding table_m
    table_step = chain_stage n (with_pair t x y) l g (number_m x y m) given x y has c

    -- which goes on with the last one before it
    table_next : table_m x y c m NEXT 0 c ≡ l x y
    unfolding table_m
    table_next = chain_next n (with_pair t x y) l g (number_m x y m) given x y has c

    -- by a limit
    limit_step : (limit : ℕ)
        → Stage n (with_pair t x y) l (λ x' y' f e. cond (same_pair x y x' y') (g x' y' f e && within_limit limit f e) (g x' y' f e))
        (limit_m limit x y m)
    unfolding limit_m
    limit_step = lower_stage n (with_pair t x y) l g (number_m x y m) given x y has

  -- ---- constraint after constraint

  -- the first `c` constraints are in the memory
  abbrev pub StageAt : ℕ → Mem → Type 0
  StageAt c =
      Stage n (λ x y. any_below c (over b x y)) (λ x y. table_below b x y c) (λ x y f e. within_each b x y c f e)

  -- they are over linked variables alone
  before_linked : (c : ℕ) → c ≤ constraint_count b → (x y : ℕ) → any_below c (over b x y) ≡ true → any_over b x y ≡ true
  before_linked c h x y e =
      let r = some_below c (over b x y) e in
      any_below_lem (constraint_count b) (over b x y) r.0 (omega arith) r.2

  -- a constraint that joins two variables is over them either way round
  same_over : (c p q : ℕ) → JoinedBy b c p q → (x y : ℕ) → SamePair x y p q → over b x y c ≡ true
  same_over c p q joined x y (inl e) = ap₂ (λ (x y : ℕ). over b x y c) e.0 e.1 ∙ side_over b p q c joined
  same_over c p q joined x y (inr e) =
      ap₂ (λ (x y : ℕ). over b x y c) e.0 e.1 ∙ over_turned b q p c ∙ side_over b p q c joined

  module _ (c : ℕ) (h : c < constraint_count b) (m : Mem) (s : StageAt c m) where
    abbrev at : ℕ
    at = constraint_start b c

    abbrev touched : ℕ → ℕ → Bool
    touched x y = any_below c (over b x y)

    abbrev within : ℕ → ℕ → ℕ → ℕ → Bool
    within x y f e = within_each b x y c f e

    -- a table is over its first two variables alone
    module _ (table : is_table b c ≡ true) where
      abbrev first : ℕ
      first = first_at b at - 1

      abbrev second : ℕ
      second = second_at b at - 1

      joined : JoinedBy b c first second
      joined = ends_joined b None-found c h

      over_ends : (x y : ℕ) → same_pair first second x y ≡ over b x y c
      over_ends x y =
          bool_ext (same_pair first second x y) (over b x y c) (λ e. same_over c first second joined x y (same_pair_lem first second x y e))
          (λ o. pair_same first second x y (⊎_elim (λ p. inl (ends x y p)) (λ p. let q = ends y x p in inr (q.1, q.0)) (over_sides b x y c o)))
        where
          ends : (x y : ℕ) → JoinedBy b c x y → (x ≡ first) × (y ≡ second)
          ends x y p = omega (arith, table_ends b None-found c h table x y p)

      table_stage : StageAt (suc c) (table_m first second c m)
      unfolding nearest table_over within_each limit_over
      table_stage =
          stage_ext n (λ x y. ap (λ (o : Bool). touched x y || o) (over_ends x y))
          (λ x y.
          ap (λ (o : Bool). cond o (suc c) (table_below b x y c))
          (over_ends x y ∙ sym (and_true (over b x y c) table)))
          (λ x y f e.
          sym
          (and_true (within x y f e)
          (or_left (within_limit (limit_at b at) f e) (ap not (ap (λ (t : Bool). over b x y c && not t) table ∙ and_false_right (over b x y c) refl)))))
          (table_step touched (λ x y. table_below b x y c) within m s (before_linked c (omega arith)) c first second h joined)

    -- a limit is over each two members of its scope, one after the other
    module _ (limit : is_table b c ≡ false) where
      abbrev size : ℕ
      size = scope_size b at

      abbrev var : ℕ → ℕ
      var = member b None-found c h

      -- the pairs up to place `j`, and those of `j` with the places below `i`
      abbrev done : ℕ → ℕ → ℕ → ℕ → Bool
      done j i x y = any_below j (λ k. any_below k (λ h. same_pair (var h) (var k) x y)) || any_below i (λ h. same_pair (var h) (var j) x y)

      done_more : (j i x y : ℕ) → done j (suc i) x y ≡ done j i x y || same_pair (var i) (var j) x y
      done_more j i x y =
          sym (or_assoc (any_below j (λ k. any_below k (λ h. same_pair (var h) (var k) x y))) (any_below i (λ h. same_pair (var h) (var j) x y)) (same_pair (var i) (var j) x y))

      abbrev StageBeside : ℕ → ℕ → Mem → Type 0
      StageBeside j i =
          Stage n (λ x y. touched x y || done j i x y) (λ x y. table_below b x y c)
          (λ x y f e. within x y f e && (not (done j i x y) || within_limit (limit_at b at) f e))

      -- only pairs that the constraint is over
      pair_over : (i j : ℕ) → i < j → j < size → (x y : ℕ) → same_pair (var i) (var j) x y ≡ true → over b x y c ≡ true
      pair_over i j l k x y e =
          same_over c (var i) (var j) (members_joined b None-found c h i j l k) x y (same_pair_lem (var i) (var j) x y e)

      pairs_over : (j : ℕ) → j ≤ size → (x y : ℕ) → any_below j (λ k. any_below k (λ h. same_pair (var h) (var k) x y)) ≡ true → over b x y c ≡ true
      pairs_over j k x y e =
          let p = some_below j (λ k. any_below k (λ h. same_pair (var h) (var k) x y)) e in
          let q = some_below p.0 (λ h. same_pair (var h) (var p.0) x y) p.2 in
          pair_over q.0 p.0 q.1 (omega arith) x y q.2

      done_over : (j i : ℕ) → i ≤ j → j < size → (x y : ℕ) → done j i x y ≡ true → over b x y c ≡ true
      done_over j i l k x y e =
          ⊎_elim (pairs_over j (omega arith) x y)
          (λ r.
          let q = some_below i (λ h. same_pair (var h) (var j) x y) r in
          pair_over q.0 j (omega arith) k x y q.2)
          (or_cases (any_below j (λ k. any_below k (λ h. same_pair (var h) (var k) x y))) (any_below i (λ h. same_pair (var h) (var j) x y)) e)

      -- and in the end all of them
      all_done : (x y : ℕ) → done size 0 x y ≡ over b x y c
      all_done x y =
          or_comm (any_below size (λ k. any_below k (λ h. same_pair (var h) (var k) x y))) false
          ∙ bool_ext (any_below size (λ k. any_below k (λ h. same_pair (var h) (var k) x y))) (over b x y c) (pairs_over size (le_refl size) x y)
          (λ o.
          ⊎_elim
          (λ p.
          let r = joined_members b None-found c h x y p in
          found r.0 r.1 r.2 r.3 (inl (r.4, r.5)))
          (λ p.
          let r = joined_members b None-found c h y x p in
          found r.0 r.1 r.2 r.3 (inr (r.5, r.4)))
          (over_sides b x y c o))
        where
          found : (i j : ℕ) → i < j → j < size → SamePair x y (var i) (var j)
              → any_below size (λ k. any_below k (λ h. same_pair (var h) (var k) x y)) ≡ true
          found i j l k p =
              any_below_lem size (λ k. any_below k (λ h. same_pair (var h) (var k) x y)) j k
              (any_below_lem j (λ h. same_pair (var h) (var j) x y) i l (pair_same (var i) (var j) x y p))

      beside_step : (j i : ℕ) → i < j → j < size → (o : Mem) → StageBeside j i o → StageBeside j (suc i) (limit_m (limit_at b at) (var i) (var j) o)
      beside_step j i l k o st =
          stage_ext n (λ x y. or_assoc (touched x y) (done j i x y) (same_pair (var i) (var j) x y) ∙ ap (λ (d : Bool). touched x y || d) (sym (done_more j i x y)))
          (λ x y. refl)
          (λ x y f e.
          one_limit_more (within x y f e) (done j i x y) (same_pair (var i) (var j) x y) (within_limit (limit_at b at) f e)
          ∙ ap (λ (d : Bool). within x y f e && (not d || within_limit (limit_at b at) f e)) (sym (done_more j i x y)))
          (limit_step (λ x y. touched x y || done j i x y) (λ x y. table_below b x y c)
          (λ x y f e. within x y f e && (not (done j i x y) || within_limit (limit_at b at) f e)) o st linked c (var i) (var j) h
          (members_joined b None-found c h i j l k) (limit_at b at))
        where
          linked : (x y : ℕ) → touched x y || done j i x y ≡ true → any_over b x y ≡ true
          linked x y e =
              ⊎_elim (before_linked c (omega arith) x y)
              (λ d. any_below_lem (constraint_count b) (over b x y) c h (done_over j i (omega arith) k x y d))
              (or_cases (touched x y) (done j i x y) e)

      limits_stage : StageAt (suc c) (limits_m b at m)
      unfolding limits_m beside_m within_each limit_over table_over
      limits_stage =
          stage_ext n (λ x y. ap (λ (d : Bool). touched x y || d) (all_done x y)) (λ x y. sym (near_past (λ k. k) (table_over b x y) c (no_table x y)))
          (λ x y f e.
          ap (λ (d : Bool). within x y f e && (not d || within_limit (limit_at b at) f e))
          (all_done x y ∙ sym (and_true (over b x y c) (ap not limit))))
          (loop_carries (λ j. StageBeside j 0) size (λ j. beside_m b at j j) m
          (λ j k st.
          stage_ext n (λ x y. ap (λ (d : Bool). touched x y || d) (sym (or_comm (done j j x y) false))) (λ x y. refl)
          (λ x y f e. ap (λ (d : Bool). within x y f e && (not d || within_limit (limit_at b at) f e)) (sym (or_comm (done j j x y) false)))
          (loop_carries (λ i. StageBeside j i) j (λ i. limit_m (limit_at b at) (var i) (var j)) _ (λ i l. beside_step j i l k _) st))
          (stage_ext n (λ x y. sym (or_comm (touched x y) false)) (λ x y. refl) (λ x y f e. sym (and_true (within x y f e) refl)) s))
        where
          no_table : (x y : ℕ) → table_over b x y c ≡ false
          no_table x y = and_false_right (over b x y c) limit

    -- a constraint of either kind
    constraint_stage : StageAt (suc c) (constraint_m b c m)
    unfolding constraint_m
    constraint_stage =
        ⊎_elim
        (λ t. rw (cond_true (table_m (first_at b at - 1) (second_at b at - 1) c m) (limits_m b at m) t) (table_stage t))
        (λ t. rw (cond_false (table_m (first_at b at - 1) (second_at b at - 1) c m) (limits_m b at m) t) (limits_stage t))
        (decided (is_table b c))

  -- ---- all constraints, from a memory without any

  module _ (m : Mem) (blank : (r : ℕ) → ForPairs r → (i j : ℕ) → m r i j ≡ 0) where
    no_pair : (x y : ℕ) → m PAIRS x y ≡ 0
    no_pair = blank PAIRS (inl refl)

    no_end : m PAIREND 0 0 ≡ 0
    no_end = blank PAIREND (inr (omega arith)) 0 0

    stage_none : StageAt 0 m
    unfolding within_each
    stage_none = record {
      turned = λ x y. no_pair x y ∙ sym (no_pair y x);
      given = λ x y. ap (λ (p : ℕ). eqb p 0) (no_pair x y);
      low = λ x y. omega (arith, no_pair x y);
      own = λ x y x' y' some same. absurd (omega (arith, no_pair x y));
      counted = no_end ∙ sym (sum_zero n (λ y. count_below y (λ x. false)) (λ y h. sum_zero y (λ x. 0) (λ x l. refl)));
      few = omega (arith, no_end);
      no_last = λ x y e. near_none (λ k. k) (table_over b x y);
      no_limit = λ x y e f h. refl;
      lasts = λ x y e. absurd (false≢true e);
      limits = λ x y e f h. absurd (false≢true e);
      free_last = λ p h. blank LASTS (inr (omega arith)) 0 p;
      free_limit = λ p h. blank LIMITS (inr (omega arith)) p LIMITED;
    }

    -- the first `c` of them
    stage_below : (c : ℕ) → c ≤ constraint_count b → StageAt c (loop c (constraint_m b) m)
    stage_below c h =
        loop_carries StageAt c (constraint_m b) m (λ k l s. constraint_stage k (omega arith) (loop k (constraint_m b) m) s) stage_none

    pub stage_all : StageAt (constraint_count b) (constraints_m b m)
    unfolding constraints_m
    stage_all = stage_below (constraint_count b) (le_refl (constraint_count b))

    -- each table goes on with the last one before it
    pub constraints_nexts : (c : ℕ) → c < constraint_count b → (x y : ℕ) → table_over b x y c ≡ true → constraints_m b m NEXT 0 c ≡ table_below b x y c
    unfolding constraints_m constraint_m table_over
    constraints_nexts c h x y o =
        let table : is_table b c ≡ true = and_right (over b x y c) (is_table b c) o in
        let before = loop c (constraint_m b) m in
        let at = constraint_start b c in
        let f = first_at b at - 1 in
        let s = second_at b at - 1 in
        let st = stage_below c (omega arith) in
        loop_from (λ a. a NEXT 0 c ≡ table_below b x y c) (constraint_count b) (constraint_m b) m c h
        (ap (λ (a : Mem). a NEXT 0 c) (cond_true (table_m f s c before) (limits_m b at before) table)
        ∙ table_next (λ x y. any_below c (over b x y)) (λ x y. table_below b x y c) (λ x y f e. within_each b x y c f e) before st
        (before_linked c (omega arith)) c f s h (ends_joined b None-found c h)
        ∙ same (same_pair_lem f s x y (over_ends c h before st table x y ∙ and_left (over b x y c) (is_table b c) o)))
        (λ k after inside a e. constraint_keeps NEXT 0 c k (inr (refl, λ q. omega arith)) b a ∙ e)
      where
        same : {p q : ℕ} → SamePair x y p q → table_below b p q c ≡ table_below b x y c
        same (inl e) = rw (e.0, e.1)
        same {p} {q} (inr e) = rw (e.0, e.1) (near_ext (λ k. k) (table_over b p q) (table_over b q p) (λ k. ap (λ (t : Bool). t && is_table b k) (over_turned b p q k)) c)
