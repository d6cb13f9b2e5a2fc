-- Counting the supports in memory leaves each label its count against each linked variable.
use Prim.Native.Nat.{ℕ, ◌<◌}
use mathlib.Core.Bool.{Bool, true, false}
use mathlib.Core.Logic.{◌⊎◌, inl, inr, ⊎_elim}
use mathlib.Core.Path.{◌≡◌, refl, sym, ◌∙◌, ap}
use native.Mathlib.Decide.{dec_lt}
use native.Mathlib.Omega.{arith}
use Rattle.base.proofs.Choice.{cond_true, cond_false}
use Rattle.base.proofs.Loops.{loop_keeps, loop_same, loop_from, loop_at}
use Rattle.base.specs.Below.{loop}
use Rattle.disac4.specs.System.{System}
use Rattle.network.specs.Network.{support_count}
use Rattle.cells.proofs.Stores.{store_same, store_other}
use Rattle.cells.specs.Layout.{COUNTERS, PAIRS}
use Rattle.cells.specs.Memory.{Mem}
use Rattle.cells.specs.View.{counter_row}
use Rattle.counting.proofs.Kept.{SameElse, against_else, both_else, variable_else}
use Rattle.counting.specs.Count.{count_value_m, count_pair_m, count_against_m, count_both_m, count_variable_m, count_supports_m}
use Rattle.index.proofs.Kept.{row_pairs}
use Rattle.index.specs.Index.{Paired}
use Rattle.refinement.proofs.InvKept.{SameNumbers}
use Rattle.refinement.proofs.Labelwise.{own_row}
use Rattle.refinement.specs.Inv.{Small}

-- ---- the counters of one variable against another

module _ (sys : System) (x y : ℕ) (m : Mem) where
  abbrev count : ℕ → ℕ
  count v = support_count sys.net x v y

  pair_apart : (a b : ℕ) → (a ≡ counter_row m x y → ⊥) → count_pair_m sys x y m COUNTERS a b ≡ m COUNTERS a b
  unfolding count_pair_m
  pair_apart a b d =
      loop_same (λ o. o COUNTERS a b) (sys.net.size x) (count_value_m sys x y (counter_row m x y))
      (λ v h o. store_other o COUNTERS (counter_row m x y) v (count v) COUNTERS a b (λ e p q. d p)) m

  pair_at : (v : ℕ) → v < sys.net.size x → count_pair_m sys x y m COUNTERS (counter_row m x y) v ≡ count v
  unfolding count_pair_m
  pair_at v h =
      loop_from (λ o. o COUNTERS (counter_row m x y) v ≡ count v) (sys.net.size x) (count_value_m sys x y (counter_row m x y)) m v h
      (store_same (loop v (count_value_m sys x y (counter_row m x y)) m) COUNTERS (counter_row m x y) v (count v))
      (λ w after inside o e.
      store_other o COUNTERS (counter_row m x y) w (count w) COUNTERS (counter_row m x y) v (λ r p q. omega arith) ∙ e)

-- ---- one counter among all

module _ (sys : System) (small : Small sys) (z : Mem) (paired : Paired sys z) (x v y : ℕ) (h : v < sys.net.size x)
    (l : sys.net.linked x y ≡ true) where
  -- the counter stands
  abbrev Stands : Mem → Type 0
  Stands m = SameNumbers z m × (m COUNTERS (counter_row z x y) v ≡ support_count sys.net x v y)

  pairs_after : (m m' : Mem) → SameElse m m' → SameNumbers z m → SameNumbers z m'
  pairs_after m m' e s a b = e.kept PAIRS a b (omega arith) ∙ s a b

  -- no other two variables' counters disturb it
  others : (x' y' : ℕ) → (x' ≡ x → y' ≡ y → ⊥) → (m : Mem) → Stands m → Stands (count_against_m sys x' y' m)
  unfolding count_against_m
  others x' y' d m s =
      (pairs_after m (count_against_m sys x' y' m) (against_else sys x' y' m) s.0, go (sys.net.linked x' y') refl ∙ s.1)
    where
      go : (t : Bool) → sys.net.linked x' y' ≡ t
          → count_against_m sys x' y' m COUNTERS (counter_row z x y) v ≡ m COUNTERS (counter_row z x y) v
      go true e =
          ap (λ (o : Mem). o COUNTERS (counter_row z x y) v) (cond_true (count_pair_m sys x' y' m) m e)
          ∙ pair_apart sys x' y' m (counter_row z x y) v
          (λ p.
          let q = own_row sys small z paired x y x' y' l e (p ∙ row_pairs z m x' y' (s.0 x' y')) in d (sym q.0) (sym q.1))
      go false e = ap (λ (o : Mem). o COUNTERS (counter_row z x y) v) (cond_false (count_pair_m sys x' y' m) m e)

  own : (m : Mem) → SameNumbers z m → Stands (count_against_m sys x y m)
  unfolding count_against_m
  own m s = (
    pairs_after m (count_against_m sys x y m) (against_else sys x y m) s,
    ap (λ (o : Mem). o COUNTERS (counter_row z x y) v) (cond_true (count_pair_m sys x y m) m l)
        ∙ ap (λ (k : ℕ). count_pair_m sys x y m COUNTERS k v) (sym (row_pairs z m x y (s x y)))
        ∙ pair_at sys x y m v h,
  )

  -- the two variables in their order; their turn comes when the higher one is counted with the lower
  module _ (low high : ℕ) (below : low < high) (inside : high < sys.net.variables)
      (these : ((low ≡ x) × (high ≡ y)) ⊎ ((low ≡ y) × (high ≡ x))) where
    other_two : (x' y' : ℕ) → x' < y' → (x' ≡ low → y' ≡ high → ⊥) → (m : Mem) → Stands m → Stands (count_both_m sys x' y' m)
    unfolding count_both_m
    other_two x' y' k d m s =
        others y' x' (λ e f. ⊎_elim (λ p. omega arith) (λ p. d (omega arith) (omega arith)) these) (count_against_m sys x' y' m)
        (others x' y' (λ e f. ⊎_elim (λ p. d (omega arith) (omega arith)) (λ p. omega arith) these) m s)

    own_two : (m : Mem) → SameNumbers z m → Stands (count_both_m sys low high m)
    unfolding count_both_m
    own_two m s = go these
      where
        go : ((low ≡ x) × (high ≡ y)) ⊎ ((low ≡ y) × (high ≡ x)) → Stands (count_both_m sys low high m)
        go (inl p) = rw (p.0, p.1) (others y x (λ e f. omega arith) (count_against_m sys x y m) (own m s))
        go (inr p) =
            rw (p.0, p.1)
            (own (count_against_m sys y x m) (pairs_after m (count_against_m sys y x m) (against_else sys y x m) s))

    counted_once : count_supports_m sys z COUNTERS (counter_row z x y) v ≡ support_count sys.net x v y
    unfolding count_supports_m count_variable_m
    counted_once =
        (loop_at (SameNumbers z) Stands sys.net.variables (count_variable_m sys) high inside
        (λ j k d m. pairs_after m (count_variable_m sys j m) (variable_else sys j m))
        (λ j k d. loop_keeps Stands j (λ i. count_both_m sys i j) (λ i b. other_two i j b (λ e f. d f)))
        (loop_at (SameNumbers z) Stands high (λ i. count_both_m sys i high) low below
        (λ i b d m. pairs_after m (count_both_m sys i high m) (both_else sys i high m))
        (λ i b d. other_two i high b (λ e f. d e)) own_two)
        z (λ a b. refl)).1

  -- in the end each label has its count against each linked variable
  pub counted_at : count_supports_m sys z COUNTERS (counter_row z x y) v ≡ support_count sys.net x v y
  counted_at =
      let i = small.links_inside x y l in
      elim (dec_lt x y) [
        | yes k ↦ counted_once x y k i.1 (inl (refl, refl))
        | no k ↦ counted_once y x (omega (arith, i.2)) i.0 (inr (refl, refl))
      ]
