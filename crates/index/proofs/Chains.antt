-- Indexing leaves the plan's index in memory, and every other region as it was.
use Prim.Native.Nat.{ℕ, ◌<◌, ◌≤◌}
use mathlib.Core.List.{List}
use mathlib.Core.Logic.{◌⊎◌, ⊎_elim}
use mathlib.Core.Option.{none}
use mathlib.Core.Path.{◌≡◌, sym, ◌∙◌, ap}
use native.Mathlib.Omega.{arith}
use lib.Dec.{eqb}
use Rattle.index.proofs.ConstraintIndex.{ForPairs, constraints_keep, constraints_nexts, stage_all}
use Rattle.index.proofs.OwnChains.{own_first, own_follow, own_keeps}
use Rattle.index.proofs.Places.{places_keep, places_at}
use Rattle.index.proofs.Stages.{within_same}
use Rattle.index.specs.Index.{within_lowest, Indexed, places_m, constraints_m, own_m, index_m}
use Rattle.cells.specs.Layout.{PAIRS, PLACES, NEXT, FIRST, FOLLOW, LASTS, LIMITS, PAIREND, BEHIND}
use Rattle.cells.specs.Memory.{Mem}
use Rattle.plan.specs.Decode.{plan_fault}

-- from a memory without an index, indexing leaves the plan's
pub indexed : (b : List ℕ) → plan_fault b ≡ none → (m : Mem) → ((r i j : ℕ) → PAIRS ≤ r → r < BEHIND → m r i j ≡ 0) → Indexed b (index_m b m)
unfolding index_m
indexed b None-found m blank =
    let p = places_m b m in
    let l = constraints_m b p in
    let blank' : (r : ℕ) → ForPairs r → (i j : ℕ) → p r i j ≡ 0 =
    λ r f i j.
    ⊎_elim (λ (e : r ≡ PAIRS). places_keep b m r i j (λ q. omega arith) ∙ blank r i j (omega arith) (omega arith))
    (λ (e : (LASTS ≤ r) × (r ≤ PAIREND)). places_keep b m r i j (λ q. omega arith) ∙ blank r i j (omega arith) (omega arith)) f in
    let stage = stage_all b None-found p blank' in
    let pairs : (x y : ℕ) → own_m b l PAIRS x y ≡ l PAIRS x y = λ x y. own_keeps b l PAIRS x y (λ e. omega arith) (λ e. omega arith) in
    let kept : (r i j : ℕ) → (r ≡ FIRST → ⊥) → (r ≡ FOLLOW → ⊥) → own_m b l r i j ≡ l r i j = own_keeps b l in
    let unled : (i y : ℕ) → l FIRST i y ≡ 0 =
    λ i y.
    constraints_keep b p FIRST i y (λ e. omega arith, λ e. omega arith, λ a e. omega arith)
    ∙ places_keep b m FIRST i y (λ e. omega arith) ∙ blank FIRST i y (omega arith) (omega arith) in
    record {
      places = λ k h.
          kept PLACES 0 k (λ e. omega arith) (λ e. omega arith)
          ∙ constraints_keep b p PLACES 0 k (λ e. omega arith, λ e. omega arith, λ a e. omega arith) ∙ places_at b m k h;
      numbered = λ x y. ap (λ (n : ℕ). eqb n 0) (pairs x y) ∙ stage.given x y;
      few = λ x y. omega (arith, pairs x y, stage.low x y, stage.few);
      own = λ x y x' y' some same. stage.own x y x' y' (rw (pairs x y) at some) (sym (pairs x y) ∙ same ∙ pairs x' y');
      lasts = λ x y o.
          kept LASTS 0 (own_m b l PAIRS x y) (λ e. omega arith) (λ e. omega arith) ∙ ap (l LASTS 0) (pairs x y) ∙ stage.lasts x y o;
      nexts = λ c h x y o. kept NEXT 0 c (λ e. omega arith) (λ e. omega arith) ∙ constraints_nexts b None-found p blank' c h x y o;
      limits = λ x y o f g.
          ap (λ (k : ℕ). within_lowest (own_m b l) k f g) (pairs x y)
          ∙ within_same l (own_m b l) (l PAIRS x y) (l PAIRS x y)
          (λ j. kept LIMITS (l PAIRS x y) j (λ e. omega arith) (λ e. omega arith)) f g
          ∙ stage.limits x y o f g;
      first = own_first b None-found l stage.given unled;
      follow = own_follow b None-found l stage.given unled;
    }

-- every region but the index's own is as it was
pub index_keeps : (b : List ℕ) (m : Mem) (r : ℕ) → (r < PAIRS) ⊎ (BEHIND ≤ r) → (i j : ℕ) → index_m b m r i j ≡ m r i j
unfolding index_m
index_keeps b m r apart i j =
    own_keeps b (constraints_m b (places_m b m)) r i j (other FIRST (omega arith) (omega arith)) (other FOLLOW (omega arith) (omega arith))
    ∙ constraints_keep b (places_m b m) r i j
    (other PAIRS (omega arith) (omega arith), other NEXT (omega arith) (omega arith), λ l h. ⊎_elim (λ (p : r < PAIRS). omega arith) (λ (p : BEHIND ≤ r). omega arith) apart)
    ∙ places_keep b m r i j (other PLACES (omega arith) (omega arith))
  where
    other : (s : ℕ) → PAIRS ≤ s → s < BEHIND → r ≡ s → ⊥
    other s l h e = ⊎_elim (λ (p : r < PAIRS). omega arith) (λ (p : BEHIND ≤ r). omega arith) apart
