-- What keeps the plan's index, and the cells behind the needed ones: all regions from PAIRS on.
use Prim.Native.Nat.{ℕ, ◌+◌, ◌-◌, ◌*◌, ◌≤◌}
use mathlib.Core.List.{List}
use mathlib.Core.Path.{◌≡◌, sym, ◌∙◌, ap}
use native.Mathlib.Omega.{arith}
use lib.Dec.{ltb, eqb}
use lib.ListN.{length}
use Rattle.base.specs.Below.{one}
use Rattle.index.proofs.Stages.{within_same}
use Rattle.index.specs.Index.{within_lowest, Indexed, Ready}
use Rattle.cells.proofs.Done.{Done}
use Rattle.cells.proofs.RegionsKept.{RegionsKept, kept_repeated}
use Rattle.cells.specs.Layout.{PAIRS, PLACES, NEXT, FIRST, FOLLOW, LASTS, LIMITS}
use Rattle.cells.specs.Memory.{Mem, mem_of}
use Rattle.cells.specs.View.{counter_row}

-- those regions are in `n` what they are in `m`
abbrev pub IndexKept : Mem → Mem → Type 0
IndexKept = RegionsKept (λ r. PAIRS ≤ r)

-- where they are, the index stays
pub indexed_kept : (b : List ℕ) (m n : Mem) → IndexKept m n → Indexed b m → Indexed b n
indexed_kept b m n same x = record {
  places = λ k l. same.kept PLACES 0 k (omega arith) ∙ x.places k l;
  numbered = λ i j. ap (λ (p : ℕ). eqb p 0) (pairs i j) ∙ x.numbered i j;
  few = λ i j. rw (pairs i j) (x.few i j);
  own = λ i j k l some e. x.own i j k l (rw (pairs i j) at some) (sym (pairs i j) ∙ e ∙ pairs k l);
  lasts = λ i j o. same.kept LASTS 0 (n PAIRS i j) (omega arith) ∙ ap (m LASTS 0) (pairs i j) ∙ x.lasts i j o;
  nexts = λ c l i j o. same.kept NEXT 0 c (omega arith) ∙ x.nexts c l i j o;
  limits = λ i j o f g.
      ap (λ (p : ℕ). within_lowest n p f g) (pairs i j)
      ∙ within_same m n (m PAIRS i j) (m PAIRS i j) (λ k. same.kept LIMITS (m PAIRS i j) k (omega arith)) f g ∙ x.limits i j o f g;
  first = λ i h y l. same.kept FIRST i y (omega arith) ∙ x.first i h y l;
  follow = λ i h k y l v o. same.kept FOLLOW k y (omega arith) ∙ x.follow i h k y l v o;
}
  where
    pairs : (i j : ℕ) → n PAIRS i j ≡ m PAIRS i j
    pairs i j = same.kept PAIRS i j (omega arith)

-- cells of the same length whose memory keeps the index are ready too
pub ready_kept : (b old new : List ℕ) {n : Mem} → Ready b old → length new ≡ length old → mem_of new ≡ n
    → IndexKept (mem_of old) n → Ready b new
ready_kept b old new r l e k =
    record {
      long = omega (arith, r.long);
      sound = r.sound;
      index = indexed_kept b (mem_of old) (mem_of new) (rw e k) r.index;
    }

-- the same index gives two variables' counters the same row
pub row_pairs : (m n : Mem) (x y : ℕ) → n PAIRS x y ≡ m PAIRS x y → counter_row n x y ≡ counter_row m x y
unfolding counter_row
row_pairs m n x y e = ap (λ (h : ℕ). 2 * h - 1 + one (ltb y x)) e

-- cells stay ready while a loop goes on whose steps keep the index
pub ready_done : (b : List ℕ) {f : ℕ → Mem → Mem} {k : ℕ} {old new : List ℕ} → Ready b old → Done f old k new
    → ((j : ℕ) (m : Mem) → IndexKept m (f j m)) → Ready b new
ready_done b {f = f} {k = k} {old = old} {new = new} r d step =
    ready_kept b old new r d.size d.mem (kept_repeated f step k (mem_of old))
