-- The labels that a row holds lose one from their counts: lowest first and one after the other, and as the values of a
-- variable are touched.
use Prim.Native.Nat.{ℕ, zero, suc, ◌-◌, ◌^◌, ◌<◌}
use mathlib.Core.Bool.{Bool, true, false, cond, ◌&&◌}
use mathlib.Core.Logic.{⊎_elim}
use mathlib.Core.Path.{◌≡◌, refl, sym, ◌∙◌, ap, ap₂, subst}
use native.Mathlib.Nat.{not-suc-le-zero, lt_of_not-le}
use native.Mathlib.Omega.{arith}
use lib.Bits.{bit_and}
use lib.Count.{count_trailing_zeros}
use lib.Dec.{eqb}
use Rattle.base.proofs.Below.{below_cases}
use Rattle.base.proofs.Bools.{clash}
use Rattle.base.proofs.Choice.{cond_true, cond_false}
use Rattle.base.proofs.Loops.{loop_keeps, loop_same, loop_ext}
use Rattle.base.proofs.Lowest.{Lowest, lowest_value}
use Rattle.base.proofs.Row.{bit_past}
use Rattle.base.specs.Below.{loop}
use Rattle.base.specs.Row.{bit}
use Rattle.disac4.specs.System.{System}
use Rattle.cells.proofs.Stores.{store_other, store_apart, delete_stores}
use Rattle.cells.specs.Layout.{DOMAIN, COUNTERS, LISTED}
use Rattle.cells.specs.Memory.{Mem, store}
use Rattle.cells.specs.Queues.{delete_m}
use Rattle.cells.specs.View.{in_domain, counter_row}
use Rattle.treating.specs.Treat.{lose_m, lose_row_m, touch_m}

-- a value of a row is one of those that there is room for
held_low : (n row v : ℕ) → row < 2 ^ n → bit row v ≡ true → v < n
held_low n row v h e = lt_of_not-le (λ k. clash e (bit_past n row v h k))

-- its lowest one too
pub lowest_low : (width n row : ℕ) → 0 < row → row < 2 ^ width → row < 2 ^ n → count_trailing_zeros width row < n
lowest_low width n row some fits h = held_low n row (count_trailing_zeros width row) h (lowest_value width row some fits).held

-- ---- one after the other

module _ (i x y : ℕ) where
  -- a label, if the row holds it
  abbrev held : ℕ → ℕ → Mem → Mem
  held row v m = cond (bit row v) (lose_m i x v y m) m

  -- a row without a value changes nothing
  none_lost : (n row : ℕ) (m : Mem) → ((v : ℕ) → v < n → bit row v ≡ false) → loop n (held row) m ≡ m
  none_lost n row m none = loop_keeps (λ o. o ≡ m) n (held row) (λ v h o e. cond_false _ o (none v h) ∙ e) m refl

  pub empty_lost : (n : ℕ) (m : Mem) → lose_row_m n i x y 0 m ≡ m
  unfolding lose_row_m
  empty_lost n m = none_lost n 0 m (λ v h. bit_past 0 0 v (omega arith) (omega arith))

  -- the lowest value may go first
  first_lost : (n row v rest : ℕ) (m : Mem) → Lowest row v rest → v < n → loop n (held row) m ≡ loop n (held rest) (lose_m i x v y m)
  unfolding loop
  first_lost zero row v rest m l h = absurd (not-suc-le-zero h)
  first_lost (suc n) row v rest m l h =
      ⊎_elim (λ e. subst (λ (n : ℕ). held row n (loop n (held row) m) ≡ held rest n (loop n (held rest) (lose_m i x v y m))) e here)
      (λ k.
      ap₂ (λ (t : Bool) (o : Mem). cond t (lose_m i x n y o) o) (sym (l.others n (λ e. omega arith))) (first_lost n row v rest m l k))
      (below_cases h)
    where
      before : (u : ℕ) → u < v → bit rest u ≡ false
      before u k = l.others u (λ e. omega arith) ∙ l.none_before u k

      here : held row v (loop v (held row) m) ≡ held rest v (loop v (held rest) (lose_m i x v y m))
      here =
          cond_true _ _ l.held ∙ ap (lose_m i x v y) (none_lost v row m l.none_before)
          ∙ sym (cond_false _ _ l.gone ∙ none_lost v rest (lose_m i x v y m) before)

  pub lowest_lost : (width n row : ℕ) (m : Mem) → 0 < row → row < 2 ^ width → row < 2 ^ n
      → lose_row_m n i x y row m ≡ lose_row_m n i x y (bit_and row (row - 1)) (lose_m i x (count_trailing_zeros width row) y m)
  unfolding lose_row_m
  lowest_lost width n row m some fits h =
      first_lost n row (count_trailing_zeros width row) (bit_and row (row - 1)) m (lowest_value width row some fits)
      (lowest_low width n row some fits h)

-- ---- as the values of a variable are touched

-- a test of two parts
both_hold : (s t : Bool) (m n : Mem) → cond (s && t) m n ≡ cond t (cond s m n) n
both_hold true t m n = refl
both_hold false true m n = refl
both_hold false false m n = refl

-- a label that loses one leaves the others in their domain
lose_apart : (i x v y u : ℕ) (m : Mem) → (u ≡ v → ⊥) → lose_m i x v y m DOMAIN x u ≡ m DOMAIN x u
unfolding lose_m
lose_apart i x v y u m apart = go (eqb (m COUNTERS (counter_row m x y) v - 1) 0)
  where
    lowered : Mem
    lowered = store m COUNTERS (counter_row m x y) v (m COUNTERS (counter_row m x y) v - 1)

    same : lowered DOMAIN x u ≡ m DOMAIN x u
    same = store_apart m COUNTERS (counter_row m x y) v (m COUNTERS (counter_row m x y) v - 1) DOMAIN x u (omega arith)

    go : (t : Bool) → cond t (delete_m i x v lowered) lowered DOMAIN x u ≡ m DOMAIN x u
    go true =
        delete_stores i x v lowered DOMAIN x u (omega arith) (omega arith)
        ∙ store_other lowered DOMAIN x v 0 DOMAIN x u (λ e f. apart) ∙ same
    go false = same

-- a row holds the labels of `x` that lose label `w` of `y`: they had it as a support and are in their domain
pub record LosingRow (sys : System) (m : Mem) (y w x row : ℕ) : Type 0 where
  pub holds : (v : ℕ) → v < sys.net.size x → bit row v ≡ sys.net.allows x v y w && in_domain m x v
  pub few : row < 2 ^ sys.net.size x

module _ (sys : System) (i y w x : ℕ) (m : Mem) where
  -- a label that is not touched yet is in its domain as before
  untouched : (v : ℕ) → in_domain (loop v (touch_m sys i y w x) m) x v ≡ in_domain m x v
  unfolding touch_m
  untouched v =
      loop_same (λ o. in_domain o x v) v (touch_m sys i y w x)
      (λ u h o.
      go u o (λ e. omega arith) (in_domain o x u) (sys.net.allows x u y w))
      m
    where
      go : (u : ℕ) (o : Mem) → (v ≡ u → ⊥) → (s t : Bool) → in_domain (cond s (cond t (lose_m i x u y o) o) o) x v ≡ in_domain o x v
      go u o apart true true = ap (λ (c : ℕ). eqb c LISTED) (lose_apart i x u y v o apart)
      go u o apart true false = refl
      go u o apart false t = refl

  -- so the values of the row are those that are touched
  pub row_touched : (row : ℕ) → LosingRow sys m y w x row
      → lose_row_m (sys.net.size x) i x y row m ≡ loop (sys.net.size x) (touch_m sys i y w x) m
  unfolding lose_row_m touch_m
  row_touched row r =
      loop_ext (sys.net.size x) (held i x y row) (touch_m sys i y w x) m
      (λ v h.
      let o = loop v (touch_m sys i y w x) m in
      ap (λ (t : Bool). cond t (lose_m i x v y o) o)
      (r.holds v h ∙ ap (λ (t : Bool). sys.net.allows x v y w && t) (sym (untouched v)))
      ∙ both_hold (sys.net.allows x v y w) (in_domain o x v) (lose_m i x v y o) o)

  -- an empty row is without effect
  pub none_touched : LosingRow sys m y w x 0 → m ≡ loop (sys.net.size x) (touch_m sys i y w x) m
  none_touched r = sym (empty_lost i x y (sys.net.size x) m) ∙ row_touched 0 r
