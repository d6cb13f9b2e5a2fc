-- Laws that the code of counting meets its definitions in memory by.
use Prim.Native.Nat.{ℕ, ◌+◌, ◌^◌, ◌<◌, ◌≤◌}
use mathlib.Core.Bool.{Bool, true, false, cond, ◌&&◌}
use mathlib.Core.List.{List}
use mathlib.Core.Option.{none}
use mathlib.Core.Path.{◌≡◌, sym, ◌∙◌, ap, ap₂}
use native.Mathlib.Decide.{dec_lt}
use native.Mathlib.Omega.{arith}
use lib.ListN.{get_or, set, length-set}
use lib.Pow.{pow_mono}
use lib.Seq.{get_or-set_same, get_or-set_other}
use Rattle.base.proofs.Below.{up_to}
use Rattle.base.proofs.Choice.{cond_true, cond_false}
use Rattle.base.proofs.Row.{row_bit, row_small, bit_past, row_ext, row_more}
use Rattle.base.specs.Row.{bit, row_of}
use Rattle.disac4.specs.System.{System}
use Rattle.network.specs.Network.{supports}
use Rattle.plan.proofs.Links.{linked_symmetric}
use Rattle.plan.proofs.Pairs.{allowed_symmetric}
use Rattle.plan.specs.Decode.{plan_fault, plan_of}
use Rattle.plan.specs.Network.{share_constraint, network_of}
use Rattle.plan.specs.Plan.{Plan}
use Rattle.cells.specs.Memory.{Mem}
use Rattle.cells.specs.Layout.{VALUEROOM}
use Rattle.index.proofs.Labels.{values_low}
use Rattle.index.proofs.Linked.{linked_inside}
use Rattle.counting.specs.Count.{FirstRows, Gathered, support_row, count_pair_m, count_against_m, count_both_m}

-- a variable has no more values than there is room for, and so has a row of them
module _ (b : List ℕ) (sound : plan_fault b ≡ none) (x y : ℕ) (e : share_constraint (plan_of b) x y ≡ true) where
  pub size_low : (network_of (plan_of b)).size y ≤ VALUEROOM
  unfolding network_of
  size_low = values_low b sound y (linked_inside b sound x y e).1

  pub supports_held : (v row : ℕ) → row ≡ support_row (network_of (plan_of b)) x y v → row < 2 ^ (network_of (plan_of b)).size y
  supports_held v row r = omega (arith, row_small ((network_of (plan_of b)).size y) (supports (network_of (plan_of b)) x v y))

  pub supports_fit : (v row : ℕ) → row ≡ support_row (network_of (plan_of b)) x y v → row < 2 ^ VALUEROOM
  supports_fit v row r = omega (arith, supports_held v row r, pow_mono size_low)

-- ---- rows

-- one row more
pub rows_more : (f : ℕ → ℕ) (k : ℕ) (rows : List ℕ) (row : ℕ) → k < VALUEROOM → FirstRows f k rows → row ≡ f k → FirstRows f (k + 1) (set rows k row)
rows_more f k rows row h r e = record {
  long = length-set rows k row ∙ r.long;
  each =
      up_to (λ v. get_or (set rows k row) v 0 ≡ f v) k (get_or-set_same rows k row 0 (omega (arith, r.long)) ∙ e)
      (λ v l. get_or-set_other rows k v row 0 (λ q. omega arith) ∙ r.each v l);
}

-- where a value is put into the first `n` rows alone, it is put into all: its own row holds none from `n` on
pub rows_past : (n row v : ℕ) (old rows : List ℕ) → row < 2 ^ n → FirstRows (λ w. get_or old w 0 + cond (bit row w) (2 ^ v) 0) n rows
    → ((w : ℕ) → n ≤ w → get_or rows w 0 ≡ get_or old w 0)
    → Gathered row v old rows
rows_past n row v old rows held first rest = record {
  long = first.long;
  each = λ w h. elim (dec_lt w n) [
    | yes l ↦ first.each w l
    | no l ↦ rest w (omega arith) ∙ omega (arith, cond_false (2 ^ v) 0 (bit_past n row w held (omega arith)))
  ];
}

-- the rows of `y`, as they are gathered from those of `x`
module _ (plan : Plan) (x y : ℕ) where
  -- value `w` of `y` is in the row of value `v` of `x`
  abbrev pub held : ℕ → ℕ → Bool
  held w v = bit (support_row (network_of plan) x y v) w

  -- the row of those of the first `v` values of `x` that have `w` in theirs
  abbrev pub gathered : ℕ → ℕ → ℕ
  gathered v w = row_of v (held w)

  -- these rows hold lower values only
  pub gathered_small : (v : ℕ) (rows : List ℕ) → FirstRows (gathered v) VALUEROOM rows → (w : ℕ) → w < VALUEROOM → get_or rows w 0 < 2 ^ v
  gathered_small v rows g w h = omega (arith, g.each w h, row_small v (held w))

  -- one value more
  pub gathered_more : (v : ℕ) (rows new : List ℕ) (row : ℕ) → FirstRows (gathered v) VALUEROOM rows → row ≡ support_row (network_of plan) x y v
      → Gathered row v rows new → FirstRows (gathered (v + 1)) VALUEROOM new
  gathered_more v rows new row g e a = record {
    long = a.long;
    each = λ w h.
        a.each w h ∙ row_more v (get_or rows w 0) _ (held w) (g.each w h) (ap (λ (r : ℕ). cond (bit r w) (2 ^ v) 0) e);
  }

  -- when all values are gathered, these are the rows of supports
  pub gathered_all : (rows : List ℕ) → (network_of plan).size y ≤ VALUEROOM → FirstRows (gathered ((network_of plan).size x)) VALUEROOM rows
      → FirstRows (support_row (network_of plan) y x) ((network_of plan).size y) rows
  unfolding supports network_of
  gathered_all rows low g = record {
    long = g.long;
    each = λ w h.
        g.each w (omega arith)
        ∙ row_ext ((network_of plan).size x) (held w) (supports (network_of plan) y w x)
        (λ v l.
        row_bit ((network_of plan).size y) (supports (network_of plan) x v y) w h
        ∙ ap₂ ◌&&◌ (linked_symmetric plan x y) (allowed_symmetric plan x v y w));
  }

-- ---- both directions

module _ (sys : System) (x y : ℕ) (m : Mem) where
  pub both_linked : (m₁ m₂ : Mem) → sys.net.linked x y ≡ true → sys.net.linked y x ≡ true → m₁ ≡ count_pair_m sys x y m
      → m₂ ≡ count_pair_m sys y x m₁ → m₂ ≡ count_both_m sys x y m
  unfolding count_both_m count_against_m
  both_linked m₁ m₂ l l' p q = q ∙ ap (count_pair_m sys y x) (p ∙ sym (cond_true _ m l)) ∙ sym (cond_true _ _ l')

  pub both_apart : sys.net.linked x y ≡ false → sys.net.linked y x ≡ false → m ≡ count_both_m sys x y m
  unfolding count_both_m count_against_m
  both_apart l l' = sym (cond_false _ _ l' ∙ cond_false _ m l)
