-- The regions lie apart, so a store changes one point of the memory.
use Prim.Native.Nat.{ℕ, zero, suc, ◌+◌, ◌*◌, ◌/◌, ◌^◌, ◌<◌, ◌≤◌}
use mathlib.Core.Bool.{Bool, true, false, cond, ◌&&◌}
use mathlib.Core.List.{List}
use mathlib.Core.Logic.{⊎_elim}
use mathlib.Core.Path.{◌≡◌, refl, sym, ◌∙◌, ap, subst}
use native.Mathlib.Decide.{ℕ_discrete, dec_lt}
use native.Mathlib.Nat.{mul-le-mul_right}
use native.Mathlib.Omega.{arith}
use borrow.Author.Tests.{leb-true, lt-ltb, ltb-true}
use lib.Dec.{leb, ltb}
use lib.ListN.{length, get_or, set, get_or-eq_default}
use lib.Seq.{get_or-set_same, get_or-set_other}
use Rattle.disac4.specs.Need.{work_need}
use Rattle.base.proofs.Below.{all_below_lem, below_cases}
use Rattle.base.proofs.Bools.{and_left, and_right, and_intro}
use Rattle.base.proofs.Choice.{cond_true}
use Rattle.base.specs.Below.{all_below}
use Rattle.cells.proofs.Halves.{share_same, share_other}
use Rattle.cells.proofs.Stores.{store_is}
use Rattle.cells.specs.Layout.{BEHIND, regions, region, ends, region_at, cell_row, address, room, Fits}
use Rattle.cells.specs.Memory.{share_of, with_share, mem_of, store}
use Rattle.cells.specs.declared.Region.{Region}

-- each region ends before the next begins, computed over the table
apart : all_below BEHIND (λ r. leb (ends (region_at r)) (region_at (suc r)).base) ≡ true
unfolding work_need
apart = refl

next_apart : (r : ℕ) → r < BEHIND → ends (region_at r) ≤ (region_at (suc r)).base
next_apart r h =
    leb-true (ends (region_at r)) (region_at (suc r)).base
    (all_below_lem BEHIND (λ r. leb (ends (region_at r)) (region_at (suc r)).base) apart r h)

-- behind the table all is one region
pub past_table : (r : ℕ) → BEHIND ≤ r → region_at r ≡ region BEHIND work_need 1 (2 ^ 64) false
past_table r h = get_or-eq_default regions (region BEHIND work_need 1 (2 ^ 64) false) h

before : (r s : ℕ) → r < BEHIND → r < s → ends (region_at r) ≤ (region_at s).base
before r zero h l = omega arith
before r (suc s) h l = ⊎_elim here (λ x. later (before r s h x) x) (below_cases l)
  where
    here : r ≡ s → ends (region_at r) ≤ (region_at (suc s)).base
    here e = subst (λ (t : ℕ). ends (region_at r) ≤ (region_at (suc t)).base) e (next_apart r h)

    later : ends (region_at r) ≤ (region_at s).base → r < s → ends (region_at r) ≤ (region_at (suc s)).base
    later ih x =
        elim (dec_lt s BEHIND) [
          | yes y ↦ omega (arith, next_apart s y)
          | no n ↦ rw (past_table (suc s) (omega arith)) (rw (past_table s (omega arith)) at ih)
        ]

-- a place lies within its region
within : (g : Region) (i j : ℕ) → i < g.rows → j < g.cols → address g i j < ends g
within g i j h l = go g.halved
  where
    go : (t : Bool) → g.base + cond t (i / 2) i * g.cols + j < g.base + cond t ((g.rows + 1) / 2) g.rows * g.cols
    go true =
        let less : i / 2 < (g.rows + 1) / 2 = omega arith in
        omega (arith, mul-le-mul_right g.cols less)
    go false = omega (arith, mul-le-mul_right g.cols h)

-- a place of a region of the table is one of the needed cells
pub place_low : (r i j : ℕ) → r < BEHIND → i < (region_at r).rows → j < (region_at r).cols → address (region_at r) i j < work_need
place_low r i j h row col = omega (arith, within (region_at r) i j row col, before r BEHIND h h)

-- in rows of as many columns, two places are one only if row and column are
same_place : (n i j i' j' : ℕ) → j < n → j' < n → i * n + j ≡ i' * n + j' → (i ≡ i') × (j ≡ j')
same_place n i j i' j' h h' e =
    elim (dec_lt i i') [
      | yes l ↦ absurd (omega (arith, mul-le-mul_right n l))
      | no x ↦ elim (dec_lt i' i) [
        | yes l ↦ absurd (omega (arith, mul-le-mul_right n l))
        | no y ↦ let s : i ≡ i' = omega arith in (s, omega (arith, ap (λ (k : ℕ). k * n) s))
      ]
    ]

-- two places are one cell only if region, row of cells and column are
same_cell : (r i j s k l : ℕ) → r < BEHIND → i < (region_at r).rows → j < (region_at r).cols → k < (region_at s).rows → l < (region_at s).cols
    → address (region_at s) k l ≡ address (region_at r) i j
    → (s ≡ r) × (cell_row (region_at r) k ≡ cell_row (region_at r) i) × (l ≡ j)
same_cell r i j s k l low row col row' col' e =
    elim (ℕ_discrete s r) [
      | yes p ↦
          let e' : address (region_at r) k l ≡ address (region_at r) i j =
          subst (λ (t : ℕ). address (region_at t) k l ≡ address (region_at r) i j) p e in
          let c' : l < (region_at r).cols = subst (λ (t : ℕ). l < (region_at t).cols) p col' in
          let q = same_place (region_at r).cols (cell_row (region_at r) k) l (cell_row (region_at r) i) j c' col (omega arith) in
          (p, q.0, q.1)
      | no q ↦ elim (dec_lt s r) [
        | yes x ↦ absurd (omega (arith, within (region_at s) k l row' col', before s r (omega arith) x))
        | no y ↦ absurd (omega (arith, within (region_at r) i j row col, before r s low (omega arith)))
      ]
    ]

-- a read
mem_get : (cells : List ℕ) (r i j : ℕ) → i < (region_at r).rows → j < (region_at r).cols
    → mem_of cells r i j ≡ share_of (region_at r) i (get_or cells (address (region_at r) i j) 0)
unfolding mem_of
mem_get cells r i j row col =
    cond_true _ 0 (and_intro (lt-ltb i (region_at r).rows row) (lt-ltb j (region_at r).cols col))

module _ (cells : List ℕ) (r i j v : ℕ) (low : r < BEHIND) (row : i < (region_at r).rows) (col : j < (region_at r).cols)
    (long : work_need ≤ length cells) (small : v < room (region_at r)) where
  -- the cell of the store
  abbrev here : ℕ
  here = address (region_at r) i j

  -- what it then holds
  abbrev changed : ℕ
  changed = with_share (region_at r) i v (get_or cells here 0)

  -- the cells after the store
  abbrev new : List ℕ
  new = set cells here changed

  changed_here : get_or new here 0 ≡ changed
  changed_here = get_or-set_same cells here changed 0 (omega (arith, place_low r i j low row col))

  -- it puts its value
  put_here : mem_of new r i j ≡ v
  put_here =
      mem_get new r i j row col ∙ ap (share_of (region_at r) i) changed_here
      ∙ share_same (region_at r) i v (get_or cells here 0) small

  -- and leaves every other point alone
  put_apart : (s k l : ℕ) → (s ≡ r → k ≡ i → l ≡ j → ⊥) → mem_of new s k l ≡ mem_of cells s k l
  unfolding mem_of
  put_apart s k l n = go (ltb k (region_at s).rows && ltb l (region_at s).cols) refl
    where
      there : ℕ
      there = address (region_at s) k l

      -- the other row of the cell
      shared : (s ≡ r) × (cell_row (region_at r) k ≡ cell_row (region_at r) i) × (l ≡ j) → there ≡ here
          → share_of (region_at s) k (get_or new there 0) ≡ share_of (region_at s) k (get_or cells there 0)
      shared p e =
          rw (e, p.0)
          (ap (share_of (region_at r) k) changed_here
          ∙ share_other (region_at r) i v (get_or cells here 0) small k p.1 (λ q. n p.0 q p.2))

      go : (b : Bool) → ltb k (region_at s).rows && ltb l (region_at s).cols ≡ b
          → cond b (share_of (region_at s) k (get_or new there 0)) 0 ≡ cond b (share_of (region_at s) k (get_or cells there 0)) 0
      go true e =
          elim (ℕ_discrete there here) [
            | yes p ↦
                shared
                (same_cell r i j s k l low row col
                (ltb-true k (region_at s).rows (and_left (ltb k (region_at s).rows) (ltb l (region_at s).cols) e))
                (ltb-true l (region_at s).cols (and_right (ltb k (region_at s).rows) (ltb l (region_at s).cols) e)) p)
                p
            | no d ↦ ap (share_of (region_at s) k) (get_or-set_other cells here there changed 0 d)
          ]
      go false e = refl

  -- so it is a store in the memory
  mem_put : mem_of new ≡ store (mem_of cells) r i j v
  mem_put = store_is (mem_of cells) r i j v (mem_of new) put_here put_apart

-- ---- the same for a region that the code names

module _ (cells : List ℕ) (g : Region) (i j : ℕ) (fits : Fits cells g i j) where
  -- what holds of the place by the table holds of it by the region
  by_table : (P : Region → Type 0) → P (region_at g.id) → P g
  by_table P h = subst P fits.known h

  row_known : i < (region_at g.id).rows
  row_known = subst (λ (h : Region). i < h.rows) (sym fits.known) fits.row

  col_known : j < (region_at g.id).cols
  col_known = subst (λ (h : Region). j < h.cols) (sym fits.known) fits.col

  -- a place is one of the needed cells
  pub place_needed : address g i j < work_need
  place_needed =
      by_table (λ h. address h i j < work_need) (place_low g.id i j fits.writable row_known col_known)

  pub get_law : mem_of cells g.id i j ≡ share_of g i (get_or cells (address g i j) 0)
  get_law =
      by_table (λ h. mem_of cells g.id i j ≡ share_of h i (get_or cells (address h i j) 0))
      (mem_get cells g.id i j row_known col_known)

  pub put_law : (v : ℕ) → v < room g
      → mem_of (set cells (address g i j) (with_share g i v (get_or cells (address g i j) 0))) ≡ store (mem_of cells) g.id i j v
  put_law v small =
      by_table
      (λ h. mem_of (set cells (address h i j) (with_share h i v (get_or cells (address h i j) 0))) ≡ store (mem_of cells) g.id i j v)
      (mem_put cells g.id i j v fits.writable row_known col_known fits.long
      (subst (λ (h : Region). v < room h) (sym fits.known) small))
