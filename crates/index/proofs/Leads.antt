-- A variable in front of its owner's chains: which points of the memory change.
use Prim.Native.Nat.{ℕ, suc, ◌+◌, ◌<◌}
use mathlib.Core.Bool.{Bool, true, false, cond, ◌&&◌}
use mathlib.Core.Path.{◌≡◌, refl, sym, ◌∙◌, ap, ap₂}
use borrow.Author.Tests.{eq-eqb, ne_eqb}
use native.Mathlib.Numerals.{add-one}
use native.Mathlib.Omega.{arith}
use lib.Dec.{eqb}
use Rattle.base.proofs.Choice.{cond_true, cond_false}
use Rattle.base.proofs.Loops.{loop_same, loop_from}
use Rattle.base.specs.Below.{loop}
use Rattle.index.specs.Index.{lead_m}
use Rattle.cells.proofs.Stores.{store_same, store_other, store_apart}
use Rattle.cells.specs.Layout.{PAIRS, FIRST, FOLLOW}
use Rattle.cells.specs.Memory.{Mem, store}

module _ (i x : ℕ) where
  -- one variable in front of another's chain: two points change, and none if the two are not linked
  lead_same : (y : ℕ) (m : Mem) (r k j : ℕ) → (r ≡ FIRST → k ≡ i → j ≡ y → ⊥) → (r ≡ FOLLOW → k ≡ x → j ≡ y → ⊥)
      → lead_m i x y m r k j ≡ m r k j
  unfolding lead_m
  lead_same y m r k j h l = go (eqb (m PAIRS x y) 0)
    where
      go : (t : Bool) → cond t m (store (store m FOLLOW x y (m FIRST i y)) FIRST i y (x + 1)) r k j ≡ m r k j
      go true = refl
      go false =
          store_other (store m FOLLOW x y (m FIRST i y)) FIRST i y (x + 1) r k j h
          ∙ store_other m FOLLOW x y (m FIRST i y) r k j l

  -- nothing changes for one that is not linked
  lead_none : (y : ℕ) (m : Mem) → eqb (m PAIRS x y) 0 ≡ true → lead_m i x y m ≡ m
  unfolding lead_m
  lead_none y m e = cond_true m (store (store m FOLLOW x y (m FIRST i y)) FIRST i y (x + 1)) e

  -- two stores for one that is
  lead_made : (y : ℕ) (m : Mem) → eqb (m PAIRS x y) 0 ≡ false
      → lead_m i x y m ≡ store (store m FOLLOW x y (m FIRST i y)) FIRST i y (x + 1)
  unfolding lead_m
  lead_made y m e = cond_false m (store (store m FOLLOW x y (m FIRST i y)) FIRST i y (x + 1)) e

  -- all of them: the columns behind, the other rows and the other regions are as they were
  pub leads_same : (n : ℕ) (m : Mem) (r k j : ℕ) → (r ≡ FIRST → k ≡ i → j < n → ⊥) → (r ≡ FOLLOW → k ≡ x → j < n → ⊥)
      → loop n (lead_m i x) m r k j ≡ m r k j
  leads_same n m r k j h l =
      loop_same (λ o. o r k j) n (lead_m i x)
      (λ y c o. lead_same y o r k j (λ p q e. h p q (omega arith)) (λ p q e. l p q (omega arith))) m

  -- what it puts into its column hangs on that column alone
  lead_column : (y : ℕ) (m n : Mem) → ((r k : ℕ) → n r k y ≡ m r k y) → (r k : ℕ) → lead_m i x y n r k y ≡ lead_m i x y m r k y
  unfolding lead_m
  lead_column y m n same r k =
      ap (λ (h : ℕ). cond (eqb h 0) n (store (store n FOLLOW x y (n FIRST i y)) FIRST i y (x + 1)) r k y) (same PAIRS x)
      ∙ go (eqb (m PAIRS x y) 0)
    where
      go : (t : Bool)
          → cond t n (store (store n FOLLOW x y (n FIRST i y)) FIRST i y (x + 1)) r k y
          ≡ cond t m (store (store m FOLLOW x y (m FIRST i y)) FIRST i y (x + 1)) r k y
      go true = same r k
      go false =
          ap₂
          (λ (f v : ℕ). cond (eqb r FIRST && eqb y y && eqb k i) (x + 1) (cond (eqb r FOLLOW && eqb y y && eqb k x) f v))
          (same FIRST i) (same r k)

  -- so each column is as if its own step were the only one
  leads_column : (n : ℕ) (m : Mem) (r k y : ℕ) → y < n → loop n (lead_m i x) m r k y ≡ lead_m i x y m r k y
  leads_column n m r k y h =
      loop_from (λ o. o r k y ≡ lead_m i x y m r k y) n (lead_m i x) m y h
      (lead_column y m (loop y (lead_m i x) m) (λ r k. leads_same y m r k y (λ p q l. omega arith) (λ p q l. omega arith)) r k)
      (λ z after inside o e. lead_same z o r k y (λ p q e. omega arith) (λ p q e. omega arith) ∙ e)

  -- the column of a variable that is not linked is as it was
  pub leads_none : (n : ℕ) (m : Mem) (r k y : ℕ) → y < n → eqb (m PAIRS x y) 0 ≡ true → loop n (lead_m i x) m r k y ≡ m r k y
  leads_none n m r k y h e = leads_column n m r k y h ∙ ap (λ (o : Mem). o r k y) (lead_none y m e)

  -- in that of a linked one, the variable comes first
  pub leads_first : (n : ℕ) (m : Mem) (y : ℕ) → y < n → eqb (m PAIRS x y) 0 ≡ false → loop n (lead_m i x) m FIRST i y ≡ suc x
  leads_first n m y h e =
      leads_column n m FIRST i y h ∙ ap (λ (o : Mem). o FIRST i y) (lead_made y m e)
      ∙ store_same (store m FOLLOW x y (m FIRST i y)) FIRST i y (x + 1) ∙ add-one x

  -- and what came first follows it
  pub leads_follow : (n : ℕ) (m : Mem) (y : ℕ) → y < n → eqb (m PAIRS x y) 0 ≡ false
      → loop n (lead_m i x) m FOLLOW x y ≡ m FIRST i y
  leads_follow n m y h e =
      leads_column n m FOLLOW x y h ∙ ap (λ (o : Mem). o FOLLOW x y) (lead_made y m e)
      ∙ store_apart (store m FOLLOW x y (m FIRST i y)) FIRST i y (x + 1) FOLLOW x y (λ p. omega arith)
      ∙ store_same m FOLLOW x y (m FIRST i y)

-- ---- what the code puts

module _ (i x y : ℕ) (m : Mem) where
  -- without a chain of constraints, nothing
  pub lead_passed : (h : ℕ) → h ≡ m PAIRS x y → h ≡ 0 → m ≡ lead_m i x y m
  lead_passed h e z = sym (lead_none i x y m (eq-eqb (m PAIRS x y) 0 (sym e ∙ z)))

  -- with one, the two stores
  pub lead_put : (h f : ℕ) (n p : Mem) → h ≡ m PAIRS x y → (h ≡ 0 → ⊥) → f ≡ m FIRST i y → n ≡ store m FOLLOW x y f
      → p ≡ store n FIRST i y (x + 1) → p ≡ lead_m i x y m
  lead_put h f n p e z q r s =
      s ∙ ap (λ (n : Mem). store n FIRST i y (x + 1)) (r ∙ ap (store m FOLLOW x y) q)
      ∙ sym (lead_made i x y m (ne_eqb (m PAIRS x y) 0 (λ d. z (e ∙ d))))
