-- Stores, pushes, deletions and copies: what is at a point after them.
use Prim.Native.Nat.{ℕ, ◌+◌, ◌<◌}
use mathlib.Core.Bool.{Bool, true, false, cond, ◌&&◌}
use mathlib.Core.Path.{◌≡◌, refl, sym, ◌∙◌, fun_ext}
use native.Mathlib.Decide.{ℕ_discrete}
use borrow.Author.Tests.{eqb-true, eq-eqb, lt-ltb}
use lib.Dec.{ltb, eqb}
use Rattle.base.proofs.Bools.{and_left, and_right, and_intro, refuted}
use Rattle.base.proofs.Choice.{cond_true, cond_false}
use Rattle.base.proofs.Loops.{loop_same}
use Rattle.cells.specs.Layout.{WORKERS, LOG, WORK, DOMAIN, TAIL, LOGEND, LABELROOM}
use Rattle.cells.specs.Queues.{push_m, delete_m, copy_label_m, copy_m}
use Rattle.cells.specs.Memory.{Mem, store}
use Rattle.cells.specs.View.{label_number}

module _ (m : Mem) (r i j v : ℕ) where
  -- a store puts its value
  pub store_same : store m r i j v r i j ≡ v
  store_same = cond_true v (m r i j) (and_intro (and_intro (eq-eqb r r refl) (eq-eqb j j refl)) (eq-eqb i i refl))

  -- and leaves every other point alone
  pub store_other : (s k l : ℕ) → (s ≡ r → k ≡ i → l ≡ j → ⊥) → store m r i j v s k l ≡ m s k l
  store_other s k l apart =
      cond_false v (m s k l)
      (refuted (eqb s r && eqb l j && eqb k i)
      (λ e.
      let place : eqb s r && eqb l j ≡ true = and_left (eqb s r && eqb l j) (eqb k i) e in
      apart (eqb-true s r (and_left (eqb s r) (eqb l j) place)) (eqb-true k i (and_right (eqb s r && eqb l j) (eqb k i) e))
      (eqb-true l j (and_right (eqb s r) (eqb l j) place))))

  -- so every other region
  pub store_apart : (s k l : ℕ) → (s ≡ r → ⊥) → store m r i j v s k l ≡ m s k l
  store_apart s k l apart = store_other s k l (λ e x y. apart e)

  -- what has the value there, and all else as before, is the store
  pub store_is : (n : Mem) → n r i j ≡ v → ((s k l : ℕ) → (s ≡ r → k ≡ i → l ≡ j → ⊥) → n s k l ≡ m s k l)
      → n ≡ store m r i j v
  store_is n here there = fun_ext λ s. fun_ext λ k. fun_ext λ l. at_point s k l
    where
      at_point : (s k l : ℕ) → n s k l ≡ store m r i j v s k l
      at_point s k l =
          elim (ℕ_discrete s r) [
            | yes p ↦ elim (ℕ_discrete k i) [
              | yes q ↦ elim (ℕ_discrete l j) [
                | yes t ↦ rw (p, q, t) (here ∙ sym store_same)
                | no d ↦ kept (λ p q t. d t)
              ]
              | no d ↦ kept (λ p q t. d q)
            ]
            | no d ↦ kept (λ p q t. d p)
          ]
        where
          kept : (s ≡ r → k ≡ i → l ≡ j → ⊥) → n s k l ≡ store m r i j v s k l
          kept d = there s k l d ∙ sym (store_other s k l d)

-- the point is neither in row `i` of a region nor the end that a column of the worker's row keeps
abbrev pub OffList : ℕ → ℕ → ℕ → ℕ → ℕ → ℕ → Type 0
OffList q col i r a b = (r ≡ q → a ≡ i → ⊥) × (r ≡ WORKERS → a ≡ i → b ≡ col → ⊥)

module _ (q col i c : ℕ) (m : Mem) where
  -- with room, a push is two stores
  pub push_stores : m WORKERS i col < LABELROOM
      → push_m q col i c m ≡ store (store m q i (m WORKERS i col) c) WORKERS i col (m WORKERS i col + 1)
  unfolding push_m
  push_stores h = cond_true _ m (lt-ltb (m WORKERS i col) LABELROOM h)

  -- a push changes its row and the column of its end alone
  pub push_other : (r a b : ℕ) → OffList q col i r a b → push_m q col i c m r a b ≡ m r a b
  unfolding push_m
  push_other r a b h = go (ltb (m WORKERS i col) LABELROOM)
    where
      go : (t : Bool)
          → cond t (store (store m q i (m WORKERS i col) c) WORKERS i col (m WORKERS i col + 1)) m r a b ≡ m r a b
      go true =
          store_other (store m q i (m WORKERS i col) c) WORKERS i col (m WORKERS i col + 1) r a b h.1
          ∙ store_other m q i (m WORKERS i col) c r a b (λ e f g. h.0 e f)
      go false = refl

-- beside the log and the work list, deleting a label is a store
pub delete_stores : (i x v : ℕ) (m : Mem) (r a b : ℕ) → OffList WORK TAIL i r a b → OffList LOG LOGEND i r a b
    → delete_m i x v m r a b ≡ store m DOMAIN x v 0 r a b
unfolding delete_m
delete_stores i x v m r a b work log =
    push_other WORK TAIL i (label_number x v) (push_m LOG LOGEND i (label_number x v) (store m DOMAIN x v 0)) r a b work
    ∙ push_other LOG LOGEND i (label_number x v) (store m DOMAIN x v 0) r a b log

-- a copy changes the reader's work list alone
pub copy_other : (j i from n : ℕ) (m : Mem) (r a b : ℕ) → OffList WORK TAIL i r a b → copy_m j i from n m r a b ≡ m r a b
unfolding copy_m
copy_other j i from n m r a b h =
    loop_same (λ o. o r a b) n (copy_label_m j i from) (λ k l o. push_other WORK TAIL i (o LOG j (from + k)) o r a b h) m
