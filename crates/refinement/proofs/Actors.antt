-- From rows to actors: what a function of rows says of a worker, and what changes at one worker.
use Prim.Native.Nat.{ℕ, suc, ◌+◌, ◌-◌, ◌<◌, ◌≤◌}
use mathlib.Core.Bool.{true, false, cond}
use mathlib.Core.Path.{◌≡◌, refl, sym, ◌∙◌, ap}
use native.Mathlib.Decide.{ℕ_discrete}
use native.Mathlib.Omega.{arith}
use borrow.Author.Tests.{ne_eqb}
use lib.Dec.{eqb}
use Rattle.base.proofs.Choice.{cond_true, cond_false, cond_same, cond_ext, update_same, update_other, between_intro, between_low, between_high}
use Rattle.base.proofs.Row.{bit_past}
use Rattle.base.specs.Choice.{update}
use Rattle.base.specs.Row.{bit}
use Rattle.disac4.specs.System.{System}
use Rattle.disac4.specs.declared.Tally.{Tally}
use Rattle.cells.specs.Layout.{WORKERS, LISTS}
use Rattle.cells.specs.Memory.{Mem}
use Rattle.cells.specs.View.{is_worker, at_actor, view_lists}

-- worker `i + 1` is a worker
pub worker_row : (sys : System) (i : ℕ) → i < sys.workers → is_worker sys (suc i) ≡ true
worker_row sys i h = between_intro 1 sys.workers (suc i) (omega arith) h

-- and a worker has a row
pub row_of : (sys : System) (k : ℕ) → is_worker sys k ≡ true → (k - 1 < sys.workers) × (k ≡ suc (k - 1))
row_of sys k e =
    let low : 1 ≤ k = between_low 1 sys.workers k e in
    let high : k ≤ sys.workers = between_high 1 sys.workers k e in
    (omega arith, omega arith)

module _ {ℓ} {A : Type ℓ} (sys : System) where
  -- a worker's part is its row's
  pub at_worker : (f : ℕ → A) (none : A) (i : ℕ) → i < sys.workers → at_actor sys f none (suc i) ≡ f i
  at_worker f none i h =
      let e : suc i - 1 ≡ i = omega arith in
      cond_true (f (suc i - 1)) none (worker_row sys i h) ∙ ap f e

  -- rows that agree
  pub actors_same : (f g : ℕ → A) (none : A) → ((i : ℕ) → i < sys.workers → g i ≡ f i) → (k : ℕ)
      → at_actor sys g none k ≡ at_actor sys f none k
  actors_same f g none h k = cond_ext (is_worker sys k) _ _ _ _ (λ p. h (k - 1) (row_of sys k p).0) (λ p. refl)

  -- rows in which nothing stands
  pub actors_none : (f : ℕ → A) (none : A) → ((i : ℕ) → f i ≡ none) → (k : ℕ) → at_actor sys f none k ≡ none
  actors_none f none h k = cond_same (is_worker sys k) (f (k - 1)) none none (h (k - 1)) refl

  -- one row changes
  pub actors_update : (f g : ℕ → A) (none : A) (i : ℕ) (a : A) → i < sys.workers → g i ≡ a
      → ((j : ℕ) → j < sys.workers → (j ≡ i → ⊥) → g j ≡ f j) → (k : ℕ)
      → at_actor sys g none k ≡ update (at_actor sys f none) (suc i) a k
  actors_update f g none i a h e r k =
      elim (ℕ_discrete k (suc i)) [
        | yes p ↦ ap (at_actor sys g none) p
            ∙ at_worker g none i h
            ∙ e
            ∙ sym (ap (update (at_actor sys f none) (suc i) a) p ∙ update_same (at_actor sys f none) (suc i) a)
        | no n ↦ cond_ext (is_worker sys k) _ _ _ _
            (λ p. r (k - 1) (row_of sys k p).0 (λ q. n ((row_of sys k p).1 ∙ ap suc q))) (λ p. refl)
            ∙ sym (update_other (at_actor sys f none) (suc i) a k n)
      ]

-- the empty row of marks marks nobody
pub no_marks : (sys : System) (k : ℕ) → at_actor sys (bit 0) false k ≡ false
no_marks sys = actors_none sys (bit 0) false (λ i. bit_past 0 0 i (omega arith) (omega arith))

-- a worker's list counter is its row's
pub counter_worker : (sys : System) (m : Mem) (t : Tally) (i : ℕ) → i < sys.workers → view_lists sys m t (suc i) ≡ m WORKERS i LISTS
unfolding view_lists
counter_worker sys m t i h =
    cond_false t.lists.0 _ (ne_eqb (suc i) 0 (λ q. omega arith)) ∙ at_worker sys (λ j. m WORKERS j LISTS) 0 i h

-- row `i` counts one list more
pub counters_more : (sys : System) (m m' : Mem) (t : Tally) (i : ℕ) → i < sys.workers
    → m' WORKERS i LISTS ≡ m WORKERS i LISTS + 1
    → ((j : ℕ) → j < sys.workers → (j ≡ i → ⊥) → m' WORKERS j LISTS ≡ m WORKERS j LISTS) → (k : ℕ)
    → view_lists sys m' t k ≡ update (view_lists sys m t) (suc i) (suc (view_lists sys m t (suc i))) k
unfolding view_lists
counters_more sys m m' t i h e r k =
    elim (ℕ_discrete k 0) [
      | yes z ↦ rw z (sym (update_other (view_lists sys m t) (suc i) more 0 (λ q. omega arith)))
      | no n ↦ cond_false t.lists.0 _ (ne_eqb k 0 n)
          ∙ actors_update sys (λ j. m WORKERS j LISTS) (λ j. m' WORKERS j LISTS) 0 i more h
          (omega (arith, counter_worker sys m t i h)) r k
          ∙ ap (λ (x : ℕ). cond (eqb k (suc i)) more x) (sym (cond_false t.lists.0 _ (ne_eqb k 0 n)))
    ]
  where
    more : ℕ
    more = suc (view_lists sys m t (suc i))
