-- Channels by rows: between workers, to the controller and from it; what changes in one of them, or in a sender's.
use Prim.Native.Nat.{ℕ, zero, suc, ◌-◌, ◌<◌, ◌≤◌}
use mathlib.Core.Bool.{Bool, true, false, cond, ◌&&◌, not}
use mathlib.Core.List.{List, [], ◌∷◌, ◌++◌}
use mathlib.Core.Path.{◌≡◌, refl, sym, ◌∙◌, ap}
use native.Mathlib.Decide.{ℕ_discrete, dec_lt, dec_le}
use native.Mathlib.Omega.{arith}
use borrow.Author.Tests.{leb-true, eqb-true, eqb-false, ne_eqb, not-true}
use lib.Dec.{leb, eqb}
use Rattle.base.proofs.Bools.{and_left, and_right, refuted}
use Rattle.base.proofs.Choice.{cond_false, between_low, between_high, update₂_each}
use Rattle.base.specs.Choice.{update₂}
use Rattle.disac4.proofs.Channels.{broadcast_to, broadcast_sender}
use Rattle.disac4.specs.Action.{broadcast}
use Rattle.disac4.specs.State.{Message}
use Rattle.disac4.specs.System.{System}
use Rattle.cells.specs.View.{is_worker, Rows, at_channel}
use Rattle.refinement.proofs.Actors.{worker_row}

-- a channel leads from a worker to another, to the controller or from it, or it is none
by_channel : (sys : System) (P : ℕ → ℕ → Type 0)
    → ((j i : ℕ) → j < sys.workers → i < sys.workers → (j ≡ i → ⊥) → P (suc j) (suc i))
    → ((j : ℕ) → j < sys.workers → P (suc j) 0)
    → ((i : ℕ) → i < sys.workers → P 0 (suc i))
    → ((j k : ℕ) → (j ≤ sys.workers → k ≤ sys.workers → (j ≡ k → ⊥) → ⊥) → P j k)
    → (j k : ℕ) → P j k
by_channel sys P list_messages out polls none zero zero = none 0 0 (λ a b n. n refl)
by_channel sys P list_messages out polls none zero (suc i) =
    elim (dec_lt i sys.workers) [ yes h ↦ polls i h | no n ↦ none 0 (suc i) (λ a b d. n b) ]
by_channel sys P list_messages out polls none (suc j) zero =
    elim (dec_lt j sys.workers) [ yes h ↦ out j h | no n ↦ none (suc j) 0 (λ a b d. n a) ]
by_channel sys P list_messages out polls none (suc j) (suc i) =
    elim (dec_lt j sys.workers) [
      | yes hj ↦ elim (dec_lt i sys.workers) [
        | yes hi ↦ elim (ℕ_discrete j i) [
          | yes e ↦ none (suc j) (suc i) (λ a b d. d (ap suc e))
          | no n ↦ list_messages j i hj hi n
        ]
        | no n ↦ none (suc j) (suc i) (λ a b d. n b)
      ]
      | no n ↦ none (suc j) (suc i) (λ a b d. n a)
    ]

module _ (sys : System) (r : Rows) where
  -- between workers
  pub at_list_messages : (j i : ℕ) → j < sys.workers → i < sys.workers → (j ≡ i → ⊥)
      → at_channel sys r (suc j) (suc i) ≡ r.list_messages j i
  at_list_messages j i hj hi n =
      let p : suc j - 1 ≡ j = omega arith in
      let q : suc i - 1 ≡ i = omega arith in
      rw (worker_row sys j hj, worker_row sys i hi, ne_eqb (suc j) (suc i) (λ e. n (omega arith)), p, q)

  -- to the controller
  pub at_out : (j : ℕ) → j < sys.workers → at_channel sys r (suc j) 0 ≡ r.out j
  at_out j h = let p : suc j - 1 ≡ j = omega arith in rw (worker_row sys j h, p)

  -- from the controller
  pub at_polls : (i : ℕ) → i < sys.workers → at_channel sys r 0 (suc i) ≡ r.polls i
  at_polls i h = let p : suc i - 1 ≡ i = omega arith in rw (worker_row sys i h, p)

  -- any other is empty
  pub at_none : (j k : ℕ) → (j ≤ sys.workers → k ≤ sys.workers → (j ≡ k → ⊥) → ⊥) → at_channel sys r j k ≡ []
  at_none j k h = go (is_worker sys j) refl (is_worker sys k) refl (eqb j k) refl (eqb k 0) refl (eqb j 0) refl
    where
      high : (k : ℕ) → is_worker sys k ≡ true → k ≤ sys.workers
      high k p = between_high 1 sys.workers k p

      low : (k : ℕ) → is_worker sys k ≡ true → 0 < k
      low k p = between_low 1 sys.workers k p

      go : (a : Bool) → is_worker sys j ≡ a → (b : Bool) → is_worker sys k ≡ b → (c : Bool) → eqb j k ≡ c
          → (d : Bool) → eqb k 0 ≡ d → (e : Bool) → eqb j 0 ≡ e
          → cond a (cond b (cond c [] (r.list_messages (j - 1) (k - 1))) (cond d (r.out (j - 1)) []))
          (cond (e && b) (r.polls (k - 1)) [])
          ≡ []
      go true p true q true x d y e z = refl
      go true p true q false x d y e z = absurd (h (high j p) (high k q) (eqb-false j k x))
      go true p false q c x true y e z =
          let o : k ≡ 0 = eqb-true k 0 y in absurd (h (high j p) (omega arith) (λ w. omega (arith, low j p)))
      go true p false q c x false y e z = refl
      go false p true q c x d y true z =
          let o : j ≡ 0 = eqb-true j 0 z in absurd (h (omega arith) (high k q) (λ w. omega (arith, low k q)))
      go false p true q c x d y false z = refl
      go false p false q c x d y true z = refl
      go false p false q c x d y false z = refl

-- the rows agree in the channels that stay
pub record Stays (sys : System) (N : ℕ → ℕ → Type 0) (r r' : Rows) : Type 0 where
  pub list_messages : (j i : ℕ) → j < sys.workers → i < sys.workers → N (suc j) (suc i) → r'.list_messages j i ≡ r.list_messages j i
  pub out : (j : ℕ) → j < sys.workers → N (suc j) 0 → r'.out j ≡ r.out j
  pub polls : (i : ℕ) → i < sys.workers → N 0 (suc i) → r'.polls i ≡ r.polls i

-- those channels are the same
pub channels_stay : (sys : System) (N : ℕ → ℕ → Type 0) (r r' : Rows) → Stays sys N r r' → (j k : ℕ) → N j k
    → at_channel sys r' j k ≡ at_channel sys r j k
channels_stay sys N r r' st =
    by_channel sys (λ j k. N j k → at_channel sys r' j k ≡ at_channel sys r j k)
    (λ j i hj hi n o. at_list_messages sys r' j i hj hi n ∙ st.list_messages j i hj hi o ∙ sym (at_list_messages sys r j i hj hi n))
    (λ j hj o. at_out sys r' j hj ∙ st.out j hj o ∙ sym (at_out sys r j hj))
    (λ i hi o. at_polls sys r' i hi ∙ st.polls i hi o ∙ sym (at_polls sys r i hi))
    (λ j k n o. at_none sys r' j k n ∙ sym (at_none sys r j k n))

-- any channel but that from `a` to `b`
abbrev pub Beside : ℕ → ℕ → ℕ → ℕ → Type 0
Beside a b j k = j ≡ a → k ≡ b → ⊥

-- one channel changes
pub channels_update : (sys : System) (r r' : Rows) (a b : ℕ) (l : List Message) → at_channel sys r' a b ≡ l
    → Stays sys (Beside a b) r r' → (j k : ℕ) → at_channel sys r' j k ≡ update₂ (at_channel sys r) a b l j k
channels_update sys r r' a b l here st =
    update₂_each (λ j k x. at_channel sys r' j k ≡ x) (at_channel sys r) a b l here (channels_stay sys (Beside a b) r r' st)

-- a broadcast reaches neither its sender nor whoever is no actor
broadcast_outside : (p k : ℕ) (m : Message) (c : ℕ → ℕ → List Message) (i : ℕ) → (i ≤ p → (k ≡ i → ⊥) → ⊥)
    → broadcast p k m c k i ≡ c k i
unfolding broadcast
broadcast_outside p k m c i n =
    cond_false (c k i ++ (m ∷ [])) (c k i)
    (refuted (eqb k k && leb i p && not (eqb i k))
    (λ e.
    n
    (leb-true i p (and_right (eqb k k) (leb i p) (and_left (eqb k k && leb i p) (not (eqb i k)) e)))
    (λ q. eqb-false i k (not-true (eqb i k) (and_right (eqb k k && leb i p) (not (eqb i k)) e)) (sym q))))

-- actor `k` sends to every other
pub channels_broadcast : (sys : System) (r r' : Rows) (k : ℕ) (m : Message) → k ≤ sys.workers
    → ((i : ℕ) → i ≤ sys.workers → (i ≡ k → ⊥) → at_channel sys r' k i ≡ at_channel sys r k i ++ (m ∷ []))
    → Stays sys (λ j i. j ≡ k → ⊥) r r'
    → (j i : ℕ) → at_channel sys r' j i ≡ broadcast sys.workers k m (at_channel sys r) j i
channels_broadcast sys r r' k m h own st j i =
    elim (ℕ_discrete j k) [
      | yes e ↦ rw e (to i)
      | no n ↦ channels_stay sys (λ j i. j ≡ k → ⊥) r r' st j i n
          ∙ sym (broadcast_sender sys.workers k m (at_channel sys r) j i n)
    ]
  where
    none : (i : ℕ) → (k ≤ sys.workers → i ≤ sys.workers → (k ≡ i → ⊥) → ⊥)
        → at_channel sys r' k i ≡ broadcast sys.workers k m (at_channel sys r) k i
    none i n = at_none sys r' k i n ∙ sym (broadcast_outside sys.workers k m (at_channel sys r) i (n h) ∙ at_none sys r k i n)

    to : (i : ℕ) → at_channel sys r' k i ≡ broadcast sys.workers k m (at_channel sys r) k i
    to i =
        elim (ℕ_discrete i k) [
          | yes e ↦ none i (λ a b d. d (sym e))
          | no n ↦ elim (dec_le i sys.workers) [
            | yes l ↦ own i l n ∙ sym (broadcast_to sys.workers k m (at_channel sys r) i l n)
            | no g ↦ none i (λ a b d. g b)
          ]
        ]
