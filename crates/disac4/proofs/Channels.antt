-- The weight of all messages on their way to an actor, and what taking, putting and broadcasting a message does to it.
use Prim.Native.Nat.{ℕ, suc, ◌+◌, ◌≤◌}
use mathlib.Core.Bool.{Bool, true, false, cond, ◌&&◌, not}
use mathlib.Core.List.{List, [], ◌∷◌, ◌++◌}
use mathlib.Core.Path.{◌≡◌, refl, sym, ap}
use native.Mathlib.Decide.{ℕ_discrete}
use native.Mathlib.Omega.{arith}
use borrow.Author.Tests.{leb-true, eqb-true, eqb-false, le-leb, eq-eqb, ne_eqb}
use lib.Dec.{leb, eqb}
use Rattle.base.proofs.Bools.{clash, and_intro, and_false_left, and_false_right, not_of, not_of_true}
use Rattle.base.proofs.Choice.{cond_true, cond_false, update₂_same, update₂_first, update₂_second, update₂_each}
use Rattle.base.proofs.Sums.{sum_ext, sum_change, sum_zero}
use Rattle.base.proofs.Weight.{weigh, weigh_append}
use Rattle.base.specs.Below.{sum_below}
use Rattle.base.specs.Choice.{update₂}
use Rattle.disac4.specs.Action.{broadcast}
use Rattle.disac4.specs.State.{Message}

-- the messages from a sender to a receiver
abbrev pub Channels : Type 0
Channels = ℕ → ℕ → List Message

-- ---- one channel after a broadcast

-- the sender's channel to another actor ends with the message
pub broadcast_to : (p k : ℕ) (m : Message) (c : Channels) (i : ℕ) → i ≤ p → (i ≡ k → ⊥)
    → broadcast p k m c k i ≡ c k i ++ (m ∷ [])
unfolding broadcast
broadcast_to p k m c i h n =
    cond_true (c k i ++ (m ∷ [])) (c k i)
    (and_intro (and_intro (eq-eqb k k refl) (le-leb i p h)) (not_of (ne_eqb i k n)))

-- another sender's channels stay
pub broadcast_sender : (p k : ℕ) (m : Message) (c : Channels) (j i : ℕ) → (j ≡ k → ⊥) → broadcast p k m c j i ≡ c j i
unfolding broadcast
broadcast_sender p k m c j i n =
    cond_false (c j i ++ (m ∷ [])) (c j i)
    (and_false_left (not (eqb i k)) (and_false_left (leb i p) (ne_eqb j k n)))

-- and so do channels to the sender itself
pub broadcast_self : (p k : ℕ) (m : Message) (c : Channels) (j : ℕ) → broadcast p k m c j k ≡ c j k
unfolding broadcast
broadcast_self p k m c j =
    cond_false (c j k ++ (m ∷ [])) (c j k)
    (and_false_right (eqb j k && leb k p) (not_of_true (eq-eqb k k refl)))

-- what holds of the sender's channels to other actors with the message, and of all others as they were, holds of all
pub broadcast_each : (P : ℕ → ℕ → List Message → Type 0) (p k : ℕ) (m : Message) (c : Channels)
    → ((i : ℕ) → i ≤ p → (i ≡ k → ⊥) → P k i (c k i ++ (m ∷ [])))
    → ((j i : ℕ) → (j ≡ k → i ≤ p → i ≡ k) → P j i (c j i)) → (j i : ℕ) → P j i (broadcast p k m c j i)
unfolding broadcast
broadcast_each P p k m c own other j i = go (eqb j k) refl (leb i p) refl (eqb i k) refl
  where
    go : (a : Bool) → eqb j k ≡ a → (b : Bool) → leb i p ≡ b → (d : Bool) → eqb i k ≡ d
        → P j i (cond (a && b && not d) (c j i ++ (m ∷ [])) (c j i))
    go false x b y d z = other j i (λ e h. clash (eq-eqb j k e) x)
    go true x false y d z = other j i (λ e h. clash (le-leb i p h) y)
    go true x true y true z = other j i (λ e h. eqb-true i k z)
    go true x true y false z = rw (eqb-true j k x) (own i (leb-true i p y) (eqb-false i k z))

-- ---- what a channel keeps

-- a claim that the changed channel keeps is kept by every channel
pub keeps_put : (P : List Message → Type 0) (c : Channels) (j k : ℕ) (l : List Message) → (P (c j k) → P l)
    → (h i : ℕ) → P (c h i) → P (update₂ c j k l h i)
keeps_put P c j k l keeps = update₂_each (λ h i m. P (c h i) → P m) c j k l keeps (λ h i n x. x)

-- and so is, in a broadcast, a claim that a message behind the others leaves true
pub keeps_broadcast : (P : List Message → Type 0) (p k : ℕ) (m : Message) (c : Channels)
    → ((l : List Message) → P l → P (l ++ (m ∷ []))) → (h i : ℕ) → P (c h i) → P (broadcast p k m c h i)
keeps_broadcast P p k m c keeps =
    broadcast_each (λ h i l. P (c h i) → P l) p k m c (λ i b n. keeps (c k i)) (λ h i n x. x)

-- ---- all messages to an actor

module _ (w : Message → ℕ) (p : ℕ) where
  -- the weight of all messages to an actor
  abbrev pub into : Channels → ℕ → ℕ
  into c i = sum_below (suc p) (λ j. weigh w (c j i))

  -- with empty channels there is none
  pub into_none : (i : ℕ) → into (λ j k. []) i ≡ 0
  into_none i = sum_zero (suc p) (λ j. 0) (λ j h. refl)

  -- one channel to `i` changes
  into_change : (c d : Channels) (i j : ℕ) → j ≤ p → ((k : ℕ) → (k ≡ j → ⊥) → d k i ≡ c k i)
      → into d i + weigh w (c j i) ≡ into c i + weigh w (d j i)
  into_change c d i j h e =
      sum_change (suc p) (λ k. weigh w (c k i)) (λ k. weigh w (d k i)) j (omega arith) (λ k b n. ap (weigh w) (sym (e k n)))

  -- no channel to `i` changes
  pub into_same : (c d : Channels) (i : ℕ) → ((k : ℕ) → d k i ≡ c k i) → into d i ≡ into c i
  into_same c d i e = sum_ext (suc p) (λ k. weigh w (d k i)) (λ k. weigh w (c k i)) (λ k b. ap (weigh w) (e k))

  -- the oldest message from `j` is taken by `i`
  pub into_take : (c : Channels) (j i : ℕ) (m : Message) (rest : List Message) → j ≤ p → c j i ≡ m ∷ rest
      → into (update₂ c j i rest) i + w m ≡ into c i
  into_take c j i m rest h e =
      omega (
        arith,
        into_change c (update₂ c j i rest) i j h (λ k n. update₂_first c j i rest k i n),
        ap (weigh w) e,
        ap (weigh w) (update₂_same c j i rest),
      )

  -- a message is put into the channel from `j` to `i`
  pub into_put : (c : Channels) (j i : ℕ) (m : Message) → j ≤ p
      → into (update₂ c j i (c j i ++ (m ∷ []))) i ≡ into c i + w m
  into_put c j i m h =
      omega (
        arith,
        into_change c (update₂ c j i (c j i ++ (m ∷ []))) i j h (λ k n. update₂_first c j i _ k i n),
        weigh_append w (c j i) (m ∷ []),
        ap (weigh w) (update₂_same c j i (c j i ++ (m ∷ []))),
      )

  -- a change of a channel to `i` leaves the messages to the others
  pub into_other : (c : Channels) (j i : ℕ) (l : List Message) (o : ℕ) → (o ≡ i → ⊥) → into (update₂ c j i l) o ≡ into c o
  into_other c j i l o n = into_same c (update₂ c j i l) o (λ k. update₂_second c j i l k o n)

  -- taking a message adds none to any actor's
  pub into_falls : (c : Channels) (j i : ℕ) (m : Message) (rest : List Message) → j ≤ p → c j i ≡ m ∷ rest → (o : ℕ)
      → into (update₂ c j i rest) o ≤ into c o
  into_falls c j i m rest h e o =
      elim (ℕ_discrete o i) [
        | yes same ↦ rw same (omega (arith, into_take c j i m rest h e))
        | no other ↦ omega (arith, into_other c j i rest o other)
      ]

  -- a broadcast message is on its way to every other actor
  pub into_broadcast : (c : Channels) (k : ℕ) (m : Message) (i : ℕ) → k ≤ p → i ≤ p → (i ≡ k → ⊥)
      → into (broadcast p k m c) i ≡ into c i + w m
  into_broadcast c k m i h b n =
      omega (
        arith,
        into_change c (broadcast p k m c) i k h (λ j o. broadcast_sender p k m c j i o),
        weigh_append w (c k i) (m ∷ []),
        ap (weigh w) (broadcast_to p k m c i b n),
      )

  -- and to its sender no more messages than before
  pub into_broadcast_self : (c : Channels) (k : ℕ) (m : Message) → into (broadcast p k m c) k ≡ into c k
  into_broadcast_self c k m = into_same c (broadcast p k m c) k (λ j. broadcast_self p k m c j)
