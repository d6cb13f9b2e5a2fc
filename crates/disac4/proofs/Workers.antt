-- Sums over the workers, and what a change at one of them or a message to them does to such a sum.
use Prim.Native.Nat.{ℕ, zero, suc, ◌+◌, ◌*◌, ◌<◌, ◌≤◌}
use mathlib.Core.List.{List, ◌∷◌, ◌++◌}
use mathlib.Core.Path.{◌≡◌, sym, ◌∙◌, ap}
use native.Mathlib.Nat.{not-suc-le-zero}
use native.Mathlib.Omega.{arith}
use lib.ListN.{length, length-append}
use Rattle.base.proofs.Choice.{update_same, update_other}
use Rattle.base.proofs.Sums.{sum_ext, sum_add, sum_const, sum_part, sum_change}
use Rattle.base.specs.Below.{sum_below}
use Rattle.base.specs.Choice.{update, update₂}
use Rattle.disac4.proofs.Channels.{Channels, into, into_take, into_other, into_broadcast, into_broadcast_self}
use Rattle.disac4.specs.Action.{broadcast}
use Rattle.disac4.specs.State.{Message}

module _ (p : ℕ) where
  -- the sum over the workers 1 to p
  abbrev pub over_workers : (ℕ → ℕ) → ℕ
  over_workers f = sum_below p (λ i. f (suc i))

  -- the summand of worker `k` alone changes
  over_change : (f g : ℕ → ℕ) (k : ℕ) → 0 < k → k ≤ p → ((j : ℕ) → j ≤ p → (j ≡ k → ⊥) → f j ≡ g j)
      → over_workers g + f k ≡ over_workers f + g k
  over_change f g zero a b e = absurd (not-suc-le-zero a)
  over_change f g (suc i) a b e =
      sum_change p (λ i. f (suc i)) (λ i. g (suc i)) i b (λ j h n. e (suc j) h (λ q. omega arith))

  -- a sum over the workers is at least each worker's summand
  pub over_part : (f : ℕ → ℕ) (k : ℕ) → 0 < k → k ≤ p → f k ≤ over_workers f
  over_part f zero a b = absurd (not-suc-le-zero a)
  over_part f (suc i) a b = sum_part p (λ i. f (suc i)) i b

  -- the value at worker `k` is replaced
  pub over_update {ℓ} : {A : Type ℓ} (w : A → ℕ) (f : ℕ → A) (k : ℕ) (v : A) → 0 < k → k ≤ p
      → over_workers (λ j. w (update f k v j)) + w (f k) ≡ over_workers (λ j. w (f j)) + w v
  over_update w f k v a b =
      over_change (λ j. w (f j)) (λ j. w (update f k v j)) k a b (λ j h n. ap w (sym (update_other f k v j n)))
      ∙ ap (λ x. over_workers (λ j. w (f j)) + w x) (update_same f k v)

  -- the list of worker `k` gets longer
  pub over_append {ℓ} : {A : Type ℓ} (f : ℕ → List A) (k : ℕ) (l : List A) → 0 < k → k ≤ p
      → over_workers (λ j. length (update f k (f k ++ l) j)) ≡ over_workers (λ j. length (f j)) + length l
  over_append f k l a b = omega (arith, over_update length f k (f k ++ l) a b, length-append (f k) l)

  -- the weight of all messages to workers
  abbrev pub to_workers : (Message → ℕ) → Channels → ℕ
  to_workers w c = over_workers (into w p c)

  module _ (w : Message → ℕ) (c : Channels) where
    -- worker `k` takes the oldest message from `j`
    pub workers_take : (j k : ℕ) (m : Message) (rest : List Message) → 0 < k → k ≤ p → j ≤ p → c j k ≡ m ∷ rest
        → to_workers w (update₂ c j k rest) + w m ≡ to_workers w c
    workers_take j k m rest a b h e =
        omega (
          arith,
          into_take w p c j k m rest h e,
          over_change (into w p c) (into w p (update₂ c j k rest)) k a b (λ o h n. sym (into_other w p c j k rest o n)),
        )

    -- a change of a channel to the controller leaves the messages to workers
    pub workers_apart : (j : ℕ) (l : List Message) → to_workers w (update₂ c j 0 l) ≡ to_workers w c
    workers_apart j l = sum_ext p _ _ (λ i h. into_other w p c j 0 l (suc i) (λ q. omega arith))

    -- worker `k` sends a message to all other workers
    pub workers_broadcast : (k : ℕ) (m : Message) → 0 < k → k ≤ p
        → to_workers w (broadcast p k m c) + w m ≡ to_workers w c + p * w m
    workers_broadcast k m a b =
        omega (
          arith,
          into_broadcast_self w p c k m,
          over_change (λ i. into w p c i + w m) (into w p (broadcast p k m c)) k a b
              (λ i h n. sym (into_broadcast w p c k m i b h n)),
          sum_add p (λ i. into w p c (suc i)) (λ i. w m),
          sum_const p (w m),
        )

    -- the controller sends a message to all workers
    pub workers_poll : (m : Message) → to_workers w (broadcast p 0 m c) ≡ to_workers w c + p * w m
    workers_poll m =
        omega (
          arith,
          sum_ext p (λ i. into w p (broadcast p 0 m c) (suc i)) (λ i. into w p c (suc i) + w m)
              (λ i h. into_broadcast w p c 0 m (suc i) (omega arith) h (λ q. omega arith)),
          sum_add p (λ i. into w p c (suc i)) (λ i. w m),
          sum_const p (w m),
        )
