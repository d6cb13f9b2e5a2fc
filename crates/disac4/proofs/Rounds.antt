-- The round has exactly the allowed turns, so a round that changes nothing shows that no allowed turn would.
use Prim.Native.Nat.{ℕ, zero, suc, ◌<◌, ◌≤◌}
use mathlib.Core.Bool.{Bool, true, false, cond}
use mathlib.Core.List.Memᴰ
use mathlib.Core.List.{List, [], ◌∷◌, ◌++◌, map, Memᴰ}
use mathlib.Core.Logic.{⊎_elim}
use mathlib.Core.Path.{◌≡◌, refl, ap}
use native.Mathlib.Decide.{ℕ_discrete}
use native.Mathlib.Nat.{not-suc-le-zero}
use native.Mathlib.Omega.{arith}
use borrow.Author.Tests.{eqb-true, eqb-false, ne_eqb}
use lib.Dec.{eqb}
use Rattle.base.proofs.Choice.{between_low, between_high}
use Rattle.base.proofs.Each.{Each, member_gather, each_append, each_gather, each_mono, each_map}
use Rattle.base.specs.Below.{gather_below, list_below}
use Rattle.base.specs.Choice.{between}
use Rattle.disac4.proofs.Allowed.{worker_cases, controller_cases, worker_does, controller_does, may_read, may_work, controller_may_read, may_poll}
use Rattle.disac4.specs.Round.{others, worker_round, round}
use Rattle.disac4.specs.Turn.{Turn, turn, treat_action, send_action, answer_action, poll_action, worker_may, controller_may, allowed}

-- the round's parts: what the workers do, and what the controller reads before it polls
abbrev worker_turns : ℕ → List Turn
worker_turns p = gather_below p (λ i. worker_round p (suc i))

abbrev controller_reads : ℕ → List Turn
controller_reads p = list_below p (λ i. turn 0 (suc i))

-- ---- an allowed turn is in the round

others_member : (p k j : ℕ) → j ≤ p → (j ≡ k → ⊥) → Memᴰ j (others p k)
unfolding others
others_member p k j h n =
    member_gather (suc p) (λ j. cond (eqb j k) [] (j ∷ [])) j (omega arith) (rw (ne_eqb j k n) (Memᴰ.head refl))

-- treat, send and answer
own_member : (k d : ℕ) → between treat_action answer_action d ≡ true
    → Memᴰ (turn k d) (turn k treat_action ∷ turn k send_action ∷ turn k answer_action ∷ [])
own_member k d e =
    elim (ℕ_discrete d treat_action) [
      | yes t ↦ Memᴰ.head (ap (turn k) t)
      | no t ↦
          elim (ℕ_discrete d send_action) [
            | yes s ↦ Memᴰ.tail (Memᴰ.head (ap (turn k) s))
            | no s ↦
                let last : d ≡ answer_action =
                omega (arith, between_low treat_action answer_action d e, between_high treat_action answer_action d e) in
                Memᴰ.tail (Memᴰ.tail (Memᴰ.head (ap (turn k) last)))
          ]
    ]

worker_member : (p k d : ℕ) → worker_may p k d ≡ true → Memᴰ (turn k d) (worker_round p k)
unfolding worker_round
worker_member p k d e =
    ⊎_elim (λ r. Memᴰ.append_left _ (Memᴰ.map (turn k) (others_member p k d r.0 r.1)))
    (λ b. Memᴰ.append_right (map (turn k) (others p k)) (own_member k d b)) (worker_cases p k d e)

tally_member : (p k : ℕ) → 0 < k → k ≤ p → Memᴰ (turn 0 k) (controller_reads p)
tally_member p zero a h = absurd (not-suc-le-zero a)
tally_member p (suc i) a h = member_gather p (λ i. turn 0 (suc i) ∷ []) i h (Memᴰ.head refl)

controller_member : (p d : ℕ) → controller_may p d ≡ true → Memᴰ (turn 0 d) (round p)
unfolding round
controller_member p d e =
    ⊎_elim (λ b. Memᴰ.append_left _ (Memᴰ.append_right (worker_turns p) (tally_member p d b.0 b.1)))
    (λ q.
    Memᴰ.append_right (worker_turns p ++ controller_reads p) (Memᴰ.head (ap (turn 0) (eqb-true d poll_action q))))
    (controller_cases p d e)

by_actor : (p k d : ℕ) → allowed p (turn k d) ≡ true → Memᴰ (turn k d) (round p)
unfolding round
by_actor p zero d e = controller_member p d (controller_does p (turn 0 d) e refl)
by_actor p (suc k) d e =
    let w = worker_does p (turn (suc k) d) e (ne_eqb (suc k) 0 (λ q. omega arith)) in
    Memᴰ.append_left _
    (Memᴰ.append_left _
    (member_gather p (λ i. worker_round p (suc i)) k w.0 (worker_member p (suc k) d w.1)))

-- the round has every allowed turn
pub allowed_round : (p : ℕ) (t : Turn) → allowed p t ≡ true → Memᴰ t (round p)
allowed_round p t e = by_actor p t.actor t.action e

-- ---- a turn of the round is allowed

abbrev Allowed : ℕ → Turn → Type 0
Allowed p t = allowed p t ≡ true

-- an actor other than worker `k`
abbrev Other : ℕ → ℕ → ℕ → Type 0
Other p k j = (j ≤ p) × (j ≡ k → ⊥)

others_each : (p k : ℕ) → Each (Other p k) (others p k)
unfolding others
others_each p k =
    each_gather (Other p k) (suc p) (λ j. cond (eqb j k) [] (j ∷ [])) (λ j h. go j h (eqb j k) refl)
  where
    go : (j : ℕ) → j < suc p → (b : Bool) → eqb j k ≡ b → Each (Other p k) (cond b [] (j ∷ []))
    go j h true e = tt
    go j h false e = ((omega arith, eqb-false j k e), tt)

worker_round_allowed : (p k : ℕ) → 0 < k → k ≤ p → Each (Allowed p) (worker_round p k)
unfolding worker_round
worker_round_allowed p k h b =
    each_append (Allowed p) (map (turn k) (others p k)) _
    (each_map (Allowed p) (turn k) (others p k)
    (each_mono (Other p k) (λ j. Allowed p (turn k j)) (λ j r. may_read p k j h b r.0 r.1) (others p k)
    (others_each p k)))
    (may_work p k treat_action h b refl, (may_work p k send_action h b refl, (may_work p k answer_action h b refl, tt)))

-- every turn of the round is allowed
pub round_allowed : (p : ℕ) → Each (λ t. allowed p t ≡ true) (round p)
unfolding round
round_allowed p =
    each_append (Allowed p) (worker_turns p ++ controller_reads p) (turn 0 poll_action ∷ [])
    (each_append (Allowed p) (worker_turns p) (controller_reads p)
    (each_gather (Allowed p) p (λ i. worker_round p (suc i)) (λ i h. worker_round_allowed p (suc i) (omega arith) h))
    (each_gather (Allowed p) p (λ i. turn 0 (suc i) ∷ []) (λ i h. (controller_may_read p (suc i) (omega arith) h, tt))))
    (may_poll p, tt)
