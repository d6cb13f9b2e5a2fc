-- Which turns are allowed: taken apart, and put together.
use Prim.Native.Nat.{ℕ, suc, ◌<◌, ◌≤◌}
use mathlib.Core.Bool.{true, false, ◌&&◌, not}
use mathlib.Core.Logic.{◌⊎◌, inl, inr, ⊎_elim}
use mathlib.Core.Path.{◌≡◌, refl, sym, ◌∙◌}
use native.Mathlib.Omega.{arith}
use borrow.Author.Tests.{leb-true, eqb-true, eqb-false, le-leb, ne_eqb, not-true}
use lib.Dec.{leb, eqb}
use Rattle.format.specs.Limits.{max_workers}
use Rattle.base.proofs.Bools.{decided, clash, and_left, and_right, and_intro, or_cases, or_left, or_right, not_of}
use Rattle.base.proofs.Choice.{cond_true, cond_false, between_low, between_high}
use Rattle.base.specs.Choice.{between}
use Rattle.disac4.specs.Turn.{Turn, turn, treat_action, send_action, answer_action, poll_action, worker_may, controller_may, allowed}

-- ---- taken apart

-- a worker reads from another actor, or treats, sends or answers
pub worker_cases : (p k d : ℕ) → worker_may p k d ≡ true
    → ((d ≤ p) × (d ≡ k → ⊥)) ⊎ (between treat_action answer_action d ≡ true)
unfolding worker_may
worker_cases p k d ok =
    ⊎_elim
    (λ e.
    inl (
      leb-true d p (and_left (leb d p) (not (eqb d k)) e),
      eqb-false d k (not-true (eqb d k) (and_right (leb d p) (not (eqb d k)) e)),
    ))
    inr (or_cases (leb d p && not (eqb d k)) (between treat_action answer_action d) ok)

-- so it reads from another actor where it does none of the three
pub reads_other : (p k d : ℕ) → worker_may p k d ≡ true → eqb d treat_action ≡ false → eqb d send_action ≡ false
    → eqb d answer_action ≡ false → (d ≤ p) × (d ≡ k → ⊥)
reads_other p k d ok n₁ n₂ n₃ =
    ⊎_elim (λ a. a)
    (λ b.
    absurd
    (omega (
      arith,
      between_low treat_action answer_action d b,
      between_high treat_action answer_action d b,
      eqb-false d treat_action n₁,
      eqb-false d send_action n₂,
      eqb-false d answer_action n₃,
    )))
    (worker_cases p k d ok)

-- the controller reads from a worker, or polls
pub controller_cases : (p d : ℕ) → controller_may p d ≡ true → ((0 < d) × (d ≤ p)) ⊎ (eqb d poll_action ≡ true)
unfolding controller_may
controller_cases p d ok =
    ⊎_elim (λ b. inl (between_low 1 p d b, between_high 1 p d b)) inr (or_cases (between 1 p d) (eqb d poll_action) ok)

-- so it reads from a worker where it does not poll
pub reads_worker : (p d : ℕ) → controller_may p d ≡ true → eqb d poll_action ≡ false → (0 < d) × (d ≤ p)
reads_worker p d ok n = ⊎_elim (λ a. a) (λ e. clash e n) (controller_cases p d ok)

module _ (p : ℕ) (t : Turn) (ok : allowed p t ≡ true) where
  -- an allowed turn of a worker
  pub worker_does : eqb t.actor 0 ≡ false → (t.actor ≤ p) × (worker_may p t.actor t.action ≡ true)
  unfolding allowed
  worker_does n =
      let may = worker_may p t.actor t.action in
      let both = sym (cond_false (controller_may p t.action) (leb t.actor p && may) n) ∙ ok in
      (leb-true t.actor p (and_left (leb t.actor p) may both), and_right (leb t.actor p) may both)

  -- and of the controller
  pub controller_does : eqb t.actor 0 ≡ true → controller_may p t.action ≡ true
  unfolding allowed
  controller_does e =
      sym (cond_true (controller_may p t.action) (leb t.actor p && worker_may p t.actor t.action) e) ∙ ok

-- an action of a worker is below 12
pub worker_bound : (p k d : ℕ) → p ≤ max_workers → worker_may p k d ≡ true → d < poll_action
worker_bound p k d few ok =
    ⊎_elim (λ r. omega (arith, r.0)) (λ b. omega (arith, between_high treat_action answer_action d b)) (worker_cases p k d ok)

-- and of any actor below 13
pub allowed_bounds : (p : ℕ) (t : Turn) → p ≤ max_workers → allowed p t ≡ true → (t.actor < suc p) × (t.action < suc poll_action)
allowed_bounds p t few ok = ⊎_elim controller worker (decided (eqb t.actor 0))
  where
    controller : eqb t.actor 0 ≡ true → (t.actor < suc p) × (t.action < suc poll_action)
    controller e = (
      omega (arith, eqb-true t.actor 0 e),
      ⊎_elim (λ r. omega (arith, r)) (λ q. omega (arith, eqb-true t.action poll_action q))
          (controller_cases p t.action (controller_does p t ok e)),
    )

    worker : eqb t.actor 0 ≡ false → (t.actor < suc p) × (t.action < suc poll_action)
    worker n =
        let w = worker_does p t ok n in
        (omega (arith, w.0), omega (arith, worker_bound p t.actor t.action few w.1))

-- ---- put together

worker_allowed : (p k d : ℕ) → 0 < k → k ≤ p → worker_may p k d ≡ true → allowed p (turn k d) ≡ true
unfolding allowed
worker_allowed p k d h b e =
    cond_false (controller_may p d) (leb k p && worker_may p k d) (ne_eqb k 0 (λ q. omega arith)) ∙ and_intro (le-leb k p b) e

-- a worker may read from every other actor
pub may_read : (p k j : ℕ) → 0 < k → k ≤ p → j ≤ p → (j ≡ k → ⊥) → allowed p (turn k j) ≡ true
unfolding worker_may
may_read p k j h b a n = worker_allowed p k j h b (or_left _ (and_intro (le-leb j p a) (not_of (ne_eqb j k n))))

-- and treat, send and answer
pub may_work : (p k d : ℕ) → 0 < k → k ≤ p → between treat_action answer_action d ≡ true → allowed p (turn k d) ≡ true
unfolding worker_may
may_work p k d h b e = worker_allowed p k d h b (or_right (leb d p && not (eqb d k)) e)

-- the controller may read from every worker
pub controller_may_read : (p k : ℕ) → 0 < k → k ≤ p → allowed p (turn 0 k) ≡ true
unfolding allowed controller_may
controller_may_read p k h b = or_left _ (and_intro (le-leb 1 k h) (le-leb k p b))

-- and poll
pub may_poll : (p : ℕ) → allowed p (turn 0 poll_action) ≡ true
unfolding allowed controller_may
may_poll p = or_right (between 1 p poll_action) refl
