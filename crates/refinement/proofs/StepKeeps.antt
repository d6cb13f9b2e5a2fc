-- Every turn keeps the invariant: what holds of each action, put together.
use Prim.Native.Nat.{ℕ, suc, ◌-◌, ◌<◌}
use mathlib.Core.Bool.{true, ◌||◌, not}
use mathlib.Core.Option.{some, map-eq-some_iff}
use mathlib.Core.Path.{◌≡◌, subst}
use native.Mathlib.Omega.{arith}
use borrow.Author.Tests.{eqb-false, not-false}
use lib.Dec.{eqb}
use Rattle.base.proofs.Bools.{or_false_right}
use Rattle.base.proofs.Choice.{by_test, unless_some}
use Rattle.disac4.proofs.Allowed.{reads_other, reads_worker, worker_does, controller_does}
use Rattle.disac4.specs.System.{System}
use Rattle.disac4.specs.Turn.{Turn, treat_action, send_action, answer_action, poll_action, worker_may, allowed}
use Rattle.cells.specs.Memory.{Mem}
use Rattle.controller.specs.Controller.{Machine}
use Rattle.refinement.specs.Step.{read_m, worker_m, step_m}
use Rattle.refinement.proofs.AnswerKeeps.{answer_keeps}
use Rattle.refinement.proofs.ControllerReadKeeps.{controller_read_keeps}
use Rattle.refinement.specs.Inv.{Small, Inv}
use Rattle.refinement.proofs.PollKeeps.{poll_keeps}
use Rattle.refinement.proofs.PollReadKeeps.{read_poll_keeps}
use Rattle.refinement.proofs.ListReadKeeps.{read_list_keeps}
use Rattle.refinement.proofs.SendKeeps.{send_keeps}
use Rattle.refinement.proofs.TreatKeeps.{treat_keeps}

module _ (sys : System) (small : Small sys) (s : Machine) (inv : Inv sys s) where
  -- a worker acts
  worker_keeps : (i d : ℕ) (m' : Mem) → i < sys.workers → worker_may sys.workers (suc i) d ≡ true
      → worker_m sys i d s ≡ some m'
      → Inv sys (record { mem = m'; tally = s.tally })
  unfolding worker_m read_m
  worker_keeps i d m' h may e =
      by_test (eqb d treat_action) e (λ p. treat_keeps sys small s inv i h m') (λ n₁ e₁.
      by_test (eqb d send_action) e₁ (λ p. send_keeps sys s.mem m' s.tally i inv h) (λ n₂ e₂.
      by_test (eqb d answer_action) e₂ (λ p. answer_keeps sys s.mem m' s.tally i inv h) (λ n₃ e₃.
      by_test (eqb d 0) e₃ (λ p. read_poll_keeps sys s.mem m' s.tally i inv h) (λ n₄ e₄.
      let other = reads_other sys.workers (suc i) d may n₁ n₂ n₃ in
      let some_row : 0 < d = omega (arith, eqb-false d 0 n₄) in
      read_list_keeps sys small s.mem m' s.tally (d - 1) i inv (omega arith) h (λ q. other.1 (omega arith)) e₄))))

  -- every turn keeps the invariant
  pub step_keeps : (t : Turn) (s' : Machine) → step_m sys s t ≡ some s' → Inv sys s'
  unfolding step_m
  step_keeps t s' e =
      let e₁ = unless_some (s.tally.closed || not (allowed sys.workers t)) e in
      let ok : allowed sys.workers t ≡ true =
      not-false (allowed sys.workers t) (or_false_right s.tally.closed (not (allowed sys.workers t)) e₁.0) in
      by_test (eqb t.actor 0) e₁.1
      (λ c e₂.
      by_test (eqb t.action poll_action) e₂ (λ p. poll_keeps sys s s' inv)
      (λ n.
      let may = reads_worker sys.workers t.action (controller_does sys.workers t ok c) n in
      controller_read_keeps sys s s' (t.action - 1) inv (omega arith)))
      (λ c e₂.
      let may = worker_does sys.workers t ok c in
      let some_row : suc (t.actor - 1) ≡ t.actor = omega (arith, eqb-false t.actor 0 c) in
      let left =
      (map-eq-some_iff (λ (m' : Mem). record { mem = m'; tally = s.tally }) (worker_m sys (t.actor - 1) t.action s)).0 e₂ in
      subst (Inv sys) left.2
      (worker_keeps (t.actor - 1) t.action left.0 (omega (arith, may.0)) (rw some_row may.1) left.1))
