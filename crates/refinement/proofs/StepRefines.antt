-- A turn in memory is a turn: the actions' equations put together.
use Prim.Native.Nat.{ℕ, zero, suc, ◌-◌, ◌<◌, ◌≤◌}
use mathlib.Core.Bool.{true, cond, ◌||◌, not}
use mathlib.Core.Option.{none, map, map-map}
use mathlib.Core.Path.{◌≡◌, refl, ◌∙◌, ap}
use native.Mathlib.Omega.{arith}
use borrow.Author.Tests.{eqb-false, ne_eqb, not-false}
use lib.Dec.{eqb}
use Rattle.base.proofs.Bools.{or_false_right}
use Rattle.base.proofs.Choice.{cond_false}
use Rattle.disac4.proofs.Allowed.{reads_other, reads_worker, worker_does, controller_does}
use Rattle.disac4.specs.Action.{read_worker, read_controller}
use Rattle.disac4.specs.State.{State}
use Rattle.disac4.specs.System.{System}
use Rattle.disac4.specs.Turn.{Turn, treat_action, send_action, answer_action, poll_action, worker_may, controller_may, allowed, worker_step, controller_step, step}
use Rattle.cells.specs.Memory.{Mem}
use Rattle.reads.specs.Reads.{read_poll_m, read_list_m}
use Rattle.controller.specs.Controller.{Machine, controller_read_m, poll_m}
use Rattle.refinement.specs.Step.{with_mem, read_m, worker_m, step_m}
use Rattle.cells.specs.View.{view}
use Rattle.refinement.proofs.AnswerRefines.{answer_refines}
use Rattle.refinement.proofs.PollRefines.{new_poll_refines}
use Rattle.refinement.proofs.ControllerReadRefines.{controller_read_refines}
use Rattle.refinement.specs.Inv.{Small, Inv}
use Rattle.refinement.proofs.PollReadRefines.{poll_refines}
use Rattle.refinement.proofs.TreatRefines.{treat_refines}
use Rattle.refinement.proofs.ViewParts.{view_of, map_cond}
use Rattle.refinement.proofs.SendRefines.{send_refines}
use Rattle.refinement.proofs.ListReadRefines.{list_refines}

module _ (sys : System) (small : Small sys) (s : Machine) (inv : Inv sys s) where
  abbrev st : State
  st = view_of sys s

  abbrev seen : Mem → State
  seen m' = view sys m' s.tally

  -- a worker reads
  read_refines : (i d : ℕ) → i < sys.workers → d ≤ sys.workers → (d ≡ suc i → ⊥)
      → map seen (read_m d i s) ≡ read_worker d (suc i) st
  unfolding read_m
  read_refines i zero h l n = poll_refines sys small s inv i h
  read_refines i (suc j) h l n =
      let e : suc j - 1 ≡ j = omega arith in
      ap (map seen)
      (cond_false (read_poll_m i s.tally.timestamp.0 s.mem) (read_list_m (suc j - 1) i s.mem)
      (ne_eqb (suc j) 0 (λ z. omega arith))
      ∙ ap (λ (k : ℕ). read_list_m k i s.mem) e)
      ∙ list_refines sys small s inv j i l h (λ q. n (ap suc q))

  -- the controller acts
  controller_refines : (d : ℕ) → controller_may sys.workers d ≡ true
      → map (view_of sys) (cond (eqb d poll_action) (poll_m s) (controller_read_m sys (d - 1) s)) ≡ controller_step sys d st
  unfolding controller_step
  controller_refines d may =
      map_cond (view_of sys) (eqb d poll_action) _ _ _ _ (λ p. new_poll_refines sys small s inv)
      (λ p.
      let from = reads_worker sys.workers d may p in
      has_read from.0 from.1)
    where
      has_read : 0 < d → d ≤ sys.workers → map (view_of sys) (controller_read_m sys (d - 1) s) ≡ read_controller sys d st
      has_read low high =
          let e : suc (d - 1) ≡ d = omega arith in
          controller_read_refines sys small s inv (d - 1) (omega arith) ∙ ap (λ (k : ℕ). read_controller sys k st) e

  -- a worker acts
  worker_refines : (i d : ℕ) → i < sys.workers → worker_may sys.workers (suc i) d ≡ true
      → map seen (worker_m sys i d s) ≡ worker_step sys (suc i) d st
  unfolding worker_m worker_step
  worker_refines i d h may =
      map_cond seen (eqb d treat_action) _ _ _ _ (λ p. treat_refines sys small s inv i h)
      (λ p. map_cond seen (eqb d send_action) _ _ _ _ (λ q. send_refines sys small s inv i h)
      (λ q. map_cond seen (eqb d answer_action) _ _ _ _ (λ r. answer_refines sys small s inv i h)
      (λ r.
      let other = reads_other sys.workers (suc i) d may p q r in
      read_refines i d h other.0 other.1)))

  -- a worker takes its turn
  turn_refines : (k d : ℕ) → (k ≡ 0 → ⊥) → k ≤ sys.workers → worker_may sys.workers k d ≡ true
      → map (view_of sys) (with_mem s.tally (worker_m sys (k - 1) d s)) ≡ worker_step sys k d st
  turn_refines k d n l may =
      let e : suc (k - 1) ≡ k = omega arith in
      map-map (view_of sys) (λ (m' : Mem). record { mem = m'; tally = s.tally }) (worker_m sys (k - 1) d s)
      ∙ worker_refines (k - 1) d (omega arith) (rw e may)
      ∙ ap (λ (a : ℕ). worker_step sys a d st) e

  -- a turn in memory is a turn
  pub step_refines : (u : Turn) → map (view_of sys) (step_m sys s u) ≡ step sys st u
  unfolding step_m step view
  step_refines u =
      map_cond (view_of sys) (s.tally.closed || not (allowed sys.workers u)) none _ none _ (λ p. refl)
      (λ p. acts (not-false (allowed sys.workers u) (or_false_right s.tally.closed (not (allowed sys.workers u)) p)))
    where
      acts : allowed sys.workers u ≡ true
          → map (view_of sys)
          (cond (eqb u.actor 0)
          (cond (eqb u.action poll_action) (poll_m s) (controller_read_m sys (u.action - 1) s))
          (with_mem s.tally (worker_m sys (u.actor - 1) u.action s)))
          ≡ cond (eqb u.actor 0) (controller_step sys u.action st) (worker_step sys u.actor u.action st)
      acts ok =
          map_cond (view_of sys) (eqb u.actor 0) _ _ _ _
          (λ z. controller_refines u.action (controller_does sys.workers u ok z))
          (λ z.
          let may = worker_does sys.workers u ok z in
          turn_refines u.actor u.action (eqb-false u.actor 0 z) may.0 may.1)
