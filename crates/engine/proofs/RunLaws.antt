-- From what the actions' code ensures to what the code of a turn ensures.
use Prim.Native.Nat.{ℕ, ◌-◌, ◌<◌, ◌≤◌}
use mathlib.Core.Bool.{Bool, true, false, cond}
use mathlib.Core.List.{List}
use mathlib.Core.Option.{Option, none}
use mathlib.Core.Path.{◌≡◌, refl, sym, ◌∙◌, ap}
use native.Mathlib.Omega.{arith}
use borrow.Author.Tests.{eq-eqb, ne_eqb}
use lib.Dec.{eqb}
use Rattle.base.proofs.Bools.{or_false, not_of_true}
use Rattle.base.proofs.Choice.{cond_true, cond_false}
use Rattle.disac4.proofs.Allowed.{worker_bound, worker_does, controller_does, reads_worker}
use Rattle.disac4.proofs.Fold.{some_map, get_d_map}
use Rattle.disac4.specs.System.{System, system_of, system_at}
use Rattle.disac4.specs.Turn.{turn, treat_action, send_action, answer_action, poll_action, allowed}
use Rattle.disac4.specs.declared.Tally.{Tally}
use Rattle.cells.specs.Acts.{Acts}
use Rattle.cells.specs.Memory.{Mem}
use Rattle.sends.specs.Sends.{send_m}
use Rattle.reads.specs.Reads.{read_poll_m, read_list_m}
use Rattle.answers.specs.Answers.{answer_m}
use Rattle.refinement.specs.Run.{read_on, worker_on, turn_on}
use Rattle.controller.specs.Controller.{Machine, controller_read_m, poll_m}
use Rattle.refinement.specs.Step.{with_mem, read_m, worker_m, step_m}
use Rattle.treating.specs.Treat.{treat_m}
use Rattle.plan.specs.Decode.{plan_of}
use Rattle.format.specs.Format.{worker_count}
use Rattle.format.specs.Limits.{max_workers}

-- ---- a worker's action, by its number

module _ (sys : System) (t : Tally) (i d : ℕ) (m : Mem) where
  pub worker_treats : d ≡ treat_action → worker_on sys t i d m ≡ treat_m sys i m
  unfolding worker_m
  worker_treats e = cond_true _ _ (eq-eqb d treat_action e)

  pub worker_sends : (d ≡ treat_action → ⊥) → d ≡ send_action → worker_on sys t i d m ≡ send_m i m
  unfolding worker_m
  worker_sends n e = cond_false _ _ (ne_eqb d treat_action n) ∙ cond_true _ _ (eq-eqb d send_action e)

  pub worker_answers : (d ≡ treat_action → ⊥) → (d ≡ send_action → ⊥) → d ≡ answer_action → worker_on sys t i d m ≡ answer_m i m
  unfolding worker_m
  worker_answers n o e = cond_false _ _ (ne_eqb d treat_action n) ∙ (cond_false _ _ (ne_eqb d send_action o) ∙ cond_true _ _ (eq-eqb d answer_action e))

  pub worker_reads : (d ≡ treat_action → ⊥) → (d ≡ send_action → ⊥) → (d ≡ answer_action → ⊥) → worker_on sys t i d m ≡ read_on t i d m
  unfolding worker_m
  worker_reads n o p =
      cond_false _ _ (ne_eqb d treat_action n) ∙ (cond_false _ _ (ne_eqb d send_action o) ∙ cond_false _ _ (ne_eqb d answer_action p))

module _ (t : Tally) (i d : ℕ) (m : Mem) where
  pub read_polls : d ≡ 0 → read_on t i d m ≡ read_poll_m i t.timestamp.0 m
  unfolding read_m
  read_polls e = cond_true _ _ (eq-eqb d 0 e)

  pub read_lists : (d ≡ 0 → ⊥) → read_on t i d m ≡ read_list_m (d - 1) i m
  unfolding read_m
  read_lists e = cond_false _ _ (ne_eqb d 0 e)

-- ---- a turn, by its actor and action

-- a worker's action with the tally beside it
pub acts_beside : (f : Machine → Option Mem) (t : Tally) {before after : Mem} {c : Bool}
    → Acts (λ m. f (record { mem = m; tally = t })) before after c
    → Acts (λ s. with_mem s.tally (f s)) (record { mem = before; tally = t }) (record { mem = after; tally = t }) c
acts_beside f t {before} {after} a =
    let o = f (beside before) in
    record {
      leaves = ap beside a.leaves ∙ sym (get_d_map beside o before);
      says = a.says ∙ sym (some_map beside o);
    }
  where
    beside : Mem → Machine
    beside m = record { mem = m; tally = t }

module _ (sys : System) (actor action : ℕ) (s : Machine) where
  pub turn_closed : s.tally.closed ≡ true → turn_on sys actor action s ≡ none
  unfolding step_m
  turn_closed e = rw e

  module _ (running : s.tally.closed ≡ false) (ok : allowed sys.workers (turn actor action) ≡ true) where
    acts : turn_on sys actor action s
        ≡ cond (eqb actor 0) (cond (eqb action poll_action) (poll_m s) (controller_read_m sys (action - 1) s))
        (with_mem s.tally (worker_m sys (actor - 1) action s))
    unfolding step_m
    acts = cond_false none _ (or_false running (not_of_true ok))

    pub turn_polls : actor ≡ 0 → action ≡ poll_action → turn_on sys actor action s ≡ poll_m s
    turn_polls e f = acts ∙ (cond_true _ _ (eq-eqb actor 0 e) ∙ cond_true _ _ (eq-eqb action poll_action f))

    pub controller_turn_reads : actor ≡ 0 → (action ≡ poll_action → ⊥) → turn_on sys actor action s ≡ controller_read_m sys (action - 1) s
    controller_turn_reads e f = acts ∙ (cond_true _ _ (eq-eqb actor 0 e) ∙ cond_false _ _ (ne_eqb action poll_action f))

    pub turn_works : (actor ≡ 0 → ⊥) → turn_on sys actor action s ≡ with_mem s.tally (worker_m sys (actor - 1) action s)
    turn_works e = acts ∙ cond_false _ _ (ne_eqb actor 0 e)

-- ---- what an allowed turn's numbers are

module _ (p actor action : ℕ) (few : p ≤ max_workers) (ok : allowed p (turn actor action) ≡ true) where
  -- a worker's turn
  pub worker_numbers : (actor ≡ 0 → ⊥) → (actor - 1 < p) × (action < poll_action)
  worker_numbers n =
      let w = worker_does p (turn actor action) ok (ne_eqb actor 0 n) in
      (omega (arith, w.0), worker_bound p actor action few w.1)

  -- the controller's read
  pub read_numbers : actor ≡ 0 → (action ≡ poll_action → ⊥) → (0 < action) × (action ≤ p)
  read_numbers e n =
      reads_worker p action (controller_does p (turn actor action) ok (eq-eqb actor 0 e)) (ne_eqb action poll_action n)

-- the system of a plan has as many workers as its head says
pub workers_are : (b : List ℕ) → (system_at b).workers ≡ worker_count b
unfolding system_of plan_of
workers_are b = refl
