-- Progress: while the plan is open, some allowed turn changes something.
use Prim.Native.Nat.{ℕ, zero, suc, ◌≤◌}
use mathlib.Core.Bool.{Bool, true, false, cond, ◌&&◌, false≢true}
use mathlib.Core.List.{List, []}
use mathlib.Core.Logic.{⊎_elim}
use mathlib.Core.Option.{Option, none, some}
use mathlib.Core.Path.{◌≡◌, refl, sym, ◌∙◌, ap, subst}
use native.Mathlib.Decide.{ℕ_discrete}
use native.Mathlib.Omega.{arith}
use borrow.Author.Tests.{eq-eqb, ne_eqb}
use lib.Dec.{eqb}
use Rattle.format.specs.Limits.{max_workers}
use Rattle.base.proofs.Below.{some_below, none_below, every_below}
use Rattle.base.proofs.Bools.{decided, clash, and_left, and_right, and_intro, and-false, or_false, not_of_true}
use Rattle.base.proofs.Choice.{cond_false}
use Rattle.base.proofs.Sums.{sum_zero}
use Rattle.base.proofs.Weight.{weigh}
use Rattle.base.specs.Below.{any_below}
use Rattle.base.specs.Choice.{between}
use Rattle.disac4.proofs.Allowed.{allowed_bounds, may_read, may_work, controller_may_read, may_poll}
use Rattle.disac4.proofs.ByKind.{list_message}
use Rattle.disac4.proofs.Channels.{into}
use Rattle.disac4.proofs.Empty.{empty}
use Rattle.disac4.proofs.Expected.{open_poll, Accounted, has_mark, has_replied, will_hold}
use Rattle.disac4.proofs.IdleAction.{none_chosen, some_refused, none_taken, read_takes, controller_takes}
use Rattle.disac4.proofs.Safety.{Safe, safe_run}
use Rattle.disac4.proofs.Typed.{no_self, not_controller}
use Rattle.disac4.specs.Action.{is_empty, treat, treat_from, send, read_from, read_worker, ready, answer, answer_to, new_poll, all_marked, controller_from, read_controller}
use Rattle.disac4.specs.Event.{Event, events}
use Rattle.disac4.specs.Fold.{is_some}
use Rattle.disac4.specs.Loading.{load}
use Rattle.disac4.specs.State.{State}
use Rattle.disac4.specs.System.{System, Worker, Sound}
use Rattle.disac4.specs.Turn.{Turn, turn, treat_action, send_action, answer_action, poll_action, allowed, worker_step, controller_step, step, play, changes}
use Rattle.disac4.specs.declared.Poll.{Poll}

-- a state in which no allowed turn changes anything
abbrev Stuck : System → State → Type 0
Stuck sys st = (t : Turn) → allowed sys.workers t ≡ true → changes sys st t ≡ false

module _ (sys : System) (st : State) (few : sys.workers ≤ max_workers) (running : st.controller.closed ≡ false)
    (stuck : Stuck sys st) where
  -- an allowed turn is idle
  step_idle : (t : Turn) → allowed sys.workers t ≡ true
      → is_some (cond (eqb t.actor 0) (controller_step sys t.action st) (worker_step sys t.actor t.action st)) ≡ false
  unfolding step
  step_idle t ok = sym (ap is_some (cond_false none _ (or_false running (not_of_true ok)))) ∙ stuck t ok

  worker_idle : (k d : ℕ) → Worker sys k → allowed sys.workers (turn k d) ≡ true → is_some (worker_step sys k d st) ≡ false
  worker_idle k d w ok = rw (ne_eqb k 0 (λ e. not_controller w (sym e))) at (step_idle (turn k d) ok)

  controller_idle : (d : ℕ) → allowed sys.workers (turn 0 d) ≡ true → is_some (controller_step sys d st) ≡ false
  controller_idle d ok = step_idle (turn 0 d) ok

  own_idle : (k d : ℕ) → Worker sys k → between treat_action answer_action d ≡ true → is_some (worker_step sys k d st) ≡ false
  own_idle k d w b = worker_idle k d w (may_work sys.workers k d w.above w.within b)

  -- so nothing is left to treat, to send or to read
  nothing_to_treat : (k : ℕ) → Worker sys k → st.work_list k ≡ []
  unfolding worker_step treat
  nothing_to_treat k w =
      none_taken (treat_from sys k st) (λ a l. refl) (st.work_list k) (own_idle k treat_action w refl)

  nothing_to_send : (k : ℕ) → Worker sys k → st.to_send k ≡ []
  unfolding worker_step send
  nothing_to_send k w = empty (st.to_send k) (none_chosen (is_empty (st.to_send k)) _ (own_idle k send_action w refl))

  nothing_to_read : (j k : ℕ) → Worker sys k → j ≤ sys.workers → (j ≡ k → ⊥) → st.channel j k ≡ []
  unfolding worker_step read_worker
  nothing_to_read j k w h d =
      none_taken (read_from j k st) (read_takes j k st) (st.channel j k)
      (rw (
        ne_eqb j treat_action (λ e. omega arith),
        ne_eqb j send_action (λ e. omega arith),
        ne_eqb j answer_action (λ e. omega arith),
      )
      at (worker_idle k j w (may_read sys.workers k j w.above w.within h d)))

  nothing_to_count : (k : ℕ) → Worker sys k → st.channel k 0 ≡ []
  unfolding controller_step read_controller
  nothing_to_count k w =
      none_taken (controller_from sys k st) (controller_takes sys k st) (st.channel k 0)
      (rw (ne_eqb k poll_action (λ e. omega (arith, w.within)))
      at (controller_idle k (controller_may_read sys.workers k w.above w.within)))

  -- a poll is open
  poll_open_lem : st.controller.poll_open ≡ true
  unfolding controller_step new_poll
  poll_open_lem =
      none_chosen st.controller.poll_open _ (controller_idle poll_action (may_poll sys.workers))

  -- no worker can answer
  no_answer : (k : ℕ) (q : Poll) → Worker sys k → st.held k ≡ some q → ready k q st ≡ false
  unfolding worker_step answer
  no_answer k q w e =
      some_refused (ready k q st) _
      (subst (λ (o : Option Poll). is_some (answer_to k st o) ≡ false) e (own_idle k answer_action w refl))

  module _ (es : List Event) (g : Safe sys st es) where
    no_messages : (j k : ℕ) → j ≤ sys.workers → k ≤ sys.workers → st.channel j k ≡ []
    no_messages j k h b =
        elim (ℕ_discrete j k) [
          | yes same ↦ rw same (no_self g.typed k)
          | no other ↦ go k b other
        ]
      where
        go : (k : ℕ) → k ≤ sys.workers → (j ≡ k → ⊥) → st.channel j k ≡ []
        go zero b d = nothing_to_count j (record { above = omega arith; within = h })
        go (suc k) b d = nothing_to_read j (suc k) (record { above = omega arith; within = b }) h d

    no_lists : (k : ℕ) → k ≤ sys.workers → into list_message sys.workers st.channel k ≡ 0
    no_lists k b =
        sum_zero (suc sys.workers) (λ j. weigh list_message (st.channel j k))
        (λ j h. ap (weigh list_message) (no_messages j k (omega arith) b))

    is_ready_lem : (k : ℕ) → Worker sys k → ready k (open_poll st) st ≡ true
    unfolding ready
    is_ready_lem k w =
        and_intro
        (and_intro (ap is_empty (nothing_to_treat k w)) (ap is_empty (nothing_to_send k w)))
        (eq-eqb (st.list_counter k) (st.list_counter 0)
        (omega (
          arith,
          g.conserved k w.within,
          g.conserved 0 (omega arith),
          no_lists k w.within,
          no_lists 0 (omega arith),
        )))

    -- a worker without a mark could answer
    all_answered : (k : ℕ) → Worker sys k → st.controller.marked k ≡ true
    all_answered k w = go (g.expected poll_open_lem k w)
      where
        go : Accounted (open_poll st) st.controller.marked st.held st.channel k
            → st.controller.marked k ≡ true
        go (has_mark x) = x
        go (has_replied x) = absurd (false≢true (rw (no_messages k 0 w.within (omega arith)) at x))
        go (will_hold x) =
            clash (is_ready_lem k w)
            (no_answer k (open_poll st) w
            (rw (no_messages 0 k (omega arith) w.within) at x))

    -- with all workers marked the plan would be closed
    never_stuck : ⊥
    unfolding all_marked
    never_stuck =
        false≢true
        (sym running
        ∙ (g.closure.exact poll_open_lem
        ∙ every_below sys.workers (λ i. st.controller.marked (suc i))
        (λ i h. all_answered (suc i) (record { above = omega arith; within = h }))))

-- a reached state in which no allowed turn changes anything is closed
stuck_closed : {sys : System} → Sound sys → (ts : List Turn) → Stuck sys (play sys (load sys) ts)
    → (play sys (load sys) ts).controller.closed ≡ true
stuck_closed {sys} sound ts stuck =
    ⊎_elim (λ e. e)
    (λ e.
    absurd (never_stuck sys (play sys (load sys) ts) sound.few e stuck (events sys (load sys) ts) (safe_run sound ts)))
    (decided (play sys (load sys) ts).controller.closed)

-- while the plan is open, some allowed turn changes something
pub progress : {sys : System} → Sound sys → (ts : List Turn) → (play sys (load sys) ts).controller.closed ≡ false
    → (t : Turn) × (allowed sys.workers t ≡ true) × (changes sys (play sys (load sys) ts) t ≡ true)
progress {sys} sound ts running = ⊎_elim found (λ e. clash (stuck_closed sound ts (none_found e)) running) (decided any)
  where
    st : State
    st = play sys (load sys) ts

    changing : ℕ → ℕ → Bool
    changing k d = allowed sys.workers (turn k d) && changes sys st (turn k d)

    any : Bool
    any = any_below (suc sys.workers) (λ k. any_below (suc poll_action) (changing k))

    found : any ≡ true → (t : Turn) × (allowed sys.workers t ≡ true) × (changes sys st t ≡ true)
    found e =
        let k = some_below (suc sys.workers) (λ k. any_below (suc poll_action) (changing k)) e in
        let d = some_below (suc poll_action) (changing k.0) k.2 in
        let t = turn k.0 d.0 in
        (t, and_left (allowed sys.workers t) _ d.2, and_right (allowed sys.workers t) _ d.2)

    none_found : any ≡ false → Stuck sys st
    none_found e t ok =
        let b = allowed_bounds sys.workers t sound.few ok in
        let row = none_below (suc sys.workers) (λ k. any_below (suc poll_action) (changing k)) e t.actor b.0 in
        ⊎_elim (λ x. clash ok x) (λ x. x)
        (and-false (allowed sys.workers t) (changes sys st t) (none_below (suc poll_action) (changing t.actor) row t.action b.1))
