-- What a turn that is not idle does: one case for each action, with what held before it, the state after it and its events.
-- Every invariant of the protocol is proved by going through these cases.
use Prim.Native.Nat.{ℕ, ◌≤◌}
use mathlib.Core.Bool.{Bool, true, false, cond, ◌||◌, not}
use mathlib.Core.List.{List, [], ◌∷◌, ◌++◌, append_assoc, append-nil}
use mathlib.Core.Option.{Option, none, some}
use mathlib.Core.Path.{◌≡◌, refl, sym, ap, subst}
use native.Mathlib.Omega.{arith}
use borrow.Author.Tests.{eqb-true, eqb-false, le-leb, lt-leb, not-false}
use lib.Dec.{leb, eqb}
use Rattle.format.specs.Limits.{max_workers}
use Rattle.base.proofs.Bools.{or_false_left, or_false_right}
use Rattle.base.proofs.Choice.{none≢some, by_test, if_some, unless_some, some_same}
use Rattle.network.specs.Network.{Label}
use Rattle.disac4.proofs.Allowed.{reads_other, reads_worker, worker_does, controller_does}
use Rattle.disac4.proofs.Fold.{after_idle, after_move, gather_keeps}
use Rattle.disac4.specs.Action.{is_empty, after_treat, treat, treat_from, after_send, send, after_list, after_poll, after_drop, read_from, read_worker, after_answer, ready, answer_to, answer, after_new_poll, new_poll, after_count, after_mark, current, controller_from, read_controller}
use Rattle.disac4.specs.Event.{Event, sent, taken, treated, events_at, events, treat_event, read_event}
use Rattle.disac4.specs.Fold.{is_some}
use Rattle.disac4.specs.State.{State, Message, list, poll, reply}
use Rattle.disac4.specs.System.{System, Worker}
use Rattle.disac4.specs.Turn.{Turn, turn, treat_action, send_action, answer_action, poll_action, worker_may, controller_may, allowed, worker_step, controller_step, step, after, play, changes}
use Rattle.disac4.specs.declared.Poll.{Poll}
use Rattle.disac4.specs.declared.Timestamp.{Timestamp}

-- the cases, by the state and the events that they lead to
pub data Moves (sys : System) (st : State) : State → List Event → Type 0 where
  treats : (k : ℕ) (a : Label) (rest : List Label) → Worker sys k → st.work_list k ≡ a ∷ rest
      → Moves sys st (after_treat sys k a rest st) (treated k a ∷ [])
  sends : (k : ℕ) → Worker sys k → is_empty (st.to_send k) ≡ false
      → Moves sys st (after_send sys k st) (sent k (st.to_send k) ∷ [])
  reads : (j k : ℕ) (labels : List Label) (rest : List Message) → Worker sys k → j ≤ sys.workers → (j ≡ k → ⊥)
      → st.channel j k ≡ list labels ∷ rest → Moves sys st (after_list j k labels rest st) (taken k j labels ∷ [])
  takes_poll : (j k : ℕ) (q : Poll) (rest : List Message) → Worker sys k → j ≤ sys.workers → (j ≡ k → ⊥)
      → st.channel j k ≡ poll q ∷ rest → Moves sys st (after_poll j k q rest st) []
  ignores : (j k : ℕ) (n : Timestamp) (rest : List Message) → Worker sys k → j ≤ sys.workers → (j ≡ k → ⊥)
      → st.channel j k ≡ reply n ∷ rest → Moves sys st (after_drop j k rest st) []
  answers : (k : ℕ) (q : Poll) → Worker sys k → st.held k ≡ some q → ready k q st ≡ true
      → Moves sys st (after_answer k q st) []
  new_poll_lem : st.controller.poll_open ≡ false → Moves sys st (after_new_poll sys st) []
  tallies : (k : ℕ) (labels : List Label) (rest : List Message) → Worker sys k → st.channel k 0 ≡ list labels ∷ rest
      → Moves sys st (after_count k rest st) (taken 0 k labels ∷ [])
  marks : (k : ℕ) (n : Timestamp) (rest : List Message) → Worker sys k → st.channel k 0 ≡ reply n ∷ rest → current n st ≡ true
      → Moves sys st (after_mark sys k rest st) []
  drops : (k : ℕ) (n : Timestamp) (rest : List Message) → Worker sys k → st.channel k 0 ≡ reply n ∷ rest → current n st ≡ false
      → Moves sys st (after_drop k 0 rest st) []
  discards : (k : ℕ) (q : Poll) (rest : List Message) → Worker sys k → st.channel k 0 ≡ poll q ∷ rest
      → Moves sys st (after_drop k 0 rest st) []

-- the turn that makes the move
abbrev pub turn_of : {sys : System} {st s : State} {es : List Event} → Moves sys st s es → Turn
turn_of (treats k a rest w e) = turn k treat_action
turn_of (sends k w e) = turn k send_action
turn_of (reads j k labels rest w h n e) = turn k j
turn_of (takes_poll j k q rest w h n e) = turn k j
turn_of (ignores j k i rest w h n e) = turn k j
turn_of (answers k q w e r) = turn k answer_action
turn_of (new_poll_lem e) = turn 0 poll_action
turn_of (tallies k labels rest w e) = turn 0 k
turn_of (marks k n rest w e c) = turn 0 k
turn_of (drops k n rest w e c) = turn 0 k
turn_of (discards k q rest w e) = turn 0 k

-- ---- from the step to its case

module _ (sys : System) (st : State) where
  -- turn `t` moves to a state
  abbrev By : Turn → List Event → State → Type 0
  By t es s = (m : Moves sys st s es) × (turn_of m ≡ t)

  -- a move to a state is one to the state that it equals
  reached : {t : Turn} {s s' : State} {es : List Event} → some s ≡ some s' → By t es s → By t es s'
  reached {t} {es = es} = some_same (By t es)

  treat_moves : (k : ℕ) → Worker sys k → (l : List Label) → st.work_list k ≡ l → (s : State)
      → treat_from sys k st l ≡ some s → By (turn k treat_action) (treat_event k l) s
  treat_moves k w [] p s e = none≢some e
  treat_moves k w (a ∷ rest) p s e = reached e (treats k a rest w p, refl)

  send_moves : (k : ℕ) → Worker sys k → (s : State) → send sys k st ≡ some s → By (turn k send_action) (sent k (st.to_send k) ∷ []) s
  unfolding send
  send_moves k w s e = let c = unless_some (is_empty (st.to_send k)) e in reached c.1 (sends k w c.0, refl)

  read_moves : (j k : ℕ) → Worker sys k → j ≤ sys.workers → (j ≡ k → ⊥) → (l : List Message) → st.channel j k ≡ l
      → (s : State) → read_from j k st l ≡ some s → By (turn k j) (read_event k j l) s
  read_moves j k w h n [] p s e = none≢some e
  read_moves j k w h n (list labels ∷ rest) p s e = reached e (reads j k labels rest w h n p, refl)
  read_moves j k w h n (poll q ∷ rest) p s e = reached e (takes_poll j k q rest w h n p, refl)
  read_moves j k w h n (reply i ∷ rest) p s e = reached e (ignores j k i rest w h n p, refl)

  answer_moves : (k : ℕ) → Worker sys k → (o : Option Poll) → st.held k ≡ o → (s : State)
      → answer_to k st o ≡ some s → By (turn k answer_action) [] s
  answer_moves k w none p s e = none≢some e
  answer_moves k w (some q) p s e = let c = if_some (ready k q st) e in reached c.1 (answers k q w p c.0, refl)

  new_poll_moves : (s : State) → new_poll sys st ≡ some s → By (turn 0 poll_action) [] s
  unfolding new_poll
  new_poll_moves s e = let c = unless_some st.controller.poll_open e in reached c.1 (new_poll_lem c.0, refl)

  tally_moves : (k : ℕ) → Worker sys k → (l : List Message) → st.channel k 0 ≡ l
      → (s : State) → controller_from sys k st l ≡ some s → By (turn 0 k) (read_event 0 k l) s
  tally_moves k w [] p s e = none≢some e
  tally_moves k w (list labels ∷ rest) p s e = reached e (tallies k labels rest w p, refl)
  tally_moves k w (poll q ∷ rest) p s e = reached e (discards k q rest w p, refl)
  tally_moves k w (reply n ∷ rest) p s e = go (current n st) refl e
    where
      go : (b : Bool) → current n st ≡ b
          → some (cond b (after_mark sys k rest st) (after_drop k 0 rest st)) ≡ some s → By (turn 0 k) [] s
      go true c f = reached f (marks k n rest w p c, refl)
      go false c f = reached f (drops k n rest w p c, refl)

  -- ---- the events of a turn that is not idle, by its actor and action

  abbrev worker_events : ℕ → ℕ → List Event
  worker_events k d =
      cond (eqb d send_action) (sent k (st.to_send k) ∷ [])
      (cond (eqb d treat_action) (treat_event k (st.work_list k))
      (cond (leb d sys.workers) (read_event k d (st.channel d k)) []))

  module _ (few : sys.workers ≤ max_workers) where
    -- a worker that does none of the three other actions reads
    other_moves : (k d : ℕ) → Worker sys k → worker_may sys.workers k d ≡ true → eqb d treat_action ≡ false
        → eqb d send_action ≡ false → eqb d answer_action ≡ false → (s : State) → read_worker d k st ≡ some s
        → By (turn k d) (worker_events k d) s
    unfolding read_worker
    other_moves k d w ok p q r s e =
        let other = reads_other sys.workers k d ok p q r in
        rw (p, q, le-leb d sys.workers other.0) (read_moves d k w other.0 other.1 (st.channel d k) refl s e)

    -- what a worker does, by the number of its action
    worker_moves : (k d : ℕ) → Worker sys k → worker_may sys.workers k d ≡ true → (s : State)
        → worker_step sys k d st ≡ some s → By (turn k d) (worker_events k d) s
    unfolding worker_step treat answer
    worker_moves k d w ok s e =
        by_test (eqb d treat_action) e
        (λ p f. rw (eqb-true d treat_action p) (treat_moves k w (st.work_list k) refl s f))
        (λ p e₁.
        by_test (eqb d send_action) e₁ (λ q f. rw (eqb-true d send_action q) (send_moves k w s f))
        (λ q e₂.
        by_test (eqb d answer_action) e₂
        (λ r f.
        rw (eqb-true d answer_action r, lt-leb answer_action sys.workers (omega arith))
        (answer_moves k w (st.held k) refl s f))
        (λ r f. other_moves k d w ok p q r s f)))

    -- what the controller does
    controller_moves : (d : ℕ) → controller_may sys.workers d ≡ true → (s : State)
        → controller_step sys d st ≡ some s → By (turn 0 d) (cond (leb d sys.workers) (read_event 0 d (st.channel d 0)) []) s
    unfolding controller_step read_controller
    controller_moves d ok s e =
        by_test (eqb d poll_action) e
        (λ p f. rw (eqb-true d poll_action p, lt-leb poll_action sys.workers (omega arith)) (new_poll_moves s f))
        (λ p f.
        let from = reads_worker sys.workers d ok p in
        rw (le-leb d sys.workers from.1)
        (tally_moves d (record { above = from.0; within = from.1 }) (st.channel d 0) refl s f))

    -- the events of a turn that is not idle, by its actor
    events_of_worker : (t : Turn) → changes sys st t ≡ true → eqb t.actor 0 ≡ false
        → events_at sys st t ≡ worker_events t.actor t.action
    unfolding events_at
    events_of_worker t c p = rw (c, p)

    events_of_controller : (d : ℕ) → changes sys st (turn 0 d) ≡ true
        → events_at sys st (turn 0 d) ≡ cond (leb d sys.workers) (read_event 0 d (st.channel d 0)) []
    unfolding events_at
    events_of_controller d c = rw c

    controller_turn : (d : ℕ) (s : State) → allowed sys.workers (turn 0 d) ≡ true → changes sys st (turn 0 d) ≡ true
        → controller_step sys d st ≡ some s → By (turn 0 d) (events_at sys st (turn 0 d)) s
    controller_turn d s ok c f =
        rw (events_of_controller d c) (controller_moves d (controller_does sys.workers (turn 0 d) ok refl) s f)

    worker_turn : (t : Turn) (s : State) → eqb t.actor 0 ≡ false → allowed sys.workers t ≡ true
        → changes sys st t ≡ true → worker_step sys t.actor t.action st ≡ some s → By t (events_at sys st t) s
    worker_turn t s p ok c f =
        let a = worker_does sys.workers t ok p in
        rw (events_of_worker t c p)
        (worker_moves t.actor t.action
        (record { above = omega (arith, eqb-false t.actor 0 p); within = a.0 })
        a.1 s f)

    -- a turn that is not idle was played in an open plan, and is one of the cases
    pub moves : (t : Turn) (s : State) → step sys st t ≡ some s
        → (st.controller.closed ≡ false) × (allowed sys.workers t ≡ true) × By t (events_at sys st t) s
    unfolding step
    moves t s e =
        let passes = unless_some (st.controller.closed || not (allowed sys.workers t)) e in
        let ok = not-false (allowed sys.workers t) (or_false_right st.controller.closed _ passes.0) in (
          or_false_left st.controller.closed _ passes.0,
          ok,
          by_test (eqb t.actor 0) passes.1
              (λ p f.
              let z : t ≡ turn 0 t.action = λ i. record { actor = eqb-true t.actor 0 p i; action = t.action } in
              subst (λ (u : Turn). By u (events_at sys st u) s) (sym z)
              (controller_turn t.action s
              (subst (λ (u : Turn). allowed sys.workers u ≡ true) z ok)
              (subst (λ (u : Turn). changes sys st u ≡ true) z (ap is_some e))
              f))
              (λ p f. worker_turn t s p ok (ap is_some e) f),
        )

-- ---- invariants of a run

-- an idle turn has no events
idle_events : (sys : System) (st : State) (t : Turn) → step sys st t ≡ none → events_at sys st t ≡ []
unfolding events_at
idle_events sys st t e = rw e

-- what a turn does: nothing, or one of the moves
pub data Effect (sys : System) (st : State) (t : Turn) : Type 0 where
  idle : changes sys st t ≡ false → after sys st t ≡ st → events_at sys st t ≡ [] → Effect sys st t
  acts : changes sys st t ≡ true → st.controller.closed ≡ false → allowed sys.workers t ≡ true
      → (m : Moves sys st (after sys st t) (events_at sys st t)) → turn_of m ≡ t → Effect sys st t

-- every turn is idle, or allowed and one of the moves of an open plan
pub effect : (sys : System) (st : State) → sys.workers ≤ max_workers → (t : Turn) → Effect sys st t
effect sys st few t = go (step sys st t) refl
  where
    go : (o : Option State) → step sys st t ≡ o → Effect sys st t
    go none e = idle (ap is_some e) (after_idle (step sys) st t e) (idle_events sys st t e)
    go (some s) e =
        let m = moves sys st few t s e in
        let b = subst (By sys st t (events_at sys st t)) (sym (after_move (step sys) st t s e)) m.2 in
        acts (ap is_some e) m.0 m.1 b.0 b.1

-- what every case of `Moves` keeps holds after any list of turns, with their events
pub kept : (sys : System) → sys.workers ≤ max_workers → (I : State → List Event → Type 0)
    → ((st : State) (es : List Event) (s : State) (new : List Event) → st.controller.closed ≡ false → I st es
    → Moves sys st s new → I s (es ++ new))
    → (ts : List Turn) (st : State) → I st [] → I (play sys st ts) (events sys st ts)
kept sys few I one_move ts st start =
    gather_keeps (step sys) [] ◌++◌ append-nil append_assoc (events_at sys) I
    (λ s es t i. next s es t i (effect sys s few t)) ts st [] start
  where
    next : (s : State) (es : List Event) (t : Turn) → I s es → Effect sys s t → I (after sys s t) (es ++ events_at sys s t)
    next s es t i (idle c a e) = rw (a, e, append-nil) i
    next s es t i (acts c o l m u) = one_move s es (after sys s t) (events_at sys s t) o i m
