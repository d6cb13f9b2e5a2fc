-- An idle turn stays idle while other turns leave alone what it looks at.
use Prim.Native.Nat.{ℕ, ◌<◌, ◌≤◌}
use mathlib.Core.Bool.{Bool, true, false, cond, ◌&&◌, ◌||◌, not}
use mathlib.Core.List.{List}
use mathlib.Core.Logic.{⊎_elim}
use mathlib.Core.Option.{Option, none, some}
use mathlib.Core.Path.{◌≡◌, refl, sym, ◌∙◌, ap, subst}
use native.Mathlib.Omega.{arith}
use borrow.Author.Tests.{eqb-true, ne_eqb}
use lib.Dec.{eqb}
use Rattle.format.specs.Limits.{max_workers}
use Rattle.base.proofs.Bools.{decided, or_false, or_false_right}
use Rattle.base.proofs.Choice.{cond_true, cond_false, update₂_first, update₂_each}
use Rattle.base.specs.Choice.{update₂}
use Rattle.network.specs.Network.{Label}
use Rattle.disac4.proofs.Channels.{broadcast_sender}
use Rattle.disac4.proofs.IdleAction.{none_chosen, some_refused, none_taken, read_takes, controller_takes}
use Rattle.disac4.proofs.Moves.{Moves, treats, sends, reads, takes_poll, ignores, answers, new_poll_lem, tallies, marks, drops, discards, turn_of, moves}
use Rattle.disac4.specs.Action.{is_empty, treat_from, treat, after_treat, send, after_send, read_from, read_worker, after_list, after_poll, after_drop, answer_to, answer, ready, after_answer, new_poll, after_new_poll, controller_from, read_controller, after_count, after_mark}
use Rattle.disac4.specs.Event.{Event}
use Rattle.disac4.specs.Fold.{is_some}
use Rattle.disac4.specs.State.{State, Message}
use Rattle.disac4.specs.declared.Poll.{Poll}
use Rattle.disac4.specs.System.{System}
use Rattle.disac4.specs.Turn.{Turn, treat_action, send_action, answer_action, poll_action, allowed, worker_step, controller_step, step}

-- what an actor keeps for itself: its work list, its labels to send, the poll that it holds, its count of lists
abbrev own_of : State → ℕ → List Label × List Label × Option Poll × ℕ
own_of st k = (st.work_list k, st.to_send k, st.held k, st.list_counter k)

-- ---- what a turn leaves alone

-- action `d` of actor `k` leaves what other actors keep; every channel but the one that it reads and, where it sends, answers
-- or polls, those from `k`; and the controller, if `k` is a worker
record Leaves (k d : ℕ) (st s : State) : Type 0 where
  own : (i : ℕ) → (i ≡ k → ⊥) → own_of s i ≡ own_of st i
  channel : (j i : ℕ) → (treat_action < d → j ≡ k → ⊥) → (j ≡ d → i ≡ k → ⊥) → s.channel j i ≡ st.channel j i
  controller : 0 < k → s.controller ≡ st.controller

module _ (sys : System) (st : State) where
  -- part by part
  leaves : {k d : ℕ} {s : State} → ((i : ℕ) → (i ≡ k → ⊥) → own_of s i ≡ own_of st i)
      → ((j i : ℕ) → (treat_action < d → j ≡ k → ⊥) → (j ≡ d → i ≡ k → ⊥) → s.channel j i ≡ st.channel j i)
      → (0 < k → s.controller ≡ st.controller) → Leaves k d st s
  leaves own box same = record { own = own; channel = box; controller = same }

  -- a read changes no other channel
  read_channel : (d k : ℕ) (rest : List Message) (j i : ℕ) → (treat_action < d → j ≡ k → ⊥) → (j ≡ d → i ≡ k → ⊥)
      → update₂ st.channel d k rest j i ≡ st.channel j i
  read_channel d k rest j i f =
      update₂_each (λ j i l. (j ≡ d → i ≡ k → ⊥) → l ≡ st.channel j i) st.channel d k rest
      (λ g. absurd (g refl refl)) (λ j i n g. refl) j i

  move_leaves : {s : State} {es : List Event} (m : Moves sys st s es) → Leaves (turn_of m).actor (turn_of m).action st s
  unfolding after_treat after_send after_list after_poll after_drop after_answer after_new_poll after_count after_mark
  move_leaves (treats k a rest w e) = leaves (λ i n. rw (ne_eqb i k n)) (λ j i f g. refl) (λ h. refl)
  move_leaves (sends k w e) =
      leaves (λ i n. rw (ne_eqb i k n))
      (λ j i f g. broadcast_sender sys.workers k _ st.channel j i (f (omega arith))) (λ h. refl)
  move_leaves (reads j k labels rest w h n e) = leaves (λ i n. rw (ne_eqb i k n)) (read_channel j k rest) (λ h. refl)
  move_leaves (takes_poll j k q rest w h n e) = leaves (λ i n. rw (ne_eqb i k n)) (read_channel j k rest) (λ h. refl)
  move_leaves (ignores j k i rest w h n e) = leaves (λ i n. refl) (read_channel j k rest) (λ h. refl)
  move_leaves (answers k q w e r) =
      leaves (λ i n. rw (ne_eqb i k n)) (λ j i f g. update₂_first st.channel k 0 _ j i (f (omega arith))) (λ h. refl)
  move_leaves (new_poll_lem e) =
      leaves (λ i n. refl) (λ j i f g. broadcast_sender sys.workers 0 _ st.channel j i (f (omega arith)))
      (λ h. absurd (omega arith))
  move_leaves (tallies k labels rest w e) =
      leaves (λ i n. rw (ne_eqb i 0 n)) (read_channel k 0 rest) (λ h. absurd (omega arith))
  move_leaves (marks k n rest w e c) = leaves (λ i n. refl) (read_channel k 0 rest) (λ h. absurd (omega arith))
  move_leaves (drops k n rest w e c) = leaves (λ i n. refl) (read_channel k 0 rest) (λ h. refl)
  move_leaves (discards k q rest w e) = leaves (λ i n. refl) (read_channel k 0 rest) (λ h. refl)

-- ---- what an idle turn looks at

-- a choice stays idle where its parts do
still_cond : (b : Bool) {x y x' y' : Option State} → (b ≡ true → x ≡ none → x' ≡ none) → (b ≡ false → y ≡ none → y' ≡ none)
    → cond b x y ≡ none → cond b x' y' ≡ none
still_cond true f g = f refl
still_cond false f g = g refl

module _ (sys : System) (st s : State) where
  -- an idle answer stays idle where the worker keeps what it had
  answer_still : (k : ℕ) → own_of s k ≡ own_of st k → (o : Option Poll) → answer_to k st o ≡ none → answer_to k s o ≡ none
  unfolding ready
  answer_still k own none i = refl
  answer_still k own (some q) i =
      cond_false _ none
      (ap (λ o. is_empty o.0 && is_empty o.1 && eqb o.3 q.wanted.0) own
      ∙ some_refused (ready k q st) _ (ap is_some i))

  -- a worker's turn: one that is no read where the worker keeps what it had, a read where its channel is as it was
  worker_still : (k d : ℕ) → (treat_action ≤ d → own_of s k ≡ own_of st k) → s.channel d k ≡ st.channel d k
      → worker_step sys k d st ≡ none → worker_step sys k d s ≡ none
  unfolding worker_step treat send answer read_worker
  worker_still k d own box =
      still_cond (eqb d treat_action)
      (λ p i.
      rw (ap (λ o. o.0) (own (omega (arith, eqb-true d treat_action p)))
      ∙ none_taken (treat_from sys k st) (λ a l. refl) (st.work_list k) (ap is_some i)))
      (λ p.
      still_cond (eqb d send_action)
      (λ q i.
      cond_true none _
      (ap (λ o. is_empty o.1) (own (omega (arith, eqb-true d send_action q)))
      ∙ none_chosen (is_empty (st.to_send k)) _ (ap is_some i)))
      (λ q.
      still_cond (eqb d answer_action)
      (λ r i.
      let e = own (omega (arith, eqb-true d answer_action r)) in rw (ap (λ o. o.2) e) (answer_still k e (st.held k) i))
      (λ r i. rw (box, none_taken (read_from d k st) (read_takes d k st) (st.channel d k) (ap is_some i)))))

  -- a turn of the controller: a poll where the controller is as it was, a read where its channel is
  controller_still : (d : ℕ) → (treat_action ≤ d → s.controller ≡ st.controller) → s.channel d 0 ≡ st.channel d 0
      → controller_step sys d st ≡ none → controller_step sys d s ≡ none
  unfolding controller_step new_poll read_controller
  controller_still d same box =
      still_cond (eqb d poll_action)
      (λ p i.
      cond_true none _
      (ap (λ c. c.poll_open) (same (omega (arith, eqb-true d poll_action p)))
      ∙ none_chosen st.controller.poll_open _ (ap is_some i)))
      (λ p i. rw (box, none_taken (controller_from sys d st) (controller_takes sys d st) (st.channel d 0) (ap is_some i)))

-- after a turn `t` an idle turn `u` is idle still, unless both are of one actor and `u` is the same action or no read, or `t`
-- sent a message and `u` reads from that actor
pub idle_still : (sys : System) → sys.workers ≤ max_workers → (st : State) (t u : Turn) (s : State)
    → (u.actor ≡ t.actor → (u.action ≡ t.action → ⊥) × (u.action < treat_action))
    → (treat_action < t.action → u.action ≡ t.actor → ⊥) → step sys st t ≡ some s → step sys st u ≡ none → step sys s u ≡ none
unfolding step
idle_still sys few st t u s same sent e i =
    let (running, ok, by) = moves sys st few t s e in
    let left = subst (λ (v : Turn). Leaves v.actor v.action st s) by.1 (move_leaves sys st by.0) in
    let box = left.channel u.action u.actor sent (λ f g. (same g).0 f) in
    ⊎_elim (λ b. cond_true none _ b)
    (λ b.
    cond_false none _ b
    ∙ still_cond (eqb u.actor 0)
    (λ p.
    controller_still sys st s u.action (λ h. left.controller (omega (arith, other h, eqb-true u.actor 0 p)))
    (rw (eqb-true u.actor 0 p) at box))
    (λ p. worker_still sys st s u.actor u.action (λ h. left.own u.actor (other h)) box)
    (sym (cond_false none _ (or_false running (or_false_right s.controller.closed _ b))) ∙ i))
    (decided (s.controller.closed || not (allowed sys.workers u)))
  where
    other : treat_action ≤ u.action → u.actor ≡ t.actor → ⊥
    other h f = omega (arith, (same f).1)
