-- The numbers of a run: the timestamp is the number of polls that changed something, no count of lists is above the number
-- of such sends, and the lowest empty slot is one of the plan's, or 0.
use Prim.Native.Nat.{ℕ, suc, ◌+◌, ◌≤◌}
use mathlib.Core.Bool.{Bool, true, false, cond, ◌&&◌}
use mathlib.Core.List.{List, [], ◌∷◌}
use mathlib.Core.Option.{Option, none, some, get_or}
use mathlib.Core.Path.{◌≡◌, refl, ◌∙◌, ap}
use native.Mathlib.Omega.{arith}
use borrow.Author.Tests.{ne_eqb}
use lib.Dec.{eqb}
use Rattle.format.specs.Limits.{max_workers}
use Rattle.base.proofs.Below.{first_below_lem}
use Rattle.base.proofs.Bools.{and_true, and_false_right}
use Rattle.base.proofs.Choice.{unless_some, some_same}
use Rattle.base.proofs.Weight.{weigh, weigh_append}
use Rattle.base.specs.Below.{one, any_below, first_below}
use Rattle.network.specs.Network.{Label}
use Rattle.disac4.proofs.ByKind.{list_message, send_event}
use Rattle.disac4.proofs.Channels.{into}
use Rattle.disac4.proofs.Fold.{count_keeps}
use Rattle.disac4.proofs.Moves.{Moves, treats, sends, reads, takes_poll, ignores, answers, new_poll_lem, tallies, marks, drops, discards, turn_of, Effect, idle, acts, effect}
use Rattle.disac4.proofs.Safety.{safe_run}
use Rattle.disac4.specs.Action.{after_treat, after_send, after_list, after_poll, after_drop, after_answer, after_new_poll, after_count, after_mark}
use Rattle.disac4.specs.Event.{Event, sent, events_at, events, treat_event, read_event, is_treat, is_read}
use Rattle.disac4.specs.Fold.{gather_by, count_by}
use Rattle.disac4.specs.Loading.{load}
use Rattle.disac4.specs.Report.{lowest_empty, is_send, is_poll}
use Rattle.disac4.specs.State.{State, Message, list, poll, reply}
use Rattle.disac4.specs.System.{System, Worker, Sound}
use Rattle.disac4.specs.Turn.{Turn, turn, treat_action, send_action, answer_action, poll_action, step, after, play, changes, changes_where}

-- ---- sends

module _ (sys : System) where
  -- a turn's events hold a send exactly if it is a send that changed something
  sent_at : (st : State) (t : Turn) → weigh send_event (events_at sys st t) ≡ one (is_send t && changes sys st t)
  unfolding events_at
  sent_at st t = go (changes sys st t) (is_send t) (is_treat t) (is_read sys.workers t)
    where
      no_treat : (l : List Label) → weigh send_event (treat_event t.actor l) ≡ 0
      no_treat [] = refl
      no_treat (a ∷ l) = refl

      no_read : (l : List Message) → weigh send_event (read_event t.actor t.action l) ≡ 0
      no_read [] = refl
      no_read (list labels ∷ l) = refl
      no_read (poll q ∷ l) = refl
      no_read (reply n ∷ l) = refl

      go : (a b c d : Bool)
          → weigh send_event
          (cond a
          (cond b (sent t.actor (st.to_send t.actor) ∷ [])
          (cond c (treat_event t.actor (st.work_list t.actor))
          (cond d (read_event t.actor t.action (st.channel t.action t.actor)) []))) [])
          ≡ one (b && a)
      go false true c d = refl
      go false false c d = refl
      go true true c d = refl
      go true false true d = no_treat (st.work_list t.actor)
      go true false false true = no_read (st.channel t.action t.actor)
      go true false false false = refl

  -- the sends among the events are those that the report counts
  pub sent_count : (ts : List Turn) (st : State) → weigh send_event (events sys st ts) ≡ changes_where sys is_send st ts
  unfolding gather_by count_by
  sent_count [] st = refl
  sent_count (t ∷ ts) st =
      omega (
        arith,
        weigh_append send_event (events_at sys st t) (events sys (after sys st t) ts),
        sent_at st t,
        sent_count ts (after sys st t),
      )

-- an actor's count of lists and the list messages on their way to it make up the sends of the run
pub lists_of_run : {sys : System} → Sound sys → (ts : List Turn) (k : ℕ) → k ≤ sys.workers
    → (play sys (load sys) ts).list_counter k + into list_message sys.workers (play sys (load sys) ts).channel k
    ≡ changes_where sys is_send (load sys) ts
lists_of_run {sys} sound ts k b = (safe_run sound ts).conserved k b ∙ sent_count sys ts (load sys)

-- no count of lists is above the number of sends
pub list_counter_bound : {sys : System} → Sound sys → (ts : List Turn) (k : ℕ) → k ≤ sys.workers
    → (play sys (load sys) ts).list_counter k ≤ changes_where sys is_send (load sys) ts
list_counter_bound sound ts k b = omega (arith, lists_of_run sound ts k b)

-- ---- polls

module _ (sys : System) (few : sys.workers ≤ max_workers) where
  -- a worker's turn is no poll
  of_worker : (k d : ℕ) → Worker sys k → one (is_poll (turn k d)) ≡ 0
  of_worker k d w = ap (λ (b : Bool). one (b && eqb d poll_action)) (ne_eqb k 0 (λ e. omega (arith, w.above)))

  -- nor is the controller's read
  from_worker : (k : ℕ) → Worker sys k → one (is_poll (turn 0 k)) ≡ 0
  from_worker k w = ap one (ne_eqb k poll_action (λ e. omega (arith, w.within)))

  -- a poll adds one to the timestamp, and no other move does
  move_adds : {st s : State} {es : List Event} (m : Moves sys st s es)
      → s.controller.timestamp ≡ st.controller.timestamp + one (is_poll (turn_of m))
  unfolding after_treat after_send after_list after_poll after_drop after_answer after_new_poll after_count after_mark
  move_adds (treats k a rest w e) = omega (arith, of_worker k treat_action w)
  move_adds (sends k w e) = omega (arith, of_worker k send_action w)
  move_adds (reads j k labels rest w h n e) = omega (arith, of_worker k j w)
  move_adds (takes_poll j k q rest w h n e) = omega (arith, of_worker k j w)
  move_adds (ignores j k i rest w h n e) = omega (arith, of_worker k j w)
  move_adds (answers k q w e r) = omega (arith, of_worker k answer_action w)
  move_adds (new_poll_lem e) = omega arith
  move_adds (tallies k labels rest w e) = omega (arith, from_worker k w)
  move_adds (marks k n rest w e c) = omega (arith, from_worker k w)
  move_adds (drops k n rest w e c) = omega (arith, from_worker k w)
  move_adds (discards k q rest w e) = omega (arith, from_worker k w)

  after_adds : (st : State) (t : Turn)
      → (after sys st t).controller.timestamp ≡ st.controller.timestamp + one (is_poll t && changes sys st t)
  after_adds st t = go (effect sys st few t)
    where
      go : Effect sys st t
          → (after sys st t).controller.timestamp ≡ st.controller.timestamp + one (is_poll t && changes sys st t)
      go (idle c a e) = omega (arith, ap (λ (s : State). s.controller.timestamp) a, ap one (and_false_right (is_poll t) c))
      go (acts c o l m u) = omega (arith, move_adds m, ap (λ (v : Turn). one (is_poll v)) u, ap one (and_true (is_poll t) c))

-- the timestamp is the number of polls
pub timestamp_of_run : {sys : System} → Sound sys → (ts : List Turn)
    → (play sys (load sys) ts).controller.timestamp ≡ changes_where sys is_poll (load sys) ts
timestamp_of_run {sys} sound ts =
    count_keeps (step sys) is_poll (λ st n. st.controller.timestamp ≡ n)
    (λ st n t e. omega (arith, after_adds sys sound.few st t)) ts (load sys) (unfold load in refl)

-- ---- the lowest empty slot

-- it is at most the number of slots
pub lowest_empty_bound : (sys : System) (st : State) → lowest_empty sys st ≤ sys.net.variables
unfolding lowest_empty
lowest_empty_bound sys st = go (first_below n empty_at) refl
  where
    n : ℕ
    n = sys.net.variables

    empty_at : ℕ → Option ℕ
    empty_at x = cond (any_below (sys.net.size x) (st.domain x)) none (some (suc x))

    go : (o : Option ℕ) → first_below n empty_at ≡ o → get_or o 0 ≤ n
    go none e = omega arith
    go (some a) e =
        let r = first_below_lem n empty_at a e in
        some_same (λ (y : ℕ). y ≤ n) (unless_some (any_below (sys.net.size r.0) (st.domain r.0)) r.2).1 r.1
