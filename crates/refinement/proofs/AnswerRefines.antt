-- Answer in memory is answer.
use Prim.Native.Nat.{ℕ, suc, ◌<◌, ◌≤◌}
use mathlib.Core.Bool.{Bool, true, false, cond, ◌&&◌, not}
use mathlib.Core.List.{List, [], ◌∷◌, ◌++◌}
use mathlib.Core.Option.{none, some, map}
use mathlib.Core.Path.{◌≡◌, refl, sym, ◌∙◌, ap, ap₂}
use native.Mathlib.Omega.{arith}
use borrow.Author.Tests.{lt-ltb, le-leb}
use lib.Dec.{eqb}
use Rattle.base.proofs.Bools.{and_left, and_right, and_intro, bool_ext}
use Rattle.disac4.specs.Action.{is_empty, after_answer, ready, answer_to, answer}
use Rattle.disac4.specs.State.{Message, reply}
use Rattle.disac4.specs.System.{System}
use Rattle.disac4.specs.declared.Poll.{Poll}
use Rattle.disac4.specs.declared.Tally.{Tally}
use Rattle.cells.proofs.Queue.{labels_empty, queue_put}
use Rattle.cells.specs.Layout.{WORKERS, BOUNDS, WORK, WANTED, HEAD, TAIL, LOGEND, SENDS, LISTS, HELD, OUTEND, SENDROOM, OUTROOM, POLLROOM}
use Rattle.cells.specs.Memory.{Mem}
use Rattle.answers.specs.Answers.{answered_m, empty_m, may_answer, answer_m}
use Rattle.controller.specs.Controller.{Machine}
use Rattle.cells.specs.View.{message_of, poll_at, view, contents, work_of, held_of, out_queue, at_actor, rows_of}
use Rattle.refinement.proofs.AnswerKeeps.{only_row, none_held, put}
use Rattle.refinement.proofs.Actors.{at_worker, counter_worker, actors_update}
use Rattle.refinement.proofs.Capacity.{sends_few, outend_few, held_few, timestamp_few}
use Rattle.refinement.proofs.ChannelRows.{at_out, Stays, Beside, channels_update}
use Rattle.refinement.proofs.ChannelsKept.{Grown, out_kept, channels_kept, held_row}
use Rattle.refinement.specs.Inv.{Small, Inv}
use Rattle.refinement.proofs.ViewParts.{map_when, view_of, view_parts, reply_of_number, same_state}
use Rattle.refinement.proofs.SendRefines.{nothing_to_send}

module _ (sys : System) (small : Small sys) (s : Machine) (inv : Inv sys s) (i : ℕ) (h : i < sys.workers) where
  abbrev m : Mem
  m = s.mem

  abbrev t : Tally
  t = s.tally

  abbrev m' : Mem
  m' = answered_m i m

  held : Poll
  held = poll_at m (m WORKERS i HELD)

  held_small : m WORKERS i HELD ≤ POLLROOM
  held_small = omega (arith, held_few sys small s inv i h, timestamp_few sys small s inv)

  answer_grown : Grown sys m t m'
  unfolding answered_m
  answer_grown = record {
    logs = λ j hj d l. refl;
    bounds = λ j hj n l. refl;
    outs = λ j hj n l. (put i m).old j n (λ e f. omega (arith, ap (λ (k : ℕ). m WORKERS k OUTEND) e));
    wanted = λ n l. refl;
  }

  other_channels : Stays sys (Beside (suc i) 0) (rows_of m t) (rows_of m' t)
  unfolding answered_m
  other_channels =
      let ends : (j : ℕ) → j < sys.workers → Beside (suc i) 0 (suc j) 0 → m' WORKERS j OUTEND ≡ m WORKERS j OUTEND =
      λ j hj n. ((only_row i m).others j (λ e. n (ap suc e) refl)).workers OUTEND in
      channels_kept sys small s inv m' answer_grown t (Beside (suc i) 0) (search)

  -- the reply is the newest message to the controller
  replied : contents (out_queue m' i) ≡ contents (out_queue m i) ++ (reply held.number ∷ [])
  unfolding answered_m held poll_at
  replied =
      queue_put (out_queue m i) (out_queue m' i) (out_kept sys small s inv m' answer_grown i h) (inv.rows i h).out_read refl
      (put i m).more
      ∙ ap (λ (a : Message). contents (out_queue m i) ++ (a ∷ []))
      (ap (message_of m' i) (put i m).new
      ∙ reply_of_number m' i (m WORKERS i HELD) (omega (arith, held_small)))

  answer_view : view sys m' t ≡ after_answer (suc i) held (view sys m t)
  unfolding view_parts answered_m after_answer
  answer_view = same_state _ _ (record {
    domain = λ x v. refl;
    counter = λ x v y. refl;
    work_list = λ k. refl;
    to_send = λ k. refl;
    held = actors_update sys (held_of m) (held_of m') none i none h here there;
    list_counter = λ k. refl;
    channel = channels_update sys (rows_of m t) (rows_of m' t) (suc i) 0 _
        (at_out sys (rows_of m' t) i h
        ∙ replied
        ∙ ap (λ (l : List Message). l ++ (reply held.number ∷ [])) (sym (at_out sys (rows_of m t) i h)))
        other_channels;
    controller = refl;
  })
    where
      here : held_of m' i ≡ none
      here = ap (λ (n : ℕ). cond (eqb n 0) none (some (poll_at m n))) (none_held i m)

      there : (j : ℕ) → j < sys.workers → (j ≡ i → ⊥) → held_of m' j ≡ held_of m j
      there j hj n = held_row m m' j (((only_row i m).others j n).workers HELD) refl

  -- both lists are empty, and the list counter equals the wanted count
  abbrev is_ready : Bool
  is_ready =
      eqb (m WORKERS i HEAD) (m WORKERS i TAIL)
      && eqb (m BOUNDS i (m WORKERS i SENDS)) (m WORKERS i LOGEND)
      && eqb (m WORKERS i LISTS) (m WANTED 0 (m WORKERS i HELD))

  ready_row : ready (suc i) held (view_of sys s) ≡ is_ready
  unfolding ready view held poll_at
  ready_row =
      ap₂ (λ (a b : Bool). a && b)
      (ap₂ (λ (a b : Bool). a && b) no_work (nothing_to_send sys small s inv i h))
      (ap (λ (n : ℕ). eqb n (m WANTED 0 (m WORKERS i HELD))) (counter_worker sys m t i h))
    where
      no_work : is_empty (at_actor sys (work_of m) [] (suc i)) ≡ eqb (m WORKERS i HEAD) (m WORKERS i TAIL)
      no_work =
          ap is_empty (at_worker sys (work_of m) [] i h)
          ∙ labels_empty m WORK i (m WORKERS i HEAD) (m WORKERS i TAIL) (inv.rows i h).queue

  -- there is room for every reply
  answer_room : may_answer i m ≡ not (eqb (m WORKERS i HELD) 0) && is_ready
  unfolding may_answer empty_m
  answer_room =
      let known = le-leb (m WORKERS i HELD) POLLROOM held_small in
      let bound_room = lt-ltb (m WORKERS i SENDS) SENDROOM (omega (arith, sends_few sys small s inv i h)) in
      let out_room = lt-ltb (m WORKERS i OUTEND) OUTROOM (omega (arith, outend_few sys small s inv i h)) in
      bool_ext _ _ (λ e. search (and_left, and_right, and_intro)) (λ e. search (and_left, and_right, and_intro))

  -- answering in memory is answering
  pub answer_refines : map (λ m'. view sys m' t) (answer_m i m) ≡ answer (suc i) (view_of sys s)
  unfolding answer_m answer
  answer_refines =
      ap (λ (b : Bool). map (λ m'. view sys m' t) (cond b (some m') none)) answer_room
      ∙ go (eqb (m WORKERS i HELD) 0)
      ∙ ap (answer_to (suc i) (view_of sys s)) (sym holds)
    where
      holds : (view_of sys s).held (suc i) ≡ cond (eqb (m WORKERS i HELD) 0) none (some held)
      holds = unfold view held in at_worker sys (held_of m) none i h

      go : (b : Bool)
          → map (λ m'. view sys m' t) (cond (not b && is_ready) (some m') none)
          ≡ answer_to (suc i) (view_of sys s) (cond b none (some held))
      go true = refl
      go false = map_when (λ m'. view sys m' t) (sym ready_row) answer_view
