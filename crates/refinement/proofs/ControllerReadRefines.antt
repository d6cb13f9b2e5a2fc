-- The controller's read in memory is the controller's read.
use Prim.Native.Nat.{ℕ, suc, ◌+◌, ◌-◌, ◌^◌, ◌<◌}
use mathlib.Core.Bool.{Bool, true, false, cond, ◌&&◌}
use mathlib.Core.List.{◌∷◌}
use mathlib.Core.Option.{none, some, map}
use mathlib.Core.Path.{◌≡◌, refl, sym, ◌∙◌, ap}
use native.Mathlib.Numerals.{add-one}
use native.Mathlib.Omega.{arith}
use borrow.Author.Tests.{lt-ltb, le-ltb}
use lib.Dec.{leb, ltb, eqb}
use Rattle.base.proofs.Below.{all_ext}
use Rattle.base.proofs.Bools.{and_true}
use Rattle.base.proofs.Choice.{cond_true, cond_false, update_same, update_other}
use Rattle.base.specs.Choice.{update}
use Rattle.base.specs.Row.{bit}
use Rattle.disac4.specs.Action.{after_count, after_mark, after_drop, all_marked, current, controller_from, read_controller}
use Rattle.disac4.specs.State.{State, Controller, list, reply, state_of, set_channel}
use Rattle.disac4.specs.System.{System}
use Rattle.disac4.specs.declared.Tally.{Tally}
use Rattle.cells.proofs.Queue.{read_queue}
use Rattle.cells.specs.Layout.{WORKERS, OUT, LISTS, OUTEND, OUTREAD, OUTROOM, LISTSMAX, LISTMARK}
use Rattle.cells.specs.Memory.{Mem}
use Rattle.controller.specs.Controller.{counted_t, marked_t, told_t, with_mark, has_out, out_read_m, Machine, controller_read_m}
use Rattle.cells.specs.View.{list_at, message_of, view_lists, view, contents, out_queue, at_actor, rows_of}
use Rattle.refinement.proofs.Actors.{at_worker, actors_update}
use Rattle.refinement.proofs.Capacity.{lists_read_few, outend_few}
use Rattle.refinement.proofs.ChannelRows.{at_out, Stays, Beside, channels_update}
use Rattle.refinement.proofs.ChannelsKept.{Grown, out_kept, channels_kept}
use Rattle.refinement.proofs.ControllerReadKeeps.{more_read, others}
use Rattle.refinement.specs.Inv.{Small, Inv}
use Rattle.controller.proofs.Marks.{mark_small, mark_bit, marks_full}
use Rattle.refinement.proofs.ViewParts.{view_of, view_parts, same_state}

module _ (sys : System) (small : Small sys) (s : Machine) (inv : Inv sys s) (i : ℕ) (h : i < sys.workers) where
  abbrev m : Mem
  m = s.mem

  abbrev t : Tally
  t = s.tally

  abbrev m' : Mem
  m' = out_read_m i m

  read_grown : Grown sys m t m'
  unfolding out_read_m
  read_grown = search

  -- the channel from worker `i + 1` loses its oldest message, whatever the tally makes of that
  other_channels : (t' : Tally) → t'.timestamp.0 ≡ t.timestamp.0 → Stays sys (Beside (suc i) 0) (rows_of m t) (rows_of m' t')
  unfolding out_read_m
  other_channels t' e =
      let read : (j : ℕ) → j < sys.workers → Beside (suc i) 0 (suc j) 0 → m' WORKERS j OUTREAD ≡ m WORKERS j OUTREAD =
      λ j hj n. others i m j OUTREAD (λ e q. n (ap suc e) refl) in
      channels_kept sys small s inv m' read_grown t' (Beside (suc i) 0) (search)

  -- what the controller makes of the message: its count and the rest of its part
  record Told (t' : Tally) (lists : ℕ → ℕ) (c : Controller) : Type 0 where
    pub list_counter : (k : ℕ) → view_lists sys m t' k ≡ lists k
    pub timestamp : t'.timestamp.0 ≡ t.timestamp.0
    pub controller : (view sys m t').controller ≡ c

  abbrev after : (ℕ → ℕ) → Controller → State
  after lists c =
      let st = set_channel (suc i) 0 (contents (out_queue m' i)) (view_of sys s) in
      state_of st.domain st.counter st.work_list st.to_send st.held lists st.channel c

  read_view : (t' : Tally) (lists : ℕ → ℕ) (c : Controller) → Told t' lists c → view sys m' t' ≡ after lists c
  unfolding view_parts out_read_m
  read_view t' lists c told = same_state _ _ (record {
    domain = λ x v. refl;
    counter = λ x v y. refl;
    work_list = λ k. refl;
    to_send = λ k. refl;
    held = λ k. refl;
    list_counter = told.list_counter;
    channel = channels_update sys (rows_of m t) (rows_of m' t') (suc i) 0 (contents (out_queue m' i))
        (at_out sys (rows_of m' t') i h) (other_channels t' told.timestamp);
    controller = told.controller;
  })

  -- a list message
  counted_view : view sys m' (counted_t t) ≡ after_count (suc i) (contents (out_queue m' i)) (view sys m t)
  unfolding view view_lists counted_t after_count
  counted_view =
      read_view (counted_t t) _ _ (record {
        list_counter = λ k. counter_after (eqb k 0) (at_actor sys (λ j. m WORKERS j LISTS) 0 k);
        timestamp = refl;
        controller = refl;
      })
    where
      counter_after : (b : Bool) (n : ℕ)
          → cond b (t.lists.0 + 1) n ≡ cond b (suc t.lists.0) (cond b t.lists.0 n)
      counter_after true n = add-one t.lists.0
      counter_after false n = refl

  -- a reply to another poll
  dropped_view : view sys m' t ≡ after_drop (suc i) 0 (contents (out_queue m' i)) (view sys m t)
  unfolding view after_drop
  dropped_view =
      read_view t _ _ (record {
        list_counter = λ k. refl;
        timestamp = refl;
        controller = refl;
      })

  -- the workers marked by a row of bits
  abbrev marks : ℕ → ℕ → Bool
  marks r = at_actor sys (bit r) false

  marked_more : (k : ℕ) → marks (with_mark t.marks i) k ≡ update (marks t.marks) (suc i) true k
  marked_more =
      actors_update sys (bit t.marks) (bit (with_mark t.marks i)) false i true h
      (mark_bit sys.workers t.marks inv.marks i h i h ∙ update_same (bit t.marks) i true)
      (λ j l n. mark_bit sys.workers t.marks inv.marks i h j l ∙ update_other (bit t.marks) i true j n)

  closed_full : eqb (with_mark t.marks i + 1) (2 ^ sys.workers) ≡ all_marked sys (update (marks t.marks) (suc i) true)
  unfolding all_marked
  closed_full =
      marks_full sys.workers (with_mark t.marks i) (mark_small sys.workers t.marks inv.marks i h)
      ∙ all_ext sys.workers (bit (with_mark t.marks i)) (λ j. update (marks t.marks) (suc i) true (suc j))
      (λ j l. sym (at_worker sys (bit (with_mark t.marks i)) false j l) ∙ marked_more (suc j))

  -- a reply to the open poll
  marked_view : view sys m' (marked_t sys.workers i t) ≡ after_mark sys (suc i) (contents (out_queue m' i)) (view sys m t)
  unfolding view view_lists marked_t after_mark
  marked_view =
      read_view (marked_t sys.workers i t) _ _ (record {
        list_counter = λ k. refl;
        timestamp = refl;
        controller = λ ι. record {
          timestamp = t.timestamp.0;
          poll_open = t.polling;
          marked = λ k. marked_more k ι;
          closed = closed_full ι;
        };
      })

  -- the oldest message to the controller
  abbrev oldest : ℕ
  oldest = m OUT i (m WORKERS i OUTREAD)

  -- the tally that it leaves
  told_view : (c : ℕ)
      → some (view sys m' (told_t sys.workers i c t))
      ≡ controller_from sys (suc i) (view_of sys s) (message_of m i c ∷ contents (out_queue m' i))
  unfolding told_t message_of
  told_view c = go (leb LISTMARK c) t.polling (eqb c t.timestamp.0) (unfold view current in refl)
    where
      go : (a b d : Bool) → current (record { 0 = c }) (view_of sys s) ≡ b && d
          → some (view sys m' (cond a (counted_t t) (cond b (cond d (marked_t sys.workers i t) t) t)))
          ≡ controller_from sys (suc i) (view_of sys s)
          (cond a (list (list_at m i (c - LISTMARK))) (reply (record { 0 = c })) ∷ contents (out_queue m' i))
      go true b d e = ap some counted_view
      go false true true e = ap some (marked_view ∙ sym (cond_true _ _ e))
      go false true false e = ap some (dropped_view ∙ sym (cond_false _ _ e))
      go false false d e = ap some (dropped_view ∙ sym (cond_false _ _ e))

  -- the room that the read looks for is there
  read_room : has_out i t m ≡ ltb (m WORKERS i OUTREAD) (m WORKERS i OUTEND)
  unfolding has_out
  read_room =
      and_true _ (lt-ltb t.lists.0 LISTSMAX (omega (arith, lists_read_few sys small s inv)))
      ∙ and_true _
      (lt-ltb (m WORKERS i OUTREAD) OUTROOM (omega (arith, (inv.rows i h).out_read, outend_few sys small s inv i h)))

  abbrev has_read : Machine
  has_read = record { mem = m'; tally = told_t sys.workers i oldest t }

  -- the controller's read in memory is its read
  pub controller_read_refines : map (view_of sys) (controller_read_m sys i s) ≡ read_controller sys (suc i) (view_of sys s)
  unfolding view controller_read_m read_controller out_read_m
  controller_read_refines =
      ap (λ (b : Bool). map (view_of sys) (cond b (some has_read) none)) read_room
      ∙ read_queue (controller_from sys (suc i) (view_of sys s)) (out_queue m i) (out_queue m' i) _
      (out_kept sys small s inv m' read_grown i h) (more_read i m) refl
      (λ l.
      ap (map (view_of sys)) (cond_true (some has_read) none (lt-ltb (m WORKERS i OUTREAD) (m WORKERS i OUTEND) l))
      ∙ told_view oldest)
      (λ l. ap (map (view_of sys)) (cond_false (some has_read) none (le-ltb (m WORKERS i OUTREAD) (m WORKERS i OUTEND) l)))
      ∙ ap (controller_from sys (suc i) (view_of sys s)) (sym (at_out sys (rows_of m t) i h))
