-- Send in memory is send.
use Prim.Native.Nat.{ℕ, zero, suc, ◌<◌, ◌≤◌}
use mathlib.Core.Bool.{not}
use mathlib.Core.List.{List, [], ◌∷◌, ◌++◌}
use mathlib.Core.Option.{map}
use mathlib.Core.Path.{◌≡◌, refl, sym, ◌∙◌, ap, ap₂}
use native.Mathlib.Nat.{le_refl}
use native.Mathlib.Omega.{arith}
use borrow.Author.Tests.{lt-ltb}
use lib.Dec.{eqb}
use Rattle.base.proofs.Bools.{and_true}
use Rattle.disac4.specs.Action.{is_empty, after_send, send}
use Rattle.disac4.specs.State.{Message, list}
use Rattle.network.specs.Network.{Label}
use Rattle.disac4.specs.System.{System}
use Rattle.disac4.specs.declared.Tally.{Tally}
use Rattle.cells.proofs.Queue.{labels_same, labels_none, labels_empty, queue_put}
use Rattle.cells.specs.Layout.{WORKERS, BOUNDS, LOG, OUT, LOGEND, SENDS, LISTS, OUTEND, SENDROOM, OUTROOM, LISTSMAX}
use Rattle.cells.specs.Memory.{Mem}
use Rattle.sends.specs.Sends.{sent_m, may_send, send_m}
use Rattle.controller.specs.Controller.{Machine}
use Rattle.cells.specs.View.{list_at, message_of, view, send_of, list_messages_queue, out_queue, at_actor, rows_of, at_channel}
use Rattle.refinement.proofs.Actors.{at_worker, actors_update, counters_more}
use Rattle.refinement.proofs.Capacity.{sends_few, outend_few, lists_few}
use Rattle.refinement.proofs.ChannelRows.{at_list_messages, at_out, Stays, channels_broadcast}
use Rattle.refinement.proofs.ChannelsKept.{Grown, send_kept, list_messages_kept, out_kept, channels_kept}
use Rattle.refinement.specs.Inv.{Small, Inv}
use Rattle.refinement.proofs.SendKeeps.{only_row, old_bound, new_bound, more_sends, more_lists, put}
use Rattle.refinement.proofs.ViewParts.{view_of, view_parts, list_of_number, same_state, map_unless}

module _ (sys : System) (small : Small sys) (s : Machine) (inv : Inv sys s) (i : ℕ) (h : i < sys.workers) where
  abbrev m : Mem
  m = s.mem

  abbrev t : Tally
  t = s.tally

  -- what the worker has to send
  abbrev unsent : List Label
  unsent = at_actor sys (send_of m) [] (suc i)

  sent_grown : Grown sys m t (sent_m i m)
  unfolding sent_m
  sent_grown = record {
    logs = λ j hj d l. refl;
    bounds = λ j hj n l. old_bound i m j n (λ e f. omega (arith, ap (λ (k : ℕ). m WORKERS k SENDS) e));
    outs = λ j hj n l. (put i m).old j n (λ e f. omega (arith, ap (λ (k : ℕ). m WORKERS k OUTEND) e));
    wanted = λ n l. refl;
  }

  -- what is to be sent becomes the newest list message
  newest : list_at (sent_m i m) i (m WORKERS i SENDS) ≡ unsent
  unfolding sent_m list_at
  newest =
      labels_same m (sent_m i m) LOG i (m BOUNDS i (m WORKERS i SENDS)) (m WORKERS i LOGEND)
      (sent_grown.bounds i h (m WORKERS i SENDS) (le_refl _)) (new_bound i m) (λ d p q. refl)
      ∙ sym (at_worker sys (send_of m) [] i h)

  newest_out : message_of (sent_m i m) i (sent_m i m OUT i (m WORKERS i OUTEND)) ≡ list (unsent)
  newest_out = list_of_number (sent_m i m) i _ (m WORKERS i SENDS) (put i m).new ∙ ap list newest

  -- every other actor is sent it
  sent_to : (k : ℕ) → k ≤ sys.workers → (k ≡ suc i → ⊥)
      → at_channel sys (rows_of (sent_m i m) t) (suc i) k
      ≡ at_channel sys (rows_of m t) (suc i) k ++ (list (unsent) ∷ [])
  unfolding sent_m
  sent_to zero l n =
      at_out sys (rows_of (sent_m i m) t) i h
      ∙ queue_put (out_queue m i) (out_queue (sent_m i m) i) (out_kept sys small s inv (sent_m i m) sent_grown i h)
      (inv.rows i h).out_read refl (put i m).more
      ∙ ap₂ (λ (l : List Message) (a : Message). l ++ (a ∷ [])) (sym (at_out sys (rows_of m t) i h)) newest_out
  sent_to (suc k) l n =
      let d : i ≡ k → ⊥ = λ e. n (ap suc (sym e)) in
      at_list_messages sys (rows_of (sent_m i m) t) i k h l d
      ∙ queue_put (list_messages_queue m i k) (list_messages_queue (sent_m i m) i k)
      (list_messages_kept sys small s inv (sent_m i m) sent_grown i k h)
      (inv.totals.cursor i k h l) refl (more_sends i m)
      ∙ ap₂ (λ (l : List Message) (a : Message). l ++ (a ∷ [])) (sym (at_list_messages sys (rows_of m t) i k h l d)) (ap list newest)

  -- nobody else sends
  not_sent : Stays sys (λ j k. j ≡ suc i → ⊥) (rows_of m t) (rows_of (sent_m i m) t)
  unfolding sent_m
  not_sent =
      let ends : (c j : ℕ) → (suc j ≡ suc i → ⊥) → sent_m i m WORKERS j c ≡ m WORKERS j c =
      λ c j n. ((only_row i m).others j (λ e. n (ap suc e))).workers c in
      channels_kept sys small s inv (sent_m i m) sent_grown t (λ j k. j ≡ suc i → ⊥) (search)

  sent_view : view sys (sent_m i m) t ≡ after_send sys (suc i) (view sys m t)
  unfolding view_parts sent_m after_send
  sent_view = same_state _ _ (record {
    domain = λ x v. refl;
    counter = λ x v y. refl;
    work_list = λ k. refl;
    to_send = actors_update sys (send_of m) (send_of (sent_m i m)) [] i [] h all_sent
        (λ j hj n. send_kept sys small s inv (sent_m i m) sent_grown j hj (((only_row i m).others j n).workers SENDS) refl);
    held = λ k. refl;
    list_counter = counters_more sys m (sent_m i m) t i h (more_lists i m) (λ j hj n. ((only_row i m).others j n).workers LISTS);
    channel = channels_broadcast sys (rows_of m t) (rows_of (sent_m i m) t) (suc i) (list (unsent)) h
        sent_to not_sent;
    controller = refl;
  })
    where
      all_sent : send_of (sent_m i m) i ≡ []
      all_sent =
          labels_none (sent_m i m) LOG i (sent_m i m BOUNDS i (sent_m i m WORKERS i SENDS)) (m WORKERS i LOGEND)
          (omega (arith, ap (sent_m i m BOUNDS i) (more_sends i m), new_bound i m))

  -- nothing is to be sent exactly if the last list message ends where the log does
  pub nothing_to_send : is_empty unsent ≡ eqb (m BOUNDS i (m WORKERS i SENDS)) (m WORKERS i LOGEND)
  nothing_to_send =
      ap is_empty (at_worker sys (send_of m) [] i h)
      ∙ labels_empty m LOG i (m BOUNDS i (m WORKERS i SENDS)) (m WORKERS i LOGEND) (inv.rows i h).last_bound

  -- there is room for every list message
  send_room : may_send i m ≡ not (is_empty unsent)
  unfolding may_send
  send_room =
      and_true _ (lt-ltb (m WORKERS i LISTS) LISTSMAX (omega (arith, lists_few sys small s inv i h)))
      ∙ and_true _ (lt-ltb (m WORKERS i OUTEND) OUTROOM (omega (arith, outend_few sys small s inv i h)))
      ∙ and_true _ (lt-ltb (m WORKERS i SENDS) SENDROOM (omega (arith, sends_few sys small s inv i h)))
      ∙ ap not (sym nothing_to_send)

  -- sending in memory is sending
  pub send_refines : map (λ m'. view sys m' t) (send_m i m) ≡ send sys (suc i) (view_of sys s)
  unfolding send_m view send
  send_refines = map_unless (λ m'. view sys m' t) (is_empty unsent) send_room sent_view
