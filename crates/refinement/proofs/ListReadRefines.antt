-- Reading a list message in memory is reading from a worker.
use Prim.Native.Nat.{ℕ, suc, ◌+◌, ◌<◌}
use mathlib.Core.Bool.{cond, ◌&&◌}
use mathlib.Core.List.{List, [], ◌++◌}
use mathlib.Core.Option.{none, some, map}
use mathlib.Core.Path.{◌≡◌, refl, sym, ◌∙◌, ap}
use native.Mathlib.Omega.{arith}
use lib.Dec.{eqb}
use Rattle.disac4.specs.Action.{after_list, read_from, read_worker}
use Rattle.disac4.specs.System.{System}
use Rattle.disac4.specs.declared.Tally.{Tally}
use Rattle.network.specs.Network.{Label, loaded}
use Rattle.cells.proofs.Queue.{labels_same, read_queue}
use Rattle.cells.specs.Layout.{WORKERS, CURSORS, BOUNDS, LOG, WORK, OUT, WANTED, DOMAIN, COUNTERS, PAIRS, HEAD, TAIL, LOGEND, SENDS, LISTS, HELD, POLLS, OUTEND, OUTREAD, LISTED}
use Rattle.cells.specs.Memory.{Mem}
use Rattle.reads.proofs.ReadLaws.{HasList, list_goes, list_idle}
use Rattle.reads.specs.Reads.{taken_m, read_list_m}
use Rattle.controller.specs.Controller.{Machine}
use Rattle.cells.specs.View.{labels_between, list_at, counter_row, view_counter, view_lists, view, contents, work_of, send_of, held_of, list_messages_queue, rows_of}
use Rattle.index.proofs.Kept.{row_pairs}
use Rattle.refinement.proofs.Actors.{at_worker, actors_update, counters_more, actors_same}
use Rattle.refinement.proofs.Capacity.{bound_logged, logend_small, sends_few, lists_few}
use Rattle.refinement.proofs.ChannelRows.{at_list_messages, Stays, Beside, channels_update}
use Rattle.refinement.proofs.ChannelsKept.{Grown, list_messages_kept, channels_kept, send_kept, held_row}
use Rattle.refinement.specs.Inv.{Small, Inv}
use Rattle.refinement.proofs.ListReadKeeps.{region, column, other_work, more_lists, new_cursor, old_cursor, taken_list}
use Rattle.refinement.proofs.ViewParts.{view_of, same_state}

module _ (sys : System) (small : Small sys) (s : Machine) (inv : Inv sys s) (j i : ℕ) (hj : j < sys.workers)
    (hi : i < sys.workers) (apart : j ≡ i → ⊥) where
  abbrev m : Mem
  m = s.mem

  abbrev t : Tally
  t = s.tally

  -- the memory after
  abbrev m' : Mem
  m' = taken_m j i m

  taken_grown : Grown sys m t m'
  taken_grown = record {
    logs = λ k hk d l. region j i m LOG (omega arith) k d;
    bounds = λ k hk n l. region j i m BOUNDS (omega arith) k n;
    outs = λ k hk n l. region j i m OUT (omega arith) k n;
    wanted = λ n l. region j i m WANTED (omega arith) 0 n;
  }

  -- a column but where the work list ends and the list counter
  steady : (k c : ℕ) → (c ≡ TAIL → ⊥) × (c ≡ LISTS → ⊥) → m' WORKERS k c ≡ m WORKERS k c
  steady k c n = column j i m k c (λ e. n.0) (λ e. n.1)

  other_channels : Stays sys (Beside (suc j) (suc i)) (rows_of m t) (rows_of m' t)
  other_channels = channels_kept sys small s inv m' taken_grown t (Beside (suc j) (suc i)) (record {
    cursors = λ a b ha hb n. old_cursor j i m a b (λ p q. n (ap suc p) (ap suc q));
    sends = λ a b ha hb n. steady a SENDS (omega arith);
    out_read = λ a ha n. steady a OUTREAD (omega arith);
    out_end = λ a ha n. steady a OUTEND (omega arith);
    polls = λ b hb n. steady b POLLS (omega arith);
    timestamp = λ b hb n. refl;
  })

  counter_kept : (x v y : ℕ) → view_counter sys m' x v y ≡ view_counter sys m x v y
  unfolding view_counter
  counter_kept x v y =
      ap (λ (c : ℕ). cond (loaded sys.net x v && sys.net.linked x y) c 0)
      (region j i m COUNTERS (omega arith) (counter_row m' x y) v
      ∙ ap (λ (r : ℕ). m COUNTERS r v) (row_pairs m m' x y (region j i m PAIRS (omega arith) x y)))

  module _ (l : m CURSORS j i < m WORKERS j SENDS) where
    work_here : work_of m' i ≡ work_of m i ++ list_at m j (m CURSORS j i)
    work_here =
        ap (λ (a : ℕ). labels_between m' WORK i a (m' WORKERS i TAIL)) (steady i HEAD (omega arith))
        ∙ (taken_list sys small s inv j i hj hi apart l).new (m WORKERS i HEAD) (inv.rows i hi).queue

    work_there : (k : ℕ) → k < sys.workers → (k ≡ i → ⊥) → work_of m' k ≡ work_of m k
    work_there k hk n =
        labels_same m m' WORK k (m WORKERS k HEAD) (m WORKERS k TAIL) (steady k HEAD (omega arith))
        (column j i m k TAIL (λ e x. n e) (omega arith)) (λ d p q. other_work j i m k d n)

    taken_view : view sys m' t ≡ after_list (suc j) (suc i) (list_at m j (m CURSORS j i)) (contents (list_messages_queue m' j i)) (view sys m t)
    unfolding view view_lists after_list
    taken_view = same_state _ _ (record {
      domain = λ x v. ap (λ (c : ℕ). eqb c LISTED) (region j i m DOMAIN (omega arith) x v);
      counter = counter_kept;
      work_list = actors_update sys (work_of m) (work_of m') [] i _ hi
          (work_here
          ∙ ap (λ (x : List Label). x ++ list_at m j (m CURSORS j i)) (sym (at_worker sys (work_of m) [] i hi))) work_there;
      to_send = actors_same sys (send_of m) (send_of m') [] (λ k hk.
          send_kept sys small s inv m' taken_grown k hk (steady k SENDS (omega arith)) (steady k LOGEND (omega arith)));
      held = actors_same sys (held_of m) (held_of m') none (λ k hk.
          held_row m m' k (steady k HELD (omega arith)) (region j i m WANTED (omega arith) 0 (m WORKERS k HELD)));
      list_counter = counters_more sys m m' t i hi (more_lists j i m)
          (λ k hk n. column j i m k LISTS (omega arith) (λ e x. n e));
      channel = channels_update sys (rows_of m t) (rows_of m' t) (suc j) (suc i) (contents (list_messages_queue m' j i))
          (at_list_messages sys (rows_of m' t) j i hj hi apart) other_channels;
      controller = refl;
    })

    -- there is room for every label of the list message
    read_room : HasList j i m
    read_room = record {
      unread = l;
      bound_room = omega (arith, sends_few sys small s inv j hj);
      label_room = omega (
        arith,
        bound_logged sys small s inv j hj (m CURSORS j i + 1) (omega arith),
        logend_small sys small s inv j hj,
      );
      count_room = omega (arith, lists_few sys small s inv i hi);
    }

  -- reading a list message in memory is reading from a worker
  pub list_refines : map (λ m'. view sys m' t) (read_list_m j i m) ≡ read_worker (suc j) (suc i) (view_of sys s)
  unfolding view read_worker
  list_refines =
      read_queue (read_from (suc j) (suc i) (view_of sys s)) (list_messages_queue m j i) (list_messages_queue m' j i) _
      (list_messages_kept sys small s inv m' taken_grown j i hj) (new_cursor j i m) (steady j SENDS (omega arith))
      (λ l. ap (map (λ m'. view sys m' t)) (list_goes j i m (read_room l)) ∙ ap some (taken_view l))
      (λ l. ap (map (λ m'. view sys m' t)) (list_idle j i m (λ has. omega (arith, has.unread))))
      ∙ ap (read_from (suc j) (suc i) (view_of sys s)) (sym (at_list_messages sys (rows_of m t) j i hj hi apart))
