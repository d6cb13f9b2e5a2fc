-- Poll in memory is poll.
use Prim.Native.Nat.{ℕ, zero, suc, ◌+◌, ◌<◌, ◌≤◌}
use mathlib.Core.Bool.{true, not}
use mathlib.Core.List.{List, [], ◌∷◌, ◌++◌}
use mathlib.Core.Option.{none, map}
use mathlib.Core.Path.{◌≡◌, refl, sym, ◌∙◌, ap₂}
use native.Mathlib.Numerals.{add-one}
use native.Mathlib.Omega.{arith}
use borrow.Author.Tests.{lt-ltb}
use Rattle.base.proofs.Bools.{and_true}
use Rattle.disac4.specs.Action.{next_poll, after_new_poll, new_poll}
use Rattle.disac4.specs.State.{Message, poll}
use Rattle.disac4.specs.System.{System}
use Rattle.disac4.specs.declared.Poll.{Poll}
use Rattle.disac4.specs.declared.Tally.{Tally}
use Rattle.cells.proofs.Queue.{queue_put}
use Rattle.cells.specs.Layout.{WORKERS, HELD, POLLROOM}
use Rattle.cells.specs.Memory.{Mem}
use Rattle.controller.specs.Controller.{put_poll_m, polled_t, may_poll_t, Machine, poll_m}
use Rattle.cells.specs.View.{poll_at, view_lists, view, held_of, polls_queue, rows_of, at_channel}
use Rattle.refinement.proofs.Capacity.{held_few, timestamp_few}
use Rattle.refinement.proofs.ChannelRows.{at_polls, Stays, channels_broadcast}
use Rattle.refinement.proofs.ChannelsKept.{Grown, polls_kept, channels_kept, held_row}
use Rattle.refinement.specs.Inv.{Small, Inv}
use Rattle.refinement.proofs.PollKeeps.{new_wanted, old_wanted}
use Rattle.refinement.proofs.ViewParts.{view_of, view_parts, same_state, map_unless}
use Rattle.refinement.proofs.Actors.{no_marks, actors_same}

module _ (sys : System) (small : Small sys) (s : Machine) (inv : Inv sys s) where
  abbrev m : Mem
  m = s.mem

  abbrev t : Tally
  t = s.tally

  abbrev m' : Mem
  m' = put_poll_m t m

  abbrev t' : Tally
  t' = polled_t t

  polled_grown : Grown sys m t m'
  unfolding put_poll_m
  polled_grown = search (old_wanted t m)

  -- the new poll
  polled : poll_at m' (t.timestamp.0 + 1) ≡ next_poll (view sys m t)
  unfolding poll_at next_poll view view_lists
  polled =
      ap₂ (λ (n w : ℕ). record { number = record { 0 = n }; wanted = record { 0 = w } }) (add-one t.timestamp.0)
      (new_wanted t m)

  polled_view : view sys m' t' ≡ after_new_poll sys (view sys m t)
  unfolding view_parts put_poll_m polled_t after_new_poll
  polled_view = same_state _ _ (record {
    domain = λ x v. refl;
    counter = λ x v y. refl;
    work_list = λ k. refl;
    to_send = λ k. refl;
    held = actors_same sys (held_of m) (held_of m') none kept;
    list_counter = λ k. refl;
    channel = channels_broadcast sys (rows_of m t) (rows_of m' t') 0 _ (omega arith) to stays;
    controller = λ ι. record {
      timestamp = add-one t.timestamp.0 ι;
      poll_open = true;
      marked = λ k. no_marks sys k ι;
      closed = t.closed;
    };
  })
    where
      kept : (i : ℕ) → i < sys.workers → held_of m' i ≡ held_of m i
      kept i h = held_row m m' i refl (polled_grown.wanted (m WORKERS i HELD) (held_few sys small s inv i h))

      to : (k : ℕ) → k ≤ sys.workers → (k ≡ 0 → ⊥)
          → at_channel sys (rows_of m' t') 0 k
          ≡ at_channel sys (rows_of m t) 0 k ++ (poll (next_poll (view sys m t)) ∷ [])
      to zero l n = absurd (n refl)
      to (suc i) l n =
          at_polls sys (rows_of m' t') i l
          ∙ queue_put (polls_queue m t i) (polls_queue m' t' i) (polls_kept sys small s inv m' polled_grown t' i)
          (omega (arith, (inv.rows i l).polls_read)) refl refl
          ∙ ap₂ (λ (l : List Message) (q : Poll). l ++ (poll q ∷ [])) (sym (at_polls sys (rows_of m t) i l)) polled

      stays : Stays sys (λ j k. j ≡ 0 → ⊥) (rows_of m t) (rows_of m' t')
      stays = channels_kept sys small s inv m' polled_grown t' (λ j k. j ≡ 0 → ⊥) (record {
        cursors = λ j k hj hk n. refl;
        sends = λ j k hj hk n. refl;
        out_read = λ j hj n. refl;
        out_end = λ j hj n. refl;
        polls = λ k hk n. refl;
        timestamp = λ k hk n. absurd (n refl);
      })

  -- a poll finds room
  new_poll_room : may_poll_t t ≡ not t.polling
  unfolding may_poll_t
  new_poll_room = and_true _ (lt-ltb t.timestamp.0 POLLROOM (omega (arith, timestamp_few sys small s inv)))

  -- polling in memory is polling
  pub new_poll_refines : map (view_of sys) (poll_m s) ≡ new_poll sys (view_of sys s)
  unfolding poll_m view new_poll
  new_poll_refines = map_unless (view_of sys) t.polling new_poll_room polled_view
