-- Reading a poll in memory is reading from the controller.
use Prim.Native.Nat.{ℕ, suc, ◌+◌, ◌<◌}
use mathlib.Core.Option.{none, some, map}
use mathlib.Core.Path.{◌≡◌, refl, sym, ◌∙◌, ap}
use native.Mathlib.Omega.{arith}
use borrow.Author.Tests.{lt-ltb, le-ltb, ne_eqb}
use Rattle.base.proofs.Choice.{cond_true, cond_false}
use Rattle.disac4.specs.Action.{after_poll, read_from, read_worker}
use Rattle.disac4.specs.declared.Poll.{Poll}
use Rattle.disac4.specs.System.{System}
use Rattle.disac4.specs.declared.Tally.{Tally}
use Rattle.cells.proofs.Queue.{read_queue}
use Rattle.cells.specs.Layout.{WORKERS, HELD, POLLS}
use Rattle.cells.specs.Memory.{Mem}
use Rattle.reads.specs.Reads.{held_m, read_poll_m}
use Rattle.controller.specs.Controller.{Machine}
use Rattle.cells.specs.View.{poll_at, view, contents, held_of, polls_queue, rows_of}
use Rattle.refinement.proofs.ChannelRows.{at_polls, Stays, Beside, channels_update}
use Rattle.refinement.proofs.ChannelsKept.{Grown, polls_kept, channels_kept, held_row}
use Rattle.refinement.specs.Inv.{Small, Inv}
use Rattle.refinement.proofs.PollReadKeeps.{last_read, newest_held, only_row}
use Rattle.refinement.proofs.ViewParts.{view_of, view_parts, same_state}
use Rattle.refinement.proofs.Actors.{actors_update}

module _ (sys : System) (small : Small sys) (s : Machine) (inv : Inv sys s) (i : ℕ) (h : i < sys.workers) where
  abbrev m : Mem
  m = s.mem

  abbrev t : Tally
  t = s.tally

  -- the poll that is read
  abbrev next : ℕ
  next = m WORKERS i POLLS + 1

  -- the memory after
  abbrev m' : Mem
  m' = held_m i next m

  newest : Poll
  newest = poll_at m next

  poll_grown : Grown sys m t m'
  poll_grown = search

  other_channels : Stays sys (Beside 0 (suc i)) (rows_of m t) (rows_of m' t)
  other_channels =
      let polls : (k : ℕ) → k < sys.workers → Beside 0 (suc i) 0 (suc k) → m' WORKERS k POLLS ≡ m WORKERS k POLLS =
      λ k hk n. ((only_row i next m).others k (λ e. n refl (ap suc e))).workers POLLS in
      channels_kept sys small s inv m' poll_grown t (Beside 0 (suc i)) (search)

  poll_view : view sys m' t ≡ after_poll 0 (suc i) newest (contents (polls_queue m' t i)) (view sys m t)
  unfolding view_parts after_poll newest
  poll_view = same_state _ _ (record {
    domain = λ x v. refl;
    counter = λ x v y. refl;
    work_list = λ k. refl;
    to_send = λ k. refl;
    held = actors_update sys (held_of m) (held_of m') none i (some newest) h here there;
    list_counter = λ k. refl;
    channel = channels_update sys (rows_of m t) (rows_of m' t) 0 (suc i) (contents (polls_queue m' t i))
        (at_polls sys (rows_of m' t) i h) other_channels;
    controller = refl;
  })
    where
      here : held_of m' i ≡ some newest
      here =
          cond_false none (some (poll_at m (m' WORKERS i HELD)))
          (ne_eqb (m' WORKERS i HELD) 0 (λ z. omega (arith, newest_held i next m)))
          ∙ ap (λ (n : ℕ). some (poll_at m n)) (newest_held i next m)

      there : (j : ℕ) → j < sys.workers → (j ≡ i → ⊥) → held_of m' j ≡ held_of m j
      there j hj n = held_row m m' j (((only_row i next m).others j n).workers HELD) refl

  -- reading a poll in memory is reading from the controller
  pub poll_refines : map (λ m'. view sys m' t) (read_poll_m i t.timestamp.0 m) ≡ read_worker 0 (suc i) (view_of sys s)
  unfolding view read_poll_m read_worker newest
  poll_refines =
      read_queue (read_from 0 (suc i) (view_of sys s)) (polls_queue m t i) (polls_queue m' t i) _
      (polls_kept sys small s inv m' poll_grown t i) (ap (λ (n : ℕ). n + 1) (last_read i next m)) refl
      (λ l.
      ap (map (λ m'. view sys m' t)) (cond_true (some m') none (lt-ltb (m WORKERS i POLLS) t.timestamp.0 (omega arith)))
      ∙ ap some poll_view)
      (λ l.
      ap (map (λ m'. view sys m' t)) (cond_false (some m') none (le-ltb (m WORKERS i POLLS) t.timestamp.0 (omega arith))))
      ∙ ap (read_from 0 (suc i) (view_of sys s)) (sym (at_polls sys (rows_of m t) i h))
