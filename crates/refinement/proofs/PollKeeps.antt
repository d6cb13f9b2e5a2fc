-- Polling keeps the invariant: each poll wants more lists than the one before.
use Prim.Native.Nat.{ℕ, ◌+◌, ◌<◌, ◌≤◌}
use mathlib.Core.Bool.{false, false≢true}
use mathlib.Core.Logic.{inl, inr, ⊎_elim}
use mathlib.Core.Option.{some}
use mathlib.Core.Path.{◌≡◌, refl, sym}
use native.Mathlib.Omega.{arith}
use borrow.Author.Tests.{not-true}
use lib.Pow.{pow_pos}
use Rattle.base.proofs.Below.{up_to}
use Rattle.base.proofs.Bools.{and_left}
use Rattle.base.proofs.Choice.{if_holds}
use Rattle.disac4.specs.System.{System}
use Rattle.disac4.specs.declared.Tally.{Tally}
use Rattle.cells.proofs.Stores.{store_same, store_other}
use Rattle.cells.specs.Layout.{WORKERS, WANTED, LISTS, HELD, POLLS}
use Rattle.cells.specs.Memory.{Mem}
use Rattle.controller.specs.Controller.{put_poll_m, polled_t, may_poll_t, Machine, poll_m}
use Rattle.refinement.proofs.InvKept.{row_kept, paired_kept}
use Rattle.refinement.specs.Inv.{Polled, Replied, Inv}

module _ (t : Tally) (m : Mem) where
  -- the new poll wants as many lists as the controller has counted
  pub new_wanted : put_poll_m t m WANTED 0 (t.timestamp.0 + 1) ≡ t.lists.0
  unfolding put_poll_m
  new_wanted = store_same m WANTED 0 (t.timestamp.0 + 1) t.lists.0

  -- the others as many as they did
  pub old_wanted : (n : ℕ) → n ≤ t.timestamp.0 → put_poll_m t m WANTED 0 n ≡ m WANTED 0 n
  unfolding put_poll_m
  old_wanted n l = store_other m WANTED 0 (t.timestamp.0 + 1) t.lists.0 WANTED 0 n (omega arith)

module _ (sys : System) (m : Mem) (t : Tally) (inv : Inv sys (record { mem = m; tally = t })) (ended : t.polling ≡ false)
  where
    polled : Polled (put_poll_m t m) (polled_t t)
    unfolding polled_t
    polled =
        let p = inv.polled in
        record {
          rises = λ n l g.
              up_to (λ n. 0 < n → put_poll_m t m WANTED 0 n < put_poll_m t m WANTED 0 (n + 1)) t.timestamp.0
              (λ a. omega (arith, old_wanted t m t.timestamp.0 (omega arith), new_wanted t m, p.wanted_ended ended a))
              (λ n b a. omega (arith, old_wanted t m n (omega arith), old_wanted t m (n + 1) (omega arith), p.rises n a b)) n g l;
          wanted_open = λ e. (omega arith, new_wanted t m);
          wanted_ended = λ e. absurd (false≢true (sym e));
        }

    replied_polled : (i : ℕ) → i < sys.workers → Replied m t i → Replied (put_poll_m t m) (polled_t t) i
    unfolding put_poll_m polled_t
    replied_polled i h r = record {
      one_more = r.one_more;
      no_work = r.no_work;
      no_send = r.no_send;
      held_later = λ l.
          rw (old_wanted t m (m WORKERS i HELD) (omega (arith, (inv.rows i h).held_read, (inv.rows i h).polls_read)))
          (r.held_later l);
      polls_later = λ n l g.
          up_to (λ n. m WORKERS i POLLS < n → m WORKERS i LISTS < put_poll_m t m WANTED 0 n) (t.timestamp.0 + 1)
          (λ a. omega (arith, new_wanted t m, r.ended_later ended))
          (λ n g a. omega (arith, old_wanted t m n (omega arith), r.polls_later n a (omega arith))) n (omega arith) l;
      ended_later = λ e. absurd (false≢true (sym e));
      count_low = r.count_low;
    }

    polled_keeps : Inv sys (record { mem = put_poll_m t m; tally = polled_t t })
    unfolding put_poll_m polled_t
    polled_keeps =
        record {
          rows = λ i h. row_kept m (put_poll_m t m) sys t (polled_t t) i (search) (omega arith) (inv.rows i h);
          totals = let u = inv.totals in search;
          polled = polled;
          replied = λ i h. ⊎_elim inl (λ r. inr (replied_polled i h r)) (inv.replied i h);
          listed = inv.listed;
          paired = paired_kept m (put_poll_m t m) sys (λ x y. refl) inv.paired;
          marks = omega (arith, pow_pos sys.workers);
        }

-- polling keeps the invariant
pub poll_keeps : (sys : System) (s s' : Machine) → Inv sys s → poll_m s ≡ some s' → Inv sys s'
unfolding poll_m may_poll_t
poll_keeps sys s s' inv e =
    if_holds (Inv sys) (may_poll_t s.tally) e (λ may_poll. polled_keeps sys s.mem s.tally inv (not-true _ (and_left _ _ may_poll)))
