-- Sending keeps the invariant: the unsent end of the log becomes one more list message.
use Prim.Native.Nat.{ℕ, ◌+◌, ◌<◌, ◌≤◌}
use mathlib.Core.Logic.{inl, ⊎_elim}
use mathlib.Core.Option.{some}
use mathlib.Core.Path.{◌≡◌, sym, ◌∙◌, ap}
use native.Mathlib.Omega.{arith}
use borrow.Author.Tests.{le-leb}
use Rattle.base.proofs.Below.{up_to}
use Rattle.base.proofs.Choice.{everywhere, if_holds}
use Rattle.base.proofs.Sums.{sum_ext}
use Rattle.base.specs.Below.{sum_below, one}
use Rattle.disac4.specs.System.{System}
use Rattle.disac4.specs.declared.Tally.{Tally}
use Rattle.cells.proofs.Stores.{store_same, store_other}
use Rattle.cells.specs.Layout.{WORKERS, CURSORS, BOUNDS, OUT, LOGEND, SENDS, LISTS, OUTEND, LISTMARK}
use Rattle.cells.specs.Memory.{Mem}
use Rattle.sends.proofs.SendLaws.{may_send_lem}
use Rattle.sends.specs.Sends.{sent_m, may_send, send_m}
use Rattle.refinement.proofs.InvKept.{OnlyRow, only_store, only_same, worker_action}
use Rattle.refinement.specs.Inv.{Row, Totals, Inv, OutCounted}
use Rattle.refinement.proofs.Outgoing.{Put, put_out, put_lists, put_counted, put_lists_read}

-- ---- what the stores changed

module _ (i : ℕ) (m : Mem) where
  -- no bound but the next
  pub old_bound : (k n : ℕ) → (k ≡ i → n ≡ m WORKERS i SENDS + 1 → ⊥) → sent_m i m BOUNDS k n ≡ m BOUNDS k n
  unfolding sent_m
  old_bound k n h = store_other m BOUNDS i (m WORKERS i SENDS + 1) (m WORKERS i LOGEND) BOUNDS k n (λ p. h)

  -- the new list message ends where the log does
  pub new_bound : sent_m i m BOUNDS i (m WORKERS i SENDS + 1) ≡ m WORKERS i LOGEND
  unfolding sent_m
  new_bound = store_same m BOUNDS i (m WORKERS i SENDS + 1) (m WORKERS i LOGEND)

  -- it is sent
  pub more_sends : sent_m i m WORKERS i SENDS ≡ m WORKERS i SENDS + 1
  unfolding sent_m
  more_sends = store_same m WORKERS i SENDS (m WORKERS i SENDS + 1)

  -- its sender counts it
  pub more_lists : sent_m i m WORKERS i LISTS ≡ m WORKERS i LISTS + 1
  unfolding sent_m
  more_lists = store_same m WORKERS i LISTS (m WORKERS i LISTS + 1)

  -- and puts it for the controller
  pub put : Put i (LISTMARK + m WORKERS i SENDS) m (sent_m i m)
  unfolding sent_m
  put = search (put_out i (LISTMARK + m WORKERS i SENDS) m)

  -- of the rows, only the sender's is changed
  pub only_row : OnlyRow m (sent_m i m) i
  unfolding sent_m
  only_row =
      only_store WORKERS LISTS _ (omega arith)
      (only_store WORKERS OUTEND _ (omega arith)
      (only_store WORKERS SENDS _ (omega arith)
      (only_store OUT _ _ (omega arith) (only_store BOUNDS _ _ (omega arith) (only_same m i)))))

-- ---- the parts of the invariant

module _ (sys : System) (m : Mem) (t : Tally) (i : ℕ) (inv : Inv sys (record { mem = m; tally = t })) (h : i < sys.workers)
    (unsent : m BOUNDS i (m WORKERS i SENDS) ≡ m WORKERS i LOGEND → ⊥) where
  row : Row sys (sent_m i m) t i
  unfolding sent_m
  row =
      let r = inv.rows i h in
      record {
        queue = r.queue;
        first_bound = old_bound i m i 0 (omega arith) ∙ r.first_bound;
        bounds_rise = λ n l.
            up_to (λ n. sent_m i m BOUNDS i n < sent_m i m BOUNDS i (n + 1)) (m WORKERS i SENDS)
            (omega (arith, new_bound i m, old_bound i m i (m WORKERS i SENDS) (omega arith), r.last_bound, unsent))
            (λ n g. omega (arith, old_bound i m i n (omega arith), old_bound i m i (n + 1) (omega arith), r.bounds_rise n g))
            n (omega (arith, more_sends i m));
        last_bound = rw (more_sends i m, new_bound i m) (omega arith);
        out_read = omega (arith, (put i m).more, r.out_read);
        out_list =
            put_lists i (LISTMARK + m WORKERS i SENDS) m (sent_m i m) (put i m) (omega (arith, more_sends i m))
            (λ l. omega (arith, more_sends i m)) r.out_list;
        polls_read = r.polls_read;
        held_read = r.held_read;
        log_labels = r.log_labels;
        work_labels = r.work_labels;
      }

  totals : Totals sys (sent_m i m) t
  unfolding sent_m
  totals =
      let u = inv.totals in
      record {
        own_cursor = u.own_cursor;
        cursor = λ j k p q.
            everywhere (λ j. m CURSORS j k ≤ m WORKERS j SENDS → m CURSORS j k ≤ sent_m i m WORKERS j SENDS) i
            (λ l. omega (arith, more_sends i m)) (λ j n l. omega (arith, ((only_row i m).others j n).workers SENDS)) j (u.cursor j k p q);
        pushed = λ k p.
            u.pushed k p
            ∙ ap (λ x. m WORKERS k LOGEND + x)
            (sum_ext sys.workers (λ j. m BOUNDS j (m CURSORS j k)) (λ j. sent_m i m BOUNDS j (m CURSORS j k)) (λ j q.
            sym
            (old_bound i m j (m CURSORS j k) (λ e x.
            omega (arith, u.cursor j k q p, ap (λ x. m WORKERS x SENDS) e)))));
        counted = λ k p.
            everywhere
            (λ k. m WORKERS k LISTS ≡ m WORKERS k SENDS + sum_below sys.workers (λ j. m CURSORS j k)
            → sent_m i m WORKERS k LISTS ≡ sent_m i m WORKERS k SENDS + sum_below sys.workers (λ j. m CURSORS j k)) i
            (λ e. omega (arith, more_lists i m, more_sends i m))
            (λ k n e. omega (arith, ((only_row i m).others k n).workers LISTS, ((only_row i m).others k n).workers SENDS)) k (u.counted k p);
        logged = u.logged;
        all_out = λ k p.
            put_counted i (LISTMARK + m WORKERS i SENDS) m (sent_m i m) (put i m)
            (omega (arith, more_sends i m, ap one (le-leb LISTMARK (LISTMARK + m WORKERS i SENDS) (omega arith))))
            (λ k n. ((only_row i m).others k n).workers SENDS) k (u.all_out k p);
        lists_read_lem =
            u.lists_read_lem
            ∙ sym
            (put_lists_read i (LISTMARK + m WORKERS i SENDS) m (sent_m i m) (put i m) sys.workers (λ k p.
            (inv.rows k p).out_read));
      }

  -- a worker that has labels to send has not replied at its present count
  outs : OutCounted (sent_m i m) t i
  outs =
      ⊎_elim (λ l. inl (omega (arith, (put i m).more, more_lists i m))) (λ r. absurd (unsent r.no_send))
      (inv.replied i h)

  sent_keeps : Inv sys (record { mem = sent_m i m; tally = t })
  sent_keeps =
      worker_action sys (record { mem = m; tally = t }) (sent_m i m) i inv (only_row i m) row totals outs

-- sending keeps the invariant
pub send_keeps : (sys : System) (m m' : Mem) (t : Tally) (i : ℕ) → Inv sys (record { mem = m; tally = t })
    → i < sys.workers → send_m i m ≡ some m' → Inv sys (record { mem = m'; tally = t })
unfolding send_m
send_keeps sys m m' t i inv h e =
    if_holds (λ x. Inv sys (record { mem = x; tally = t })) (may_send i m) e (λ may.
    sent_keeps sys m t i inv h (may_send_lem i m may).unsent)
