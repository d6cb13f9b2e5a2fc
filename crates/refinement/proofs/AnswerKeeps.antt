-- Answering keeps the invariant: a worker replies once at each value of its list counter.
use Prim.Native.Nat.{ℕ, ◌+◌, ◌-◌, ◌<◌, ◌≤◌}
use mathlib.Core.Bool.{false}
use mathlib.Core.Logic.{inl, inr, ⊎_elim}
use mathlib.Core.Option.{some}
use mathlib.Core.Path.{◌≡◌, refl, sym, ◌∙◌, ap}
use native.Mathlib.Decide.{ℕ_discrete}
use native.Mathlib.Omega.{arith}
use borrow.Author.Tests.{lt-leb}
use Rattle.base.proofs.Bools.{decided}
use Rattle.base.proofs.Choice.{if_holds}
use Rattle.base.specs.Below.{one}
use Rattle.disac4.specs.System.{System}
use Rattle.disac4.specs.declared.Tally.{Tally}
use Rattle.cells.proofs.Stores.{store_same}
use Rattle.cells.specs.Layout.{WORKERS, OUT, WANTED, SENDS, LISTS, HELD, OUTEND, LISTMARK}
use Rattle.cells.specs.Memory.{Mem}
use Rattle.answers.proofs.AnswerLaws.{MayAnswer, may_answer_lem, empty_lists}
use Rattle.answers.specs.Answers.{answered_m, may_answer, answer_m}
use Rattle.refinement.proofs.Capacity.{risen}
use Rattle.refinement.proofs.InvKept.{OnlyRow, only_store, only_same, worker_action}
use Rattle.refinement.specs.Inv.{Row, Polled, Replied, Totals, Inv, OutCounted}
use Rattle.refinement.proofs.Outgoing.{Put, put_out, put_lists, put_counted, put_lists_read}

-- wanted counts rise from poll to poll
wanted_later : (m : Mem) (t : Tally) → Polled m t → (n n' : ℕ) → 0 < n → n ≤ n' → n' ≤ t.timestamp.0
    → m WANTED 0 n + (n' - n) ≤ m WANTED 0 n'
wanted_later m t p n n' h l b = risen (m WANTED 0) n n' l (λ k x y. p.rises k (omega arith) (omega arith))

-- ---- what the stores changed

module _ (i : ℕ) (m : Mem) where
  -- no poll is held any more
  pub none_held : answered_m i m WORKERS i HELD ≡ 0
  unfolding answered_m
  none_held = store_same m WORKERS i HELD 0

  -- the reply is put for the controller
  pub put : Put i (m WORKERS i HELD) m (answered_m i m)
  unfolding answered_m
  put = search (put_out i (m WORKERS i HELD) m)

  -- of the rows, only the replying one is changed
  pub only_row : OnlyRow m (answered_m i m) i
  unfolding answered_m
  only_row =
      only_store WORKERS HELD _ (omega arith)
      (only_store WORKERS OUTEND _ (omega arith) (only_store OUT _ _ (omega arith) (only_same m i)))

-- ---- the parts of the invariant

module _ (sys : System) (m : Mem) (t : Tally) (i : ℕ) (inv : Inv sys (record { mem = m; tally = t })) (h : i < sys.workers)
    (may : MayAnswer i m) where
  row : Row sys (answered_m i m) t i
  unfolding answered_m
  row = let r = inv.rows i h in search (arith, (put i m).more, none_held i m, out_list)
    where
      out_list : (e : ℕ) → e < answered_m i m WORKERS i OUTEND → LISTMARK ≤ answered_m i m OUT i e
          → answered_m i m OUT i e - LISTMARK < m WORKERS i SENDS
      out_list =
          put_lists i (m WORKERS i HELD) m (answered_m i m) (put i m) (omega arith) (λ l. omega (arith, may.known))
          (inv.rows i h).out_list

  totals : Totals sys (answered_m i m) t
  unfolding answered_m
  totals =
      let u = inv.totals in
      record {
        own_cursor = u.own_cursor;
        cursor = u.cursor;
        pushed = u.pushed;
        counted = u.counted;
        logged = u.logged;
        all_out = λ k p.
            put_counted i (m WORKERS i HELD) m (answered_m i m) (put i m)
            (omega (arith, ap one (lt-leb LISTMARK (m WORKERS i HELD) (omega (arith, may.known))))) (λ k n. refl) k (u.all_out k p);
        lists_read_lem =
            u.lists_read_lem
            ∙ sym
            (put_lists_read i (m WORKERS i HELD) m (answered_m i m) (put i m) sys.workers (λ k p. (inv.rows k p).out_read));
      }

  -- the poll that was answered was sent
  sent : m WORKERS i HELD ≤ t.timestamp.0
  sent = omega (arith, (inv.rows i h).held_read, (inv.rows i h).polls_read)

  -- every later poll asks for more lists
  more_wanted : (n : ℕ) → m WORKERS i HELD ≤ n → n ≤ t.timestamp.0
      → m WORKERS i LISTS + (n - m WORKERS i HELD) ≤ m WANTED 0 n
  more_wanted n l b =
      omega (arith, may.wanted, wanted_later m t inv.polled (m WORKERS i HELD) n (omega (arith, may.holds)) l b)

  -- a first reply at this count
  first_reply : m WORKERS i OUTEND ≡ m WORKERS i LISTS → Replied (answered_m i m) t i
  unfolding answered_m
  first_reply e =
      let p = inv.polled in
      let last = more_wanted t.timestamp.0 sent (omega arith) in
      let some_poll : 0 < t.timestamp.0 = omega (arith, sent, may.holds) in
      let ended : t.polling ≡ false → m WORKERS i LISTS < t.lists.0 = λ x. omega (arith, p.wanted_ended x some_poll) in
      record {
        one_more = omega (arith, (put i m).more);
        no_work = (empty_lists i m may.empty).no_work;
        no_send = (empty_lists i m may.empty).no_send;
        held_later = λ l. omega (arith, none_held i m);
        polls_later = λ n l b. omega (arith, more_wanted n (omega (arith, (inv.rows i h).held_read)) b, (inv.rows i h).held_read);
        ended_later = ended;
        count_low =
            ⊎_elim (λ x. omega (arith, (p.wanted_open x).1)) (λ x. omega (arith, ended x)) (decided t.polling);
      }

  outs : OutCounted (answered_m i m) t i
  unfolding answered_m
  outs =
      ⊎_elim
      (λ l.
      elim (ℕ_discrete (m WORKERS i OUTEND) (m WORKERS i LISTS)) [
        | yes e ↦ inr (first_reply e)
        | no n ↦ inl (omega (arith, (put i m).more))
      ])
      (λ r. absurd (omega (arith, r.held_later (omega (arith, may.holds)), may.wanted)))
      (inv.replied i h)

  answered_keeps : Inv sys (record { mem = answered_m i m; tally = t })
  answered_keeps =
      worker_action sys (record { mem = m; tally = t }) (answered_m i m) i inv (only_row i m) row totals outs

-- answering keeps the invariant
pub answer_keeps : (sys : System) (m m' : Mem) (t : Tally) (i : ℕ) → Inv sys (record { mem = m; tally = t })
    → i < sys.workers → answer_m i m ≡ some m' → Inv sys (record { mem = m'; tally = t })
unfolding answer_m
answer_keeps sys m m' t i inv h e =
    if_holds (λ x. Inv sys (record { mem = x; tally = t })) (may_answer i m) e (λ may.
    answered_keeps sys m t i inv h (may_answer_lem i m may))
