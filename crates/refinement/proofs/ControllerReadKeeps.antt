-- The controller's reading keeps the invariant: it counts a list message, and marks a reply to the open poll.
use Prim.Native.Nat.{ℕ, ◌+◌, ◌^◌, ◌<◌}
use mathlib.Core.Bool.{Bool, true, false, cond, false≢true}
use mathlib.Core.Logic.{inl, inr, ⊎_elim}
use mathlib.Core.Option.{some}
use mathlib.Core.Path.{◌≡◌, refl, sym, ap}
use native.Mathlib.Omega.{arith}
use borrow.Author.Tests.{ltb-true}
use lib.Dec.{leb, eqb}
use Rattle.base.proofs.Bools.{decided, and_left}
use Rattle.base.proofs.Choice.{if_holds}
use Rattle.base.proofs.Sums.{sum_change}
use Rattle.base.specs.Below.{sum_below, one}
use Rattle.disac4.specs.System.{System}
use Rattle.disac4.specs.declared.Tally.{Tally}
use Rattle.cells.proofs.Stores.{store_same, store_other}
use Rattle.cells.specs.Layout.{WORKERS, OUT, OUTEND, OUTREAD, LISTMARK}
use Rattle.cells.specs.Memory.{Mem}
use Rattle.controller.specs.Controller.{counted_t, marked_t, told_t, has_out, out_read_m, Machine, controller_read_m}
use Rattle.refinement.proofs.InvKept.{OnlyRow, only_store, only_same, Follows, row_action, replied_kept, follows_itself, lists_out_kept, lists_out_more}
use Rattle.controller.proofs.Marks.{mark_small}
use Rattle.refinement.specs.Inv.{Row, Polled, Totals, Inv, OutCounted, lists_out}

-- ---- what a message makes of the tally

-- a list message: one more in the count, and an open poll is ended
counted_follows : (m : Mem) (t : Tally) → Polled m t → Follows m t (counted_t t)
unfolding counted_t
counted_follows m t p = record {
  later = omega arith;
  polled = record {
    rises = p.rises;
    wanted_open = λ e. absurd (false≢true e);
    wanted_ended = λ e l.
        ⊎_elim (λ x. omega (arith, (p.wanted_open x).1)) (λ x. omega (arith, p.wanted_ended x l)) (decided t.polling);
  };
  replied = λ i r. search (arith, r.count_low);
}

-- a mark changes neither count nor poll
marked_follows : (m : Mem) (t : Tally) (p i : ℕ) → Polled m t → Follows m t (marked_t p i t)
unfolding marked_t
marked_follows m t p i q = record { later = omega arith; polled = search; replied = λ k r. search }

-- ---- one message more is read

module _ (i : ℕ) (m : Mem) where
  -- the message is read
  pub more_read : out_read_m i m WORKERS i OUTREAD ≡ m WORKERS i OUTREAD + 1
  unfolding out_read_m
  more_read = store_same m WORKERS i OUTREAD (m WORKERS i OUTREAD + 1)

  -- nothing else of the workers' rows changes
  pub others : (k c : ℕ) → (k ≡ i → c ≡ OUTREAD → ⊥) → out_read_m i m WORKERS k c ≡ m WORKERS k c
  unfolding out_read_m
  others k c n = store_other m WORKERS i OUTREAD (m WORKERS i OUTREAD + 1) WORKERS k c (λ p. n)

module _ (sys : System) (m : Mem) (t t' : Tally) (i : ℕ) (inv : Inv sys (record { mem = m; tally = t }))
    (h : i < sys.workers) (unread : m WORKERS i OUTREAD < m WORKERS i OUTEND) (next : Follows m t t')
    (count : t'.lists.0 ≡ t.lists.0 + one (leb LISTMARK (m OUT i (m WORKERS i OUTREAD))))
    (marks : t'.marks < 2 ^ sys.workers) where
  -- of the rows, only the sender's is changed
  only_row : OnlyRow m (out_read_m i m) i
  unfolding out_read_m
  only_row = only_store WORKERS OUTREAD _ (omega arith) (only_same m i)

  row : Row sys (out_read_m i m) t' i
  unfolding out_read_m
  row = let r = inv.rows i h in search (arith, more_read i m, next.later)

  totals : Totals sys (out_read_m i m) t'
  unfolding out_read_m
  totals = let u = inv.totals in search lists_read_lem
    where
      lists_read_lem : t'.lists.0 ≡ sum_below sys.workers (λ k. lists_out (out_read_m i m) k (out_read_m i m WORKERS k OUTREAD))
      lists_read_lem =
          omega (
            arith,
            count,
            inv.totals.lists_read_lem,
            lists_out_more m (out_read_m i m) i (m WORKERS i OUTREAD) (out_read_m i m WORKERS i OUTREAD) (more_read i m) (λ e l. refl),
            sum_change sys.workers (λ k. lists_out m k (m WORKERS k OUTREAD))
                (λ k. lists_out (out_read_m i m) k (out_read_m i m WORKERS k OUTREAD)) i h (λ k p n.
                sym
                (lists_out_kept m (out_read_m i m) k (m WORKERS k OUTREAD) (out_read_m i m WORKERS k OUTREAD)
                (others i m k OUTREAD (λ p q. n p)) (λ e l. refl))),
          )

  outs : OutCounted (out_read_m i m) t' i
  unfolding out_read_m
  outs =
      ⊎_elim inl
      (λ r.
      inr
      (replied_kept m (out_read_m i m) t' i (λ c n. others i m i c (λ p. n)) (λ n. refl) (λ n. refl) (next.replied i r)))
      (inv.replied i h)

  told_keeps : Inv sys (record { mem = out_read_m i m; tally = t' })
  told_keeps =
      row_action sys (record { mem = m; tally = t }) (record { mem = out_read_m i m; tally = t' }) i inv only_row next row
      totals outs marks

-- whatever message is read
message_keeps : (sys : System) (m : Mem) (t : Tally) (i : ℕ) → Inv sys (record { mem = m; tally = t }) → i < sys.workers
    → m WORKERS i OUTREAD < m WORKERS i OUTEND
    → Inv sys (record { mem = out_read_m i m; tally = told_t sys.workers i (m OUT i (m WORKERS i OUTREAD)) t })
unfolding told_t counted_t marked_t
message_keeps sys m t i inv h unread = go (leb LISTMARK c) refl t.polling (eqb c t.timestamp.0)
  where
    c : ℕ
    c = m OUT i (m WORKERS i OUTREAD)

    reply : (t' : Tally) → leb LISTMARK c ≡ false → Follows m t t' → t'.lists.0 ≡ t.lists.0
        → t'.marks < 2 ^ sys.workers → Inv sys (record { mem = out_read_m i m; tally = t' })
    reply t' e next same marks = told_keeps sys m t t' i inv h unread next (omega (arith, same, ap one e)) marks

    go : (a : Bool) → leb LISTMARK c ≡ a → (b d : Bool)
        → Inv sys (record {
          mem = out_read_m i m;
          tally = cond a (counted_t t) (cond b (cond d (marked_t sys.workers i t) t) t);
        })
    go true e b d =
        told_keeps sys m t (counted_t t) i inv h unread (counted_follows m t inv.polled) (omega (arith, ap one e))
        inv.marks
    go false e true true =
        reply (marked_t sys.workers i t) e (marked_follows m t sys.workers i inv.polled) refl
        (mark_small sys.workers t.marks inv.marks i h)
    go false e true false = reply t e (follows_itself m t inv.polled) refl inv.marks
    go false e false d = reply t e (follows_itself m t inv.polled) refl inv.marks

-- the controller's reading keeps the invariant
pub controller_read_keeps : (sys : System) (s s' : Machine) (i : ℕ) → Inv sys s → i < sys.workers → controller_read_m sys i s ≡ some s'
    → Inv sys s'
unfolding controller_read_m has_out
controller_read_keeps sys s s' i inv h e =
    if_holds (Inv sys) (has_out i s.tally s.mem) e (λ has.
    message_keeps sys s.mem s.tally i inv h (ltb-true _ _ (and_left _ _ (and_left _ _ has))))
