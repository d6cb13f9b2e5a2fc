-- Reading a poll keeps the invariant: the reader holds it.
use Prim.Native.Nat.{ℕ, ◌+◌, ◌<◌}
use mathlib.Core.Logic.{inl, inr, ⊎_elim}
use mathlib.Core.Option.{some}
use mathlib.Core.Path.{◌≡◌}
use native.Mathlib.Omega.{arith}
use borrow.Author.Tests.{ltb-true}
use lib.Dec.{ltb}
use Rattle.base.proofs.Choice.{if_holds}
use Rattle.disac4.specs.System.{System}
use Rattle.disac4.specs.declared.Tally.{Tally}
use Rattle.cells.proofs.Stores.{store_same}
use Rattle.cells.specs.Layout.{WORKERS, HELD, POLLS}
use Rattle.cells.specs.Memory.{Mem}
use Rattle.reads.specs.Reads.{held_m, read_poll_m}
use Rattle.refinement.proofs.InvKept.{OnlyRow, only_store, only_same, worker_action}
use Rattle.refinement.specs.Inv.{Row, Replied, Totals, Inv}

module _ (i n : ℕ) (m : Mem) where
  -- the poll is the last read
  pub last_read : held_m i n m WORKERS i POLLS ≡ n
  last_read = store_same m WORKERS i POLLS n

  -- and held
  pub newest_held : held_m i n m WORKERS i HELD ≡ n
  newest_held = store_same m WORKERS i HELD n

  -- of the rows, only the reader's is changed
  pub only_row : OnlyRow m (held_m i n m) i
  only_row = only_store WORKERS HELD _ (omega arith) (only_store WORKERS POLLS _ (omega arith) (only_same m i))

module _ (sys : System) (m : Mem) (t : Tally) (i : ℕ) (inv : Inv sys (record { mem = m; tally = t })) (h : i < sys.workers)
    (unread : m WORKERS i POLLS < t.timestamp.0) where
  -- the poll that is read
  abbrev next : ℕ
  next = m WORKERS i POLLS + 1

  row : Row sys (held_m i next m) t i
  row = let r = inv.rows i h in search (arith, last_read i next m, newest_held i next m)

  totals : Totals sys (held_m i next m) t
  totals = let u = inv.totals in search

  replied : Replied m t i → Replied (held_m i next m) t i
  replied r = record {
    one_more = r.one_more;
    no_work = r.no_work;
    no_send = r.no_send;
    held_later = λ l. rw (newest_held i next m) (r.polls_later next (omega arith) (omega arith));
    polls_later = λ n l. r.polls_later n (omega (arith, last_read i next m));
    ended_later = r.ended_later;
    count_low = r.count_low;
  }

  held_keeps : Inv sys (record { mem = held_m i next m; tally = t })
  held_keeps =
      worker_action sys (record { mem = m; tally = t }) (held_m i next m) i inv (only_row i next m) row totals
      (⊎_elim inl (λ r. inr (replied r)) (inv.replied i h))

-- reading a poll keeps the invariant
pub read_poll_keeps : (sys : System) (m m' : Mem) (t : Tally) (i : ℕ) → Inv sys (record { mem = m; tally = t })
    → i < sys.workers → read_poll_m i t.timestamp.0 m ≡ some m' → Inv sys (record { mem = m'; tally = t })
unfolding read_poll_m
read_poll_keeps sys m m' t i inv h e =
    if_holds (λ x. Inv sys (record { mem = x; tally = t })) (ltb (m WORKERS i POLLS) t.timestamp.0) e (λ l.
    held_keeps sys m t i inv h (ltb-true (m WORKERS i POLLS) t.timestamp.0 l))
