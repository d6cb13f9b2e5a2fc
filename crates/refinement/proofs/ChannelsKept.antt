-- Logs, bounds, messages to the controller and wanted counts keep what they hold, so a message once sent stays the same,
-- and a channel changes only at its ends.
use Prim.Native.Nat.{ℕ, suc, ◌+◌, ◌-◌, ◌<◌, ◌≤◌}
use mathlib.Core.Path.{◌≡◌, refl, ◌∙◌, ap}
use native.Mathlib.Nat.{le_refl}
use native.Mathlib.Omega.{arith}
use borrow.Author.Tests.{leb-true}
use lib.Dec.{leb}
use Rattle.base.proofs.Choice.{cond_ext}
use Rattle.disac4.specs.State.{list, poll}
use Rattle.disac4.specs.System.{System}
use Rattle.disac4.specs.declared.Tally.{Tally}
use Rattle.cells.proofs.Queue.{labels_same, QueueKept, queue_same}
use Rattle.cells.specs.Layout.{WORKERS, CURSORS, BOUNDS, LOG, OUT, WANTED, LOGEND, SENDS, HELD, POLLS, OUTEND, OUTREAD, LISTMARK}
use Rattle.cells.specs.Memory.{Mem}
use Rattle.controller.specs.Controller.{Machine}
use Rattle.cells.specs.View.{list_at, message_of, poll_at, send_of, held_of, list_messages_queue, out_queue, polls_queue, rows_of}
use Rattle.refinement.proofs.Capacity.{bound_logged}
use Rattle.refinement.proofs.ChannelRows.{Stays}
use Rattle.refinement.specs.Inv.{Small, Inv}

-- the memory after keeps what stands in the memory before
pub record Grown (sys : System) (m : Mem) (t : Tally) (m' : Mem) : Type 0 where
  pub logs : (i : ℕ) → i < sys.workers → (d : ℕ) → d < m WORKERS i LOGEND → m' LOG i d ≡ m LOG i d
  pub bounds : (i : ℕ) → i < sys.workers → (n : ℕ) → n ≤ m WORKERS i SENDS → m' BOUNDS i n ≡ m BOUNDS i n
  pub outs : (i : ℕ) → i < sys.workers → (e : ℕ) → e < m WORKERS i OUTEND → m' OUT i e ≡ m OUT i e
  pub wanted : (n : ℕ) → n ≤ t.timestamp.0 → m' WANTED 0 n ≡ m WANTED 0 n

-- where the channels of `N` begin and end stays
pub record Ends (sys : System) (m : Mem) (t : Tally) (m' : Mem) (t' : Tally) (N : ℕ → ℕ → Type 0) : Type 0 where
  pub cursors : (j i : ℕ) → j < sys.workers → i < sys.workers → N (suc j) (suc i) → m' CURSORS j i ≡ m CURSORS j i
  pub sends : (j i : ℕ) → j < sys.workers → i < sys.workers → N (suc j) (suc i) → m' WORKERS j SENDS ≡ m WORKERS j SENDS
  pub out_read : (j : ℕ) → j < sys.workers → N (suc j) 0 → m' WORKERS j OUTREAD ≡ m WORKERS j OUTREAD
  pub out_end : (j : ℕ) → j < sys.workers → N (suc j) 0 → m' WORKERS j OUTEND ≡ m WORKERS j OUTEND
  pub polls : (i : ℕ) → i < sys.workers → N 0 (suc i) → m' WORKERS i POLLS ≡ m WORKERS i POLLS
  pub timestamp : (i : ℕ) → i < sys.workers → N 0 (suc i) → t'.timestamp.0 ≡ t.timestamp.0

-- ---- single places

-- a poll by its number
pub poll_kept : (m m' : Mem) (n : ℕ) → m' WANTED 0 n ≡ m WANTED 0 n → poll_at m' n ≡ poll_at m n
unfolding poll_at
poll_kept m m' n e = rw e

-- the poll that a row holds
pub held_row : (m m' : Mem) (i : ℕ) → m' WORKERS i HELD ≡ m WORKERS i HELD
    → m' WANTED 0 (m WORKERS i HELD) ≡ m WANTED 0 (m WORKERS i HELD) → held_of m' i ≡ held_of m i
unfolding poll_at
held_row m m' i e w = rw (e, w)

module _ (sys : System) (small : Small sys) (s : Machine) (inv : Inv sys s) (m' : Mem)
    (grown : Grown sys s.mem s.tally m') where
  abbrev m : Mem
  m = s.mem

  -- a list message stays the same
  pub list_kept : (i : ℕ) → i < sys.workers → (n : ℕ) → n < m WORKERS i SENDS → list_at m' i n ≡ list_at m i n
  unfolding list_at
  list_kept i h n l =
      labels_same m m' LOG i (m BOUNDS i n) (m BOUNDS i (n + 1)) (grown.bounds i h n (omega arith))
      (grown.bounds i h (n + 1) (omega arith))
      (λ d p q. grown.logs i h d (omega (arith, bound_logged sys small s inv i h (n + 1) (omega arith))))

  -- so does a message to the controller
  message_kept : (i : ℕ) → i < sys.workers → (e : ℕ) → e < m WORKERS i OUTEND
      → message_of m' i (m' OUT i e) ≡ message_of m i (m OUT i e)
  unfolding message_of
  message_kept i h e l =
      rw (grown.outs i h e l)
      (cond_ext (leb LISTMARK (m OUT i e)) _ _ _ _
      (λ p.
      ap list (list_kept i h (m OUT i e - LISTMARK) ((inv.rows i h).out_list e l (leb-true LISTMARK (m OUT i e) p))))
      (λ p. refl))

  -- what is to be sent stays where nothing is deleted or sent
  pub send_kept : (i : ℕ) → i < sys.workers → m' WORKERS i SENDS ≡ m WORKERS i SENDS
      → m' WORKERS i LOGEND ≡ m WORKERS i LOGEND → send_of m' i ≡ send_of m i
  send_kept i h e f =
      labels_same m m' LOG i (m BOUNDS i (m WORKERS i SENDS)) (m WORKERS i LOGEND)
      (ap (m' BOUNDS i) e ∙ grown.bounds i h (m WORKERS i SENDS) (le_refl _)) f (λ d p q. grown.logs i h d q)

  -- list messages stay in their channels
  pub list_messages_kept : (j i : ℕ) → j < sys.workers → QueueKept (list_messages_queue m j i) (list_messages_queue m' j i)
  list_messages_kept j i h n p q = ap list (list_kept j h n q)

  -- messages to the controller too
  pub out_kept : (i : ℕ) → i < sys.workers → QueueKept (out_queue m i) (out_queue m' i)
  out_kept i h e p q = message_kept i h e q

  -- and polls
  pub polls_kept : (t' : Tally) (i : ℕ) → QueueKept (polls_queue m s.tally i) (polls_queue m' t' i)
  polls_kept t' i n p q = ap poll (poll_kept m m' n (grown.wanted n (omega arith)))

  -- channels whose ends stay are the same
  pub channels_kept : (t' : Tally) (N : ℕ → ℕ → Type 0) → Ends sys m s.tally m' t' N
      → Stays sys N (rows_of m s.tally) (rows_of m' t')
  channels_kept t' N ends = record {
    list_messages = λ j i hj hi n. queue_same (list_messages_queue m j i) (list_messages_queue m' j i) (list_messages_kept j i hj)
        (ends.cursors j i hj hi n) (ends.sends j i hj hi n);
    out = λ j hj n. queue_same (out_queue m j) (out_queue m' j) (out_kept j hj) (ends.out_read j hj n) (ends.out_end j hj n);
    polls = λ i hi n. queue_same (polls_queue m s.tally i) (polls_queue m' t' i) (polls_kept t' i)
        (ap (λ (k : ℕ). k + 1) (ends.polls i hi n)) (ap (λ (k : ℕ). k + 1) (ends.timestamp i hi n));
  }
