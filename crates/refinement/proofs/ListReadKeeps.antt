-- Reading a list message keeps the invariant: its labels join the reader's work list, and the reader counts it.
use Prim.Native.Nat.{ℕ, ◌+◌, ◌-◌, ◌<◌, ◌≤◌}
use mathlib.Core.Bool.{true}
use mathlib.Core.Logic.{inl, ⊎_elim}
use mathlib.Core.Option.{some}
use mathlib.Core.Path.{◌≡◌, sym, ◌∙◌, ap, subst}
use native.Mathlib.Decide.{ℕ_discrete}
use native.Mathlib.Omega.{arith}
use lib.Dec.{eqb}
use Rattle.base.proofs.Choice.{everywhere, if_holds}
use Rattle.base.proofs.Sums.{sum_ext, sum_change}
use Rattle.base.specs.Below.{sum_below}
use Rattle.disac4.specs.System.{System}
use Rattle.disac4.specs.declared.Tally.{Tally}
use Rattle.cells.proofs.Queue.{labels_length}
use Rattle.cells.proofs.Stores.{store_same, store_other, store_apart, OffList, copy_other}
use Rattle.cells.specs.Layout.{WORKERS, CURSORS, BOUNDS, LOG, WORK, OUT, WANTED, DOMAIN, PAIRS, HEAD, TAIL, LOGEND, SENDS, LISTS, OUTEND, OUTREAD, LISTED}
use Rattle.cells.specs.Queues.{copy_m}
use Rattle.cells.specs.Memory.{Mem, store}
use Rattle.cells.specs.View.{labels_between, list_at}
use Rattle.reads.proofs.ReadLaws.{has_list_lem}
use Rattle.reads.specs.Reads.{list_start, list_end, taken_m, has_list, read_list_m}
use Rattle.controller.specs.Controller.{Machine}
use Rattle.refinement.proofs.Capacity.{list_room, bound_logged}
use Rattle.refinement.proofs.InvKept.{OnlyRow, row_grown, lists_out_kept, logged_kept, lists_read_kept, worker_action}
use Rattle.refinement.proofs.LongerLists.{Longer, longer_copy}
use Rattle.refinement.specs.Inv.{Row, Totals, Inv, OutCounted, Small}

-- how many labels the next list message of row `j` for row `i` has
abbrev list_length : ℕ → ℕ → Mem → ℕ
list_length j i m = list_end j i m - list_start j i m

-- the memory with its labels copied
abbrev copied : ℕ → ℕ → Mem → Mem
copied j i m = copy_m j i (list_start j i m) (list_length j i m) m

-- ---- what the stores changed

module _ (j i : ℕ) (m : Mem) where
  -- what stands beside the reader's work list is not copied over
  uncopied : (r k c : ℕ) → OffList WORK TAIL i r k c → copied j i m r k c ≡ m r k c
  uncopied = copy_other j i (list_start j i m) (list_length j i m) m

  -- every region but three
  pub region : (r : ℕ) → (r ≡ WORKERS → ⊥) × (r ≡ CURSORS → ⊥) × (r ≡ WORK → ⊥) → (k c : ℕ) → taken_m j i m r k c ≡ m r k c
  unfolding taken_m
  region r n k c =
      store_apart (store (copied j i m) CURSORS j i (m CURSORS j i + 1)) WORKERS i LISTS (m WORKERS i LISTS + 1) r k c n.0
      ∙ store_apart (copied j i m) CURSORS j i (m CURSORS j i + 1) r k c n.1
      ∙ uncopied r k c ((λ e x. n.2 e), λ e x y. n.0 e)

  -- every column but two
  pub column : (k c : ℕ) → (k ≡ i → c ≡ TAIL → ⊥) → (k ≡ i → c ≡ LISTS → ⊥) → taken_m j i m WORKERS k c ≡ m WORKERS k c
  unfolding taken_m
  column k c n l =
      store_other (copied j i m) WORKERS i LISTS (m WORKERS i LISTS + 1) WORKERS k c (λ p. l)
      ∙ uncopied WORKERS k c ((λ e. omega arith), λ p. n)

  -- the other work lists
  pub other_work : (k d : ℕ) → (k ≡ i → ⊥) → taken_m j i m WORK k d ≡ m WORK k d
  unfolding taken_m
  other_work k d n = uncopied WORK k d ((λ e. n), λ e. omega arith)

  -- the reader counts it
  pub more_lists : taken_m j i m WORKERS i LISTS ≡ m WORKERS i LISTS + 1
  unfolding taken_m
  more_lists = store_same (copied j i m) WORKERS i LISTS (m WORKERS i LISTS + 1)

  -- and has read one more of the sender's lists
  pub new_cursor : taken_m j i m CURSORS j i ≡ m CURSORS j i + 1
  unfolding taken_m
  new_cursor = store_same (copied j i m) CURSORS j i (m CURSORS j i + 1)

  -- of no others
  pub old_cursor : (l k : ℕ) → (l ≡ j → k ≡ i → ⊥) → taken_m j i m CURSORS l k ≡ m CURSORS l k
  unfolding taken_m
  old_cursor l k n =
      store_other (copied j i m) CURSORS j i (m CURSORS j i + 1) CURSORS l k (λ p. n) ∙ uncopied CURSORS l k (omega arith)

  -- of the rows, only the reader's is changed
  only_row : OnlyRow m (taken_m j i m) i
  only_row = record {
    others = λ k n. record {
      workers = λ c. column k c (λ p q. n p) (λ p q. n p);
      bounds = region BOUNDS (omega arith) k;
      log = region LOG (omega arith) k;
      work = λ d. other_work k d n;
      out = region OUT (omega arith) k;
    };
    wanted = region WANTED (omega arith) 0;
    pairs = region PAIRS (omega arith);
    listed = λ x v. subst (λ (c : ℕ). eqb c LISTED ≡ true) (region DOMAIN (omega arith) x v);
  }

  -- a sum over what row `i` has read of each row grows at row `j`
  sum_read : (p : ℕ) (f : ℕ → ℕ → ℕ) → j < p
      → sum_below p (λ l. f l (taken_m j i m CURSORS l i)) + f j (m CURSORS j i)
      ≡ sum_below p (λ l. f l (m CURSORS l i)) + f j (m CURSORS j i + 1)
  sum_read p f h =
      sum_change p (λ l. f l (m CURSORS l i)) (λ l. f l (taken_m j i m CURSORS l i)) j h
      (λ l q n. ap (f l) (sym (old_cursor l i (λ e x. n e))))
      ∙ ap (λ c. sum_below p (λ l. f l (m CURSORS l i)) + f j c) new_cursor

  -- of what other rows have read it is kept
  sum_unread : (p : ℕ) (f : ℕ → ℕ → ℕ) (k : ℕ) → (k ≡ i → ⊥)
      → sum_below p (λ l. f l (taken_m j i m CURSORS l k)) ≡ sum_below p (λ l. f l (m CURSORS l k))
  sum_unread p f k n =
      sum_ext p (λ l. f l (taken_m j i m CURSORS l k)) (λ l. f l (m CURSORS l k)) (λ l q.
      ap (f l) (old_cursor l k (λ e x. n x)))

  -- a column that is another one and what was read of each row
  total_read : (p c d : ℕ) (f : ℕ → ℕ → ℕ) → j < p
      → taken_m j i m WORKERS i c + f j (m CURSORS j i) ≡ m WORKERS i c + f j (m CURSORS j i + 1)
      → ((k : ℕ) → (k ≡ i → ⊥) → taken_m j i m WORKERS k c ≡ m WORKERS k c)
      → ((k : ℕ) → taken_m j i m WORKERS k d ≡ m WORKERS k d) → (k : ℕ)
      → m WORKERS k c ≡ m WORKERS k d + sum_below p (λ l. f l (m CURSORS l k))
      → taken_m j i m WORKERS k c ≡ taken_m j i m WORKERS k d + sum_below p (λ l. f l (taken_m j i m CURSORS l k))
  total_read p c d f h grown same base =
      everywhere
      (λ k. m WORKERS k c ≡ m WORKERS k d + sum_below p (λ l. f l (m CURSORS l k))
      → taken_m j i m WORKERS k c ≡ taken_m j i m WORKERS k d + sum_below p (λ l. f l (taken_m j i m CURSORS l k))) i
      (λ e. omega (arith, base i, sum_read p f h)) (λ k n e. omega (arith, same k n, base k, sum_unread p f k n))

-- the list message joins the reader's work list
pub taken_list : (sys : System) → Small sys → (s : Machine) → Inv sys s → (j i : ℕ) → j < sys.workers → i < sys.workers
    → (j ≡ i → ⊥) → s.mem CURSORS j i < s.mem WORKERS j SENDS
    → Longer sys WORK TAIL i s.mem (taken_m j i s.mem) (list_at s.mem j (s.mem CURSORS j i))
unfolding taken_m list_at labels_between
taken_list sys small s inv j i hj hi apart unread =
    let m = s.mem in
    let e : list_start j i m + list_length j i m ≡ list_end j i m = omega (arith, (inv.rows j hj).bounds_rise (m CURSORS j i) unread) in
    let g = longer_copy sys j i (list_start j i m) (list_length j i m) m (list_room sys small s inv j i hj hi apart unread)
    (λ d l. (inv.rows j hj).log_labels d (omega (arith, bound_logged sys small s inv j hj (m CURSORS j i + 1) (omega arith)))) in
    subst (λ (c : ℕ). Longer sys WORK TAIL i m (taken_m j i m) (labels_between m LOG j (list_start j i m) c)) e
    (record { end = g.end; old = g.old; new = g.new; numbers = g.numbers })

-- ---- the parts of the invariant

module _ (sys : System) (m : Mem) (t : Tally) (j i : ℕ) (inv : Inv sys (record { mem = m; tally = t }))
    (hj : j < sys.workers) (hi : i < sys.workers) (apart : j ≡ i → ⊥) (unread : m CURSORS j i < m WORKERS j SENDS)
    (joined : Longer sys WORK TAIL i m (taken_m j i m) (list_at m j (m CURSORS j i))) where
  row : Row sys (taken_m j i m) t i
  row =
      let r = inv.rows i hi in
      row_grown m (taken_m j i m) sys t t i
      (record {
        column = λ c p. column j i m i c (λ x. p.1) (λ x. p.3);
        bounds = region j i m BOUNDS (omega arith) i;
        out = region j i m OUT (omega arith) i;
        queue = omega (arith, column j i m i HEAD (omega arith) (omega arith), joined.end, r.queue);
        log_end = omega (arith, column j i m i LOGEND (omega arith) (omega arith));
        log_labels = λ d h. rw (region j i m LOG (omega arith) i d)
            (r.log_labels d (omega (arith, column j i m i LOGEND (omega arith) (omega arith))));
        work_labels = joined.numbers r.work_labels;
      })
      (omega arith) r

  longer : taken_m j i m WORKERS i TAIL ≡ m WORKERS i TAIL + list_length j i m
  unfolding list_at
  longer = omega (arith, joined.end, labels_length m LOG j (list_start j i m) (list_end j i m))

  -- no row has read more lists than were sent
  cursors_behind : (l k : ℕ) → l < sys.workers → k < sys.workers → taken_m j i m CURSORS l k ≤ m WORKERS l SENDS
  cursors_behind l k p q =
      elim (ℕ_discrete k i) [
        | yes e ↦ elim (ℕ_discrete l j) [
          | yes f ↦
              omega (
                arith,
                ap (taken_m j i m CURSORS l) e,
                ap (λ x. taken_m j i m CURSORS x i) f,
                ap (λ x. m WORKERS x SENDS) f,
                new_cursor j i m,
              )
          | no n ↦ omega (arith, old_cursor j i m l k (λ x y. n x), inv.totals.cursor l k p q)
        ]
        | no n ↦ omega (arith, old_cursor j i m l k (λ x y. n y), inv.totals.cursor l k p q)
      ]

  -- a column that reading a list message does not write
  abbrev Still : ℕ → Type 0
  Still c = (k : ℕ) → taken_m j i m WORKERS k c ≡ m WORKERS k c

  log_ends : Still LOGEND
  log_ends k = column j i m k LOGEND (omega arith) (omega arith)

  sends : Still SENDS
  sends k = column j i m k SENDS (omega arith) (omega arith)

  -- each row had on its work list what it deleted and read
  work_pushed : (k : ℕ) → k < sys.workers
      → taken_m j i m WORKERS k TAIL
      ≡ taken_m j i m WORKERS k LOGEND + sum_below sys.workers (λ l. taken_m j i m BOUNDS l (taken_m j i m CURSORS l k))
  work_pushed k p =
      total_read j i m sys.workers TAIL LOGEND (m BOUNDS) hj
      (omega (arith, longer, (inv.rows j hj).bounds_rise (m CURSORS j i) unread))
      (λ k n. column j i m k TAIL (λ e x. n e) (omega arith)) log_ends k (inv.totals.pushed k p)
      ∙ ap (λ x. taken_m j i m WORKERS k LOGEND + x)
      (sum_ext sys.workers (λ l. m BOUNDS l (taken_m j i m CURSORS l k))
      (λ l. taken_m j i m BOUNDS l (taken_m j i m CURSORS l k)) (λ l q.
      sym (region j i m BOUNDS (omega arith) l (taken_m j i m CURSORS l k))))

  -- each row counts the lists that it sent and read
  lists_counted : (k : ℕ) → k < sys.workers
      → taken_m j i m WORKERS k LISTS
      ≡ taken_m j i m WORKERS k SENDS + sum_below sys.workers (λ l. taken_m j i m CURSORS l k)
  lists_counted k p =
      total_read j i m sys.workers LISTS SENDS (λ l c. c) hj (omega (arith, more_lists j i m))
      (λ k n. column j i m k LISTS (omega arith) (λ e x. n e)) sends k (inv.totals.counted k p)

  totals : Totals sys (taken_m j i m) t
  totals =
      let u = inv.totals in
      record {
        own_cursor = λ k p. old_cursor j i m k k (λ q e. apart (sym q ∙ e)) ∙ u.own_cursor k p;
        cursor = λ l k p q. omega (arith, cursors_behind l k p q, sends l);
        pushed = work_pushed;
        counted = lists_counted;
        logged = logged_kept m (taken_m j i m) sys log_ends (region j i m DOMAIN (omega arith)) ∙ u.logged;
        all_out = λ k p.
            lists_out_kept m (taken_m j i m) k (m WORKERS k OUTEND) (taken_m j i m WORKERS k OUTEND)
            (column j i m k OUTEND (omega arith) (omega arith)) (λ e l. region j i m OUT (omega arith) k e)
            ∙ u.all_out k p ∙ sym (sends k);
        lists_read_lem =
            u.lists_read_lem
            ∙ sym
            (lists_read_kept m (taken_m j i m) sys.workers
            (λ k p.
            column j i m k OUTREAD (omega arith) (omega arith))
            (λ k e p l. region j i m OUT (omega arith) k e));
      }

  -- a reader has not replied at its new count
  outs : OutCounted (taken_m j i m) t i
  outs =
      ⊎_elim (λ l. inl (omega (arith, put, more_lists j i m)))
      (λ r. inl (omega (arith, put, more_lists j i m, r.one_more))) (inv.replied i hi)
    where
      put : taken_m j i m WORKERS i OUTEND ≡ m WORKERS i OUTEND
      put = column j i m i OUTEND (omega arith) (omega arith)

  taken_keeps : Inv sys (record { mem = taken_m j i m; tally = t })
  taken_keeps =
      worker_action sys (record { mem = m; tally = t }) (taken_m j i m) i inv (only_row j i m) row totals outs

-- reading a list message keeps the invariant
pub read_list_keeps : (sys : System) → Small sys → (m m' : Mem) (t : Tally) (j i : ℕ)
    → Inv sys (record { mem = m; tally = t }) → j < sys.workers → i < sys.workers → (j ≡ i → ⊥)
    → read_list_m j i m ≡ some m' → Inv sys (record { mem = m'; tally = t })
unfolding read_list_m
read_list_keeps sys small m m' t j i inv hj hi apart e =
    if_holds (λ x. Inv sys (record { mem = x; tally = t })) (has_list j i m) e (λ has.
    let unread = (has_list_lem j i m has).unread in
    let s : Machine = record { mem = m; tally = t } in
    taken_keeps sys m t j i inv hj hi apart unread (taken_list sys small s inv j i hj hi apart unread))
