-- What each part of the invariant depends on: where those cells are kept, so is the part.
use Prim.Native.Nat.{ℕ, ◌+◌, ◌^◌, ◌<◌, ◌≤◌}
use mathlib.Core.Bool.{true}
use mathlib.Core.Logic.{inl, inr, ⊎_elim}
use mathlib.Core.Path.{◌≡◌, refl, sym, ◌∙◌, ap, ap₂, subst, fun_ext}
use native.Mathlib.Numerals.{add-one}
use native.Mathlib.Omega.{arith}
use lib.Dec.{leb, eqb}
use Rattle.base.proofs.Choice.{everywhere}
use Rattle.base.proofs.Sums.{sum_ext, count_ext}
use Rattle.base.specs.Below.{sum_below, one}
use Rattle.disac4.specs.System.{System}
use Rattle.disac4.specs.declared.Tally.{Tally}
use Rattle.cells.proofs.Stores.{store_other, store_apart}
use Rattle.cells.specs.Layout.{WORKERS, CURSORS, BOUNDS, LOG, WORK, OUT, WANTED, DOMAIN, PAIRS, HEAD, TAIL, LOGEND, SENDS, LISTS, HELD, POLLS, OUTEND, OUTREAD, LISTED, LISTMARK}
use Rattle.cells.specs.Memory.{Mem, store}
use Rattle.controller.specs.Controller.{Machine}
use Rattle.cells.specs.View.{in_domain}
use Rattle.refinement.specs.Inv.{LoadedNumber, Row, Polled, Replied, OutCounted, Inv, Totals, lists_out, accounted}
use Rattle.index.specs.Index.{Paired}
use Rattle.network.specs.Network.{domain_size}

-- a worker's cells, those of its row of cursors apart
pub record SameRow (m m' : Mem) (i : ℕ) : Type 0 where
  pub workers : (c : ℕ) → m' WORKERS i c ≡ m WORKERS i c
  pub bounds : (n : ℕ) → m' BOUNDS i n ≡ m BOUNDS i n
  pub log : (d : ℕ) → m' LOG i d ≡ m LOG i d
  pub work : (d : ℕ) → m' WORK i d ≡ m WORK i d
  pub out : (e : ℕ) → m' OUT i e ≡ m OUT i e

-- a worker's cells where its lists have grown: its head, the ends of its lists and its list counter may have changed
pub record GrownRow (sys : System) (m m' : Mem) (i : ℕ) : Type 0 where
  pub column : (c : ℕ) → (c ≡ HEAD → ⊥) × (c ≡ TAIL → ⊥) × (c ≡ LOGEND → ⊥) × (c ≡ LISTS → ⊥) → m' WORKERS i c ≡ m WORKERS i c
  pub bounds : (n : ℕ) → m' BOUNDS i n ≡ m BOUNDS i n
  pub out : (e : ℕ) → m' OUT i e ≡ m OUT i e
  pub queue : m' WORKERS i HEAD ≤ m' WORKERS i TAIL
  pub log_end : m WORKERS i LOGEND ≤ m' WORKERS i LOGEND
  pub log_labels : (d : ℕ) → d < m' WORKERS i LOGEND → LoadedNumber sys (m' LOG i d)
  pub work_labels : (d : ℕ) → d < m' WORKERS i TAIL → LoadedNumber sys (m' WORK i d)

-- the wanted counts
abbrev pub SameWanted : Mem → Mem → Type 0
SameWanted m m' = (n : ℕ) → m' WANTED 0 n ≡ m WANTED 0 n

-- the index of the counters
abbrev pub SameNumbers : Mem → Mem → Type 0
SameNumbers m m' = (x y : ℕ) → m' PAIRS x y ≡ m PAIRS x y

module _ (m m' : Mem) where
  -- a worker's row depends on its cells and on how many polls there were; its lists may grow
  pub row_grown : (sys : System) (t t' : Tally) (i : ℕ) → GrownRow sys m m' i → t.timestamp.0 ≤ t'.timestamp.0
      → Row sys m t i → Row sys m' t' i
  row_grown sys t t' i g l r = record {
    queue = g.queue;
    first_bound = g.bounds 0 ∙ r.first_bound;
    bounds_rise = λ n h. omega (arith, g.bounds n, g.bounds (n + 1), r.bounds_rise n (omega (arith, sends)));
    last_bound = rw (sends, g.bounds (m WORKERS i SENDS)) (omega (arith, g.log_end, r.last_bound));
    out_read = omega (arith, g.column OUTREAD (omega arith), out_end, r.out_read);
    out_list = λ e h k. omega (arith, g.out e, sends, r.out_list e (omega (arith, out_end)) (omega (arith, g.out e)));
    polls_read = omega (arith, polls, r.polls_read);
    held_read = omega (arith, g.column HELD (omega arith), polls, r.held_read);
    log_labels = g.log_labels;
    work_labels = g.work_labels;
  }
    where
      sends : m' WORKERS i SENDS ≡ m WORKERS i SENDS
      sends = g.column SENDS (omega arith)

      out_end : m' WORKERS i OUTEND ≡ m WORKERS i OUTEND
      out_end = g.column OUTEND (omega arith)

      polls : m' WORKERS i POLLS ≡ m WORKERS i POLLS
      polls = g.column POLLS (omega arith)

  -- the same where all its cells are kept
  pub row_kept : (sys : System) (t t' : Tally) (i : ℕ) → SameRow m m' i → t.timestamp.0 ≤ t'.timestamp.0
      → Row sys m t i → Row sys m' t' i
  row_kept sys t t' i s l r =
      row_grown sys t t' i
      (record {
        column = λ c p. s.workers c;
        bounds = s.bounds;
        out = s.out;
        queue = omega (arith, s.workers HEAD, s.workers TAIL, r.queue);
        log_end = omega (arith, s.workers LOGEND);
        log_labels = λ d h. rw (s.log d) (r.log_labels d (omega (arith, s.workers LOGEND)));
        work_labels = λ d h. rw (s.work d) (r.work_labels d (omega (arith, s.workers TAIL)));
      })
      l r

  -- polls depend on the wanted counts
  polled_kept : (t : Tally) → SameWanted m m' → Polled m t → Polled m' t
  polled_kept t w p = record {
    rises = λ n h l. omega (arith, w n, w (n + 1), p.rises n h l);
    wanted_open = λ e. ((p.wanted_open e).0, w t.timestamp.0 ∙ (p.wanted_open e).1);
    wanted_ended = λ e h. omega (arith, w t.timestamp.0, p.wanted_ended e h);
  }

  -- a reply depends on its worker's cells, on the wanted counts, and not on what the controller has read
  pub replied_kept : (t : Tally) (i : ℕ) → ((c : ℕ) → (c ≡ OUTREAD → ⊥) → m' WORKERS i c ≡ m WORKERS i c)
      → ((n : ℕ) → m' BOUNDS i n ≡ m BOUNDS i n) → SameWanted m m' → Replied m t i → Replied m' t i
  replied_kept t i workers bounds w r = record {
    one_more = omega (arith, workers OUTEND (omega arith), lists, r.one_more);
    no_work = omega (arith, workers HEAD (omega arith), workers TAIL (omega arith), r.no_work);
    no_send = rw (workers SENDS (omega arith), workers LOGEND (omega arith), bounds (m WORKERS i SENDS)) r.no_send;
    held_later = λ h. rw (lists, held, w (m WORKERS i HELD)) (r.held_later (omega (arith, held)));
    polls_later = λ n h l. omega (arith, w n, lists, r.polls_later n (omega (arith, workers POLLS (omega arith))) l);
    ended_later = λ e. omega (arith, lists, r.ended_later e);
    count_low = omega (arith, lists, r.count_low);
  }
    where
      lists : m' WORKERS i LISTS ≡ m WORKERS i LISTS
      lists = workers LISTS (omega arith)

      held : m' WORKERS i HELD ≡ m WORKERS i HELD
      held = workers HELD (omega arith)

  -- the rows of counters depend on the index
  pub paired_kept : (sys : System) → SameNumbers m m' → Paired sys m → Paired sys m'
  paired_kept sys s p = record {
    low = λ x y e. rw (s x y) (p.low x y e);
    high = λ x y e. rw (s x y) (p.high x y e);
    own = λ x y x' y' e f q. p.own x y x' y' e f (sym (s x y) ∙ q ∙ s x' y');
  }

  -- how many list messages a row put depends on its messages up to there
  pub lists_out_kept : (i n n' : ℕ) → n' ≡ n → ((e : ℕ) → e < n → m' OUT i e ≡ m OUT i e)
      → lists_out m' i n' ≡ lists_out m i n
  lists_out_kept i n n' q s =
      ap (lists_out m' i) q
      ∙ count_ext n (λ e. leb LISTMARK (m' OUT i e)) (λ e. leb LISTMARK (m OUT i e)) (λ e h. ap (leb LISTMARK) (s e h))

  -- with one message more
  pub lists_out_more : (i n n' : ℕ) → n' ≡ n + 1 → ((e : ℕ) → e < n → m' OUT i e ≡ m OUT i e)
      → lists_out m' i n' ≡ lists_out m i n + one (leb LISTMARK (m' OUT i n))
  lists_out_more i n n' q s =
      ap (lists_out m' i) (q ∙ add-one n) ∙ ap (λ x. x + one (leb LISTMARK (m' OUT i n))) (lists_out_kept i n n refl s)

  -- the labels in logs and domains depend on where the logs end and on the domains
  pub logged_kept : (sys : System) → ((i : ℕ) → m' WORKERS i LOGEND ≡ m WORKERS i LOGEND)
      → ((x v : ℕ) → m' DOMAIN x v ≡ m DOMAIN x v)
      → accounted sys m' ≡ accounted sys m
  logged_kept sys ends domain =
      ap₂ ◌+◌ (sum_ext sys.workers (λ i. m' WORKERS i LOGEND) (λ i. m WORKERS i LOGEND) (λ i h. ends i))
      (ap (domain_size sys.net) (fun_ext λ x. fun_ext λ v. ap (λ c. eqb c LISTED) (domain x v)))

  -- what the controller has counted depends on the messages that it read
  pub lists_read_kept : (p : ℕ) → ((i : ℕ) → i < p → m' WORKERS i OUTREAD ≡ m WORKERS i OUTREAD)
      → ((i e : ℕ) → i < p → e < m WORKERS i OUTREAD → m' OUT i e ≡ m OUT i e)
      → sum_below p (λ i. lists_out m' i (m' WORKERS i OUTREAD)) ≡ sum_below p (λ i. lists_out m i (m WORKERS i OUTREAD))
  lists_read_kept p read out =
      sum_ext p (λ i. lists_out m' i (m' WORKERS i OUTREAD)) (λ i. lists_out m i (m WORKERS i OUTREAD)) (λ i h.
      lists_out_kept i (m WORKERS i OUTREAD) (m' WORKERS i OUTREAD) (read i h) (λ e l. out i e h l))

-- what the totals speak of: a row's log and work list may grow by as much, and by what leaves the domains
pub record SameTotals (sys : System) (m m' : Mem) : Type 0 where
  pub sends : (i : ℕ) → m' WORKERS i SENDS ≡ m WORKERS i SENDS
  pub lists : (i : ℕ) → m' WORKERS i LISTS ≡ m WORKERS i LISTS
  pub out_end : (i : ℕ) → m' WORKERS i OUTEND ≡ m WORKERS i OUTEND
  pub out_read : (i : ℕ) → m' WORKERS i OUTREAD ≡ m WORKERS i OUTREAD
  pub cursors : (j i : ℕ) → m' CURSORS j i ≡ m CURSORS j i
  pub bounds : (i n : ℕ) → m' BOUNDS i n ≡ m BOUNDS i n
  pub out : (i e : ℕ) → m' OUT i e ≡ m OUT i e
  pub ends : (i : ℕ) → m' WORKERS i TAIL + m WORKERS i LOGEND ≡ m WORKERS i TAIL + m' WORKERS i LOGEND
  pub logged : accounted sys m' ≡ accounted sys m

-- the totals depend on that and on how many lists the controller has counted
pub totals_kept : (sys : System) (m m' : Mem) (t t' : Tally) → SameTotals sys m m' → t'.lists.0 ≡ t.lists.0
    → Totals sys m t → Totals sys m' t'
totals_kept sys m m' t t' s e u = record {
  own_cursor = λ i h. s.cursors i i ∙ u.own_cursor i h;
  cursor = λ j i h l. omega (arith, s.cursors j i, s.sends j, u.cursor j i h l);
  pushed = λ i h.
      omega (
        arith,
        s.ends i,
        sum_ext sys.workers (λ j. m' BOUNDS j (m' CURSORS j i)) (λ j. m BOUNDS j (m CURSORS j i)) (λ j l.
            s.bounds j (m' CURSORS j i) ∙ ap (m BOUNDS j) (s.cursors j i)),
        u.pushed i h,
      );
  counted = λ i h.
      omega (
        arith,
        s.lists i,
        s.sends i,
        sum_ext sys.workers (λ j. m' CURSORS j i) (λ j. m CURSORS j i) (λ j l. s.cursors j i),
        u.counted i h,
      );
  logged = s.logged ∙ u.logged;
  all_out = λ i h.
      lists_out_kept m m' i (m WORKERS i OUTEND) (m' WORKERS i OUTEND) (s.out_end i) (λ n l. s.out i n)
      ∙ u.all_out i h
      ∙ sym (s.sends i);
  lists_read_lem =
      e ∙ u.lists_read_lem ∙ sym (lists_read_kept m m' sys.workers (λ i h. s.out_read i) (λ i n h l. s.out i n));
}

-- of what the invariant mentions row by row, only row `i` is changed, and no label has joined its domain
pub record OnlyRow (m m' : Mem) (i : ℕ) : Type 0 where
  pub others : (k : ℕ) → (k ≡ i → ⊥) → SameRow m m' k
  pub wanted : SameWanted m m'
  pub pairs : SameNumbers m m'
  pub listed : (x v : ℕ) → in_domain m' x v ≡ true → in_domain m x v ≡ true

module _ {m m' : Mem} {i : ℕ} where
  -- a store into row `i` of a region with a row for each worker keeps that
  pub only_store : (r c v : ℕ) → r < WANTED → OnlyRow m m' i → OnlyRow m (store m' r i c v) i
  only_store r c v low only = record {
    others = λ k n.
        let o = only.others k n in
        record {
          workers = λ d. beside WORKERS k d n ∙ o.workers d;
          bounds = λ d. beside BOUNDS k d n ∙ o.bounds d;
          log = λ d. beside LOG k d n ∙ o.log d;
          work = λ d. beside WORK k d n ∙ o.work d;
          out = λ d. beside OUT k d n ∙ o.out d;
        };
    wanted = λ n. above WANTED 0 n (omega arith) ∙ only.wanted n;
    pairs = λ x y. above PAIRS x y (omega arith) ∙ only.pairs x y;
    listed = λ x v e. only.listed x v (subst (λ (c : ℕ). eqb c LISTED ≡ true) (above DOMAIN x v (omega arith)) e);
  }
    where
      beside : (s k d : ℕ) → (k ≡ i → ⊥) → store m' r i c v s k d ≡ m' s k d
      beside s k d n = store_other m' r i c v s k d (λ e f g. n f)

      above : (s k d : ℕ) → WANTED ≤ s → store m' r i c v s k d ≡ m' s k d
      above s k d h = store_apart m' r i c v s k d (λ e. omega arith)

-- where nothing is stored it holds
pub only_same : (m : Mem) (i : ℕ) → OnlyRow m m i
only_same m i = search

-- a tally that may follow another one beside the same memory
pub record Follows (m : Mem) (t t' : Tally) : Type 0 where
  pub later : t.timestamp.0 ≤ t'.timestamp.0
  pub polled : Polled m t'
  pub replied : (i : ℕ) → Replied m t i → Replied m t' i

-- as a tally does itself
pub follows_itself : (m : Mem) (t : Tally) → Polled m t → Follows m t t
follows_itself m t p = record { later = omega arith; polled = p; replied = λ i r. r }

-- an action of one row keeps the invariant if it does so at its row and in the totals
pub row_action : (sys : System) (s s' : Machine) (i : ℕ) → Inv sys s → OnlyRow s.mem s'.mem i
    → Follows s.mem s.tally s'.tally → Row sys s'.mem s'.tally i → Totals sys s'.mem s'.tally
    → OutCounted s'.mem s'.tally i → s'.tally.marks < 2 ^ sys.workers → Inv sys s'
row_action sys s s' i inv only next row totals outs marks = record {
  rows =
      everywhere (λ k. k < sys.workers → Row sys s'.mem s'.tally k) i (λ h. row) (λ k n h.
      row_kept s.mem s'.mem sys s.tally s'.tally k (only.others k n) next.later (inv.rows k h));
  totals = totals;
  polled = polled_kept s.mem s'.mem s'.tally only.wanted next.polled;
  replied =
      everywhere (λ k. k < sys.workers → OutCounted s'.mem s'.tally k) i (λ h. outs) (λ k n h.
      ⊎_elim
      (λ l.
      inl (omega (arith, (only.others k n).workers OUTEND, (only.others k n).workers LISTS)))
      (λ r.
      inr
      (replied_kept s.mem s'.mem s'.tally k (λ c p. (only.others k n).workers c) (only.others k n).bounds
      only.wanted (next.replied k r)))
      (inv.replied k h));
  listed = λ x v e. inv.listed x v (only.listed x v e);
  paired = paired_kept s.mem s'.mem sys only.pairs inv.paired;
  marks = marks;
}

-- an action of a worker leaves the tally as it is
pub worker_action : (sys : System) (s : Machine) (m : Mem) (i : ℕ) → Inv sys s → OnlyRow s.mem m i → Row sys m s.tally i
    → Totals sys m s.tally → OutCounted m s.tally i → Inv sys (record { mem = m; tally = s.tally })
worker_action sys s m i inv only row totals outs =
    row_action sys s (record { mem = m; tally = s.tally }) i inv only (follows_itself s.mem s.tally inv.polled) row
    totals outs inv.marks
