-- Loading in memory is loading, from a memory that holds the plan's index and is 0 elsewhere.
use Prim.Native.Nat.{ℕ, suc, ◌-◌, ◌<◌, ◌≤◌}
use mathlib.Core.Bool.{Bool, true, false, cond, ◌&&◌, not}
use mathlib.Core.List.{List, [], ◌∷◌, ◌++◌}
use mathlib.Core.Option.{none}
use mathlib.Core.Path.{◌≡◌, refl, sym, ◌∙◌, ap}
use native.Mathlib.Omega.{arith}
use borrow.Author.Tests.{eqb-true, eq-eqb}
use lib.Dec.{eqb}
use lib.ListN.{length}
use Rattle.base.proofs.Below.{gather_none}
use Rattle.base.proofs.Bools.{clash, refuted, and_false_left}
use Rattle.base.proofs.Choice.{cond_true, cond_false, cond_same, between_intro}
use Rattle.base.proofs.Sums.{sum_part, sum_zero}
use Rattle.base.specs.Below.{one}
use Rattle.disac4.proofs.DomainSize.{load_size, deletions_loaded}
use Rattle.disac4.specs.Loading.{loaded_counter, unsupported, loaded_deletions, load}
use Rattle.disac4.specs.System.{System}
use Rattle.network.proofs.Loaded.{loaded_variable, loaded_value}
use Rattle.network.proofs.Supports.{support_count_lem}
use Rattle.network.specs.Network.{Label, label, loaded, labels_where, supports, support_count}
use Rattle.cells.proofs.Queue.{labels_none, queue_none}
use Rattle.cells.specs.Layout.{WORKERS, CURSORS, BOUNDS, LOG, WORK, OUT, WANTED, DOMAIN, COUNTERS, PAIRS, HEAD, TAIL, LOGEND, SENDS, LISTS, HELD, OUTEND, LABELROOM, LISTED}
use Rattle.counting.proofs.Kept.{count_else}
use Rattle.counting.specs.Count.{count_supports_m}
use Rattle.index.proofs.Kept.{row_pairs}
use Rattle.loading.specs.Load.{load_m}
use Rattle.cells.specs.Memory.{Mem}
use Rattle.refinement.specs.Run.{fresh_tally}
use Rattle.cells.specs.View.{in_domain, is_worker, labels_between, counter_row, view_counter, view_lists, view, contents, held_of, list_messages_queue, out_queue, polls_queue, at_actor, rows_of, at_channel}
use Rattle.refinement.proofs.Actors.{actors_none, no_marks, row_of}
use Rattle.refinement.proofs.DeleteApart.{Apart}
use Rattle.refinement.proofs.LongerLists.{Longer, Both, both_none, both_more}
use Rattle.refinement.specs.Inv.{Small}
use Rattle.index.specs.Index.{Paired}
use Rattle.refinement.proofs.Counting.{counted_at}
use Rattle.refinement.proofs.InvKept.{paired_kept}
use Rattle.refinement.proofs.LabelLoad.{list_step, list_apart, list_shows, list_both}
use Rattle.refinement.proofs.Labelwise.{unloaded_apart, Shows, walk_apart, walk_shows, walk_both, Local}
use Rattle.refinement.proofs.Listing.{load_walk}
use Rattle.refinement.proofs.Unmoved.{Unmoved}
use Rattle.refinement.proofs.ViewParts.{same_state}

-- the regions before the index are 0
abbrev pub Blank : Mem → Type 0
Blank z = (r a b : ℕ) → r < PAIRS → z r a b ≡ 0

-- no label is deleted by an actor that owns none
no_deletions : (sys : System) (k : ℕ) → ((x : ℕ) → x < sys.net.variables → eqb (sys.owner x) k ≡ false)
    → loaded_deletions sys k ≡ []
unfolding loaded_deletions labels_where
no_deletions sys k none_owned =
    gather_none sys.net.variables _
    (λ x h.
    gather_none (sys.net.size x) _
    (λ v l. cond_false (label x v ∷ []) [] (and_false_left (unsupported sys.net x v) (none_owned x h))))

module _ (sys : System) (small : Small sys) (z : Mem) (paired : Paired sys z) (blank : Blank z) where
  abbrev n : Mem
  n = load_m sys z

  -- the memory where all is counted, and no label is listed yet
  abbrev z₁ : Mem
  z₁ = count_supports_m sys z

  counted_pairs : (a b : ℕ) → z₁ PAIRS a b ≡ z PAIRS a b
  counted_pairs a b = (count_else sys z).kept PAIRS a b (omega arith)

  paired₁ : Paired sys z₁
  paired₁ = paired_kept z z₁ sys counted_pairs paired

  local : Local sys small (list_step sys) (λ x. sys.owner x - 1)
  local x v h l = list_apart sys x v

  -- beside the counters, what stands apart from all labels is left alone
  loaded_apart : (r a b : ℕ) → (r ≡ COUNTERS → ⊥)
      → ((x v : ℕ) → x < sys.net.variables → v < sys.net.size x → Apart sys z₁ (sys.owner x - 1) x v r a b)
      → load_m sys z r a b ≡ z r a b
  loaded_apart r a b d p =
      walk_apart sys small (list_step sys) (λ x. sys.owner x - 1) local z₁ paired₁ n (load_walk sys small z paired) r a b p
      ∙ (count_else sys z).kept r a b d

  -- each label's own cells
  loaded_shows : (x v : ℕ) → x < sys.net.variables → v < sys.net.size x
      → Shows sys z₁ x v (cond (unsupported sys.net x v) 0 LISTED) (support_count sys.net x v) (load_m sys z)
  loaded_shows x v h l =
      let s =
      walk_shows sys small (list_step sys) (λ x. sys.owner x - 1) local z₁ paired₁ n (load_walk sys small z paired) x v _ _ h l
      (list_shows sys x v z₁ (z₁ DOMAIN x v) (λ y. z₁ COUNTERS (counter_row z₁ x y) v)) in
      record {
        pairs = s.pairs;
        domain = s.domain;
        counter = λ y k.
            s.counter y k
            ∙ ap (λ (a : ℕ). z₁ COUNTERS a v) (row_pairs z z₁ x y (counted_pairs x y))
            ∙ counted_at sys small z paired x v y l k;
      }

  -- a row deletes at most as many labels as were loaded
  few_deleted : (i : ℕ) → i < sys.workers → length (loaded_deletions sys (suc i)) ≤ LABELROOM
  few_deleted i h =
      omega (
        arith,
        sum_part sys.workers (λ i. length (loaded_deletions sys (suc i))) i h,
        deletions_loaded sys small.sound.owned,
        load_size sys,
        small.few_labels,
      )

  -- the deleted labels stand on both lists of their owner's row
  pub loaded_both : (i : ℕ) → i < sys.workers → Both sys i z (load_m sys z) (loaded_deletions sys (suc i))
  unfolding loaded_deletions labels_where
  loaded_both i h =
      both_more sys i z z₁ n [] (loaded_deletions sys (suc i))
      (both_none sys i z z₁ (put WORKERS LOGEND (omega arith)) (put WORKERS TAIL (omega arith)) (λ d. put LOG d (omega arith))
      (λ d. put WORK d (omega arith)))
      (walk_both sys small (list_step sys) (λ x. sys.owner x - 1) local z₁ paired₁ n (load_walk sys small z paired) i
      (λ x v. cond (eqb (sys.owner x) (suc i) && unsupported sys.net x v) (label x v ∷ []) [])
      (λ x v k l m s. list_both sys x v small k l i m)
      (omega (arith, put WORKERS LOGEND (omega arith), blank WORKERS i LOGEND (omega arith), few_deleted i h))
      (omega (arith, put WORKERS TAIL (omega arith), blank WORKERS i TAIL (omega arith), few_deleted i h)))
    where
      put : (r b : ℕ) → (r ≡ COUNTERS → ⊥) → z₁ r i b ≡ z r i b
      put r b d = (count_else sys z).kept r i b d

  -- what else the view shows stays
  pub loaded_unmoved : Unmoved z (load_m sys z)
  loaded_unmoved = record {
    column = λ i b p. loaded_apart WORKERS i b (omega arith) (λ x v k l. omega arith);
    cursors = λ i b. loaded_apart CURSORS i b (omega arith) (λ x v k l. omega arith);
    bounds = λ i b. loaded_apart BOUNDS i b (omega arith) (λ x v k l. omega arith);
    out = λ i b. loaded_apart OUT i b (omega arith) (λ x v k l. omega arith);
    wanted = λ i b. loaded_apart WANTED i b (omega arith) (λ x v k l. omega arith);
    logs = λ i d p. absurd (omega (arith, blank WORKERS i LOGEND (omega arith)));
  }

  -- ---- the view, field by field

  -- the labels that are not deleted are in their domains
  pub domain_loaded : (x v : ℕ)
      → in_domain (load_m sys z) x v ≡ loaded sys.net x v && not (unsupported sys.net x v)
  domain_loaded x v = go (loaded sys.net x v) refl
    where
      put : (b : Bool) → eqb (cond b 0 LISTED) LISTED ≡ not b
      put true = refl
      put false = refl

      go : (b : Bool) → loaded sys.net x v ≡ b → in_domain n x v ≡ b && not (unsupported sys.net x v)
      go true e =
          ap (λ (d : ℕ). eqb d LISTED)
          (loaded_shows x v (loaded_variable sys.net x v e) (loaded_value sys.net x v e)).domain
          ∙ put (unsupported sys.net x v)
      go false e =
          ap (λ (d : ℕ). eqb d LISTED)
          (loaded_apart DOMAIN x v (omega arith) (λ x'. unloaded_apart sys z₁ (sys.owner x' - 1) x v e x')
          ∙ blank DOMAIN x v (omega arith))

  -- the index stays
  pub pairs_loaded : (a b : ℕ) → load_m sys z PAIRS a b ≡ z PAIRS a b
  pairs_loaded a b = loaded_apart PAIRS a b (omega arith) (λ x v k l. omega arith)

  unlinked : (x v y : ℕ) → sys.net.linked x y ≡ false → support_count sys.net x v y ≡ 0
  unfolding supports
  unlinked x v y e =
      support_count_lem sys.net x v y
      ∙ sum_zero (sys.net.size y) (λ w. one (supports sys.net x v y w))
      (λ w h. ap one (and_false_left (sys.net.allows x v y w) e))

  counter_loaded : (x v y : ℕ) → view_counter sys n x v y ≡ loaded_counter sys.net x v y
  unfolding view_counter loaded_counter
  counter_loaded x v y = go (loaded sys.net x v) refl (sys.net.linked x y) refl
    where
      go : (a : Bool) → loaded sys.net x v ≡ a → (b : Bool) → sys.net.linked x y ≡ b
          → cond (a && b) (n COUNTERS (counter_row n x y) v) 0 ≡ cond a (support_count sys.net x v y) 0
      go true e true f =
          ap (λ (k : ℕ). n COUNTERS k v) (row_pairs z₁ n x y (pairs_loaded x y ∙ sym (counted_pairs x y)))
          ∙ (loaded_shows x v (loaded_variable sys.net x v e) (loaded_value sys.net x v e)).counter y f
      go true e false f = sym (unlinked x v y f)
      go false e b f = refl

  -- the lists of an actor, from a place of its row of region `q` to the end that a column keeps
  queue_loaded : (q col : ℕ) (from : ℕ → ℕ) → ((i : ℕ) → from i ≡ 0) → ((i : ℕ) → z WORKERS i col ≡ 0)
      → ((i : ℕ) → i < sys.workers → Longer sys q col i z n (loaded_deletions sys (suc i)))
      → (k : ℕ) → at_actor sys (λ i. labels_between n q i (from i) (n WORKERS i col)) [] k ≡ loaded_deletions sys k
  queue_loaded q col from start end grown k = go (is_worker sys k) refl
    where
      at_row : (i : ℕ) → i < sys.workers → labels_between n q i (from i) (n WORKERS i col) ≡ loaded_deletions sys (suc i)
      at_row i h =
          ap (λ (a : ℕ). labels_between n q i a (n WORKERS i col)) (start i)
          ∙ (grown i h).new 0 (omega arith)
          ∙ ap (λ (l : List Label). l ++ loaded_deletions sys (suc i))
          (labels_none z q i 0 (z WORKERS i col) (omega (arith, end i)))

      go : (b : Bool) → is_worker sys k ≡ b
          → cond b (labels_between n q (k - 1) (from (k - 1)) (n WORKERS (k - 1) col)) [] ≡ loaded_deletions sys k
      go true e = at_row (k - 1) (row_of sys k e).0 ∙ ap (loaded_deletions sys) (sym (row_of sys k e).1)
      go false e =
          sym (no_deletions sys k (λ x h.
          refuted (eqb (sys.owner x) k) (λ p. clash (owner_worker x h (eqb-true (sys.owner x) k p)) e)))
        where
          owner_worker : (x : ℕ) → x < sys.net.variables → sys.owner x ≡ k → is_worker sys k ≡ true
          owner_worker x h p =
              between_intro 1 sys.workers k (omega (arith, (small.sound.owned x h).above))
              (omega (arith, (small.sound.owned x h).within))

  -- a column other than the ends of the lists
  pub column_loaded : (i b : ℕ) → (b ≡ TAIL → ⊥) × (b ≡ LOGEND → ⊥) → n WORKERS i b ≡ 0
  column_loaded i b p = loaded_apart WORKERS i b (omega arith) (λ x v k l. omega arith) ∙ blank WORKERS i b (omega arith)

  held_loaded : (k : ℕ) → at_actor sys (held_of n) none k ≡ none
  held_loaded =
      actors_none sys (held_of n) none (λ i. cond_true none _ (eq-eqb (n WORKERS i HELD) 0 (column_loaded i HELD (omega arith))))

  lists_loaded : (k : ℕ) → view_lists sys n fresh_tally k ≡ 0
  unfolding view_lists
  lists_loaded k =
      cond_same (eqb k 0) _ _ 0 refl
      (actors_none sys (λ i. n WORKERS i LISTS) 0 (λ i. column_loaded i LISTS (omega arith)) k)

  no_list_messages : (i k : ℕ) → contents (list_messages_queue n i k) ≡ []
  no_list_messages i k = queue_none (list_messages_queue n i k) (omega (arith, column_loaded i SENDS (omega arith)))

  no_out : (i : ℕ) → contents (out_queue n i) ≡ []
  no_out i = queue_none (out_queue n i) (omega (arith, column_loaded i OUTEND (omega arith)))

  no_polls : (i : ℕ) → contents (polls_queue n fresh_tally i) ≡ []
  no_polls i = queue_none (polls_queue n fresh_tally i) (omega arith)

  channel_loaded : (j k : ℕ) → at_channel sys (rows_of n fresh_tally) j k ≡ []
  channel_loaded j k =
      cond_same (is_worker sys j) _ _ []
      (cond_same (is_worker sys k) _ _ [] (cond_same (eqb j k) _ _ [] refl (no_list_messages (j - 1) (k - 1)))
      (cond_same (eqb k 0) _ _ [] (no_out (j - 1)) refl))
      (cond_same (eqb j 0 && is_worker sys k) _ _ [] (no_polls (k - 1)) refl)

  -- loading in memory is loading
  pub load_refines : view sys (load_m sys z) fresh_tally ≡ load sys
  unfolding view load
  load_refines = same_state _ _ (record {
    domain = domain_loaded;
    counter = counter_loaded;
    work_list = queue_loaded WORK TAIL (λ i. n WORKERS i HEAD)
        (λ i. column_loaded i HEAD (omega arith)) (λ i. blank WORKERS i TAIL (omega arith))
        (λ i h. (loaded_both i h).work);
    to_send = queue_loaded LOG LOGEND (λ i. n BOUNDS i (n WORKERS i SENDS))
        (λ i. loaded_unmoved.bounds i (n WORKERS i SENDS) ∙ blank BOUNDS i (n WORKERS i SENDS) (omega arith))
        (λ i. blank WORKERS i LOGEND (omega arith)) (λ i h. (loaded_both i h).log);
    held = held_loaded;
    list_counter = lists_loaded;
    channel = channel_loaded;
    controller = λ ι. record { timestamp = 0; poll_open = false; marked = λ k. no_marks sys k ι; closed = false };
  })
