-- Treating in memory is treating: the state that the memory stands for afterwards is the one of document 01.
use Prim.Native.Nat.{ℕ, suc, ◌+◌, ◌-◌, ◌<◌, ◌≤◌}
use mathlib.Core.Bool.{Bool, true, false, cond, ◌&&◌, not, and-false}
use mathlib.Core.List.{List, [], ◌∷◌, ◌++◌}
use mathlib.Core.Option.{some, map}
use mathlib.Core.Path.{◌≡◌, refl, sym, ◌∙◌, ap, subst}
use native.Mathlib.Decide.{ℕ_discrete}
use native.Mathlib.Omega.{arith}
use lib.Dec.{eqb}
use lib.ListN.{length}
use Rattle.base.proofs.Bools.{clash, refuted, and_left, and_right, and_false_left, and_true}
use Rattle.base.proofs.Choice.{cond_false}
use Rattle.base.specs.Choice.{update}
use Rattle.disac4.proofs.DomainSize.{treat_size}
use Rattle.disac4.specs.Action.{loses, lowered, deletes, deletions, after_treat, treat, treat_from}
use Rattle.disac4.specs.State.{State}
use Rattle.disac4.specs.System.{System}
use Rattle.disac4.specs.declared.Tally.{Tally}
use Rattle.network.proofs.Loaded.{loaded_variable, loaded_value}
use Rattle.network.specs.Network.{Label, label, loaded, labels_where, domain_size}
use Rattle.cells.proofs.Queue.{labels_same, read_queue, label_queue}
use Rattle.cells.proofs.Stores.{store_same, store_other}
use Rattle.cells.specs.Layout.{WORKERS, CURSORS, BOUNDS, LOG, WORK, OUT, WANTED, DOMAIN, COUNTERS, PAIRS, HEAD, TAIL, LOGEND, SENDS, LABELROOM, LISTED}
use Rattle.cells.specs.Memory.{Mem, store}
use Rattle.controller.specs.Controller.{Machine}
use Rattle.index.proofs.Kept.{row_pairs}
use Rattle.treating.proofs.TreatLaws.{treat_goes, treat_idle}
use Rattle.treating.specs.Treat.{touch_variables_m, treat_m}
use Rattle.cells.specs.View.{in_domain, label_of, labels_between, counter_row, view_counter, view, work_of, send_of}
use Rattle.refinement.proofs.Actors.{at_worker, actors_update}
use Rattle.refinement.proofs.Capacity.{log_room, tail_room, tail_small}
use Rattle.refinement.proofs.InvKept.{paired_kept}
use Rattle.refinement.proofs.DeleteApart.{Apart}
use Rattle.refinement.proofs.LongerLists.{Both}
use Rattle.refinement.specs.Inv.{Small, Inv}
use Rattle.index.specs.Index.{Paired}
use Rattle.refinement.proofs.Labelwise.{unloaded_apart, Shows, walk_apart, walk_shows, walk_both, Local}
use Rattle.refinement.proofs.Touching.{touch_label_m, touch_walk, touch_apart, touch_shows, touch_both}
use Rattle.refinement.proofs.Unmoved.{Unmoved, held_kept, lists_kept, channel_kept, same_bound}
use Rattle.refinement.proofs.ViewParts.{same_state}
use Rattle.refinement.proofs.Walking.{walk}

module _ (sys : System) (small : Small sys) (s : Machine) (inv : Inv sys s) (i : ℕ) (h : i < sys.workers)
    (busy : s.mem WORKERS i HEAD < s.mem WORKERS i TAIL) where
  abbrev m : Mem
  m = s.mem

  abbrev t : Tally
  t = s.tally

  abbrev head : ℕ
  head = m WORKERS i HEAD

  abbrev a : Label
  a = label_of (m WORK i head)

  abbrev st : State
  st = view sys m t

  -- the label is taken from the work list
  abbrev taken : Mem
  taken = store m WORKERS i HEAD (head + 1)

  -- and treated
  abbrev pub treated_m : Mem
  treated_m = touch_variables_m sys i a.variable a.value taken

  step : ℕ → ℕ → Mem → Mem
  step = touch_label_m sys i a.variable a.value

  walked : treated_m ≡ walk sys.net step taken
  unfolding step
  walked = touch_walk sys i a.variable a.value taken

  local : Local sys small step (λ x. i)
  unfolding step
  local x v k l = touch_apart sys i a.variable a.value t x v

  paired : Paired sys taken
  paired = paired_kept m taken sys (λ a b. refl) inv.paired

  -- what stands apart is left alone
  pub treated_apart : (r b c : ℕ)
      → ((x v : ℕ) → x < sys.net.variables → v < sys.net.size x → Apart sys taken i x v r b c)
      → treated_m r b c ≡ taken r b c
  treated_apart = walk_apart sys small step (λ x. i) local taken paired treated_m walked

  -- each label's own cells
  treated_shows : (x v : ℕ) → x < sys.net.variables → v < sys.net.size x
      → Shows sys taken x v (cond (deletes sys (suc i) a st x v) 0 (m DOMAIN x v)) (lowered sys (suc i) a st x v) treated_m
  unfolding step deletes lowered loses view view_counter counter_row
  treated_shows x v k l =
      walk_shows sys small step (λ x. i) local taken paired treated_m walked x v _ _ k l
      (touch_shows sys i a.variable a.value t small taken paired x v k l)

  -- as many labels are deleted as there is room for
  deleted_size : length (deletions sys (suc i) a st) ≤ domain_size sys.net st.domain
  deleted_size = omega (arith, treat_size sys (suc i) a st)

  room : (col : ℕ) → m WORKERS i col + domain_size sys.net st.domain ≤ LABELROOM
      → m WORKERS i col + length (deletions sys (suc i) a st) ≤ LABELROOM
  room col k = omega (arith, deleted_size)

  -- the deleted labels stand on both lists of the row
  pub treated_both : Both sys i taken treated_m (deletions sys (suc i) a st)
  unfolding step deletions labels_where deletes lowered loses view view_counter counter_row
  treated_both =
      walk_both sys small step (λ x. i) local taken paired treated_m walked i
      (λ x v. cond (deletes sys (suc i) a st x v) (label x v ∷ []) [])
      (λ x v k l n. touch_both sys i a.variable a.value t small taken paired x v k l n)
      (room LOGEND (log_room sys small s inv i h)) (room TAIL (tail_room sys small s inv i h))

  -- nothing else that the view shows has changed
  pub treated_unmoved : Unmoved m treated_m
  treated_unmoved = record {
    column = λ r b p.
        treated_apart WORKERS r b (λ x v k l. omega arith)
        ∙ store_other m WORKERS i HEAD (head + 1) WORKERS r b (λ e f. p.0);
    cursors = λ r b. treated_apart CURSORS r b (λ x v k l. omega arith);
    bounds = λ r b. treated_apart BOUNDS r b (λ x v k l. omega arith);
    out = λ r b. treated_apart OUT r b (λ x v k l. omega arith);
    wanted = λ r b. treated_apart WANTED r b (λ x v k l. omega arith);
    logs = λ r d p.
        elim (ℕ_discrete r i) [
          | yes e ↦
              subst (λ (r : ℕ). treated_m LOG r d ≡ m LOG r d) (sym e)
              (treated_both.log.old d (subst (λ (r : ℕ). d < m WORKERS r LOGEND) e p))
          | no n ↦ treated_apart LOG r d (λ x v k l. omega arith)
        ];
  }

  -- ---- the view, field by field

  -- the deleted labels are out of their domains
  pub domain_after : (x v : ℕ) → in_domain treated_m x v ≡ st.domain x v && not (deletes sys (suc i) a st x v)
  unfolding view
  domain_after x v = go (loaded sys.net x v) refl
    where
      kept : (b : Bool) (d : ℕ) → eqb (cond b 0 d) LISTED ≡ eqb d LISTED && not b
      kept true d = sym (and-false (eqb d LISTED))
      kept false d = sym (and_true (eqb d LISTED) refl)

      go : (b : Bool) → loaded sys.net x v ≡ b
          → in_domain treated_m x v ≡ in_domain m x v && not (deletes sys (suc i) a st x v)
      go true e =
          ap (λ (d : ℕ). eqb d LISTED)
          (treated_shows x v (loaded_variable sys.net x v e) (loaded_value sys.net x v e)).domain
          ∙ kept (deletes sys (suc i) a st x v) (m DOMAIN x v)
      go false e =
          let out : in_domain m x v ≡ false = refuted (in_domain m x v) (λ p. clash (inv.listed x v p) e) in
          ap (λ (d : ℕ). eqb d LISTED)
          (treated_apart DOMAIN x v (unloaded_apart sys taken i x v e))
          ∙ out
          ∙ sym (and_false_left (not (deletes sys (suc i) a st x v)) out)

  -- the index stays
  pub pairs_after : (b c : ℕ) → treated_m PAIRS b c ≡ m PAIRS b c
  pairs_after b c = treated_apart PAIRS b c (λ x v k l. omega arith)

  no_counter : (x v y : ℕ) → loaded sys.net x v && sys.net.linked x y ≡ false → lowered sys (suc i) a st x v y ≡ 0
  unfolding view view_counter lowered
  no_counter x v y e =
      nothing (loses sys (suc i) a st x v && eqb y a.variable) (st.counter x v y)
      (cond_false (m COUNTERS (counter_row m x y) v) 0 e)
    where
      nothing : (b : Bool) (c : ℕ) → c ≡ 0 → cond b (c - 1) c ≡ 0
      nothing true c e = omega arith
      nothing false c e = e

  counter_after : (x v y : ℕ) → view_counter sys treated_m x v y ≡ lowered sys (suc i) a st x v y
  unfolding view_counter
  counter_after x v y = go (loaded sys.net x v && sys.net.linked x y) refl
    where
      go : (b : Bool) → loaded sys.net x v && sys.net.linked x y ≡ b
          → cond b (treated_m COUNTERS (counter_row treated_m x y) v) 0 ≡ lowered sys (suc i) a st x v y
      go true e =
          let ld : loaded sys.net x v ≡ true = and_left (loaded sys.net x v) (sys.net.linked x y) e in
          ap (λ (k : ℕ). treated_m COUNTERS k v)
          (row_pairs taken treated_m x y (pairs_after x y))
          ∙ (treated_shows x v (loaded_variable sys.net x v ld) (loaded_value sys.net x v ld)).counter y
          (and_right (loaded sys.net x v) (sys.net.linked x y) e)
      go false e = sym (no_counter x v y e)

  abbrev rest : List Label
  rest = labels_between m WORK i (head + 1) (m WORKERS i TAIL)

  -- the label is no longer on the work list
  pub head_after : treated_m WORKERS i HEAD ≡ head + 1
  head_after = treated_apart WORKERS i HEAD (λ x v k l. omega arith) ∙ store_same m WORKERS i HEAD (head + 1)

  -- the other rows stay
  pub other_row : (j b : ℕ) → (j ≡ i → ⊥) → treated_m WORKERS j b ≡ m WORKERS j b
  other_row j b n =
      treated_apart WORKERS j b (λ x v k l. omega arith)
      ∙ store_other m WORKERS i HEAD (head + 1) WORKERS j b (λ e f g. n f)

  work_after : (k : ℕ) → (view sys treated_m t).work_list k ≡ update st.work_list (suc i) (rest ++ deletions sys (suc i) a st) k
  unfolding view
  work_after =
      actors_update sys (work_of m) (work_of treated_m) [] i (rest ++ deletions sys (suc i) a st) h
      (ap (λ (b : ℕ). labels_between treated_m WORK i b (treated_m WORKERS i TAIL)) head_after
      ∙ treated_both.work.new (head + 1) (omega arith)
      ∙ ap (λ (l : List Label). l ++ deletions sys (suc i) a st)
      (labels_same m taken WORK i (head + 1) (m WORKERS i TAIL) refl refl (λ d p q. refl)))
      (λ j k n.
      labels_same m treated_m WORK j (m WORKERS j HEAD) (m WORKERS j TAIL) (other_row j HEAD n) (other_row j TAIL n)
      (λ d p q. treated_apart WORK j d (λ x v k l. omega arith)))

  send_after : (k : ℕ)
      → (view sys treated_m t).to_send k ≡ update st.to_send (suc i) (st.to_send (suc i) ++ deletions sys (suc i) a st) k
  unfolding view
  send_after =
      actors_update sys (send_of m) (send_of treated_m) [] i (st.to_send (suc i) ++ deletions sys (suc i) a st) h
      (ap (λ (b : ℕ). labels_between treated_m LOG i b (treated_m WORKERS i LOGEND)) (same_bound sys m treated_m t treated_unmoved i)
      ∙ treated_both.log.new (m BOUNDS i (m WORKERS i SENDS)) (inv.rows i h).last_bound
      ∙ ap (λ (l : List Label). l ++ deletions sys (suc i) a st)
      (labels_same m taken LOG i (m BOUNDS i (m WORKERS i SENDS)) (m WORKERS i LOGEND) refl refl (λ d p q. refl)
      ∙ sym (at_worker sys (send_of m) [] i h)))
      (λ j k n.
      labels_same m treated_m LOG j (m BOUNDS j (m WORKERS j SENDS)) (m WORKERS j LOGEND)
      (same_bound sys m treated_m t treated_unmoved j) (other_row j LOGEND n)
      (λ d p q. treated_apart LOG j d (λ x v k l. omega arith)))

  -- the state that the memory stands for is the one after the treatment
  treated_view : view sys treated_m t ≡ after_treat sys (suc i) a rest st
  unfolding view after_treat
  treated_view = same_state _ _ (record {
    domain = domain_after;
    counter = counter_after;
    work_list = work_after;
    to_send = send_after;
    held = held_kept sys m treated_m t treated_unmoved;
    list_counter = lists_kept sys m treated_m t treated_unmoved;
    channel = channel_kept sys small s inv treated_m treated_unmoved;
    controller = refl;
  })

  -- the turn is not idle
  treat_busy : treat_m sys i s.mem ≡ some treated_m
  treat_busy =
      treat_goes sys i m refl refl (record { untreated = busy; head_room = omega (arith, tail_small sys small s inv i h) })

-- treating in memory is treating
pub treat_refines : (sys : System) → Small sys → (s : Machine) → Inv sys s → (i : ℕ) → i < sys.workers
    → map (λ m'. view sys m' s.tally) (treat_m sys i s.mem) ≡ treat sys (suc i) (view sys s.mem s.tally)
unfolding view treat labels_between
treat_refines sys small s inv i h =
    read_queue (treat_from sys (suc i) (view sys m s.tally)) (label_queue m WORK i head tail)
    (label_queue m WORK i (head + 1) tail) _ (λ n p q. refl) refl refl
    (λ busy.
    ap (map (λ m'. view sys m' s.tally)) (treat_busy sys small s inv i h busy)
    ∙ ap some (treated_view sys small s inv i h busy))
    (λ idle. ap (map (λ m'. view sys m' s.tally)) (treat_idle sys i m (λ has. omega (arith, has.untreated))))
    ∙ ap (treat_from sys (suc i) (view sys m s.tally)) (sym (at_worker sys (work_of m) [] i h))
  where
    m : Mem
    m = s.mem

    head : ℕ
    head = m WORKERS i HEAD

    tail : ℕ
    tail = m WORKERS i TAIL
