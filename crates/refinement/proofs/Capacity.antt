-- Nothing overflows: every queue fits its row, because each label is deleted once and each list message holds one.
use Prim.Native.Nat.{ℕ, zero, suc, ◌+◌, ◌-◌, ◌<◌, ◌≤◌}
use mathlib.Core.Logic.{⊎_elim}
use mathlib.Core.Path.{◌≡◌, sym, ◌∙◌, ap}
use native.Mathlib.Decide.{ℕ_discrete}
use native.Mathlib.Nat.{le_refl}
use native.Mathlib.Omega.{arith}
use lib.Dec.{leb}
use Rattle.base.proofs.Bools.{decided}
use Rattle.base.proofs.Choice.{update_same, update_other, update_each}
use Rattle.base.proofs.Sums.{sum_change, sum_le, sum_part, sum_beside, count_more}
use Rattle.base.specs.Below.{sum_below}
use Rattle.base.specs.Choice.{update}
use Rattle.disac4.specs.System.{System}
use Rattle.cells.specs.Layout.{WORKERS, CURSORS, BOUNDS, OUT, WANTED, TAIL, LOGEND, SENDS, LISTS, HELD, OUTEND, OUTREAD, LABELROOM, LISTMARK}
use Rattle.cells.specs.Memory.{Mem}
use Rattle.controller.specs.Controller.{Machine}
use Rattle.refinement.specs.Inv.{Small, Inv, lists_out, remaining, accounted}

climbs : (f : ℕ → ℕ) (from d : ℕ) → ((n : ℕ) → from ≤ n → n < from + d → f n < f (n + 1)) → f from + d ≤ f (from + d)
climbs f from zero h = let e : from + 0 ≡ from = omega arith in omega (arith, ap f e)
climbs f from (suc d) h =
    let e : from + suc d ≡ from + d + 1 = omega arith in
    omega (arith, ap f e, h (from + d) (omega arith) (omega arith), climbs f from d (λ n p q. h n p (omega arith)))

-- numbers that rise from place to place are at least as far apart as their places
pub risen : (f : ℕ → ℕ) (n n' : ℕ) → n ≤ n' → ((k : ℕ) → n ≤ k → k < n' → f k < f (k + 1)) → f n + (n' - n) ≤ f n'
risen f n n' l h =
    let e : n + (n' - n) ≡ n' = omega arith in
    omega (arith, ap f e, climbs f n (n' - n) (λ k p q. h k p (omega arith)))

module _ (sys : System) (small : Small sys) (s : Machine) (inv : Inv sys s) where
  abbrev m : Mem
  m = s.mem

  -- ---- the log and its list messages

  -- the log's parts are in order
  bounds_apart : (i : ℕ) → i < sys.workers → (n n' : ℕ) → n ≤ n' → n' ≤ m WORKERS i SENDS
      → m BOUNDS i n + (n' - n) ≤ m BOUNDS i n'
  bounds_apart i h n n' l b = risen (m BOUNDS i) n n' l (λ k p q. (inv.rows i h).bounds_rise k (omega arith))

  -- each sent part ends within the log
  pub bound_logged : (i : ℕ) → i < sys.workers → (n : ℕ) → n ≤ m WORKERS i SENDS → m BOUNDS i n ≤ m WORKERS i LOGEND
  bound_logged i h n l =
      omega (arith, bounds_apart i h n (m WORKERS i SENDS) l (le_refl _), (inv.rows i h).last_bound)

  -- a list message holds at least one label
  pub sends_bound : (i : ℕ) → i < sys.workers → m WORKERS i SENDS ≤ m BOUNDS i (m WORKERS i SENDS)
  sends_bound i h =
      omega (arith, bounds_apart i h 0 (m WORKERS i SENDS) (omega arith) (le_refl _), (inv.rows i h).first_bound)

  logs_room : accounted sys m ≤ LABELROOM
  logs_room = omega (arith, inv.totals.logged, small.few_labels)

  sends_logged : (i : ℕ) → i < sys.workers → m WORKERS i SENDS ≤ m WORKERS i LOGEND
  sends_logged i h = omega (arith, sends_bound i h, (inv.rows i h).last_bound)

  sends_small : sum_below sys.workers (λ i. m WORKERS i SENDS) ≤ LABELROOM
  sends_small =
      omega (
        arith,
        logs_room,
        sum_le sys.workers (λ i. m WORKERS i SENDS) (λ i. m WORKERS i LOGEND) sends_logged,
      )

  -- the log has room for every label not deleted
  pub log_room : (i : ℕ) → i < sys.workers → m WORKERS i LOGEND + remaining sys m ≤ LABELROOM
  log_room i h = omega (arith, logs_room, sum_part sys.workers (λ i. m WORKERS i LOGEND) i h)

  -- the log fits its row
  pub logend_small : (i : ℕ) → i < sys.workers → m WORKERS i LOGEND ≤ LABELROOM
  logend_small i h = omega (arith, log_room i h)

  -- so do the list messages' bounds
  pub sends_few : (i : ℕ) → i < sys.workers → m WORKERS i SENDS ≤ LABELROOM
  sends_few i h = omega (arith, sends_logged i h, logend_small i h)

  -- ---- the work list

  -- how far row `i` has read the log of row `k`
  abbrev read : ℕ → ℕ → ℕ
  read i k = m BOUNDS k (m CURSORS k i)

  read_own : (i : ℕ) → i < sys.workers → read i i ≡ 0
  read_own i h = ap (m BOUNDS i) (inv.totals.own_cursor i h) ∙ (inv.rows i h).first_bound

  read_logged : (i k : ℕ) → i < sys.workers → k < sys.workers → read i k ≤ m WORKERS k LOGEND
  read_logged i k h l = bound_logged k l (m CURSORS k i) (inv.totals.cursor k i l h)

  -- the work list has room for every label not deleted
  pub tail_room : (i : ℕ) → i < sys.workers → m WORKERS i TAIL + remaining sys m ≤ LABELROOM
  tail_room i h =
      omega (
        arith,
        logs_room,
        inv.totals.pushed i h,
        sum_beside sys.workers (read i) (λ k. m WORKERS k LOGEND) i h (read_own i h) (λ k l. read_logged i k h l),
      )

  -- the work list fits its row
  pub tail_small : (i : ℕ) → i < sys.workers → m WORKERS i TAIL ≤ LABELROOM
  tail_small i h = omega (arith, tail_room i h)

  -- and has room for the next list message of another row
  pub list_room : (j i : ℕ) → j < sys.workers → i < sys.workers → (j ≡ i → ⊥)
      → m CURSORS j i < m WORKERS j SENDS
      → m WORKERS i TAIL + (m BOUNDS j (m CURSORS j i + 1) - m BOUNDS j (m CURSORS j i)) ≤ LABELROOM
  list_room j i hj hi n l =
      omega (
        arith,
        logs_room,
        inv.totals.pushed i hi,
        sum_change sys.workers (read i) next j hj (λ k p q. sym (update_other (read i) j end k q)),
        update_same (read i) j end,
        bounds_apart j hj (m CURSORS j i) (m CURSORS j i + 1) (omega arith) (omega arith),
        sum_beside sys.workers next (λ k. m WORKERS k LOGEND) i hi
            (update_other (read i) j end i (λ e. n (sym e)) ∙ read_own i hi) within,
      )
    where
      end : ℕ
      end = m BOUNDS j (m CURSORS j i + 1)

      next : ℕ → ℕ
      next = update (read i) j end

      within : (k : ℕ) → k < sys.workers → next k ≤ m WORKERS k LOGEND
      within k p =
          update_each (λ k n. k < sys.workers → n ≤ m WORKERS k LOGEND) (read i) j end
          (λ a. bound_logged j hj (m CURSORS j i + 1) (omega arith))
          (λ k d a. read_logged i k hi a) k p

  -- ---- counts of lists

  -- a row's list counter
  pub lists_few : (i : ℕ) → i < sys.workers → m WORKERS i LISTS ≤ LABELROOM
  lists_few i h =
      omega (
        arith,
        sends_small,
        inv.totals.counted i h,
        sum_beside sys.workers (λ j. m CURSORS j i) (λ j. m WORKERS j SENDS) i h (inv.totals.own_cursor i h)
            (λ j p. inv.totals.cursor j i p h),
      )

  -- the controller's
  pub lists_read_few : s.tally.lists.0 ≤ LABELROOM
  lists_read_few =
      omega (
        arith,
        sends_small,
        inv.totals.lists_read_lem,
        sum_le sys.workers (λ i. lists_out m i (m WORKERS i OUTREAD)) (λ i. m WORKERS i SENDS) part,
      )
    where
      part : (i : ℕ) → i < sys.workers → lists_out m i (m WORKERS i OUTREAD) ≤ m WORKERS i SENDS
      part i h =
          omega (
            arith,
            count_more (m WORKERS i OUTREAD) (m WORKERS i OUTEND) (λ e. leb LISTMARK (m OUT i e)) (inv.rows i h).out_read,
            inv.totals.all_out i h,
          )

  -- the messages to the controller fit their row
  pub outend_few : (i : ℕ) → i < sys.workers → m WORKERS i OUTEND ≤ LABELROOM + 1
  outend_few i h =
      ⊎_elim (λ p. omega (arith, lists_few i h)) (λ r. omega (arith, r.one_more, lists_few i h)) (inv.replied i h)

  -- ---- polls

  -- wanted counts rise, so there are at most as many polls as lists, and one
  pub timestamp_few : s.tally.timestamp.0 ≤ LABELROOM + 1
  timestamp_few =
      elim (ℕ_discrete s.tally.timestamp.0 0) [
        | yes e ↦ omega arith
        | no n ↦ ⊎_elim
            (λ p. omega (arith, wanted_high (omega arith), (inv.polled.wanted_open p).1, lists_read_few))
            (λ p. omega (arith, wanted_high (omega arith), inv.polled.wanted_ended p (omega arith), lists_read_few))
            (decided s.tally.polling)
      ]
    where
      wanted_high : 0 < s.tally.timestamp.0 → s.tally.timestamp.0 ≤ m WANTED 0 s.tally.timestamp.0 + 1
      wanted_high h =
          omega (arith, risen (m WANTED 0) 1 s.tally.timestamp.0 h (λ n p q. inv.polled.rises n (omega arith) q))

  -- the held poll is one that was sent
  pub held_few : (i : ℕ) → i < sys.workers → m WORKERS i HELD ≤ s.tally.timestamp.0
  held_few i h = omega (arith, (inv.rows i h).held_read, (inv.rows i h).polls_read)
