-- Laws by which the code of the reads meets its definitions: what their stores and tests make of them.
use Prim.Native.Nat.{ℕ, ◌+◌, ◌-◌, ◌<◌, ◌≤◌}
use mathlib.Core.Bool.{true}
use mathlib.Core.Option.{none, some}
use mathlib.Core.Path.{◌≡◌}
use native.Mathlib.Omega.{arith}
use borrow.Author.Tests.{lt-ltb, le-ltb, le-leb, ltb-true, leb-true}
use Rattle.base.proofs.Bools.{and_left, and_right, and_intro, refuted}
use Rattle.base.proofs.Choice.{cond_true, cond_false}
use Rattle.cells.proofs.Pushing.{copy_none}
use Rattle.cells.specs.Layout.{WORKERS, CURSORS, BOUNDS, SENDS, LISTS, POLLS, LABELROOM, SENDROOM, LISTSMAX}
use Rattle.cells.specs.Queues.{copy_m}
use Rattle.cells.specs.Memory.{Mem, store}
use Rattle.reads.specs.Reads.{list_end, taken_with, taken_m, has_list, read_list_m, held_m, read_poll_m}

module _ (m m₁ m₂ m₃ : Mem) where
  pub taken : (j i read from to lists : ℕ) → m₁ ≡ copy_m j i from (to - from) m → m₂ ≡ store m₁ CURSORS j i (read + 1)
      → m₃ ≡ store m₂ WORKERS i LISTS (lists + 1) → m₃ ≡ taken_with j i read from to lists m
  unfolding taken_with
  taken j i read from to lists p₁ p₂ p₃ = rw (p₃, p₂, p₁)

-- nothing stands between two places the wrong way round
pub copied_none : (j i from to : ℕ) (m : Mem) → to < from → m ≡ copy_m j i from (to - from) m
copied_none j i from to m h = copy_none j i from (to - from) m (omega arith)

-- what the read of a list message asks: one that is not read, and room for its labels and its count
pub record HasList (j i : ℕ) (m : Mem) : Type 0 where
  pub unread : m CURSORS j i < m WORKERS j SENDS
  pub bound_room : m CURSORS j i < SENDROOM
  pub label_room : list_end j i m ≤ LABELROOM
  pub count_room : m WORKERS i LISTS < LISTSMAX

module _ (j i : ℕ) (m : Mem) where
  -- the test taken apart
  pub has_list_lem : has_list j i m ≡ true → HasList j i m
  unfolding has_list
  has_list_lem e = search (and_left, and_right, ltb-true, leb-true)

  -- and put together: the list message is read
  pub list_goes : HasList j i m → read_list_m j i m ≡ some (taken_m j i m)
  unfolding read_list_m has_list
  list_goes h = cond_true {b = has_list j i m} _ none (search (and_intro, lt-ltb, le-leb))

  -- where a part of the test fails, the read is idle
  pub list_idle : (HasList j i m → ⊥) → read_list_m j i m ≡ none
  unfolding read_list_m
  list_idle n = cond_false _ none (refuted (has_list j i m) (λ e. n (has_list_lem e)))

  -- it is read by what the code has got from the cells
  pub taken_from : {read from to lists : ℕ} {m' : Mem} → read ≡ m CURSORS j i → from ≡ m BOUNDS j read
      → to ≡ m BOUNDS j (read + 1) → lists ≡ m WORKERS i LISTS → m' ≡ taken_with j i read from to lists m → m' ≡ taken_m j i m
  unfolding taken_m
  taken_from p q r l e = rw (e, q, r, p, l)

module _ (i n : ℕ) (m : Mem) {polls : ℕ} (q : polls ≡ m WORKERS i POLLS) where
  pub read_no_poll : n ≤ polls → read_poll_m i n m ≡ none
  unfolding read_poll_m
  read_no_poll h = rw (← q, le-ltb polls n h)

  pub read_holds : polls < n → read_poll_m i n m ≡ some (held_m i (polls + 1) m)
  unfolding read_poll_m
  read_holds h = rw (← q, lt-ltb polls n h)
