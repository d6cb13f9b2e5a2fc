-- Laws by which the code of answer meets its definitions: what its stores and tests make of them.
use Prim.Native.Nat.{ℕ, ◌+◌, ◌<◌, ◌≤◌}
use mathlib.Core.Bool.{Bool, true, false, not}
use mathlib.Core.Option.{none, some}
use mathlib.Core.Path.{◌≡◌, sym}
use borrow.Author.Tests.{lt-ltb, ltb-true, le-leb, leb-true, eq-eqb, eqb-true, ne_eqb, eqb-false, not-true, not-false}
use lib.Dec.{eqb}
use Rattle.base.proofs.Bools.{and_left, and_right, and_intro, not_of, refuted}
use Rattle.base.proofs.Choice.{cond_true, cond_false}
use Rattle.disac4.specs.declared.ListCounter.{ListCounter}
use Rattle.disac4.specs.declared.Poll.{Poll}
use Rattle.cells.specs.Layout.{WORKERS, BOUNDS, OUT, WANTED, HEAD, TAIL, LOGEND, SENDS, LISTS, HELD, OUTEND, SENDROOM, OUTROOM, POLLROOM}
use Rattle.cells.specs.Memory.{Mem, store}
use Rattle.cells.specs.View.{poll_at}
use Rattle.answers.specs.Answers.{answered_with, answered_m, empty_m, may_answer, answer_m}

module _ (m m₁ m₂ m₃ : Mem) where
  pub answered : (i held outs : ℕ) → m₁ ≡ store m OUT i outs held → m₂ ≡ store m₁ WORKERS i OUTEND (outs + 1)
      → m₃ ≡ store m₂ WORKERS i HELD 0 → m₃ ≡ answered_with i held outs m
  unfolding answered_with
  answered i held outs p₁ p₂ p₃ = rw (p₃, p₂, p₁)

pub held_as : (i : ℕ) (m : Mem) {number wanted : ℕ} → number ≡ m WORKERS i HELD → wanted ≡ m WANTED 0 number
    → record { number = record { 0 = number }; wanted = record { 0 = wanted } } ≡ poll_at m (m WORKERS i HELD)
unfolding poll_at
held_as i m q₁ q₂ = rw (q₂, q₁)

-- ---- both lists are empty

-- nothing to treat, and nothing behind the last list message
pub record Empty (i : ℕ) (m : Mem) : Type 0 where
  pub no_work : m WORKERS i HEAD ≡ m WORKERS i TAIL
  pub send_room : m WORKERS i SENDS < SENDROOM
  pub no_send : m BOUNDS i (m WORKERS i SENDS) ≡ m WORKERS i LOGEND

module _ (i : ℕ) (m : Mem) where
  -- the test taken apart
  pub empty_lists : empty_m i m ≡ true → Empty i m
  unfolding empty_m
  empty_lists e = search (and_left, and_right, ltb-true, eqb-true)

  -- where a part of it fails, it does
  pub some_left : (Empty i m → ⊥) → false ≡ empty_m i m
  some_left n = sym (refuted (empty_m i m) (λ e. n (empty_lists e)))

  -- what is left to test
  pub empty_by : {sends start end : ℕ} → m WORKERS i HEAD ≡ m WORKERS i TAIL → sends < SENDROOM → sends ≡ m WORKERS i SENDS
      → start ≡ m BOUNDS i sends → end ≡ m WORKERS i LOGEND → eqb start end ≡ empty_m i m
  unfolding empty_m
  empty_by e h p q r = rw (← p, ← q, ← r, eq-eqb _ _ e, lt-ltb _ _ h)

-- ---- answer

-- what an answer asks: a poll is held, both lists are empty, the count is the wanted one, and there is room for the reply
pub record MayAnswer (i : ℕ) (m : Mem) : Type 0 where
  pub holds : m WORKERS i HELD ≡ 0 → ⊥
  pub known : m WORKERS i HELD ≤ POLLROOM
  pub empty : empty_m i m ≡ true
  pub wanted : m WORKERS i LISTS ≡ m WANTED 0 (m WORKERS i HELD)
  pub out_room : m WORKERS i OUTEND < OUTROOM

module _ (i : ℕ) (m : Mem) where
  -- the test taken apart
  pub may_answer_lem : may_answer i m ≡ true → MayAnswer i m
  unfolding may_answer
  may_answer_lem e = search (and_left, and_right, ltb-true, leb-true, eqb-true, eqb-false, not-true)

  -- and put together: the reply is put
  pub answer_goes : MayAnswer i m → answer_m i m ≡ some (answered_m i m)
  unfolding answer_m may_answer
  answer_goes h = cond_true {b = may_answer i m} _ none (search (and_intro, not_of, ne_eqb, eq-eqb, lt-ltb, le-leb))

  -- where a part of the test fails, answering is idle
  pub answer_idle : (MayAnswer i m → ⊥) → answer_m i m ≡ none
  unfolding answer_m
  answer_idle n = cond_false _ none (refuted (may_answer i m) (λ e. n (may_answer_lem e)))

  -- it is put by what the code has got from the cells
  pub answered_from : {q : Poll} {outs : ℕ} {m' : Mem} → q ≡ poll_at m (m WORKERS i HELD) → outs ≡ m WORKERS i OUTEND
      → m' ≡ answered_with i q.number.0 outs m → m' ≡ answered_m i m
  unfolding answered_m poll_at
  answered_from p r e = rw (e, p, r)

-- the two counts that the code compares
module _ (i : ℕ) (m : Mem) {lists : ListCounter} {q : Poll} {differ : Bool} (p : lists.0 ≡ m WORKERS i LISTS)
    (r : q ≡ poll_at m (m WORKERS i HELD)) (e : differ ≡ not (eqb lists.0 q.wanted.0)) where
  pub counts_agree : differ ≡ false → m WORKERS i LISTS ≡ m WANTED 0 (m WORKERS i HELD)
  unfolding poll_at
  counts_agree h = eqb-true _ _ (not-false _ (rw (e, p, r) at h))

  pub counts_differ : differ ≡ true → m WORKERS i LISTS ≡ m WANTED 0 (m WORKERS i HELD) → ⊥
  unfolding poll_at
  counts_differ h = eqb-false _ _ (not-true _ (rw (e, p, r) at h))
