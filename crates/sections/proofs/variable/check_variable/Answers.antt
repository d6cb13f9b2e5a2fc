-- `sections::variable::check_variable` gives the first fault of a variable's section, in the order of its checks. Assumes nothing.
use Prim.Native.Nat.{ℕ, ◌+◌, ◌*◌, ◌≤◌}
use mathlib.Core.Bool.{true}
use native.Mathlib.Omega.{arith}
use borrow.Author.Tests.{le-leb, lt-leb, eq-eqb, ne_eqb}
use mathlib.Core.List.{List}
use mathlib.Core.Path.{◌≡◌}
use Rattle.format.specs.Limits.{max_labels}
use Rattle.faults.proofs.Branches.{holds, fails, Stage, begin, next}
use Rattle.faults.specs.CheckList.{Check}
use Rattle.plan.specs.Check.{labels_to, variable_checks}
use Rattle.sections.proofs.variable.check_variable.Goals as goal
use Rattle.sections.proofs.variable.check_variable.Goals.{After-complete, After-max_size-most}

-- the checks, from where the reads are done
abbrev checks : ℕ → After-max_size-most → List Check
checks n r = let a = r.args in variable_checks a.plan.now n a.at

-- the labels are those up to variable n
abbrev Counts : ℕ → After-max_size-most → Type 0
Counts n r = let a = r.args in a.labels ≡ labels_to a.plan.now n

-- what has passed is handed on as facts of what was read, so that a stage asks for these and not for the way to it
module _ (n : ℕ) where
  abbrev whole : (c : After-complete) → c.complete.result ≡ true → Stage (checks n)
  unfolding variable_checks
  whole c p = next (begin (checks n) (goal.at.After-complete c).After-max_size-most) (rw (holds c.complete.ensures p))

  abbrev roomy : (c : After-complete) → c.complete.result ≡ true → 2 ≤ c.word_at-length.result → Stage (checks n)
  unfolding variable_checks
  roomy c p q = next (whole c p) (rw (← c.word_at-length.ensures.0, le-leb 2 _ q))

  abbrev counted : (c : After-complete) → c.complete.result ≡ true → 2 ≤ c.word_at-length.result
      → c.size-size.result ≤ c.max_size-most.result → Stage (checks n)
  unfolding variable_checks
  counted c p q r = next (roomy c p q) (rw (← c.size-size.ensures.0, ← c.max_size-most.ensures, le-leb c.size-size.result _ r))

  abbrev few : (c : After-complete) → c.complete.result ≡ true → 2 ≤ c.word_at-length.result
      → c.size-size.result ≤ c.max_size-most.result → c.args.labels ≤ max_labels → Counts n (goal.at.After-complete c).After-max_size-most
      → Stage (checks n)
  unfolding variable_checks
  few c p q r l e = next (counted c p q r) (rw (← e, le-leb c.args.labels max_labels l))

  abbrev exact : (c : After-complete) → c.complete.result ≡ true → 2 ≤ c.word_at-length.result
      → c.size-size.result ≤ c.max_size-most.result → c.args.labels ≤ max_labels → Counts n (goal.at.After-complete c).After-max_size-most
      → c.word_at-length.result ≡ 2 + 4 * c.size-size.result → Stage (checks n)
  unfolding variable_checks
  exact c p q r l e x = next (few c p q r l e) (rw (← c.word_at-length.ensures.0, ← c.size-size.ensures.0, eq-eqb _ _ x))

pub returns-then-not-complete : goal.returns-then-not-complete
unfolding variable_checks
returns-then-not-complete c n e = rw (fails c.complete.ensures c.if-not-complete.true)

pub returns-then-length-lt2 : goal.returns-then-length-lt2
unfolding variable_checks
returns-then-length-lt2 c n e =
    let s = whole n (goal.at.returns-then-length-lt2 c).After-complete (cc) in
    rw (s.past, ← c.word_at-length.ensures.0, lt-leb 2 _ c.if-length-lt2.true)

pub returns-then-most-size : goal.returns-then-most-size
unfolding variable_checks
returns-then-most-size c n e =
    let s = roomy n (goal.at.returns-then-most-size c).After-complete (cc) (omega arith) in
    rw (s.past, ← c.size-size.ensures.0, ← c.max_size-most.ensures, lt-leb _ _ c.if-most-size.true)

pub returns-then-labels-gt-MAX_LABELS : goal.returns-then-labels-gt-MAX_LABELS
unfolding variable_checks
returns-then-labels-gt-MAX_LABELS c n e =
    let s = counted n (goal.at.returns-then-labels-gt-MAX_LABELS c).After-complete (cc) (omega arith) (omega arith) in
    rw (s.past, ← e, lt-leb _ max_labels c.if-labels-gt-MAX_LABELS.true)

pub returns-then-length-called_for : goal.returns-then-length-called_for
unfolding variable_checks
returns-then-length-called_for c n e =
    let s = few n (goal.at.returns-then-length-called_for c).After-complete (cc) (omega arith) (omega arith) (omega arith) e in
    rw (s.past, ← c.word_at-length.ensures.0, ← c.size-size.ensures.0, ne_eqb _ _ c.if-length-called_for.true)

pub returns-then-not-between : goal.returns-then-not-between
unfolding variable_checks
returns-then-not-between c n e =
    let s = exact n (goal.at.returns-then-not-between c).After-complete (cc) (omega arith) (omega arith) (omega arith) e (omega arith) in
    rw (s.past, ← c.worker_count.ensures.0, ← c.owner.ensures.0, fails c.between.ensures c.if-not-between.true)

pub returns-then-repeats_code : goal.returns-then-repeats_code
unfolding variable_checks
returns-then-repeats_code c n e =
    let s = exact n (goal.at.returns-then-repeats_code c).After-complete (cc) (omega arith) (omega arith) (omega arith) e (omega arith) in
    let owned : c.between.result ≡ true = cc in
    rw (s.past, ← c.worker_count.ensures.0, ← c.owner.ensures.0, holds c.between.ensures owned, ← c.repeats_code.ensures, c.if-repeats_code.true)

pub returns : goal.returns
unfolding variable_checks
returns c n e =
    let s = exact n (goal.at.returns c).After-complete (cc) (omega arith) (omega arith) (omega arith) e (omega arith) in
    let owned : c.between.result ≡ true = cc in
    rw (s.past, ← c.worker_count.ensures.0, ← c.owner.ensures.0, holds c.between.ensures owned, ← c.repeats_code.ensures, c.if-repeats_code.false)
