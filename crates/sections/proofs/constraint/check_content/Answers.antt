-- `sections::constraint::check_content` gives the first fault behind a constraint's first two variables, in the order of the checks,
-- and takes its pairs in. Assumes nothing.
use Prim.Native.Nat.{ℕ, suc, ◌≤◌}
use borrow.Author.Tests.{le-leb, lt-leb, eq-eqb, ne_eqb}
use mathlib.Core.Bool.{true}
use mathlib.Core.List.{List}
use mathlib.Core.Path.{◌≡◌}
use native.Mathlib.Omega.{arith}
use lib.ListN.{drop}
use Rattle.faults.proofs.Branches.{holds, fails, Stage, begin, next}
use Rattle.faults.specs.CheckList.{Check}
use Rattle.format.specs.Limits.{max_further}
use Rattle.plan.specs.Check.{constraint_checks}
use Rattle.sections.proofs.Verdicts.{judged_fails}
use Rattle.sections.proofs.constraint.check_content.Goals as goal
use Rattle.sections.proofs.constraint.check_content.Goals.{After-constraint_length-called_for, After-further_in_order, After-has_count, After-table_fits-fits}

-- the checks of constraint n from the fifth on, from where the reads are done
abbrev checks : ℕ → After-constraint_length-called_for → List Check
checks n r = let a = r.args in drop 4 (constraint_checks a.plan.now (suc n) a.at)

-- what has passed is handed on as facts of what was read, so that a stage asks for these and not for the way to it
module _ (n : ℕ) where
  abbrev roomy : (c : After-has_count) → c.has_count.result ≡ true → Stage (checks n)
  unfolding constraint_checks
  roomy c p = next (begin (checks n) (goal.at.After-has_count c).After-constraint_length-called_for) (rw (holds c.has_count.ensures p))

  abbrev counted : (c : After-has_count) → c.has_count.result ≡ true → c.further_count-further.result ≤ max_further → Stage (checks n)
  unfolding constraint_checks
  counted c p q = next (roomy c p) (rw (← c.further_count-further.ensures.0, le-leb _ max_further q))

  abbrev exact : (c : After-has_count) → c.has_count.result ≡ true → c.further_count-further.result ≤ max_further
      → c.word_at-length.result ≡ c.constraint_length-called_for.result → Stage (checks n)
  unfolding constraint_checks
  exact c p q r =
      next (counted c p q) (rw (← c.word_at-length.ensures.0, ← c.constraint_length-called_for.ensures, eq-eqb _ _ r))

  abbrev ordered : (c : After-further_in_order) → c.has_count.result ≡ true → c.further_count-further.result ≤ max_further
      → c.word_at-length.result ≡ c.constraint_length-called_for.result → c.further_in_order.result ≡ true → Stage (checks n)
  unfolding constraint_checks
  ordered c p q r o =
      next (exact (goal.at.After-further_in_order c).After-has_count p q r) (rw (holds c.further_in_order.ensures o))

  abbrev fitting : (c : After-table_fits-fits) → c.has_count.result ≡ true → c.further_count-further.result ≤ max_further
      → c.word_at-length.result ≡ c.constraint_length-called_for.result → c.further_in_order.result ≡ true
      → c.table_fits-fits.result ≡ true → Stage (checks n)
  unfolding constraint_checks
  fitting c p q r o f =
      next (ordered (goal.at.After-table_fits-fits c).After-further_in_order p q r o) (rw (holds c.table_fits-fits.ensures f))

pub returns-then-not-has_count : goal.returns-then-not-has_count
unfolding constraint_checks
returns-then-not-has_count c n e known = judged_fails _ _ _ _ _ _ (rw (fails c.has_count.ensures c.if-not-has_count.true))

pub returns-then-further-gt-MAX_FURTHER : goal.returns-then-further-gt-MAX_FURTHER
unfolding constraint_checks
returns-then-further-gt-MAX_FURTHER c n e known =
    let s = roomy n (goal.at.returns-then-further-gt-MAX_FURTHER c).After-has_count (cc) in
    judged_fails _ _ _ _ _ _ (rw (s.past, ← c.further_count-further.ensures.0, lt-leb _ max_further c.if-further-gt-MAX_FURTHER.true))

pub returns-then-length-called_for : goal.returns-then-length-called_for
unfolding constraint_checks
returns-then-length-called_for c n e known =
    let s = counted n (goal.at.returns-then-length-called_for c).After-has_count (cc) (omega arith) in
    judged_fails _ _ _ _ _ _
    (rw (s.past, ← c.word_at-length.ensures.0, ← c.constraint_length-called_for.ensures, ne_eqb _ _ c.if-length-called_for.true))

pub returns-then-not-further_in_order : goal.returns-then-not-further_in_order
unfolding constraint_checks
returns-then-not-further_in_order c n e known =
    judged_fails _ _ _ _ _ _ (rw ((exact n (goal.at.returns-then-not-further_in_order c).After-has_count (cc) (omega arith) (omega arith)).past, fails c.further_in_order.ensures c.if-not-further_in_order.true))

pub returns-then-not-fits : goal.returns-then-not-fits
unfolding constraint_checks
returns-then-not-fits c n e known =
    judged_fails _ _ _ _ _ _ (rw ((ordered n (goal.at.returns-then-not-fits c).After-further_in_order (cc) (omega arith) (omega arith) (cc)).past, fails c.table_fits-fits.ensures c.if-not-fits.true))

pub returns-then-not-few : goal.returns-then-not-few
unfolding constraint_checks
returns-then-not-few c n e known =
    judged_fails _ _ _ _ _ _
    (rw ((fitting n (goal.at.returns-then-not-few c).After-table_fits-fits (cc) (omega arith) (omega arith) (cc) (cc)).past, fails (c.few_pairs-few.ensures n e known).0 c.if-not-few.true))

pub returns : goal.returns
unfolding constraint_checks
returns c n e known =
    let few = c.few_pairs-few.ensures n e known in
    record {
      verdict = rw ((fitting n (goal.at.returns c).After-table_fits-fits (cc) (omega arith) (omega arith) (cc) (cc)).past, holds few.0 c.if-not-few.false);
      touching = λ p. few.1 c.if-not-few.false;
    }
