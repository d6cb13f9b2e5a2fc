-- `sections::constraint::check_constraint` gives the first fault of a constraint's section, in the order of its checks, and takes its
-- pairs in. Assumes nothing.
use Prim.Native.Nat.{ℕ, suc, ◌≤◌}
use borrow.Author.Tests.{le-leb, lt-leb}
use mathlib.Core.List.{List}
use mathlib.Core.Path.{◌≡◌, sym, ◌∙◌}
use mathlib.Core.Bool.{true}
use native.Mathlib.Omega.{arith}
use Rattle.faults.proofs.Branches.{holds, fails, Stage, begin, next}
use Rattle.faults.specs.CheckList.{Check}
use Rattle.plan.specs.Check.{constraint_checks}
use Rattle.sections.proofs.Verdicts.{judged_fails}
use Rattle.sections.proofs.constraint.check_constraint.Goals as goal
use Rattle.sections.proofs.constraint.check_constraint.Goals.{After-complete, After-max_kind-most, After-variables_in_order}

-- the checks of constraint n, from where the reads are done
abbrev checks : ℕ → After-max_kind-most → List Check
checks n r = let a = r.args in constraint_checks a.plan.now (suc n) a.at

-- what has passed is handed on as facts of what was read, so that a stage asks for these and not for the way to it
module _ (n : ℕ) where
  abbrev whole : (c : After-complete) → c.complete.result ≡ true → Stage (checks n)
  unfolding constraint_checks
  whole c p = next (begin (checks n) (goal.at.After-complete c).After-max_kind-most) (rw (holds c.complete.ensures p))

  abbrev roomy : (c : After-complete) → c.complete.result ≡ true → 3 ≤ c.word_at-length.result → Stage (checks n)
  unfolding constraint_checks
  roomy c p q = next (whole c p) (rw (← c.word_at-length.ensures.0, le-leb 3 _ q))

  abbrev known : (c : After-complete) → c.complete.result ≡ true → 3 ≤ c.word_at-length.result
      → c.kind-kind.result ≤ c.max_kind-most.result → Stage (checks n)
  unfolding constraint_checks
  known c p q r = next (roomy c p q) (rw (← c.kind-kind.ensures.0, ← c.max_kind-most.ensures, le-leb c.kind-kind.result _ r))

  abbrev ordered : (c : After-variables_in_order) → c.complete.result ≡ true → 3 ≤ c.word_at-length.result
      → c.kind-kind.result ≤ c.max_kind-most.result → c.variables_in_order.result ≡ true → Stage (checks n)
  unfolding constraint_checks
  ordered c p q r o =
      next (known (goal.at.After-variables_in_order c).After-complete p q r) (rw (holds c.variables_in_order.ensures o))

pub returns-then-not-complete : goal.returns-then-not-complete
unfolding constraint_checks
returns-then-not-complete c n e t = judged_fails _ _ _ _ _ _ (rw (fails c.complete.ensures c.if-not-complete.true))

pub returns-then-length-lt3 : goal.returns-then-length-lt3
unfolding constraint_checks
returns-then-length-lt3 c n e t =
    let s = whole n (goal.at.returns-then-length-lt3 c).After-complete (cc) in
    judged_fails _ _ _ _ _ _ (rw (s.past, ← c.word_at-length.ensures.0, lt-leb 3 _ c.if-length-lt3.true))

pub returns-then-most-kind : goal.returns-then-most-kind
unfolding constraint_checks
returns-then-most-kind c n e t =
    let s = roomy n (goal.at.returns-then-most-kind c).After-complete (cc) (omega arith) in
    judged_fails _ _ _ _ _ _
    (rw (s.past, ← c.kind-kind.ensures.0, ← c.max_kind-most.ensures, lt-leb c.kind-kind.result _ c.if-most-kind.true))

pub returns-then-not-variables_in_order : goal.returns-then-not-variables_in_order
unfolding constraint_checks
returns-then-not-variables_in_order c n e t =
    judged_fails _ _ _ _ _ _ (rw ((known n (goal.at.returns-then-not-variables_in_order c).After-complete (cc) (omega arith) (omega arith)).past, fails c.variables_in_order.ensures c.if-not-variables_in_order.true))

pub returns : goal.returns
unfolding constraint_checks ordered
returns c n e t =
    let content = c.check_content.ensures n e t in
    record { verdict = content.verdict ∙ sym (ordered n (goal.at.returns c).After-variables_in_order (cc) (omega arith) (omega arith) (cc)).past; touching = content.touching }
