-- `parser::scan::check_section` gives the first fault of a section, by its kind, and takes in what a constraint touches.
-- Assumes nothing.
use borrow.Author.Tests.{le-leb, eq-eqb, ne_eqb}
use mathlib.Core.Path.{refl, ◌∙◌, ap}
use native.Mathlib.Omega.{arith}
use Rattle.faults.specs.CheckList.{first_fault, verdict_of}
use Rattle.parser.proofs.Scanned.{variables_known, labels_to_lem, touching_same, constraint_at_lem, constraint_more, constraint_checks_lem}
use Rattle.plan.specs.Check.{section_checks}
use Rattle.parser.proofs.scan.check_section.Goals as goal

pub returns-then-k-eq0 : goal.returns-then-k-eq0
unfolding section_checks
returns-then-k-eq0 c =
    let a = c.args in
    record {
      verdict = rw (eq-eqb a.k 0 c.if-k-eq0.true, ← c.requires.1) c.check_head.ensures;
      touching = λ p. touching_same a.plan.now a.k refl (omega arith) c.requires.5;
    }

pub returns-then-k-variable_count : goal.returns-then-k-variable_count
unfolding section_checks
returns-then-k-variable_count c =
    let a = c.args in
    record {
      verdict =
          rw (
            ne_eqb a.k 0 c.if-k-eq0.false,
            ← c.variable_count.ensures.0,
            le-leb a.k _ c.if-k-variable_count.true,
            ← c.requires.1,
          )
          (c.check_variable.ensures a.k (c.requires.4 ∙ labels_to_lem a.plan.now a.k c.variable_count.ensures.0 c.if-k-variable_count.true));
      touching = λ p. touching_same a.plan.now a.k c.variable_count.ensures.0 c.if-k-variable_count.true c.requires.5;
    }

pub check_constraint-requires : goal.check_constraint-requires
check_constraint-requires c =
    let a = c.args in (
      variables_known a.plan.now a.starts.now a.k c.requires.0 c.requires.3
          (omega (arith, c.variable_count.ensures.0, c.if-k-variable_count.false)),
      c.requires.2,
      c.requires.5.few,
    )

pub returns : goal.returns
returns c =
    let a = c.args in
    let b = a.plan.now in
    let n = c.variable_count.ensures.0 in
    let behind = c.if-k-variable_count.false in
    let judged = c.check_constraint.ensures _ (constraint_at_lem b a.k n behind a.at c.requires.1) c.requires.5 in
    record {
      verdict = judged.verdict ∙ ap (λ cs. verdict_of (first_fault cs)) (constraint_checks_lem b a.k n behind a.at c.requires.1);
      touching = λ p. rw (constraint_more b a.k n behind) at (judged.touching p);
    }
