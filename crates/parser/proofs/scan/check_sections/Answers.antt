-- `parser::scan::check_sections` gives the first fault of the sections in turn, or what follows them.
-- Invariant: the sections before k passed, have so many labels and touch so many pairs, and section k starts at `at`. Assumes nothing.
use Prim.Native.Nat.{ℕ, ◌+◌, ◌≤◌}
use borrow.Author.Rules.{rules}
use mathlib.Core.List.{List}
use mathlib.Core.Path.{◌≡◌, refl, ◌∙◌, ap}
use native.Mathlib.Nat.{not-suc-le-zero}
use native.Mathlib.Omega.{arith}
use lib.ListN.{length-set}
use Rattle.format.specs.Format.{section_start, section_count}
use Rattle.parser.proofs.Scanned.{touching_none, labels_none, labels_all, few_labels, next_within, next_start, passed_more, fault_answer, end_answer}
use Rattle.faults.proofs.Placed.{placed_passes, placed_fails}
use Rattle.faults.specs.CheckList.{first_fault, verdict_of}
use Rattle.std.proofs.lemmas.Result.{err_from_is_err_and}
use Rattle.plan.specs.Check.{section_checks}
use Rattle.plan.specs.Decode.{plan_end}
use Rattle.parser.proofs.scan.check_sections.Goals as goal
use Rattle.parser.proofs.scan.check_sections.Goals.{At-loop-k}

module _ (at-loop : At-loop-k) where
  abbrev plan-of : List ℕ
  plan-of = at-loop.args.plan.now

  counted : at-loop.section_count-count.result ≡ section_count plan-of
  counted = at-loop.section_count-count.ensures.0

  -- the loop goes over as many sections as the head calls for
  ended : at-loop.section_count-count.result ≤ at-loop.loop-k.k → at-loop.loop-k.k ≡ section_count plan-of
  ended h = omega (arith, counted)

pub loop-k-init : goal.loop-k-init
unfolding section_start
loop-k-init c =
    let b = c.args.plan.now in record {
      passed = record { passed = refl; found = λ i l h. absurd (not-suc-le-zero l) };
      size = c.no_starts-starts.ensures;
      start = refl;
      within = c.requires;
      labels = labels_none b;
      touching = touching_none b (c.none-touched.ensures b);
    }

pub labels_with-labels-requires : goal.labels_with-labels-requires
labels_with-labels-requires c =
    let l = c.loop-k in
    let inv = l.invariant in
    (inv.start, inv.within, inv.labels, rw inv.labels (few_labels (plan-of (goal.at.labels_with-labels-requires c).At-loop-k) l.starts l.k inv.passed))

pub returns-in_err-map_err : goal.returns-in_err-map_err
returns-in_err-map_err c =
    let l = c.loop-k in
    let b = plan-of (goal.at.returns-in_err-map_err c).At-loop-k in
    let declined = err_from_is_err_and c.from_residual.result c.from_residual.ensures.1 in
    let fault = placed_fails l.at (first_fault (section_checks b l.k)) c.check_section.result c.check_section.ensures.verdict c.map_err.result
    c.map_err.ensures.cases (λ f d p. search rules) _ c.in_err-map_err.was in
    rw (declined.1, declined.2)
    (fault_answer b l.starts l.k l.invariant.passed _ l.at _ (counted (goal.at.returns-in_err-map_err c).At-loop-k) (omega arith) l.invariant.start fault)

pub loop-k-preserved : goal.loop-k-preserved
loop-k-preserved c =
    let l = c.loop-k in
    let b = plan-of (goal.at.loop-k-preserved c).At-loop-k in
    let passes = placed_passes l.at (first_fault (section_checks b l.k)) c.check_section.result c.check_section.ensures.verdict c.map_err.result
    c.map_err.ensures.cases (λ f d p. search rules) _ c.in_ok-map_err.was in
    let inv = l.invariant in
    let more = passed_more b l.starts l.k inv.passed l.at inv.size inv.start passes in
    let next = next_start b l.k l.at c.behind-at.result inv.start c.behind-at.ensures in record {
      passed = rw c.keep_start.ensures more;
      size = rw (c.keep_start.ensures, length-set) inv.size;
      start = next;
      within = rw next (next_within b _ (l.k + 1) more c.requires);
      labels = c.labels_with-labels.ensures;
      touching = c.check_section.ensures.touching (c.check_section.ensures.verdict ∙ ap verdict_of passes);
    }

pub check_end-requires : goal.check_end-requires
unfolding plan_end
check_end-requires c =
    let l = c.loop-k in
    let b = plan-of (goal.at.check_end-requires c).At-loop-k in (
      l.invariant.start ∙ ap (section_start b) (ended (goal.at.check_end-requires c).At-loop-k c.loop-k-test.false),
      labels_all b l.k l.labels l.invariant.labels (ended (goal.at.check_end-requires c).At-loop-k c.loop-k-test.false),
    )

pub returns : goal.returns
returns c =
    let l = c.loop-k in
    c.check_end.ensures
    ∙ end_answer (plan-of (goal.at.returns c).At-loop-k) l.starts l.k l.invariant.passed (ended (goal.at.returns c).At-loop-k c.loop-k-test.false)
