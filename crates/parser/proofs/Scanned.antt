-- What the scan knows behind the sections that passed, and how one section more changes it.
use Prim.Native.Nat.{ℕ, suc, ◌+◌, ◌-◌, ◌<◌, ◌≤◌, min}
use mathlib.Core.Bool.{false}
use mathlib.Core.Logic.{⊎_elim}
use mathlib.Core.List.{List}
use mathlib.Core.Option.{none, some}
use mathlib.Core.Path.{◌≡◌, sym, ◌∙◌, ap, subst}
use borrow.Author.Tests.{leb-true, le-leb, lt-leb, ne_eqb}
use native.Mathlib.Decide.{ℕ_discrete, dec_lt}
use native.Mathlib.Numerals.{add-one}
use native.Mathlib.Omega.{arith}
use lib.ListN.{length, set, get_or}
use lib.Seq.{get_or-set_same, get_or-set_other}
use Rattle.base.proofs.Below.{below_cases, first_at_lem, first_more}
use Rattle.base.proofs.Bools.{clash}
use Rattle.base.proofs.Choice.{between_intro}
use Rattle.base.specs.Below.{first_below}
use Rattle.base.specs.Choice.{between}
use Rattle.format.specs.Format.{behind, section_start, constraint_start, variable_count, section_count, numbered_size}
use Rattle.format.specs.Limits.{max_variables, max_values, max_labels}
use Rattle.format.specs.Version.{max_size}
use Rattle.format.proofs.Widths.{size_range}
use Rattle.plan.proofs.SectionSays.{VariableSays, variable_says}
use Rattle.plan.proofs.Head.{head_fits}
use Rattle.plan.proofs.Sections.{passed_before, start_within}
use Rattle.faults.specs.CheckList.{first_fault, fault_at}
use Rattle.plan.specs.Check.{labels_to, constraint_checks, section_checks, section_fault}
use Rattle.network.specs.Network.{label_count}
use Rattle.plan.proofs.PlanCounts.{labels_read}
use Rattle.plan.specs.Decode.{trailing_fault, sections_fault, plan_of}
use Rattle.plan.specs.Network.{network_of}
use Rattle.faults.specs.declared.Decline.{Decline}
use Rattle.sections.specs.Known.{VariablesKnown, start_count}
use Rattle.touching.specs.Touching.{Touching}
use Rattle.parser.specs.Known.{PassedBefore, labels_before, constraints_before}
use Rattle.plan.specs.Answer.{check_of}
use Rattle.std.specs.Prelude.{Err}

-- the section behind section k starts where that one ends
pub next_start : (b : List ℕ) (k at next : ℕ) → at ≡ section_start b k → next ≡ behind b at → next ≡ section_start b (k + 1)
unfolding section_start
next_start b k at next e p = rw add-one (p ∙ ap (behind b) e)

-- before the first section there are no labels
pub labels_none : (b : List ℕ) → 0 ≡ labels_before b 0
labels_none b = ap (labels_to b) none_yet
  where
    none_yet : 0 ≡ min (0 - 1) (variable_count b)
    none_yet = omega arith

-- other sections have none
pub labels_same : (b : List ℕ) (k : ℕ) {n : ℕ} → variable_count b ≡ n → between 1 n k ≡ false → labels_before b k ≡ labels_before b (k + 1)
labels_same b k {n} r h = ap (labels_to b) same
  where
    same : min (k - 1) (variable_count b) ≡ min (k + 1 - 1) (variable_count b)
    same = elim (dec_lt k 1) [
      | yes p ↦ omega arith
      | no p ↦ elim (dec_lt n k) [
        | yes q ↦ omega arith
        | no q ↦ absurd (clash (between_intro 1 n k (omega arith) (omega arith)) h)
      ]
    ]

-- up to a variable's section they are those of the variables up to it
pub labels_to_lem : (b : List ℕ) (k : ℕ) {n : ℕ} → n ≡ variable_count b → k ≤ n → labels_before b (k + 1) ≡ labels_to b k
labels_to_lem b k r h = ap (labels_to b) same
  where
    same : min (k + 1 - 1) (variable_count b) ≡ k
    same = omega arith

-- before the first section no constraint touches a pair
pub touching_none : (b : List ℕ) {rows : List ℕ} {pairs : ℕ} → Touching b 0 rows pairs → Touching b (constraints_before b 0) rows pairs
touching_none b {rows} {pairs} = subst (λ (c : ℕ). Touching b c rows pairs) (omega arith)

-- up to the last variable there is no constraint
module _ (b : List ℕ) (k : ℕ) {n : ℕ} (r : n ≡ variable_count b) where
  pub touching_same : {rows : List ℕ} {pairs : ℕ} → k ≤ n → Touching b (constraints_before b k) rows pairs
      → Touching b (constraints_before b (k + 1)) rows pairs
  touching_same {rows} {pairs} h = subst (λ (c : ℕ). Touching b c rows pairs) (omega arith)

  -- behind it section k is that of one constraint more
  module _ (h : n < k) where
    pub constraint_at_lem : (at : ℕ) → at ≡ section_start b k → at ≡ constraint_start b (constraints_before b k)
    constraint_at_lem at e = e ∙ ap (section_start b) (omega arith)

    pub constraint_more : suc (constraints_before b k) ≡ constraints_before b (k + 1)
    constraint_more = omega arith

    pub constraint_checks_lem : (at : ℕ) → at ≡ section_start b k → constraint_checks b (suc (constraints_before b k)) at ≡ section_checks b k
    unfolding section_checks
    constraint_checks_lem at e =
        let number : suc (constraints_before b k) ≡ k - variable_count b = omega arith in
        rw (ne_eqb k 0 (omega arith), lt-leb k (variable_count b) (omega arith), ← e, number)

-- behind the last section all labels are counted
pub labels_all : (b : List ℕ) (k labels : ℕ) → labels ≡ labels_before b k → k ≡ section_count b → labels ≡ label_count (network_of (plan_of b))
labels_all b k labels e p =
    let all : min (k - 1) (variable_count b) ≡ variable_count b = omega arith in
    e ∙ ap (labels_to b) all ∙ sym (labels_read b)

module _ (b starts : List ℕ) (k : ℕ) (known : PassedBefore b starts k) where
  passes : (i : ℕ) → i < k → first_fault (section_checks b i) ≡ none
  passes = passed_before b k known.passed

  few_variables : 0 < k → variable_count b ≤ max_variables
  unfolding section_checks
  few_variables h = (head_fits b (section_start b 0) (passes 0 h)).variables_high

  says : (s : ℕ) → 1 ≤ s → s ≤ variable_count b → s < k → VariableSays b s (section_start b s)
  unfolding section_checks
  says s l h p = variable_says b s (section_start b s) (rw (ne_eqb s 0 (omega arith), le-leb s (variable_count b) h) at (passes s p))

  few_values : (s : ℕ) → 1 ≤ s → s ≤ variable_count b → s < k → numbered_size b s ≤ max_values
  few_values s l h p = omega (arith, size_range b, leb-true (numbered_size b s) (max_size b) (says s l h p).few_values)

  -- the last variable's check counts the labels of all before it
  pub few_labels : labels_before b k ≤ max_labels
  few_labels =
      let last : ℕ = min (k - 1) (variable_count b) in
      elim (ℕ_discrete last 0) [
        | yes e ↦ omega (arith, ap (labels_to b) e)
        | no d ↦ leb-true (labels_to b last) max_labels (says last (omega arith) (omega arith) (omega arith)).few_labels
      ]

  -- behind the variables' sections, the variables are known
  pub variables_known : 0 < length b → variable_count b < k → VariablesKnown b starts
  variables_known h p =
      let few : variable_count b ≤ max_variables = few_variables (omega arith) in
      record {
        few = few;
        found = λ s l. known.found s (omega arith) (omega arith);
        within = λ s l. start_within b h s (λ i q. passes i (omega arith));
        small = λ s l r. few_values s l r (omega arith);
      }

  -- section k starts within the plan
  pub next_within : 0 < length b → section_start b k ≤ length b
  next_within h = start_within b h k passes

  -- section k passes too
  pub passed_more : (at : ℕ) → length starts ≡ start_count → at ≡ section_start b k → first_fault (section_checks b k) ≡ none
      → PassedBefore b (set starts k at) (k + 1)
  unfolding section_fault
  passed_more at n e p = record {
    passed = first_more k (section_fault b) known.passed (ap (fault_at (section_start b k)) p);
    found = λ i l h.
        ⊎_elim
        (λ q. ap (λ (j : ℕ). get_or (set starts k at) j 0) q ∙ get_or-set_same starts k at 0 (omega arith) ∙ e ∙ ap (section_start b) (sym q))
        (λ q. get_or-set_other starts k i at 0 (λ r. omega arith) ∙ known.found i q h)
        (below_cases (omega arith));
  }

  -- section k has the plan's first fault
  pub first_fault_lem : (n : ℕ) (d : Decline) → k < n → section_fault b k ≡ some d → first_below n (section_fault b) ≡ some d
  first_fault_lem n d h p = first_at_lem n (section_fault b) k d h known.passed p

  -- the answer of a plan whose first fault is in section k
  pub fault_answer : (n at : ℕ) (d : Decline) → n ≡ section_count b → k < n → at ≡ section_start b k
      → fault_at at (first_fault (section_checks b k)) ≡ some d → Err d ≡ check_of b (sections_fault b)
  unfolding check_of sections_fault section_fault
  fault_answer n at d c h e p = rw (first_fault_lem (section_count b) d (omega arith) (rw e at p))

  -- the answer of a plan whose sections all pass
  pub end_answer : k ≡ section_count b → check_of b (trailing_fault b) ≡ check_of b (sections_fault b)
  unfolding sections_fault
  end_answer e = rw (← e, known.passed)
