-- A constraint of a plan without fault fits.
use Prim.Native.Nat.{ℕ, suc, ◌+◌, ◌^◌, ◌<◌, ◌≤◌}
use mathlib.Core.Bool.{true}
use mathlib.Core.List.{List}
use mathlib.Core.Option.{none}
use mathlib.Core.Path.{◌≡◌, sym, ◌∙◌, ap}
use native.Mathlib.Omega.{arith}
use borrow.Author.Tests.{leb-true, ltb-true, eqb-true, ne_eqb}
use lib.Dec.{ltb, eqb}
use lib.ListN.{length, get_or}
use Rattle.base.proofs.Below.{all_below_lem, length_list_below, get_d_list_below}
use Rattle.base.proofs.Choice.{cond_true, cond_false, by_test}
use Rattle.base.specs.Below.{all_below, list_below}
use Rattle.base.specs.Bytes.{byte_at}
use Rattle.format.specs.Format.{constraint_start, constraint_count, first_at, second_at, kind_at, table_row_at, further_count, scope_size, scope_at, scope_of, numbered_size}
use Rattle.format.specs.Limits.{max_further}
use Rattle.plan.proofs.InOrder.{InOrder, ordered, Ascends, ascends, scope_length, scope_number, scope_first, scope_second}
use Rattle.plan.proofs.Parts.{variables_read, constraint_read, size_read}
use Rattle.plan.proofs.Passed.{constraint_passed}
use Rattle.plan.proofs.SectionSays.{ConstraintSays, constraint_says}
use Rattle.plan.specs.Check.{table_fits}
use Rattle.plan.specs.Decode.{plan_fault, relation_at, constraint_at, plan_of}
use Rattle.plan.specs.Plan.{table, size_of, constraint_of}
use Rattle.plan.specs.WellFormed.{ConstraintFits}

-- a relation is a table only where the kind is 0, and then its rows are those of the bytes
table_read : (b : List ℕ) (at : ℕ) (rows : List ℕ) → relation_at b at ≡ table rows
    → (eqb (kind_at b at) 0 ≡ true) × (rows ≡ list_below (numbered_size b (first_at b at)) (table_row_at b at))
unfolding relation_at
table_read b at rows e =
    by_test (eqb (kind_at b at) 0) e (λ p q. (p, cc)) (λ p q. let z : ◌≡◌ {A = ℕ} 0 1 = cc in absurd (omega arith))

-- only a set rule has further variables
pub no_further : (b : List ℕ) (at : ℕ) → (kind_at b at ≡ 2 → ⊥) → further_count b at ≡ 0
unfolding further_count
no_further b at h = cond_false (byte_at b (at + 7)) 0 (ne_eqb (kind_at b at) 2 h)

-- constraint c, in the section behind the variables and c more constraints
module _ (b : List ℕ) (None-found : plan_fault b ≡ none) (c : ℕ) (h : c < constraint_count b) where
  abbrev at : ℕ
  at = constraint_start b c

  abbrev first : ℕ
  first = first_at b at

  abbrev second : ℕ
  second = second_at b at

  says : ConstraintSays b (suc c) at
  says = constraint_says b (suc c) at (constraint_passed b None-found c h)

  -- the numbers of its first two variables are in order
  pub in_order : InOrder b at
  in_order = ordered b at says.in_order

  -- and those of all of them
  pub in_scope_order : Ascends b at
  in_scope_order = ascends b at says.in_order says.further_in_order_lem

  -- there are not many
  pub few_further : further_count b at ≤ max_further
  few_further = leb-true (further_count b at) max_further says.few_further

  -- a number of its scope, as a list
  number : (i : ℕ) → i < length (scope_of b at) → (i < scope_size b at) × (get_or (scope_of b at) i 0 ≡ scope_at b at i)
  number i l =
      let k : i < scope_size b at = omega (arith, scope_length b at) in
      (k, scope_number b at i k)

  row_each : (rows : List ℕ) → relation_at b at ≡ table rows → (x : ℕ) → get_or (scope_of b at) 0 0 ≡ suc x
      → length rows ≡ size_of (plan_of b) x
  row_each rows e x p =
      let q : first ≡ suc x = sym (scope_first b at) ∙ sym (scope_number b at 0 (omega arith)) ∙ p in
      ap length (table_read b at rows e).1 ∙ length_list_below (numbered_size b first) (table_row_at b at)
      ∙ ap (numbered_size b) q ∙ sym (size_read b x (omega (arith, in_order)))

  rows_fit : (rows : List ℕ) → relation_at b at ≡ table rows → (y : ℕ) → get_or (scope_of b at) 1 0 ≡ suc y
      → (v : ℕ) → v < length rows → get_or rows v 0 < 2 ^ size_of (plan_of b) y
  unfolding table_fits
  rows_fit rows e y p v q =
      let s : second ≡ suc y = sym (scope_second b at) ∙ sym (scope_number b at 1 (omega arith)) ∙ p in
      let is : rows ≡ list_below (numbered_size b first) (table_row_at b at) = (table_read b at rows e).1 in
      let k : v < numbered_size b first = omega (arith, ap length is, length_list_below (numbered_size b first) (table_row_at b at)) in
      let fits : all_below (numbered_size b first) (λ v. ltb (table_row_at b at v) (2 ^ numbered_size b second)) ≡ true =
      sym
      (cond_true (all_below (numbered_size b first) (λ v. ltb (table_row_at b at v) (2 ^ numbered_size b second))) true
      (table_read b at rows e).0)
      ∙ says.bits_fit in
      let row : get_or rows v 0 ≡ table_row_at b at v =
      ap (λ (l : List ℕ). get_or l v 0) is ∙ get_d_list_below (numbered_size b first) (table_row_at b at) 0 v k in
      let size : size_of (plan_of b) y ≡ numbered_size b second =
      size_read b y (omega (arith, in_order)) ∙ ap (numbered_size b) (sym s) in
      rw (row, size)
      (ltb-true (table_row_at b at v) (2 ^ numbered_size b second)
      (all_below_lem (numbered_size b first) (λ v. ltb (table_row_at b at v) (2 ^ numbered_size b second)) fits v k))

  -- a table has no further variables
  table_two : (rows : List ℕ) → relation_at b at ≡ table rows → length (scope_of b at) ≡ 2
  table_two rows e =
      let kind : kind_at b at ≡ 0 = eqb-true (kind_at b at) 0 (table_read b at rows e).0 in
      omega (arith, scope_length b at, no_further b at (λ k. omega arith))

  -- its variables, its rows and their bits are as the plan asks
  pub constraint_fits : ConstraintFits (plan_of b) (constraint_of (plan_of b) c)
  unfolding constraint_at
  constraint_fits =
      rw (constraint_read b c h)
      (record {
        two = omega (arith, scope_length b at);
        few = omega (arith, scope_length b at, few_further);
        low = λ i l. rw (number i l).1 (in_scope_order.low i (number i l).0);
        ascending = λ i j k l.
            rw ((number i (omega arith)).1, (number j l).1) (in_scope_order.ascending i j k (number j l).0);
        high = λ i l. rw ((number i l).1, variables_read b) (in_scope_order.high i (number i l).0);
        table_two = table_two;
        row_each = row_each;
        rows_fit = rows_fit;
      })
