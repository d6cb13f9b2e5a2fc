-- In an accepted plan the values of each variable and the rows of each table end inside the plan, and so does each constraint's scope.
use Prim.Native.Nat.{ℕ, suc, ◌+◌, ◌*◌, ◌<◌, ◌≤◌}
use mathlib.Core.Bool.{true, cond}
use mathlib.Core.List.{List}
use mathlib.Core.Logic.{⊎_elim}
use mathlib.Core.Option.{none}
use mathlib.Core.Path.{◌≡◌, sym, ◌∙◌, ap}
use borrow.Author.Tests.{eqb-true, eq-eqb}
use native.Mathlib.Omega.{arith}
use lib.ListN.{length}
use Rattle.base.proofs.Choice.{cond_true}
use Rattle.base.specs.Bytes.{word_at}
use Rattle.format.specs.Format.{section_start, constraint_start, variable_count, constraint_count, size_at, first_at, kind_at, is_set, further_count, table_row_start, values_end, numbered_size}
use Rattle.format.specs.Version.{row_bytes}
use Rattle.index.proofs.Places.{few_sections, start_inside}
use Rattle.index.specs.Index.{Scoped}
use Rattle.plan.proofs.Constraints.{in_order, in_scope_order, few_further}
use Rattle.plan.proofs.Links.{joins_of}
use Rattle.plan.proofs.Parts.{size_read}
use Rattle.plan.proofs.Passed.{variable_passed, constraint_passed}
use Rattle.plan.proofs.SectionSays.{variable_says, constraint_says}
use Rattle.plan.specs.Check.{constraint_length}
use Rattle.plan.specs.Decode.{plan_fault, plan_of}
use Rattle.plan.specs.Plan.{size_of}
use Rattle.rows.proofs.Scopes.{over_sides, table_ends}
use Rattle.rows.specs.Permits.{over, is_table}

module _ (b : List ℕ) (sound : plan_fault b ≡ none) where
  -- the values of variable `x`
  pub values_inside : (x : ℕ) → x < variable_count b → values_end (section_start b (suc x)) (size_of (plan_of b) x) ≤ length b
  unfolding section_start
  values_inside x h =
      let at = section_start b (suc x) in
      omega (
        arith,
        start_inside b sound (suc (suc x)) (omega arith),
        eqb-true (word_at b at) (2 + 4 * size_at b at) (variable_says b (suc x) at (variable_passed b sound x h)).exact,
        size_read b x h,
      )

  module _ (c : ℕ) (h : c < constraint_count b) where
    abbrev at : ℕ
    at = constraint_start b c

    -- its scope, of variables that the cells have room for
    pub scoped : Scoped b at
    scoped =
        let order = in_scope_order b sound c h in
        record {
          section = start_inside b sound (suc (variable_count b + c)) (omega arith);
          few = few_further b sound c h;
          low = order.low;
          high = λ i l. omega (arith, order.high i l, few_sections b sound);
        }

    -- the rows of a table, one for each value of its first variable
    rows_inside : kind_at b at ≡ 0 → table_row_start b at (numbered_size b (first_at b at)) ≤ length b
    unfolding section_start constraint_length
    rows_inside k =
        omega (
          arith,
          start_inside b sound (suc (suc (variable_count b + c))) (omega arith),
          eqb-true (word_at b at) (constraint_length b at) (constraint_says b (suc c) at (constraint_passed b sound c h)).exact,
          cond_true (3 + row_bytes b * numbered_size b (first_at b at)) (cond (is_set b at) (6 + further_count b at) 5) (eq-eqb (kind_at b at) 0 k),
        )

    -- of a table over `x` and `y`, `y` its first, they are one for each value of `y`
    pub column_inside : (x y : ℕ) → over b x y c ≡ true → y ≤ x → is_table b c ≡ true → table_row_start b at (size_of (plan_of b) y) ≤ length b
    unfolding is_table
    column_inside x y o l t =
        let first : first_at b at ≡ suc y =
        ⊎_elim (λ q. absurd (omega (arith, joins_of _ x y q))) (λ q. (table_ends b sound c h t y x q).0) (over_sides b x y c o) in
        let size : numbered_size b (first_at b at) ≡ size_of (plan_of b) y =
        ap (numbered_size b) first ∙ sym (size_read b y (omega (arith, first, in_order b sound c h))) in
        omega (arith, rows_inside (eqb-true (kind_at b at) 0 t), ap (λ (n : ℕ). row_bytes b * n) size)
