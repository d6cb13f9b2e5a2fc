-- `supports::support_row` gives the row of supports. Invariant: the row holds the values that the limits and the tables so far
-- permit; the measure is the next table, since a chain goes down. Assumes nothing.
use Prim.Native.Nat.{ℕ, suc, ◌+◌, ◌-◌, ◌*◌, ◌<◌, ◌≤◌}
use borrow.Author.Tests.{ltb-false}
use lib.Dec.{ltb}
use mathlib.Core.Bool.{Bool, true, ◌||◌, not}
use mathlib.Core.List.{List}
use mathlib.Core.Path.{◌≡◌, refl, sym, ◌∙◌, ap, ap₂, subst}
use native.Mathlib.Numerals.{add-one}
use native.Mathlib.Omega.{arith}
use Rattle.base.proofs.Below.{at_suc}
use Rattle.base.proofs.Bools.{and_left, and_right}
use Rattle.base.specs.Below.{all_below}
use Rattle.base.specs.Row.{bit, row_of}
use Rattle.format.specs.Format.{section_start, variable_count, constraint_count, figure_at}
use Rattle.format.specs.Limits.{max_variables, max_constraints, max_pairs}
use Rattle.format.specs.Version.{row_bytes}
use Rattle.cells.proofs.Ranges.{may_get}
use Rattle.cells.specs.Memory.{mem_of}
use Rattle.index.proofs.Along.{along_over, table_accepts, limit_accepts, limits_judge}
use Rattle.index.proofs.Inside.{values_inside, column_inside}
use Rattle.index.proofs.Labels.{located, label_in_row}
use Rattle.index.proofs.Linked.{linked_over, linked_inside, supports_allowed}
use Rattle.index.proofs.Nearest.{last_low}
use Rattle.index.proofs.Places.{few_sections}
use Rattle.index.specs.Index.{table_over, table_below, any_over, within_lowest, lowest_limited}
use Rattle.plan.specs.Decode.{plan_of}
use Rattle.plan.specs.Network.{pair_allowed}
use Rattle.plan.specs.Plan.{size_of}
use Rattle.rows.proofs.Accepted.{accepts_at, table_accepts_lem}
use Rattle.rows.specs.Permits.{table_permits, over, is_table, Placed}
use Rattle.supports.proofs.Left.{Left, left_start, left_next, left_all}
use Rattle.supports.proofs.support_row.Goals as goal
use Rattle.supports.proofs.support_row.Goals.{After-get-next-in-loop-next, After-get-pair, After-place-at, Start}

module _ (s : Start) where
  few : (variable_count s.args.plan.now ≤ max_variables) × (constraint_count s.args.plan.now ≤ max_constraints)
  few = few_sections s.args.plan.now s.requires.0.sound

  inside : s.args.y < variable_count s.args.plan.now
  inside = (linked_inside s.args.plan.now s.requires.0.sound s.args.x s.args.y s.requires.2).1

  linked : any_over s.args.plan.now s.args.x s.args.y ≡ true
  linked = sym (linked_over s.args.plan.now s.args.x s.args.y) ∙ s.requires.2

pub overflow_add-y : goal.overflow_add-y
overflow_add-y c =
    omega (arith, few (goal.at.overflow_add-y c).Start, inside (goal.at.overflow_add-y c).Start)

pub place-there-requires : goal.place-there-requires
place-there-requires c =
    (located c.args.plan.now c.args.cells.now c.requires.0, omega (arith, inside (goal.at.place-there-requires c).Start))

pub size-values-requires : goal.size-values-requires
size-values-requires c =
    (c.requires.0, inside (goal.at.size-values-requires c).Start)

pub get-pair-requires : goal.get-pair-requires
get-pair-requires c =
    may_get _ _ _ refl _ (omega (arith, few (goal.at.get-pair-requires c).Start, c.requires.1.variable, inside (goal.at.get-pair-requires c).Start, c.requires.0.long))

-- the pair's number, once it is read, and what was read before it
module _ (g : After-get-pair) where
  abbrev plan-of : List ℕ
  plan-of = g.args.plan.now

  here-placed : Placed plan-of g.place-here.result (suc g.args.x)
  here-placed = subst (Placed plan-of _) (add-one g.args.x) g.place-here.ensures

  there-placed : Placed plan-of g.place-there.result (suc g.args.y)
  there-placed = subst (Placed plan-of _) (add-one g.args.y) g.place-there.ensures

  pair_low : g.get-pair.result ≤ max_pairs
  pair_low = omega (arith, g.get-pair.ensures.0, g.requires.0.index.few g.args.x g.args.y)

  -- the lowest limit of the pair judges as all limits do
  judged : (w : ℕ) → w < g.size-values.result
      → lowest_limited plan-of (mem_of g.args.cells.now) g.get-pair.result g.place-here.result g.args.v g.place-there.result w
      ≡ all_below (constraint_count plan-of) (limit_accepts plan-of g.args.x g.args.v g.args.y w)
  unfolding lowest_limited
  judged w h =
      let a = g.args in
      let b = plan-of in
      let m = mem_of a.cells.now in
      let f = figure_at b (section_start b (suc a.x)) a.v in
      let e = figure_at b (section_start b (suc a.y)) w in
      ap₂ (λ (here there : ℕ). within_lowest m g.get-pair.result (figure_at b here a.v) (figure_at b there w)) here-placed.start there-placed.start
      ∙ ap (λ (p : ℕ). within_lowest m p f e) g.get-pair.ensures.0
      ∙ g.requires.0.index.limits a.x a.y (linked (goal.at.After-get-pair g).Start) f e
      ∙ sym
      (limits_judge b a.x a.v a.y w g.requires.0.sound g.requires.1
      (record { variable = inside (goal.at.After-get-pair g).Start; value = omega (arith, h, g.size-values.ensures) }))

pub limit_values-row-requires : goal.limit_values-row-requires
limit_values-row-requires c =
    let b = plan-of (goal.at.limit_values-row-requires c).After-get-pair in (
      pair_low (goal.at.limit_values-row-requires c).After-get-pair,
      omega (arith, (here-placed (goal.at.limit_values-row-requires c).After-get-pair).start, c.requires.1.value, values_inside b c.requires.0.sound c.args.x c.requires.1.variable),
      omega (arith, (there-placed (goal.at.limit_values-row-requires c).After-get-pair).start, c.size-values.ensures.0, values_inside b c.requires.0.sound c.args.y (inside (goal.at.limit_values-row-requires c).Start)),
      c.size-values.ensures.1,
      c.requires.0.long,
    )

pub loop-next-init : goal.loop-next-init
loop-next-init c =
    let a = c.args in
    left_start (plan-of (goal.at.loop-next-init c).After-get-pair) a.x a.v a.y c.size-values.result c.limit_values-row.result _ c.limit_values-row.ensures (judged (goal.at.loop-next-init c).After-get-pair)
    c.get-next.result
    (c.get-next.ensures.0 ∙ ap (mem_of a.cells.now _ 0) c.get-pair.ensures.0 ∙ c.requires.0.index.lasts a.x a.y (linked (goal.at.loop-next-init c).Start))

pub overflow_add-variables : goal.overflow_add-variables
overflow_add-variables c =
    omega (arith, few (goal.at.overflow_add-variables c).Start, c.loop-next.invariant.along.low, c.variable_count-variables.ensures)

-- the walk at the table that it has come to, and that table
module _ (c : After-place-at) where
  abbrev b : List ℕ
  b = plan-of (goal.at.After-place-at c).After-get-pair

  abbrev x : ℕ
  x = c.args.x

  abbrev v : ℕ
  v = c.args.v

  abbrev y : ℕ
  y = c.args.y

  abbrev k : ℕ
  k = c.loop-next.next - 1

  left : Left b x v y c.size-values.result c.loop-next.row (suc k)
  left = at_suc (Left b x v y c.size-values.result c.loop-next.row) c.loop-next.next c.loop-next-test.true c.loop-next.invariant

  at-placed : Placed b c.place-at.result (suc (variable_count b + k))
  at-placed =
      subst (Placed b c.place-at.result) (omega (arith, c.variable_count-variables.ensures, c.loop-next-test.true)) c.place-at.ensures

  table_here : table_over b x y k ≡ true
  table_here = along_over b x y k left.along

  at-over : over b x y k ≡ true
  unfolding table_over
  at-over = and_left (over b x y k) (is_table b k) table_here

  at_table : is_table b k ≡ true
  unfolding table_over
  at_table = and_right (over b x y k) (is_table b k) table_here

  -- its row holds the values that it accepts
  accepted : (r : ℕ) → ((w : ℕ) → w < c.size-values.result → bit r w ≡ table_permits b c.place-at.result (ltb x y) v w)
      → (w : ℕ) → w < c.size-values.result → bit r w ≡ table_accepts b x v y w k
  accepted r f w h =
      f w h ∙ ap (λ (at : ℕ). table_permits b at (ltb x y) v w) at-placed.start
      ∙ sym
      (table_accepts_lem b c.requires.0.sound k left.along.low x v y w at-over c.requires.1
      (record { variable = inside (goal.at.After-place-at c).Start; value = omega (arith, h, c.size-values.ensures) }) at_table)
      ∙ ap (λ (t : Bool). not t || accepts_at b x v y w k) (sym at_table)

pub permitted_values-row-requires : goal.permitted_values-row-requires
permitted_values-row-requires c =
    let sound = c.requires.0.sound in
    let label = c.requires.1 in
    record {
      section = (at-placed (goal.at.permitted_values-row-requires c).After-place-at).within;
      in_row = label_in_row (b (goal.at.permitted_values-row-requires c).After-place-at) sound (x (goal.at.permitted_values-row-requires c).After-place-at) (v (goal.at.permitted_values-row-requires c).After-place-at) label;
      few = c.size-values.ensures.1;
      rows_inside = λ l.
          omega (
            arith,
            (at-placed (goal.at.permitted_values-row-requires c).After-place-at).start,
            ap (λ (n : ℕ). row_bytes (b (goal.at.permitted_values-row-requires c).After-place-at) * n) c.size-values.ensures.0,
            column_inside (b (goal.at.permitted_values-row-requires c).After-place-at) sound (k (goal.at.permitted_values-row-requires c).After-place-at) (left (goal.at.permitted_values-row-requires c).After-place-at).along.low (x (goal.at.permitted_values-row-requires c).After-place-at) (y (goal.at.permitted_values-row-requires c).After-place-at) (at-over (goal.at.permitted_values-row-requires c).After-place-at) (ltb-false (x (goal.at.permitted_values-row-requires c).After-place-at) (y (goal.at.permitted_values-row-requires c).After-place-at) l) (at_table (goal.at.permitted_values-row-requires c).After-place-at),
          );
    }

pub get-next-requires-in-loop-next : goal.get-next-requires-in-loop-next
get-next-requires-in-loop-next c =
    may_get _ _ _ refl _ (omega (arith, few (goal.at.get-next-requires-in-loop-next c).Start, (left (goal.at.get-next-requires-in-loop-next c).After-place-at).along.low, c.requires.0.long))

follows : (c : After-get-next-in-loop-next)
    → c.get-next-in-loop-next.result ≡ table_below (b (goal.at.After-get-next-in-loop-next c).After-place-at) (x (goal.at.After-get-next-in-loop-next c).After-place-at) (y (goal.at.After-get-next-in-loop-next c).After-place-at) (k (goal.at.After-get-next-in-loop-next c).After-place-at)
follows c =
    c.get-next-in-loop-next.ensures.0 ∙ c.requires.0.index.nexts (k (goal.at.After-get-next-in-loop-next c).After-place-at) (left (goal.at.After-get-next-in-loop-next c).After-place-at).along.low (x (goal.at.After-get-next-in-loop-next c).After-place-at) (y (goal.at.After-get-next-in-loop-next c).After-place-at) (table_here (goal.at.After-get-next-in-loop-next c).After-place-at)

pub loop-next-smaller : goal.loop-next-smaller
loop-next-smaller c =
    omega (arith, follows (goal.at.loop-next-smaller c).After-get-next-in-loop-next, last_low (table_over (b (goal.at.loop-next-smaller c).After-place-at) (x (goal.at.loop-next-smaller c).After-place-at) (y (goal.at.loop-next-smaller c).After-place-at)) (k (goal.at.loop-next-smaller c).After-place-at), c.loop-next-test.true)

pub loop-next-preserved : goal.loop-next-preserved
loop-next-preserved c =
    let r = c.permitted_values-row in
    left_next (b (goal.at.loop-next-preserved c).After-place-at) (x (goal.at.loop-next-preserved c).After-place-at) (v (goal.at.loop-next-preserved c).After-place-at) (y (goal.at.loop-next-preserved c).After-place-at) c.size-values.result c.loop-next.row (k (goal.at.loop-next-preserved c).After-place-at) (left (goal.at.loop-next-preserved c).After-place-at) r.result
    (accepted (goal.at.loop-next-preserved c).After-place-at r.result r.ensures) c.get-next-in-loop-next.result (follows (goal.at.loop-next-preserved c).After-get-next-in-loop-next)

pub returns : goal.returns
returns c =
    let a = c.args in
    let b = a.plan.now in
    let n : c.loop-next.next ≡ 0 = omega (arith, c.loop-next-test.false) in
    left_all b a.x a.v a.y c.size-values.result c.loop-next.row (rw n at c.loop-next.invariant)
    ∙ ap (λ (k : ℕ). row_of k (pair_allowed (plan_of b) a.x a.v a.y)) c.size-values.ensures.0
    ∙ sym (supports_allowed b (size_of (plan_of b) a.y) a.x a.v a.y c.requires.2)
