-- Which variables a constraint of an accepted plan is over: the members of its scope, two by two.
use Prim.Native.Nat.{ℕ, suc, ◌-◌, ◌<◌}
use mathlib.Core.Bool.{true}
use mathlib.Core.List.{List}
use mathlib.Core.Logic.{◌⊎◌}
use mathlib.Core.Option.{none}
use mathlib.Core.Path.{◌≡◌, sym, ◌∙◌, ap}
use native.Mathlib.Decide.{dec_lt}
use native.Mathlib.Omega.{arith}
use borrow.Author.Tests.{eqb-true}
use Rattle.base.proofs.Bools.{or_cases, or_left}
use Rattle.format.specs.Format.{constraint_start, constraint_count, variable_count, first_at, second_at, kind_at, scope_size, scope_at, scope_of}
use Rattle.plan.proofs.Constraints.{in_scope_order, no_further}
use Rattle.plan.proofs.InOrder.{Ascends, scope_length, scope_number, scope_first, scope_second}
use Rattle.plan.proofs.Links.{ties_turned, scope_place, place_scope, joins_of, of_joins}
use Rattle.plan.proofs.Parts.{constraint_read}
use Rattle.plan.specs.Decode.{plan_fault, plan_of, constraint_at}
use Rattle.plan.specs.Network.{in_scope, joins, ties}
use Rattle.plan.specs.Plan.{Constraint, constraint_of}
use Rattle.rows.specs.Permits.{over, is_table}

-- a constraint over two variables is over them either way round
pub over_turned : (b : List ℕ) (x y c : ℕ) → over b x y c ≡ over b y x c
unfolding over
over_turned b x y c = ties_turned (constraint_of (plan_of b) c) x y

-- its scope has the one before the other
abbrev pub JoinedBy : List ℕ → ℕ → ℕ → ℕ → Type 0
JoinedBy b c x y = joins (constraint_of (plan_of b) c).scope x y ≡ true

-- one of them comes first
pub over_sides : (b : List ℕ) (x y c : ℕ) → over b x y c ≡ true → JoinedBy b c x y ⊎ JoinedBy b c y x
unfolding over ties
over_sides b x y c = or_cases (joins (constraint_of (plan_of b) c).scope x y) (joins (constraint_of (plan_of b) c).scope y x)

pub side_over : (b : List ℕ) (x y c : ℕ) → JoinedBy b c x y → over b x y c ≡ true
unfolding over ties
side_over b x y c = or_left (joins (constraint_of (plan_of b) c).scope y x)

module _ (b : List ℕ) (None-found : plan_fault b ≡ none) (c : ℕ) (h : c < constraint_count b) where
  abbrev at : ℕ
  at = constraint_start b c

  order : Ascends b at
  order = in_scope_order b None-found c h

  scope_read : (constraint_of (plan_of b) c).scope ≡ scope_of b at
  unfolding constraint_at
  scope_read = ap (λ (k : Constraint). k.scope) (constraint_read b c h)

  -- the variable at a place of the scope
  abbrev pub member : ℕ → ℕ
  member i = scope_at b at i - 1

  -- members are variables of the plan
  pub member_low : (i : ℕ) → i < scope_size b at → member i < variable_count b
  member_low i l = omega (arith, order.low i l, order.high i l)

  -- and ascend
  pub members_ascend : (i j : ℕ) → i < j → j < scope_size b at → member i < member j
  members_ascend i j l k = omega (arith, order.low i (omega arith), order.ascending i j l k)

  -- each two of them are joined
  pub members_joined : (i j : ℕ) → i < j → j < scope_size b at → JoinedBy b c (member i) (member j)
  members_joined i j l k =
      rw scope_read (of_joins (scope_of b at) (member i) (member j) (members_ascend i j l k) (in_scope_lem i (omega arith)) (in_scope_lem j k))
    where
      in_scope_lem : (i : ℕ) → i < scope_size b at → in_scope (scope_of b at) (member i) ≡ true
      in_scope_lem i k =
          place_scope (scope_of b at) (member i) i (omega (arith, scope_length b at)) (scope_number b at i k ∙ omega (arith, order.low i k))

  -- and no others
  pub joined_members : (x y : ℕ) → JoinedBy b c x y
      → (i : ℕ) × (j : ℕ) × (i < j) × (j < scope_size b at) × (x ≡ member i) × (y ≡ member j)
  joined_members x y e =
      let both = joins_of (scope_of b at) x y (rw scope_read at e) in
      let p = scope_place (scope_of b at) x both.1 in
      let q = scope_place (scope_of b at) y both.2 in
      let k : p.0 < scope_size b at = omega (arith, scope_length b at) in
      let l : q.0 < scope_size b at = omega (arith, scope_length b at) in
      let is : scope_at b at p.0 ≡ suc x = sym (scope_number b at p.0 k) ∙ p.2 in
      let other : scope_at b at q.0 ≡ suc y = sym (scope_number b at q.0 l) ∙ q.2 in
      elim (dec_lt p.0 q.0) [
        | yes less ↦ (p.0, q.0, less, l, omega arith, omega arith)
        | no n ↦ elim (dec_lt q.0 p.0) [
          | yes more ↦ absurd (omega (arith, order.ascending q.0 p.0 more k, both.0))
          | no m ↦ let same : p.0 ≡ q.0 = omega arith in absurd (omega (arith, ap (scope_at b at) same, both.0))
        ]
      ]

  -- the first two among them
  pub ends_joined : JoinedBy b c (first_at b at - 1) (second_at b at - 1)
  ends_joined =
      rw (← scope_first b at, ← scope_second b at) (members_joined 0 1 (omega arith) (omega arith))

  -- a table has two members
  module _ (table : is_table b c ≡ true) where
    two : scope_size b at ≡ 2
    unfolding is_table
    two =
        let kind : kind_at b at ≡ 0 = eqb-true (kind_at b at) 0 table in
        omega (arith, no_further b at (λ e. omega arith))

    -- which are its first and its second variable
    pub table_ends : (x y : ℕ) → JoinedBy b c x y → (first_at b at ≡ suc x) × (second_at b at ≡ suc y)
    table_ends x y e =
        let r = joined_members x y e in
        let first : r.0 ≡ 0 = omega (arith, two) in
        let second : r.1 ≡ 1 = omega (arith, two) in (
          omega (arith, scope_first b at, ap (scope_at b at) first, order.low r.0 (omega arith)),
          omega (arith, scope_second b at, ap (scope_at b at) second, order.low r.1 (omega arith)),
        )
