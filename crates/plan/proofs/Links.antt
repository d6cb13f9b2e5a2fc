-- Which variables the plan's constraints link.
use Prim.Native.Nat.{ℕ, zero, suc, ◌<◌}
use mathlib.Core.Bool.{true, ◌&&◌, or_comm}
use mathlib.Core.List.{List}
use mathlib.Core.Logic.{◌⊎◌, inl, inr, ⊎_elim}
use mathlib.Core.Path.{◌≡◌, sym}
use native.Mathlib.Omega.{arith}
use borrow.Author.Tests.{ltb-true, lt-ltb, eqb-true, eq-eqb}
use lib.Dec.{ltb, eqb}
use lib.ListN.{length, get_or}
use Rattle.base.proofs.Bools.{and_left, and_right, and_intro, or_cases, or_left, bool_ext}
use Rattle.base.proofs.Members.{any_at, at_any, any_ext}
use Rattle.plan.specs.Network.{in_scope, joins, ties, share_constraint}
use Rattle.plan.specs.Plan.{Plan, Constraint, no_constraint, constraint_of}
use Rattle.plan.specs.WellFormed.{WellFormed}

-- a constraint over two variables is over them either way round
pub ties_turned : (c : Constraint) (x y : ℕ) → ties c x y ≡ ties c y x
unfolding ties
ties_turned c x y = or_comm (joins c.scope x y) (joins c.scope y x)

-- sharing a constraint goes both ways
pub linked_symmetric : (plan : Plan) (x y : ℕ) → share_constraint plan x y ≡ share_constraint plan y x
unfolding share_constraint
linked_symmetric plan x y =
    any_ext (λ c. ties c x y) (λ c. ties c y x) (λ c. ties_turned c x y) plan.constraints

module _ (scope : List ℕ) where
  -- a variable is in a scope where its number, which counts from 1, stands at some place of it
  pub scope_place : (x : ℕ) → in_scope scope x ≡ true → (i : ℕ) × (i < length scope) × (get_or scope i 0 ≡ suc x)
  unfolding in_scope
  scope_place x e =
      let r = any_at (eqb (suc x)) scope 0 e in
      (r.0, r.1, sym (eqb-true (suc x) (get_or scope r.0 0) r.2))

  pub place_scope : (x i : ℕ) → i < length scope → get_or scope i 0 ≡ suc x → in_scope scope x ≡ true
  unfolding in_scope
  place_scope x i h e =
      at_any (eqb (suc x)) scope 0 i h (eq-eqb (suc x) (get_or scope i 0) (sym e))

  -- two variables that a scope joins ascend and are both in it
  pub joins_of : (x y : ℕ) → joins scope x y ≡ true → (x < y) × (in_scope scope x ≡ true) × (in_scope scope y ≡ true)
  unfolding joins
  joins_of x y e =
      let both = and_left (ltb x y && in_scope scope x) (in_scope scope y) e in (
        ltb-true x y (and_left (ltb x y) (in_scope scope x) both),
        and_right (ltb x y) (in_scope scope x) both,
        and_right (ltb x y && in_scope scope x) (in_scope scope y) e,
      )

  -- and back
  pub of_joins : (x y : ℕ) → x < y → in_scope scope x ≡ true → in_scope scope y ≡ true → joins scope x y ≡ true
  unfolding joins
  of_joins x y l p q = and_intro (and_intro (lt-ltb x y l) p) q

  -- a scope of two joins those with its two numbers alone
  pub pair_joins : length scope ≡ 2 → get_or scope 0 0 < get_or scope 1 0 → (x y : ℕ) → joins scope x y ≡ true
      → (get_or scope 0 0 ≡ suc x) × (get_or scope 1 0 ≡ suc y)
  pair_joins two l x y e =
      let both = joins_of x y e in
      let p = scope_place x both.1 in
      let q = scope_place y both.2 in
      go p.0 q.0 (omega arith) (omega arith) p.2 q.2 both.0
    where
      go : (i j : ℕ) → i < 2 → j < 2 → get_or scope i 0 ≡ suc x → get_or scope j 0 ≡ suc y → x < y
          → (get_or scope 0 0 ≡ suc x) × (get_or scope 1 0 ≡ suc y)
      go zero zero h k p q less = absurd (omega arith)
      go zero (suc zero) h k p q less = (p, q)
      go zero (suc (suc j)) h k p q less = absurd (omega arith)
      go (suc zero) zero h k p q less = absurd (omega arith)
      go (suc zero) (suc zero) h k p q less = absurd (omega arith)
      go (suc zero) (suc (suc j)) h k p q less = absurd (omega arith)
      go (suc (suc i)) j h k p q less = absurd (omega arith)

-- where they ascend, a constraint over two variables has them in this order
pub ties_ascending : (c : Constraint) (x y : ℕ) → x < y → ties c x y ≡ joins c.scope x y
unfolding ties
ties_ascending c x y l =
    bool_ext (ties c x y) (joins c.scope x y)
    (λ e.
    ⊎_elim (λ p. p) (λ p. absurd (omega (arith, joins_of c.scope y x p)))
    (or_cases (joins c.scope x y) (joins c.scope y x) e))
    (or_left (joins c.scope y x))

-- the constraint at an index is one of the plan's, over `x` and then `y`
pub record Over (plan : Plan) (c x y : ℕ) : Type 0 where
  pub listed : c < length plan.constraints
  pub joined : joins (constraint_of plan c).scope x y ≡ true

-- a constraint over two variables links them
pub over_linked : (plan : Plan) (c x y : ℕ) → Over plan c x y → share_constraint plan x y ≡ true
unfolding share_constraint ties constraint_of
over_linked plan c x y o =
    at_any (λ c. ties c x y) plan.constraints no_constraint c o.listed
    (or_left (joins (constraint_of plan c).scope y x) o.joined)

-- and nothing else does
pub linked_by : (plan : Plan) (x y : ℕ) → share_constraint plan x y ≡ true → (c : ℕ) × (Over plan c x y ⊎ Over plan c y x)
unfolding share_constraint ties constraint_of
linked_by plan x y e =
    let r : (c : ℕ) × (c < length plan.constraints) × (ties (constraint_of plan c) x y ≡ true) =
    any_at (λ c. ties c x y) plan.constraints no_constraint e in
    let scope : List ℕ = (constraint_of plan r.0).scope in (
      r.0,
      ⊎_elim (λ p. inl (record { listed = r.1; joined = p })) (λ p. inr (record { listed = r.1; joined = p }))
          (or_cases (joins scope x y) (joins scope y x) r.2),
    )

-- a constraint's variables are two of a well-formed plan's, the first before the second
over_in_range : {most : ℕ} (plan : Plan) → WellFormed most plan → (c x y : ℕ) → Over plan c x y → (x < y) × (y < length plan.variables)
over_in_range plan fits c x y o =
    let scope : List ℕ = (constraint_of plan c).scope in
    let both = joins_of scope x y o.joined in
    let at = scope_place scope y both.2 in
    (both.0, omega (arith, (fits.each_constraint c o.listed).high at.0 at.1, at.2))

-- linked variables are two of a well-formed plan's
pub linked_in_range : {most : ℕ} (plan : Plan) → WellFormed most plan → (x y : ℕ) → share_constraint plan x y ≡ true
    → (x < length plan.variables) × (y < length plan.variables) × (x ≡ y → ⊥)
linked_in_range plan fits x y e =
    let r : (c : ℕ) × (Over plan c x y ⊎ Over plan c y x) = linked_by plan x y e in
    ⊎_elim (λ o. omega (arith, over_in_range plan fits r.0 x y o))
    (λ o. omega (arith, over_in_range plan fits r.0 y x o)) r.1
