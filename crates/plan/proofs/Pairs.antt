-- Which pairs the plan's constraints allow: all constraints over the same two variables act together.
use Prim.Native.Nat.{ℕ, ◌<◌}
use mathlib.Core.Bool.{true, not}
use mathlib.Core.Logic.{⊎_elim}
use mathlib.Core.Path.{◌≡◌}
use lib.ListN.{length}
use Rattle.base.proofs.Bools.{decided, and_left, and_right, and_intro, or_left, or_right, or_second, not_of, not_of_true, bool_ext}
use Rattle.base.proofs.Members.{all_at, at_all}
use Rattle.plan.proofs.Links.{Over}
use Rattle.plan.specs.Network.{permits, joins, spares, accepts, pair_allowed}
use Rattle.plan.specs.Plan.{Plan, no_constraint, constraint_of}

-- each constraint over `x` and then `y` permits value `v` of the one with value `w` of the other
abbrev pub EachPermits : Plan → ℕ → ℕ → ℕ → ℕ → Type 0
EachPermits plan x v y w = (c : ℕ) → Over plan c x y → permits plan (constraint_of plan c).relation x v y w ≡ true

module _ (plan : Plan) (x v y w : ℕ) where
  spares_each : ((c : ℕ) → c < length plan.constraints → spares plan (constraint_of plan c) x v y w ≡ true)
      → EachPermits plan x v y w
  unfolding spares
  spares_each f c o =
      or_second (permits plan (constraint_of plan c).relation x v y w)
      (not_of_true o.joined) (f c o.listed)

  each_spares : EachPermits plan x v y w → (c : ℕ) → c < length plan.constraints
      → spares plan (constraint_of plan c) x v y w ≡ true
  unfolding spares
  each_spares f c h =
      ⊎_elim (λ e. or_right (not (joins (constraint_of plan c).scope x y)) (f c (record { listed = h; joined = e })))
      (λ e. or_left (permits plan (constraint_of plan c).relation x v y w) (not_of e))
      (decided (joins (constraint_of plan c).scope x y))

module _ (plan : Plan) (x v y w : ℕ) where
  -- an allowed pair is permitted by each constraint over its two variables, whichever comes first
  pub allowed_each : pair_allowed plan x v y w ≡ true → EachPermits plan x v y w × EachPermits plan y w x v
  unfolding pair_allowed accepts constraint_of
  allowed_each e = (
    spares_each plan x v y w (λ c h. and_left _ (spares plan (constraint_of plan c) y w x v) (accepted c h)),
    spares_each plan y w x v (λ c h. and_right (spares plan (constraint_of plan c) x v y w) _ (accepted c h)),
  )
    where
      accepted : (c : ℕ) → c < length plan.constraints → accepts plan (constraint_of plan c) x v y w ≡ true
      accepted = all_at (λ c. accepts plan c x v y w) plan.constraints no_constraint e

  -- a pair that each constraint over its two variables permits is allowed
  pub each_allowed : EachPermits plan x v y w → EachPermits plan y w x v → pair_allowed plan x v y w ≡ true
  unfolding pair_allowed accepts constraint_of
  each_allowed p q =
      at_all (λ c. accepts plan c x v y w) plan.constraints no_constraint
      (λ c h. and_intro (each_spares plan x v y w p c h) (each_spares plan y w x v q c h))

-- a pair reads the same from either variable
pub allowed_symmetric : (plan : Plan) (x v y w : ℕ) → pair_allowed plan x v y w ≡ pair_allowed plan y w x v
allowed_symmetric plan x v y w =
    bool_ext (pair_allowed plan x v y w) (pair_allowed plan y w x v) (turned x v y w) (turned y w x v)
  where
    turned : (x v y w : ℕ) → pair_allowed plan x v y w ≡ true → pair_allowed plan y w x v ≡ true
    turned x v y w e = each_allowed plan y w x v (allowed_each plan x v y w e).1 (allowed_each plan x v y w e).0
