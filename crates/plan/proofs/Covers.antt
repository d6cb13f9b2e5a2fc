-- Plans whose constraints say the same of each two variables link and allow the same.
use Prim.Native.Nat.{ℕ}
use mathlib.Core.Bool.{true}
use mathlib.Core.Logic.{⊎_elim}
use mathlib.Core.Path.{◌≡◌, refl, sym, ◌∙◌, ap}
use Rattle.base.proofs.Bools.{bool_ext}
use Rattle.plan.proofs.Links.{Over, linked_symmetric, over_linked, linked_by}
use Rattle.plan.proofs.Pairs.{EachPermits, allowed_each, each_allowed}
use Rattle.plan.specs.Network.{permits, pair_allowed, share_constraint}
use Rattle.plan.specs.Plan.{Relation, table, sum_limit, Plan, variable_of, value_of, constraint_of}

-- the first plan says of each two variables what the second does: where the second has a constraint over them, the first has one of
-- the same relation
abbrev pub Covers : Plan → Plan → Type 0
Covers other plan =
    (c x y : ℕ) → Over plan c x y
    → (d : ℕ) × Over other d x y × ((constraint_of other d).relation ≡ (constraint_of plan c).relation)

-- so it says what a third does, if the second does
pub covers_trans : (p q r : Plan) → Covers p q → Covers q r → Covers p r
covers_trans p q r f g c x y o =
    let d = g c x y o in
    let e = f d.0 x y d.1 in
    (e.0, e.1, e.2 ∙ d.2)

-- what a relation permits goes by the plan's variables alone
permits_by : (plan other : Plan) → plan.variables ≡ other.variables → (r : Relation) (x v y w : ℕ)
    → permits plan r x v y w ≡ permits other r x v y w
unfolding permits value_of variable_of
permits_by plan other e (table rows) x v y w = refl
permits_by plan other e (sum_limit limit) x v y w = rw e

module _ (plan other : Plan) (covers : Covers other plan) where
  -- the other links what the one does
  covers_linked : (x y : ℕ) → share_constraint plan x y ≡ true → share_constraint other x y ≡ true
  covers_linked x y e =
      let r = linked_by plan x y e in
      ⊎_elim (λ o. found x y r.0 o) (λ o. linked_symmetric other x y ∙ found y x r.0 o) r.1
    where
      found : (x y c : ℕ) → Over plan c x y → share_constraint other x y ≡ true
      found x y c o = let r = covers c x y o in over_linked other r.0 x y r.1

  -- and over the same variables allows no more
  covers_allowed : plan.variables ≡ other.variables
      → (x v y w : ℕ) → pair_allowed other x v y w ≡ true → pair_allowed plan x v y w ≡ true
  covers_allowed e x v y w h =
      let each = allowed_each other x v y w h in
      each_allowed plan x v y w (permitted x v y w each.0) (permitted y w x v each.1)
    where
      permitted : (x v y w : ℕ) → EachPermits other x v y w → EachPermits plan x v y w
      permitted x v y w f c o =
          let r = covers c x y o in
          permits_by plan other e (constraint_of plan c).relation x v y w
          ∙ ap (λ (s : Relation). permits other s x v y w) (sym r.2) ∙ f r.0 r.1

-- so two plans link and allow the same where each says what the other does
module _ (plan other : Plan) (here : Covers plan other) (there : Covers other plan) where
  pub same_linked : (x y : ℕ) → share_constraint plan x y ≡ share_constraint other x y
  same_linked x y =
      bool_ext (share_constraint plan x y) (share_constraint other x y) (covers_linked plan other there x y)
      (covers_linked other plan here x y)

  pub same_allowed : plan.variables ≡ other.variables
      → (x v y w : ℕ) → pair_allowed plan x v y w ≡ pair_allowed other x v y w
  same_allowed e x v y w =
      bool_ext (pair_allowed plan x v y w) (pair_allowed other x v y w) (covers_allowed other plan here (sym e) x v y w)
      (covers_allowed plan other there e x v y w)
