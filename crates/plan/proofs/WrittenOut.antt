-- A plan and its copy with the set rules written out differ in nothing but how their rules are written.
use Prim.Native.Nat.{ℕ, zero, suc, ◌<◌}
use mathlib.Core.Bool.{true}
use mathlib.Core.List.Memᴰ
use mathlib.Core.List.{List, [], ◌∷◌, Memᴰ}
use mathlib.Core.Path.{◌≡◌, refl, sym, ◌∙◌, ap}
use native.Mathlib.Decide.{dec_lt}
use native.Mathlib.Omega.{arith}
use lib.ListN.{length, get_or}
use Rattle.base.proofs.Each.{member_gather, gather_member, at_member, member_at}
use Rattle.base.specs.Below.{list_below}
use Rattle.plan.proofs.Covers.{Covers, covers_trans, same_linked, same_allowed}
use Rattle.plan.proofs.Links.{scope_place, place_scope, joins_of, of_joins, Over}
use Rattle.plan.specs.Decode.{plan_of}
use Rattle.plan.specs.Network.{in_scope, joins}
use Rattle.plan.specs.Plan.{Relation, table, sum_limit, Constraint, Plan, no_constraint, constraint_of}
use Rattle.plan.specs.SamePlans.{SamePlans}
use Rattle.plan.specs.WrittenOut.{pair_limit, pair_limits, written_as, written_out, StandIn, Copies}

-- ---- one limit

module _ (limit : ℕ) (scope : List ℕ) where
  -- the limit over the variables at two places of the scope
  abbrev at_two : ℕ → ℕ → Constraint
  at_two i j = pair_limit limit (get_or scope i 0) (get_or scope j 0)

  -- it is one of those that are written out
  two_written : (i j : ℕ) → i < j → j < length scope → Memᴰ (at_two i j) (pair_limits limit scope)
  unfolding pair_limits
  two_written i j l h =
      member_gather (length scope) (λ j. list_below j (λ i. at_two i j)) j h
      (member_gather j (λ i. at_two i j ∷ []) i l (Memᴰ.head refl))

  -- it is over the first variable, and over the second
  in_first : (i j z : ℕ) → get_or scope i 0 ≡ suc z → in_scope (at_two i j).scope z ≡ true
  in_first i j z = place_scope (at_two i j).scope z 0 (omega arith)

  in_second : (i j z : ℕ) → get_or scope j 0 ≡ suc z → in_scope (at_two i j).scope z ≡ true
  in_second i j z = place_scope (at_two i j).scope z 1 (omega arith)

  -- and over no other
  in_whole : (i j z : ℕ) → i < length scope → j < length scope → in_scope (at_two i j).scope z ≡ true → in_scope scope z ≡ true
  in_whole i j z h l e = let r = scope_place (at_two i j).scope z e in go r.0 r.1 r.2
    where
      go : (k : ℕ) → k < 2 → get_or (at_two i j).scope k 0 ≡ suc z → in_scope scope z ≡ true
      go zero m p = place_scope scope z i h p
      go (suc zero) m p = place_scope scope z j l p
      go (suc (suc k)) m p = absurd (omega arith)

  module _ (x y : ℕ) where
    -- where the scope joins two variables, one of those that are written out does
    limit_joins : joins scope x y ≡ true
        → (d : Constraint) × Memᴰ d (pair_limits limit scope) × (joins d.scope x y ≡ true) × (d.relation ≡ sum_limit limit)
    limit_joins e =
        let both = joins_of scope x y e in
        let p = scope_place scope x both.1 in
        let q = scope_place scope y both.2 in
        go both.0 p.0 q.0 p.1 q.1 p.2 q.2
      where
        go : x < y → (i j : ℕ) → i < length scope → j < length scope → get_or scope i 0 ≡ suc x → get_or scope j 0 ≡ suc y
            → (d : Constraint) × Memᴰ d (pair_limits limit scope) × (joins d.scope x y ≡ true) × (d.relation ≡ sum_limit limit)
        go less i j h l p q =
            elim (dec_lt i j) [
              | yes k ↦
                  (at_two i j, two_written i j k l, of_joins (at_two i j).scope x y less (in_first i j x p) (in_second i j y q), refl)
              | no n ↦ elim (dec_lt j i) [
                | yes k ↦
                    (at_two j i, two_written j i k h, of_joins (at_two j i).scope x y less (in_second j i x p) (in_first j i y q), refl)
                | no m ↦ let same : i ≡ j = omega arith in absurd (omega (arith, ap (λ (k : ℕ). get_or scope k 0) same))
              ]
            ]

    -- and back
    joins_limit : (d : Constraint) → Memᴰ d (pair_limits limit scope) → joins d.scope x y ≡ true
        → (joins scope x y ≡ true) × (d.relation ≡ sum_limit limit)
    unfolding pair_limits
    joins_limit d m e =
        let q = gather_member (length scope) (λ j. list_below j (λ i. at_two i j)) m in
        let p = gather_member q.0 (λ i. at_two i q.0 ∷ []) q.2 in
        let same : d ≡ at_two p.0 q.0 = Memᴰ.eq_of_singleton p.2 in
        (go p.0 q.0 p.1 q.1 (ap (λ (a : Constraint). joins a.scope x y) (sym same) ∙ e), ap (λ a. a.relation) same)
      where
        go : (i j : ℕ) → i < j → j < length scope → joins (at_two i j).scope x y ≡ true → joins scope x y ≡ true
        go i j l h e =
            let both = joins_of (at_two i j).scope x y e in
            of_joins scope x y both.0 (in_whole i j x (omega arith) h both.1) (in_whole i j y (omega arith) h both.2)

-- ---- one constraint

module _ (c : Constraint) (x y : ℕ) where
  -- where it joins two variables, one of those that it is written out as does, of the same relation
  out_joins : (r : Relation) → c.relation ≡ r → joins c.scope x y ≡ true
      → (d : Constraint) × Memᴰ d (written_as c r) × (joins d.scope x y ≡ true) × (d.relation ≡ r)
  unfolding written_as
  out_joins (table rows) e h = (c, Memᴰ.head refl, h, e)
  out_joins (sum_limit limit) e h = limit_joins limit c.scope x y h

  -- and back
  joins_out : (r : Relation) → c.relation ≡ r → (d : Constraint) → Memᴰ d (written_as c r) → joins d.scope x y ≡ true
      → (joins c.scope x y ≡ true) × (d.relation ≡ r)
  unfolding written_as
  joins_out (table rows) e d m h =
      let same : d ≡ c = Memᴰ.eq_of_singleton m in
      (ap (λ (a : Constraint). joins a.scope x y) (sym same) ∙ h, ap (λ (a : Constraint). a.relation) same ∙ e)
  joins_out (sum_limit limit) e d m h = joins_limit limit c.scope x y d m h

-- ---- the plan

-- a constraint that stands at a place of a plan, over `x` and then `y`
over_at : (plan : Plan) (k x y : ℕ) (d : Constraint) → k < length plan.constraints → constraint_of plan k ≡ d
    → joins d.scope x y ≡ true → Over plan k x y
over_at plan k x y d h e j = record { listed = h; joined = ap (λ (a : Constraint). joins a.scope x y) e ∙ j }

module _ (plan : Plan) where
  -- what its constraint at an index is written out as
  abbrev out_at : ℕ → List Constraint
  out_at c = written_as (constraint_of plan c) (constraint_of plan c).relation

  -- written out, it says of each two variables what it says
  out_covers : Covers (written_out plan) plan
  unfolding written_out constraint_of
  out_covers c x y o =
      let r = out_joins (constraint_of plan c) x y (constraint_of plan c).relation refl o.joined in
      let m = member_gather (length plan.constraints) out_at c o.listed r.1 in
      let k = member_at (written_out plan).constraints no_constraint m in
      (k.0, over_at (written_out plan) k.0 x y r.0 k.1 k.2 r.2, ap (λ (a : Constraint). a.relation) k.2 ∙ r.3)

  -- and nothing else
  covers_out : Covers plan (written_out plan)
  unfolding written_out constraint_of
  covers_out k x y o =
      let m = at_member (written_out plan).constraints no_constraint k o.listed in
      let c = gather_member (length plan.constraints) out_at m in
      let r = joins_out (constraint_of plan c.0) x y (constraint_of plan c.0).relation refl _ c.2 o.joined in
      (c.0, record { listed = c.1; joined = r.0 }, sym r.1)

-- a plan in which each constraint of another stands says what that one does
stand_covers : (plan other : Plan) → StandIn plan other → Covers other plan
unfolding StandIn
stand_covers plan other in_other c x y o =
    let j = in_other c o.listed in
    (j.0, over_at other j.0 x y (constraint_of plan c) j.1 j.2 o.joined, ap (λ (a : Constraint). a.relation) j.2)

-- a plan and its copy
pub copy_same : (b c : List ℕ) → Copies b c → SamePlans b c
copy_same b c copy =
    let p = plan_of b in
    let q = plan_of c in
    let out = written_out p in
    let here : Covers p q = covers_trans p out q (covers_out p) (stand_covers q out copy.no_others) in
    let there : Covers q p = covers_trans q out p (stand_covers out q copy.complete) (out_covers p) in record {
      one_version = copy.one_version;
      workers = copy.workers;
      variables = copy.variables;
      shared = same_linked p q here there;
      allowed = same_allowed p q here there copy.variables;
    }
