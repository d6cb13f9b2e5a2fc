-- The memory with the chains of the workers' own variables in it.
use Prim.Native.Nat.{ℕ, suc, ◌+◌, ◌-◌, ◌<◌, ◌≤◌}
use mathlib.Core.Bool.{true, not}
use mathlib.Core.List.{List}
use mathlib.Core.Logic.{⊎_elim}
use mathlib.Core.Option.{none}
use mathlib.Core.Path.{◌≡◌, sym, ◌∙◌, ap, ap₂}
use native.Mathlib.Decide.{ℕ_discrete}
use native.Mathlib.Nat.{le_refl}
use native.Mathlib.Omega.{arith}
use lib.Dec.{eqb}
use Rattle.base.proofs.Bools.{decided, and_left, and_right, and_intro, and_false_left, and_false_right}
use Rattle.base.proofs.Loops.{loop_carries, loop_same, loop_from}
use Rattle.base.specs.Below.{loop}
use Rattle.disac4.specs.System.{system_at}
use Rattle.format.specs.Format.{variable_count}
use Rattle.format.specs.Limits.{max_workers}
use Rattle.plan.specs.Decode.{plan_fault}
use Rattle.index.proofs.Leads.{leads_same, leads_none, leads_first, leads_follow}
use Rattle.index.proofs.Own.{next_here, next_past, next_none}
use Rattle.index.proofs.Owners.{owner_range, owns_it, owns_alone}
use Rattle.index.specs.Index.{any_over, owns, own_linked, next_own, lead_m, leads_m, last_leads_m, own_m}
use Rattle.cells.specs.Layout.{PAIRS, FIRST, FOLLOW}
use Rattle.cells.specs.Memory.{Mem}

-- with the chains of the last `n` variables, the other regions are as they were
own_below_keeps : (b : List ℕ) (m : Mem) (n r k j : ℕ) → (r ≡ FIRST → ⊥) → (r ≡ FOLLOW → ⊥)
    → loop n (last_leads_m b) m r k j ≡ m r k j
own_below_keeps b m n r k j h l =
    loop_same (λ o. o r k j) n (last_leads_m b) (λ c g o. leads_same _ _ (variable_count b) o r k j (λ p q e. h p) (λ p q e. l p)) m

-- so they are with all chains
pub own_keeps : (b : List ℕ) (m : Mem) (r k j : ℕ) → (r ≡ FIRST → ⊥) → (r ≡ FOLLOW → ⊥) → own_m b m r k j ≡ m r k j
unfolding own_m
own_keeps b m = own_below_keeps b m (variable_count b)

-- from a memory that holds the constraints, and no chains of own variables
module _ (b : List ℕ) (sound : plan_fault b ≡ none) (m : Mem)
    (numbered : (x y : ℕ) → eqb (m PAIRS x y) 0 ≡ not (any_over b x y))
    (empty : (i y : ℕ) → m FIRST i y ≡ 0) where
  abbrev row : ℕ → ℕ
  row x = (system_at b).owner x - 1

  row_low : (x : ℕ) → x < variable_count b → row x < max_workers
  row_low x h = omega (arith, owner_range b sound x h)

  -- the chains of the last `n` variables
  abbrev chained : ℕ → Mem
  chained n = loop n (last_leads_m b) m

  own_numbered : (n x y : ℕ) → eqb (chained n PAIRS x y) 0 ≡ not (any_over b x y)
  own_numbered n x y =
      ap (λ (h : ℕ). eqb h 0) (own_below_keeps b m n PAIRS x y (λ e. omega arith) (λ e. omega arith)) ∙ numbered x y

  -- each chain begins with the first of them that its row owns and that is linked
  chained_first : (n : ℕ) → n ≤ variable_count b → (i : ℕ) → i < max_workers → (y : ℕ) → y < variable_count b
      → chained n FIRST i y ≡ next_own b i y n
  unfolding own_linked
  chained_first n h i l y k =
      loop_carries (λ n o. o FIRST i y ≡ next_own b i y n) n (last_leads_m b) m (λ j g. go j (omega arith))
      (empty i y ∙ sym (next_none b i y))
    where
      go : (n : ℕ) → n < variable_count b → chained n FIRST i y ≡ next_own b i y n
          → last_leads_m b n (chained n) FIRST i y ≡ next_own b i y (suc n)
      go n h before =
          let x = variable_count b - suc n in
          elim (ℕ_discrete i (row x)) [
            | yes e ↦ ⊎_elim
                (λ p.
                ap (λ (j : ℕ). leads_m b x (chained n) FIRST j y) e
                ∙ leads_first (row x) x (variable_count b) (chained n) y k (own_numbered n x y ∙ ap not p)
                ∙ sym
                (next_here b i y n
                (and_intro
                (ap (λ (j : ℕ). owns b j x) e ∙ owns_it b x (omega (arith, owner_range b sound x (omega arith)))) p)))
                (λ p.
                leads_none (row x) x (variable_count b) (chained n) FIRST i y k (own_numbered n x y ∙ ap not p) ∙ before
                ∙ sym (next_past b i y n (and_false_right (owns b i x) p)))
                (decided (any_over b x y))
            | no q ↦ leads_same (row x) x (variable_count b) (chained n) FIRST i y (λ a e c. q e) (λ a e c. omega arith)
                ∙ before
                ∙ sym
                (next_past b i y n
                (and_false_left (any_over b x y)
                (⊎_elim (λ p. absurd (q (owns_alone b x i p))) (λ p. p) (decided (owns b i x)))))
          ]

  -- so it does when all are chained
  pub own_first : (i : ℕ) → i < max_workers → (y : ℕ) → y < variable_count b → own_m b m FIRST i y ≡ next_own b i y (variable_count b)
  unfolding own_m
  own_first = chained_first (variable_count b) (le_refl (variable_count b))

  -- and goes on with the next one
  pub own_follow : (i : ℕ) → i < max_workers → (x y : ℕ) → x < variable_count b → y < variable_count b → own_linked b i y x ≡ true
      → own_m b m FOLLOW x y ≡ next_own b i y (variable_count b - suc x)
  unfolding own_m own_linked
  own_follow i l x y h k p =
      loop_from (λ o. o FOLLOW x y ≡ next_own b i y n) (variable_count b) (last_leads_m b) m n (omega arith) here
      (λ j after inside o e.
      leads_same _ _ (variable_count b) o FOLLOW x y (λ a e c. omega arith) (λ a e c. omega arith) ∙ e)
    where
      n : ℕ
      n = variable_count b - suc x

      here : last_leads_m b n (chained n) FOLLOW x y ≡ next_own b i y n
      here =
          let back : variable_count b - suc n ≡ x = omega arith in
          ap (λ (z : ℕ). leads_m b z (chained n) FOLLOW x y) back
          ∙ leads_follow (row x) x (variable_count b) (chained n) y k
          (own_numbered n x y ∙ ap not (and_right (owns b i x) (any_over b x y) p))
          ∙ chained_first n (omega arith) (row x) (row_low x h) y k
          ∙ ap (λ (j : ℕ). next_own b j y n)
          (sym (owns_alone b x i (and_left (owns b i x) (any_over b x y) p)))

-- ---- what the code puts

-- a variable in front of its owner's chains, with the last `k` done already
pub leads_last : (b : List ℕ) (x o n k : ℕ) (m : Mem) → suc x + k ≡ variable_count b → n ≡ variable_count b
    → o ≡ (system_at b).owner x → loop n (lead_m (o - 1) x) m ≡ last_leads_m b k m
leads_last b x o n k m h c e =
    let here : x ≡ variable_count b - suc k = omega arith in
    ap₂ (λ (o n : ℕ). loop n (lead_m (o - 1) x) m) e c ∙ ap (λ (z : ℕ). leads_m b z m) here
