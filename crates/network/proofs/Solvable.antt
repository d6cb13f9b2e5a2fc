-- The search through all choices succeeds exactly if there is a solution.
use Prim.Native.Nat.{ℕ, zero, suc, ◌<◌, ◌≤◌}
use mathlib.Core.Bool.{true, false}
use mathlib.Core.Path.{◌≡◌, refl, sym, ◌∙◌, ap}
use native.Mathlib.Decide.{ℕ_discrete}
use native.Mathlib.Nat.{not-suc-le-zero, le_refl}
use native.Mathlib.Omega.{arith}
use Rattle.base.proofs.Below.{any_below_lem, some_below}
use Rattle.base.proofs.Bools.{clash}
use Rattle.base.proofs.Choice.{update_same, update_other}
use Rattle.base.specs.Choice.{update}
use Rattle.network.proofs.Solution.{solution_ext, solution_agrees, agrees_solution}
use Rattle.network.specs.Network.{Network}
use Rattle.network.specs.Solution.{Solution, agrees, solvable_from, solvable}

module _ (net : Network) where
  -- what a search from `n` and `r` finds
  Found : ℕ → (ℕ → ℕ) → Type 0
  Found n r =
      (s : ℕ → ℕ) × (agrees net net.variables s ≡ true) × ((x : ℕ) → x < n → s x < net.size x)
      × ((x : ℕ) → n ≤ x → s x ≡ r x)

  finds : (n : ℕ) (r : ℕ → ℕ) → solvable_from net n r ≡ true → Found n r
  unfolding solvable_from Found
  finds zero r e = (r, e, λ x l. absurd (not-suc-le-zero l), λ x l. refl)
  finds (suc n) r e =
      let i : (v : ℕ) × (v < net.size n) × (solvable_from net n (update r n v) ≡ true) =
      some_below (net.size n) (λ v. solvable_from net n (update r n v)) e in
      go i.0 i.1 (finds n (update r n i.0) i.2)
    where
      go : (v : ℕ) → v < net.size n → Found n (update r n v) → Found (suc n) r
      go v l f = (
        f.0,
        f.1,
        λ x m. elim (ℕ_discrete x n) [
          | yes p ↦ rw p (omega (arith, f.3 n (le_refl n), update_same r n v))
          | no p ↦ f.2 x (omega arith)
        ],
        λ x m. f.3 x (omega arith) ∙ update_other r n v x (λ p. omega arith),
      )

  -- the search succeeds only where there is a solution
  pub solvable_solution : solvable net ≡ true → (s : ℕ → ℕ) × Solution net s
  unfolding solvable Found
  solvable_solution e =
      let f : Found net.variables (λ x. 0) = finds net.variables (λ x. 0) e in
      (f.0, agrees_solution net f.0 f.2 f.1)

  -- the search from a choice that has the solution's values from `n` on
  found_from : (s : ℕ → ℕ) → Solution net s → (n : ℕ) (r : ℕ → ℕ) → n ≤ net.variables
      → ((x : ℕ) → n ≤ x → x < net.variables → r x ≡ s x) → solvable_from net n r ≡ true
  unfolding solvable_from
  found_from s sol zero r l h = solution_agrees net r (solution_ext net r s (λ x m. h x (omega arith) m) sol)
  found_from s sol (suc n) r l h =
      any_below_lem (net.size n) (λ v. solvable_from net n (update r n v)) (s n) (sol.chosen n l)
      (found_from s sol n (update r n (s n)) (omega arith) same)
    where
      same : (x : ℕ) → n ≤ x → x < net.variables → update r n (s n) x ≡ s x
      same x k m =
          elim (ℕ_discrete x n) [
            | yes p ↦ ap (update r n (s n)) p ∙ update_same r n (s n) ∙ ap s (sym p)
            | no p ↦ update_other r n (s n) x p ∙ h x (omega arith) m
          ]

  -- the search succeeds where there is a solution
  pub solution_found : (s : ℕ → ℕ) → Solution net s → solvable net ≡ true
  unfolding solvable
  solution_found s sol =
      found_from s sol net.variables (λ x. 0) (le_refl net.variables) (λ x k m. absurd (omega arith))

  -- where the search fails there is none
  pub no_solution : (s : ℕ → ℕ) → solvable net ≡ false → Solution net s → ⊥
  no_solution s e sol = clash (solution_found s sol) e
