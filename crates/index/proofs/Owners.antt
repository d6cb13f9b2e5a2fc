-- The owners of an accepted plan's variables.
use Prim.Native.Nat.{ℕ, suc, ◌-◌, ◌<◌, ◌≤◌}
use mathlib.Core.Bool.{true}
use mathlib.Core.List.{List}
use mathlib.Core.Option.{none}
use mathlib.Core.Path.{◌≡◌}
use borrow.Author.Tests.{eq-eqb, eqb-true}
use native.Mathlib.Omega.{arith}
use Rattle.disac4.specs.System.{system_of, system_at}
use Rattle.format.specs.Format.{variable_count}
use Rattle.format.specs.Limits.{max_workers}
use Rattle.plan.proofs.Parts.{variables_read}
use Rattle.plan.proofs.WellFormed.{read_well_formed}
use Rattle.plan.specs.Decode.{plan_fault}
use Rattle.index.specs.Index.{owns}

-- an owner is one of at most eight workers
pub owner_range : (b : List ℕ) → plan_fault b ≡ none → (x : ℕ) → x < variable_count b
    → (0 < (system_at b).owner x) × ((system_at b).owner x ≤ max_workers)
unfolding system_of
owner_range b sound x h =
    let fits = read_well_formed b sound in
    let fit = fits.each_variable x (omega (arith, variables_read b)) in
    omega (arith, fits.workers_high)

module _ (b : List ℕ) (x : ℕ) where
  -- the row of a variable's owner owns it
  pub owns_it : 0 < (system_at b).owner x → owns b ((system_at b).owner x - 1) x ≡ true
  unfolding owns
  owns_it h = eq-eqb ((system_at b).owner x) (suc ((system_at b).owner x - 1)) (omega arith)

  -- and no other
  pub owns_alone : (i : ℕ) → owns b i x ≡ true → i ≡ (system_at b).owner x - 1
  unfolding owns
  owns_alone i e = omega (arith, eqb-true ((system_at b).owner x) (suc i) e)
