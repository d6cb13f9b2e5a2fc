-- Solutions (menus that meet all rules): a value for every variable, each two of them allowed.
use Rattle.std.specs.Prelude.{ℕ, zero, suc, ◌<◌, Bool, true, ◌||◌, not, ◌≡◌}
use Rattle.base.specs.Below.{all_below, any_below}
use Rattle.base.specs.Choice.{update}
use Rattle.network.specs.Network.{Network}

-- the choice of value `s x` for each variable `x` is a menu that meets all rules
pub record Solution (net : Network) (s : ℕ → ℕ) : Type 0 where
  -- each value was loaded
  pub chosen : (x : ℕ) → x < net.variables → s x < net.size x
  -- each two values of variables that share a constraint may stand together
  pub allowed :
      (x y : ℕ) → x < net.variables → y < net.variables → net.linked x y ≡ true → net.allows x (s x) y (s y) ≡ true

-- the choice `s` breaks no constraint between variables below `n`
unfoldable pub agrees : Network → ℕ → (ℕ → ℕ) → Bool
agrees net n s = all_below n (λ x. all_below n (λ y. not (net.linked x y) || net.allows x (s x) y (s y)))

-- whether `s`, with other values for the variables below `n`, can be made a solution: tries them all
unfoldable pub solvable_from : Network → ℕ → (ℕ → ℕ) → Bool
solvable_from net zero s = agrees net net.variables s
solvable_from net (suc n) s = any_below (net.size n) (λ v. solvable_from net n (update s n v))

-- whether there is a solution
unfoldable pub solvable : Network → Bool
solvable net = solvable_from net net.variables (λ x. 0)
