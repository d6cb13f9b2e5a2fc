-- Where the round run begins.
use Rattle.std.specs.Prelude.{ℕ, List, [], ◌≡◌}
use Rattle.refinement.specs.Run.{Going}
use Rattle.disac4.specs.declared.Progress.{Progress}

-- an accepted plan is loaded, and no turn is played yet
pub record Begun (b cells : List ℕ) (g : Progress) : Type 0 where
  pub going : Going b cells g
  pub fresh : going.turns ≡ []
