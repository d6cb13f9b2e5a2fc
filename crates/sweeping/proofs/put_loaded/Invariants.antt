use Prim.Native.Nat.{ℕ}
use mathlib.Core.List.{List}
use mathlib.Core.Path.{◌≡◌}
use Rattle.disac4.specs.System.{network_at}
use Rattle.listing.proofs.ListCells.{rows_before}
use Rattle.disac4.specs.Report.{row_from}
use Rattle.network.specs.Network.{loaded}
use Rattle.sweeping.proofs.put_loaded.Given as goal

-- the row of a variable with all its values
abbrev pub fullRow : List ℕ → ℕ → ℕ
fullRow plan = row_from (network_at plan) (loaded (network_at plan))

abbrev pub invariant-loop-x : goal.invariant-loop-x
invariant-loop-x l = l.lists ≡ rows_before l.words (fullRow l.plan) l.x l.initial.lists
