-- The starred plans of the documents: the one claim over the one table, by computing the definitions.
use mathlib.Core.List.{map}
use mathlib.Core.Path.{◌≡◌, refl}
use Rattle.disac4.specs.Computes.{disac4_computes}
use Rattle.disac4.specs.Worked.{Line, finding_of, table}

-- every question of the table is answered as the documents state
pub worked : map (λ (l : Line). finding_of l.question) table ≡ map (λ (l : Line). l.stated) table
unfolding disac4_computes
worked = refl
