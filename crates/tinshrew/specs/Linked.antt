-- What tells a caller for C which library it is linked with. The header has the same numbers.
use Rattle.std.specs.Prelude.{ℕ, cond, eqb}
use Rattle.disac4.specs.Need.{work_need, list_need}

-- the version of the interface: one more with each change of a signature, of a number or of what a call needs
abbrev pub interface_version : ℕ
interface_version = 2

-- the cells that a lent buffer needs: 1 asks for the work cells, 2 for the list cells. No buffer has another number
unfoldable pub cells_needed : ℕ → ℕ
cells_needed buffer = cond (eqb buffer 1) work_need (cond (eqb buffer 2) list_need 0)
