-- The cells that a run needs ("The report", "When a call declines"; job 4). The constants of the code, WORK_NEED and LIST_NEED, are the same numbers.
use Rattle.std.specs.Prelude.{ℕ}

-- work cells
unfoldable pub work_need : ℕ
work_need = 30720

-- list cells
unfoldable pub list_need : ℕ
list_need = 64
