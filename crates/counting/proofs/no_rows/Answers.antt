-- `counting::no_rows` gives a zero for each value there is room for. Assumes nothing.
use mathlib.Core.Path.{refl}
use lib.ListN.{get_or-replicate}
use Rattle.cells.specs.Layout.{VALUEROOM}
use Rattle.counting.proofs.no_rows.Goals as goal

pub returns : goal.returns
returns c = record { long = refl; each = λ w. get_or-replicate VALUEROOM w 0 0 }
