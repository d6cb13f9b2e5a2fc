-- `inputs::list_fits` says whether a turn list is of even length and not too long. Assumes nothing.
use borrow.Author.Tests.{eq-eqb, ne_eqb}
use Rattle.disac4.specs.Turn.{turn_list_fits}
use Rattle.inputs.proofs.list_fits.Goals as goal

pub returns-then-n-eq0 : goal.returns-then-n-eq0
unfolding turn_list_fits
returns-then-n-eq0 c = rw (eq-eqb _ _ c.if-n-eq0.true)

pub returns-else-n-eq0 : goal.returns-else-n-eq0
unfolding turn_list_fits
returns-else-n-eq0 c = rw (ne_eqb _ _ c.if-n-eq0.false)
