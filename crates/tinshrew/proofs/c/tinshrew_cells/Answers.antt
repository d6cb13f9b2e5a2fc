-- `tinshrew::c::tinshrew_cells` tells the need of a buffer. Assumes nothing.
use borrow.Author.Tests.{ne_eqb}
use Rattle.disac4.specs.Need.{work_need, list_need}
use Rattle.tinshrew.specs.Linked.{cells_needed}
use Rattle.tinshrew.proofs.c.tinshrew_cells.Goals as goal

pub returns-then-buffer-eq-WORK : goal.returns-then-buffer-eq-WORK
unfolding cells_needed work_need
returns-then-buffer-eq-WORK c = rw c.if-buffer-eq-WORK.true

pub returns-then-buffer-eq-LISTS : goal.returns-then-buffer-eq-LISTS
unfolding cells_needed list_need
returns-then-buffer-eq-LISTS c = rw c.if-buffer-eq-LISTS.true

pub returns-else-buffer-eq-LISTS : goal.returns-else-buffer-eq-LISTS
unfolding cells_needed
returns-else-buffer-eq-LISTS c = rw (ne_eqb _ _ c.if-buffer-eq-WORK.false, ne_eqb _ _ c.if-buffer-eq-LISTS.false)
