use mathlib.Core.Path.{◌≡◌}
use Rattle.cells.specs.Memory.{mem_of}
use Rattle.listing.proofs.ListCells.{rows_before}
use Rattle.report.proofs.Reported.{domain_row}
use Rattle.report.proofs.write_lists.Given as goal

abbrev pub invariant-loop-x : goal.invariant-loop-x
invariant-loop-x l = l.lists ≡ rows_before l.words (domain_row l.plan (mem_of l.cells)) l.x l.initial.lists
