use mathlib.Core.Path.{◌≡◌}
use Rattle.cells.proofs.Done.{Done}
use Rattle.index.specs.Index.{place_m}
use Rattle.format.specs.Format.{section_start}
use Rattle.indexing.proofs.index_places.Given as goal

abbrev pub invariant-loop-k : goal.invariant-loop-k
invariant-loop-k l =
    (l.at ≡ section_start l.plan l.k) × Done (place_m l.plan) l.initial.cells l.k l.cells
