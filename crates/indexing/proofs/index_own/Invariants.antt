use Prim.Native.Nat.{◌-◌}
use Rattle.cells.proofs.Done.{Done}
use Rattle.format.specs.Format.{variable_count}
use Rattle.index.specs.Index.{last_leads_m}
use Rattle.indexing.proofs.index_own.Given as goal

abbrev pub invariant-loop-x : goal.invariant-loop-x
invariant-loop-x l = Done (last_leads_m l.plan) l.initial.cells (variable_count l.plan - l.x) l.cells
