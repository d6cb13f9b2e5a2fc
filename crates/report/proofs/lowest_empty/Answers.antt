-- `report::lowest_empty` finds the lowest empty domain. Invariant: none of the first x domains is empty.
-- Assumes nothing.
use mathlib.Core.Path.{sym, ◌∙◌}
use native.Mathlib.Omega.{arith}
use Rattle.report.proofs.Reported.{empty_here, empty_next, empty_nowhere}
use Rattle.cells.specs.Memory.{mem_of}
use Rattle.report.proofs.lowest_empty.Goals as goal

pub returns-then-domain_row-eq0-clause-lowest : goal.returns-then-domain_row-eq0-clause-lowest
returns-then-domain_row-eq0-clause-lowest c =
    empty_here c.args.plan.now (mem_of c.args.cells.now) c.loop-x.x c.loop-x.invariant.1
    (omega (arith, c.variable_count-variables.ensures)) (sym c.domain_row.ensures ∙ c.if-domain_row-eq0.true)

pub loop-x-preserved : goal.loop-x-preserved
loop-x-preserved c = (
  omega arith,
  empty_next c.args.plan.now (mem_of c.args.cells.now) c.loop-x.x c.loop-x.invariant.1
      (λ e. c.if-domain_row-eq0.false (c.domain_row.ensures ∙ e)),
)

pub returns-clause-lowest : goal.returns-clause-lowest
returns-clause-lowest c =
    empty_nowhere c.args.plan.now (mem_of c.args.cells.now) c.loop-x.x c.loop-x.invariant.1
    (omega (arith, c.variable_count-variables.ensures))
