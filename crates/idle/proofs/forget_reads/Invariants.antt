use mathlib.Core.Bool.{false, ◌&&◌}
use lib.Dec.{eqb}
use Rattle.base.specs.Below.{any_below}
use Rattle.idle.specs.Table.{Puts}
use Rattle.idle.proofs.forget_reads.Given as goal

abbrev pub invariant-loop-j : goal.invariant-loop-j
invariant-loop-j l = Puts false (λ i a. any_below l.j (λ n. eqb i n && eqb a l.k)) l.initial.table l.table
