use mathlib.Core.Option.{none}
use mathlib.Core.Path.{◌≡◌}
use Rattle.base.specs.Below.{first_below}
use Rattle.disac4.specs.Turn.{fault_of}
use Rattle.inputs.proofs.first_bad.Given as goal

abbrev pub invariant-loop-k : goal.invariant-loop-k
invariant-loop-k l = first_below l.k (fault_of l.p l.list) ≡ none
