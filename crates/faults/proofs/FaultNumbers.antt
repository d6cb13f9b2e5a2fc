-- The numbers of the faults.
use Prim.Native.Nat.{◌≤◌}
use native.Mathlib.Omega.{arith}
use Rattle.faults.specs.Fault.{number_of}
use Rattle.faults.specs.declared.Fault.{Fault}
use Rattle.faults.specs.declared.Fault.TheVariants.{Truncated, BadVersion, BadLength, BadCount, BadNumber, RepeatedCode, BadConstraint, TrailingBytes, ShortWork, ShortLists, BadTurnList, BadTurn}

-- each is from 1 to 12
pub number_range : (f : Fault) → (1 ≤ number_of f) × (number_of f ≤ 12)
number_range Truncated = omega arith
number_range BadVersion = omega arith
number_range BadLength = omega arith
number_range BadCount = omega arith
number_range BadNumber = omega arith
number_range RepeatedCode = omega arith
number_range BadConstraint = omega arith
number_range TrailingBytes = omega arith
number_range ShortWork = omega arith
number_range ShortLists = omega arith
number_range BadTurnList = omega arith
number_range BadTurn = omega arith
