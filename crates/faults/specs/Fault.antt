-- The numbers that document 01 gives to the reasons for which a call declines ("Returned").
use Rattle.std.specs.Prelude.{ℕ}
use Rattle.faults.specs.declared.Decline.{Decline}
use Rattle.faults.specs.declared.Fault.{Fault}
use Rattle.faults.specs.declared.Fault.TheVariants.{Truncated, BadVersion, BadLength, BadCount, BadNumber, RepeatedCode, BadConstraint, TrailingBytes, ShortWork, ShortLists, BadTurnList, BadTurn}

-- the number of each reason
abbrev pub number_of : Fault → ℕ
number_of Truncated = 1
number_of BadVersion = 2
number_of BadLength = 3
number_of BadCount = 4
number_of BadNumber = 5
number_of RepeatedCode = 6
number_of BadConstraint = 7
number_of TrailingBytes = 8
number_of ShortWork = 9
number_of ShortLists = 10
number_of BadTurnList = 11
number_of BadTurn = 12

-- a fault at a place
abbrev pub decline : Fault → ℕ → Decline
decline f at = record { fault = f; place = at }
