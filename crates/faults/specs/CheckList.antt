-- Checks in their order, and the first that fails.
use Rattle.std.specs.Prelude.{ℕ, Bool, cond, List, [], ◌∷◌, Result, Ok, Err}
use Rattle.std.proofs.Math.Option.{Option, none, some}
use Rattle.faults.specs.Fault.{decline}
use Rattle.faults.specs.declared.Decline.{Decline}
use Rattle.faults.specs.declared.Fault.{Fault}

-- a test, and the fault of what fails it
pub record Check : Type 0 where
  pub holds : Bool
  pub fault : Fault

-- such a check, written by its two parts
infix 20 ◌or_else◌
abbrev pub ◌or_else◌ : Bool → Fault → Check
t or_else f = record { holds = t; fault = f }

-- the fault of the first check that fails
abbrev pub first_fault : List Check → Option Fault
first_fault [] = none
first_fault (c ∷ cs) = cond c.holds (first_fault cs) (some c.fault)

-- a fault, if there is one, at a place
abbrev pub fault_at : ℕ → Option Fault → Option Decline
fault_at at none = none
fault_at at (some f) = some (decline f at)

-- what the checks find, as a verdict: the fault without its place
abbrev pub verdict_of : Option Fault → Result (Unit {0}) Fault
verdict_of none = Ok tt
verdict_of (some f) = Err f
