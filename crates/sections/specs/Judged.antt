-- What the verdict on a section says, and what it leaves of the touched pairs.
use Rattle.std.specs.Prelude.{ℕ, List, Result, Ok, ◌≡◌}
use Rattle.faults.specs.CheckList.{Check, first_fault, verdict_of}
use Rattle.faults.specs.declared.Fault.{Fault}
use Rattle.touching.specs.Touching.{Touching}

-- the verdict is that of the checks, and where it passes, the rows and the number are those of the first `r` constraints
pub record Judged (b : List ℕ) (r : ℕ) (checks : List Check) (v : Result (Unit {0}) Fault) (rows : List ℕ) (pairs : ℕ) : Type 0 where
  pub verdict : v ≡ verdict_of (first_fault checks)
  pub touching : v ≡ Ok tt → Touching b r rows pairs
