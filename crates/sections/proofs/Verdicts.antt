-- Verdicts on a constraint, with what they leave of the touched pairs.
use Prim.Native.Nat.{ℕ}
use mathlib.Core.List.{List}
use mathlib.Core.Path.{◌≡◌}
use native.Mathlib.Omega.{arith}
use Rattle.faults.specs.CheckList.{Check, first_fault, verdict_of}
use Rattle.faults.specs.declared.Fault.{Fault}
use Rattle.std.specs.Prelude.{Err}
use Rattle.sections.specs.Judged.{Judged}

-- one that fails leaves nothing to say of them
pub judged_fails : (b : List ℕ) (r : ℕ) (checks : List Check) (f : Fault) (rows : List ℕ) (pairs : ℕ)
    → Err f ≡ verdict_of (first_fault checks) → Judged b r checks (Err f) rows pairs
judged_fails b r checks f rows pairs e = record {
  verdict = e;
  touching = λ p. absurd (let z : ◌≡◌ {A = ℕ} 0 1 = cc in omega arith);
}
