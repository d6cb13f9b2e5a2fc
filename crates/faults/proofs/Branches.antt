-- From what a test's function ensures and the branch that was taken to the test itself; the checks that are left.
use Prim.Native.Nat.{ℕ, suc}
use mathlib.Core.Bool.{Bool, true, false}
use mathlib.Core.List.{List}
use mathlib.Core.Path.{◌≡◌, refl, sym, ◌∙◌}
use lib.ListN.{drop}
use Rattle.faults.specs.CheckList.{Check, first_fault, verdict_of}
use Rattle.faults.specs.declared.Fault.{Fault}
use Rattle.std.specs.Prelude.{Result}

pub holds : {r t : Bool} → r ≡ t → r ≡ true → t ≡ true
holds e p = sym e ∙ p

pub fails : {r t : Bool} → r ≡ t → r ≡ false → t ≡ false
fails e p = sym e ∙ p

-- the verdict of the checks that are left after the first k
abbrev pub left : ℕ → List Check → Result (Unit {0}) Fault
left k cs = verdict_of (first_fault (drop k cs))

-- a stage of a walk through checks: the place that their arguments are read at, and how many have been passed
pub record Stage {A : Type 0} (checks : A → List Check) : Type 0 where
  pub place : A
  pub passed : ℕ
  pub past : verdict_of (first_fault (checks place)) ≡ left passed (checks place)

-- none has
abbrev pub begin : {A : Type 0} (checks : A → List Check) → A → Stage checks
begin checks a = record { place = a; passed = 0; past = refl }

-- one more has
abbrev pub next : {A : Type 0} {checks : A → List Check} (s : Stage checks)
    → left s.passed (checks s.place) ≡ left (suc s.passed) (checks s.place) → Stage checks
next s e = record { place = s.place; passed = suc s.passed; past = s.past ∙ e }
