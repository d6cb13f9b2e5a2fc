use Prim.Native.Nat.{ℕ}
use mathlib.Core.Bool.{Bool, false}
use mathlib.Core.List.{List}
use mathlib.Core.Path.{◌≡◌}
use lib.Dec.{eqb}
use Rattle.base.specs.Below.{any_below}
use Rattle.format.specs.Format.{code_at}
use Rattle.sections.proofs.variable.repeats_code.Given as goal

-- value u of the section at `at` has value v's code
unfoldable pub same : List ℕ → ℕ → ℕ → ℕ → Bool
same b at v u = eqb (code_at b at u) (code_at b at v)

unfoldable pub repeats : List ℕ → ℕ → ℕ → Bool
repeats b at v = any_below v (same b at v)

abbrev pub invariant-loop-u : goal.invariant-loop-u
invariant-loop-u l = (l.found ≡ false) × (any_below l.u (same l.plan l.at l.v) ≡ false)

abbrev pub invariant-scan : goal.invariant-scan
invariant-scan l = (l.found ≡ false) × (any_below l.v (repeats l.plan l.at) ≡ false)
