use Prim.Native.Nat.{ℕ, ◌<◌}
use mathlib.Core.Bool.{Bool}
use mathlib.Core.Path.{◌≡◌}
use Rattle.base.proofs.Upper.{Upper}
use Rattle.base.proofs.row_where.Given as goal

-- a test of which the closure tells each outcome below a bound
abbrev pub Told : (Tells : ℕ → Bool → Type 0) → ℕ → (ℕ → Bool) → Type 0
Told Tells n t = (k : ℕ) → k < n → (held : Bool) → Tells k held → held ≡ t k

abbrev pub invariant-loop-k : goal.invariant-loop-k
invariant-loop-k g l = Upper (Told (goal.F-post g l.test) l.n) l.n l.row l.k
