-- `sections::variable::repeats_code` says whether some value's code stands earlier in its section.
-- Invariants: no value before `v` repeats a code, and no value before `u` has the code of value `v`. Assumes nothing.
use Prim.Native.Nat.{ℕ, ◌+◌, ◌<◌}
use borrow.Author.Tests.{eq-eqb, ne_eqb}
use mathlib.Core.Bool.{Bool, true, false}
use mathlib.Core.List.{List}
use mathlib.Core.Path.{◌≡◌, sym, ◌∙◌, ap}
use native.Mathlib.Omega.{arith}
use Rattle.base.proofs.Below.{any_below_lem, any_more}
use Rattle.base.specs.Below.{any_below}
use Rattle.format.specs.Format.{size_at, code_at}
use Rattle.plan.specs.Check.{repeats_code}
use Rattle.sections.proofs.variable.repeats_code.Goals as goal
use Rattle.sections.proofs.variable.repeats_code.Invariants.{same, repeats}

module _ (b : List ℕ) (at : ℕ) where
  -- x is value u's code and y is value v's
  same_more : (u v x y : ℕ) → any_below u (same b at v) ≡ false → x ≡ code_at b at u → y ≡ code_at b at v → (x ≡ y → ⊥)
      → any_below (u + 1) (same b at v) ≡ false
  unfolding same
  same_more u v x y e p q ne = any_more u (same b at v) e (ne_eqb (code_at b at u) (code_at b at v) (λ r. ne (p ∙ r ∙ sym q)))

  repeats-more : (u v : ℕ) → any_below v (repeats b at) ≡ false → any_below u (same b at v) ≡ false → u ≡ v
      → any_below (v + 1) (repeats b at) ≡ false
  unfolding repeats
  repeats-more u v e p q = any_more v (repeats b at) e (ap (λ (k : ℕ). any_below k (same b at v)) (sym q) ∙ p)

  repeated : (n u v x y : ℕ) → u < v → v < n → x ≡ code_at b at u → y ≡ code_at b at v → x ≡ y
      → any_below n (repeats b at) ≡ true
  unfolding repeats same
  repeated n u v x y l h p q e =
      any_below_lem n (repeats b at) v h
      (any_below_lem v (same b at v) u l (eq-eqb (code_at b at u) (code_at b at v) (sym p ∙ e ∙ q)))

  code-repeats : (n : ℕ) (r : Bool) → n ≡ size_at b at → any_below n (repeats b at) ≡ r → r ≡ repeats_code b at
  unfolding repeats_code repeats same
  code-repeats n r p e = sym e ∙ ap (λ (k : ℕ). any_below k (repeats b at)) p

pub loop-u-preserved : goal.loop-u-preserved
loop-u-preserved c =
    let a = c.args in (
      c.loop-u.invariant.0,
      same_more a.plan.now a.at c.loop-u.u c.scan.v c.code.result c.code-code.result
          c.loop-u.invariant.1 c.code.ensures.0 c.code-code.ensures.0 c.if-code.false,
    )

pub scan-preserved : goal.scan-preserved
scan-preserved c =
    let a = c.args in (
      c.loop-u.invariant.0,
      repeats-more a.plan.now a.at c.loop-u.u c.scan.v c.scan.invariant.1 c.loop-u.invariant.1 (omega arith),
    )

pub returns-after-scan : goal.returns-after-scan
returns-after-scan c =
    let a = c.args in
    let n : c.scan.v ≡ size_at a.plan.now a.at = omega (arith, c.size-size.ensures.0) in
    c.scan.invariant.0 ∙ code-repeats a.plan.now a.at c.scan.v false n c.scan.invariant.1

pub returns-then-code : goal.returns-then-code
returns-then-code c =
    let a = c.args in
    code-repeats a.plan.now a.at c.size-size.result true c.size-size.ensures.0
    (repeated a.plan.now a.at c.size-size.result c.loop-u.u c.scan.v c.code.result c.code-code.result
    (omega arith) (omega arith) c.code.ensures.0 c.code-code.ensures.0 c.if-code.true)
