-- `indexing::put_beside` puts a limit over one variable of its scope and each one before it. Invariant: over the first i. Assumes nothing.
use Prim.Native.Nat.{ℕ, ◌-◌}
use mathlib.Core.Path.{◌∙◌, ap, ap₂}
use native.Mathlib.Omega.{arith}
use Rattle.cells.proofs.Done.{done_none, done_more, done_all}
use Rattle.cells.specs.Memory.{mem_of}
use Rattle.format.specs.Format.{limit_at, scope_at}
use Rattle.index.specs.Index.{limit_m, beside_m}
use Rattle.indexing.proofs.put_beside.Goals as goal

pub loop-i-init : goal.loop-i-init
loop-i-init c = done_none

pub loop-i-preserved : goal.loop-i-preserved
loop-i-preserved c =
    let b = c.args.plan.now in
    let at = c.args.at in
    let m = mem_of c.loop-i.cells in
    done_more c.loop-i.invariant c.put_limit.auto.cells
    (c.put_limit.ensures
    ∙ ap₂ (λ (limit x : ℕ). limit_m limit (x - 1) (c.scope_at-y.result - 1) m) c.limit-limit.ensures.0 c.scope_at.ensures.0
    ∙ ap (λ (y : ℕ). limit_m (limit_at b at) (scope_at b at c.loop-i.i - 1) (y - 1) m) c.scope_at-y.ensures.0)

pub returns : goal.returns
unfolding beside_m
returns c = done_all _ c.loop-i.invariant (omega arith)
