-- `supports::limit_values` gives the row of the values that the lowest limit of a pair permits with a value. Assumes nothing.
use Prim.Native.Nat.{ℕ, ◌-◌}
use borrow.Author.Tests.{eq-eqb, ne_eqb}
use mathlib.Core.Bool.{true}
use mathlib.Core.Path.{sym, ◌∙◌, ap, ap₂}
use Rattle.base.proofs.Choice.{cond_true, cond_false}
use Rattle.base.proofs.Row.{row_ext, row_full}
use Rattle.base.specs.Row.{row_of}
use Rattle.cells.specs.Layout.{LIMITS, LIMITED, LOWEST}
use Rattle.cells.specs.Memory.{mem_of}
use Rattle.format.specs.Format.{figure_at}
use Rattle.index.specs.Index.{within_lowest, lowest_limited}
use Rattle.plan.specs.Network.{within_limit}
use Rattle.rows.specs.Permits.{limited}
use Rattle.supports.proofs.limit_values.Goals as goal

pub returns-then-get-eq0 : goal.returns-then-get-eq0
unfolding within_lowest lowest_limited
returns-then-get-eq0 c =
    let a = c.args in
    let m = mem_of a.cells.now in
    let b = a.plan.now in
    ap (λ (k : ℕ). k - 1) c.power.ensures ∙ row_full a.values
    ∙ row_ext a.values (λ w. true) (lowest_limited b m a.p a.here a.v a.there)
    (λ w h.
    sym
    (cond_true true (within_limit (m LIMITS a.p LOWEST) (figure_at b a.here a.v) (figure_at b a.there w))
    (eq-eqb (m LIMITS a.p LIMITED) 0 (sym c.get.ensures.0 ∙ c.if-get-eq0.true))))

pub returns : goal.returns
unfolding within_lowest lowest_limited limited
returns c =
    let a = c.args in
    let m = mem_of a.cells.now in
    let b = a.plan.now in
    c.limit_row.ensures
    ∙ ap₂ (λ (limit f : ℕ). row_of a.values (limited b limit f a.there)) c.get-2.ensures.0 c.figure.ensures.0
    ∙ row_ext a.values (limited b (m LIMITS a.p LOWEST) (figure_at b a.here a.v) a.there)
    (lowest_limited b m a.p a.here a.v a.there)
    (λ w h.
    sym
    (cond_false true (within_limit (m LIMITS a.p LOWEST) (figure_at b a.here a.v) (figure_at b a.there w))
    (ne_eqb (m LIMITS a.p LIMITED) 0 (λ e. c.if-get-eq0.false (c.get.ensures.0 ∙ e)))))
