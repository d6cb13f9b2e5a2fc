-- `indexing::pairs::put_limit` puts a limit over two variables. Assumes nothing.
use Prim.Native.Nat.{ℕ}
use mathlib.Core.Path.{◌∙◌, ap, ap₂}
use Rattle.cells.specs.Memory.{Mem}
use Rattle.index.specs.Index.{pair_in, lower_m, limit_m}
use Rattle.indexing.proofs.pairs.put_limit.Goals as goal

pub returns : goal.returns
unfolding limit_m
returns c =
    let a = c.args in
    c.lower.ensures
    ∙ ap₂ (λ (p : ℕ) (m : Mem). lower_m p a.limit m)
    (c.pair-p.ensures.0 ∙ ap (λ (m : Mem). pair_in m a.x a.y) c.number.ensures) c.number.ensures
