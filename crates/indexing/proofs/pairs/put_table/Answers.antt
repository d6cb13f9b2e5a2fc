-- `indexing::pairs::put_table` puts a table over two variables. Assumes nothing.
use Prim.Native.Nat.{ℕ}
use mathlib.Core.Path.{◌∙◌, ap, ap₂}
use Rattle.cells.specs.Memory.{Mem}
use Rattle.index.specs.Index.{pair_in, chain_m, table_m}
use Rattle.indexing.proofs.pairs.put_table.Goals as goal

pub returns : goal.returns
unfolding table_m
returns c =
    let a = c.args in
    c.chain.ensures
    ∙ ap₂ (λ (p : ℕ) (m : Mem). chain_m p a.c m)
    (c.pair-p.ensures.0 ∙ ap (λ (m : Mem). pair_in m a.x a.y) c.number.ensures) c.number.ensures
