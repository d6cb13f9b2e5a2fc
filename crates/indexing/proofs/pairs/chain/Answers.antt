-- `indexing::pairs::chain` puts a table in front of the chain of a pair. Assumes nothing.
use Prim.Native.Nat.{◌+◌}
use mathlib.Core.Path.{◌∙◌, ap}
use Rattle.cells.specs.Layout.{NEXT, LASTS}
use Rattle.cells.specs.Memory.{Mem, mem_of, store}
use Rattle.index.specs.Index.{chain_m}
use Rattle.indexing.proofs.pairs.chain.Goals as goal

pub returns : goal.returns
unfolding chain_m
returns c =
    let a = c.args in
    c.put-2.ensures
    ∙ ap (λ (m : Mem). store m LASTS 0 a.p (a.c + 1))
    (c.put.ensures ∙ ap (store (mem_of a.cells.now) NEXT 0 a.c) c.get-last.ensures.0)
