-- `indexing::pairs::number` gives a pair the next number, unless it has one. Assumes nothing.
use native.Mathlib.Omega.{arith}
use Rattle.cells.specs.Memory.{mem_of}
use Rattle.index.proofs.Stages.{number_passed, number_full, number_put}
use Rattle.indexing.proofs.pairs.number.Goals as goal

pub returns-then-end-lt-MAX_PAIRS : goal.returns-then-end-lt-MAX_PAIRS
returns-then-end-lt-MAX_PAIRS c =
    let a = c.args in
    number_put a.x a.y (mem_of a.cells.now) _ _ c.pair.ensures.0 c.if-pair-eq0.true c.get-end.ensures.0
    c.if-end-lt-MAX_PAIRS.true _ _ _ c.put.ensures c.put-then-end-lt-MAX_PAIRS.ensures c.put-then-end-lt-MAX_PAIRS-2.ensures

pub returns-else-end-lt-MAX_PAIRS : goal.returns-else-end-lt-MAX_PAIRS
returns-else-end-lt-MAX_PAIRS c =
    let a = c.args in
    number_full a.x a.y (mem_of a.cells.now) _ _ c.pair.ensures.0 c.if-pair-eq0.true c.get-end.ensures.0
    (omega (arith, c.if-end-lt-MAX_PAIRS.false))

pub returns-else-pair-eq0 : goal.returns-else-pair-eq0
returns-else-pair-eq0 c =
    let a = c.args in
    number_passed a.x a.y (mem_of a.cells.now) _ c.pair.ensures.0 c.if-pair-eq0.false
