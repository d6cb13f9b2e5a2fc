-- `buffer::Text::push_word` puts a word's bytes.
use mathlib.Core.Path.{refl}
use native.Mathlib.Omega.{arith}
use Rattle.buffer.proofs.Puts.{takes_none, then_next}
use Rattle.buffer.proofs.Text.push_word.Goals as goal

pub loop-byte-init : goal.loop-byte-init
loop-byte-init c = takes_none

pub loop-byte-preserved : goal.loop-byte-preserved
loop-byte-preserved c =
    let i = c.loop-byte.byte-index in
    then_next _ i (omega arith) c.loop-byte.invariant refl c.push.ensures
