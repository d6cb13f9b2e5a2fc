-- `cells::layout::with_share` gives a cell with another number for a row of a region. Assumes nothing.
use borrow.Author.Tests.{not-true, not-false}
use mathlib.Core.Path.{sym}
use native.Mathlib.Omega.{arith}
use Rattle.cells.proofs.Halves.{room_whole, with_whole, with_shifted}
use Rattle.cells.proofs.layout.with_share.Goals as goal

pub returns-then-not-g : goal.returns-then-not-g
returns-then-not-g c =
    let whole = not-true _ c.if-not-g.true in
    (sym (with_whole c.args.g _ _ _ whole), omega (arith, room_whole c.args.g whole))

pub returns : goal.returns
returns c =
    let made = with_shifted c.args.g c.args.i c.args.v c.args.c (not-false _ c.if-not-g.false) c.requires.0 c.requires.1 in
    (made.0, omega (arith, made))
