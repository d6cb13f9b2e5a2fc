-- `cells::layout::share` gives what a cell has for a row of a region. Assumes nothing.
use borrow.Author.Tests.{not-true, not-false}
use mathlib.Core.Path.{sym}
use native.Mathlib.Omega.{arith}
use Rattle.cells.proofs.Halves.{room_halved, room_whole, share_whole, share_shifted}
use Rattle.cells.proofs.layout.share.Goals as goal

pub returns-then-not-g : goal.returns-then-not-g
returns-then-not-g c =
    let whole = not-true _ c.if-not-g.true in
    (sym (share_whole c.args.g _ _ whole), omega (arith, room_whole c.args.g whole))

pub returns : goal.returns
returns c =
    let halved = not-false _ c.if-not-g.false in
    (share_shifted c.args.g _ _ halved c.requires, omega (arith, room_halved c.args.g halved))
