-- `reads::read_list` reads the next list message of a worker. Assumes nothing.
use native.Mathlib.Omega.{arith}
use Rattle.cells.proofs.Acting.{idle, acts}
use Rattle.reads.proofs.ReadLaws.{list_goes, list_idle, taken_from}
use Rattle.reads.proofs.read_list.Goals as goal

pub returns-then-read-sends : goal.returns-then-read-sends
returns-then-read-sends c = idle _ _ (list_idle _ _ _ (λ has. omega arith))

pub returns-then-to-gt-LABELROOM : goal.returns-then-to-gt-LABELROOM
returns-then-to-gt-LABELROOM c =
    idle _ _ (list_idle _ _ _ (λ has. omega (arith, rw (← c.get-read.ensures.0) at has.label_room)))

pub returns : goal.returns
returns c =
    acts _ _ _ _
    (list_goes _ _ _ (record {
      unread = omega (arith, c.get-read.ensures.0, c.get-sends.ensures.0, c.if-read-sends.false);
      bound_room = omega (arith, c.get-read.ensures.0);
      label_room = rw (← c.get-read.ensures.0) (omega (arith, c.get-to.ensures.0));
      count_room = omega (arith, c.get-lists.ensures.0);
    }))
    (taken_from _ _ _ c.get-read.ensures.0 c.get-from.ensures.0 c.get-to.ensures.0
    c.get-lists.ensures.0 c.take_list.ensures)
