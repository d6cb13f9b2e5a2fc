-- `sweeping::sweep` writes the swept lists over the other buffer and tells whether it deleted anything. Invariant: the rows of
-- the first x variables are written, and the count is 0 exactly if none of them differs, for any domains that the lists show;
-- the buffer keeps its length. Assumes nothing.
use Prim.Native.Nat.{ℕ}
use mathlib.Core.Path.{refl, ◌∙◌, ap}
use native.Mathlib.Omega.{arith}
use Rattle.disac4.specs.System.{network_at}
use Rattle.format.proofs.Widths.{words_range}
use Rattle.format.specs.Lists.{row_in}
use Rattle.format.specs.Version.{row_words}
use Rattle.listing.specs.ListCells.{put_row, Shows}
use Rattle.plan.specs.Network.{network_of}
use Rattle.index.proofs.Counted.{counted}
use Rattle.sweeping.proofs.Writing.{writing_none, writing_next, writing_all, differ}
use Rattle.sweeping.specs.Sweeping.{SweepsTo}
use Rattle.sweeping.proofs.sweep.Goals as goal

pub loop-x-init : goal.loop-x-init
loop-x-init c = record { few = omega arith; size = refl; writing = λ d shows. writing_none _ _ d _ }

pub put_row-requires : goal.put_row-requires
put_row-requires c = (
  c.row_words-words.ensures.2,
  omega (arith, counted c.requires.0 c.variable_count-variables.ensures.0),
  omega (arith, c.loop-x.invariant.size, c.requires.2),
)

pub loop-x-preserved : goal.loop-x-preserved
unfolding Shows network_of
loop-x-preserved c =
    let all = counted c.requires.0 c.variable_count-variables.ensures.0 in
    let words = c.row_words-words.ensures in
    let b = c.args.plan.now in
    let l = c.loop-x in
    let told = differ c.sweep_row-row.result c.row_at.result c.from-shorter.ensures in record {
      few = omega (arith, told.0, l.invariant.few);
      size = c.put_row.auto.lists ∙ l.invariant.size;
      writing = λ d shows.
          writing_next (row_words b) (network_at b) d c.args.to.now l.to _ l.shorter l.x
          c.sweep_row-row.result c.row_at.result c.from-shorter.result (l.invariant.writing d shows) (words_range b).1 c.requires.2
          (omega (arith, all)) (c.sweep_row-row.ensures d shows)
          (c.row_at.ensures ∙ ap (λ (n : ℕ). row_in n c.args.from.now l.x) words.0 ∙ shows l.x (omega (arith, all.all))) told.1
          (c.put_row.ensures ∙ ap (λ (n : ℕ). put_row n l.x c.sweep_row-row.result l.to) words.0);
    }

pub returns : goal.returns
unfolding SweepsTo
returns c d shows =
    let all = counted c.requires.0 c.variable_count-variables.ensures.0 in
    let l = c.loop-x in
    writing_all (row_words c.args.plan.now) (network_at c.args.plan.now) d c.args.to.now l.to l.shorter l.x (l.invariant.writing d shows)
    (omega (arith, all.all))
