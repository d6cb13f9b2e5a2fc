-- `indexing::index_places` writes where each section starts. Invariant: the places of the first k sections are written,
-- and `at` is the next one's. Assumes nothing.
use mathlib.Core.Path.{refl, ◌∙◌, ap}
use native.Mathlib.Numerals.{add-one}
use native.Mathlib.Omega.{arith}
use Rattle.cells.proofs.Done.{done_none, done_more, done_all}
use Rattle.cells.proofs.Ranges.{may_put}
use Rattle.index.proofs.Places.{few_sections, start_inside, start_fits}
use Rattle.index.specs.Index.{places_m}
use Rattle.cells.specs.Layout.{PLACES}
use Rattle.cells.specs.Memory.{mem_of, store}
use Rattle.format.specs.Format.{behind, section_start}
use Rattle.indexing.proofs.index_places.Goals as goal

pub loop-k-init : goal.loop-k-init
unfolding section_start
loop-k-init c = (refl, done_none)

pub put-requires : goal.put-requires
put-requires c =
    let b = c.args.plan.now in
    may_put _ _ _ refl _ _
    (omega (
      arith,
      c.loop-k.invariant,
      c.section_count-count.ensures.0,
      c.requires,
      few_sections b c.requires.0,
      start_fits b c.requires.0 c.loop-k.k (omega (arith, c.section_count-count.ensures.0)),
    ))

pub behind-at-requires : goal.behind-at-requires
behind-at-requires c =
    omega (arith, start_inside c.args.plan.now c.requires.0 c.loop-k.k (omega (arith, c.section_count-count.ensures.0)), c.loop-k.invariant)

pub loop-k-preserved : goal.loop-k-preserved
unfolding section_start
loop-k-preserved c =
    let put = c.put in (
      rw add-one (c.behind-at.ensures ∙ ap (behind c.args.plan.now) c.loop-k.invariant.0),
      done_more c.loop-k.invariant.1 put.auto.cells
          (put.ensures ∙ ap (store (mem_of c.loop-k.cells) PLACES 0 c.loop-k.k) c.loop-k.invariant.0),
    )

pub returns : goal.returns
unfolding places_m
returns c = done_all _ c.loop-k.invariant.1 (omega (arith, c.section_count-count.ensures.0))
