-- `domains::push_domains` puts the lines of all variables. Assumes nothing.
use Prim.Native.Nat.{ℕ, ◌+◌}
use mathlib.Core.Path.{◌∙◌, ap}
use native.Mathlib.Numerals.{add-one}
use native.Mathlib.Omega.{arith}
use Rattle.plan.specs.Decode.{plan_of}
use Rattle.format.specs.Lists.{row_in}
use Rattle.format.specs.Version.{row_words}
use Rattle.buffer.proofs.Puts.{takes_none, then_more}
use Rattle.domains.proofs.Read.{line_read, start_first, start_more, lines_all}
use Rattle.domains.specs.Lines.{variable_line}
use Rattle.domains.proofs.push_domains.Goals as goal

pub loop-x-init : goal.loop-x-init
loop-x-init c = record {
  place = start_first c.args.plan.now c.word_at-section.result c.word_at-section.ensures.0;
  near = omega arith;
  taken = takes_none;
}

pub loop-x-preserved : goal.loop-x-preserved
loop-x-preserved c =
    let plan = c.args.plan.now in
    let lists = c.args.lists.now in
    let x = c.loop-x.x in record {
      place = start_more plan c.loop-x.section c.word_at.result x c.loop-x.invariant.place c.word_at.ensures.0;
      near = omega arith;
      taken =
          then_more x (variable_line (row_words plan) (plan_of plan) lists) c.loop-x.invariant.taken
          (line_read plan lists x c.loop-x.section (x + 1) c.row_at.result
          (omega (arith, c.variable_count-x-end.ensures.0)) c.loop-x.invariant.place (add-one x)
          (c.row_at.ensures ∙ ap (λ (n : ℕ). row_in n lists x) c.row_words-words.ensures.0))
          c.push_domain.ensures;
    }

pub returns : goal.returns
returns c =
    rw (lines_all c.args.plan.now c.args.lists.now c.loop-x.x (omega (arith, c.variable_count-x-end.ensures.0)))
    at c.loop-x.invariant.taken
