-- `domains::push_codes` puts the listed codes. Assumes nothing.
use mathlib.Core.Path.{sym}
use native.Mathlib.Nat.{div-one}
use Rattle.format.specs.Format.{code_at}
use Rattle.buffer.proofs.Puts.{takes_none}
use Rattle.domains.proofs.Read.{codes_more, half_more}
use Rattle.domains.specs.Lines.{listed_codes}
use Rattle.domains.proofs.push_codes.Goals as goal

pub loop-v-init : goal.loop-v-init
unfolding listed_codes
loop-v-init c = record { rest = sym (div-one c.args.row); taken = takes_none }

pub loop-v-preserved : goal.loop-v-preserved
loop-v-preserved c = record {
  rest = half_more c.loop-v.rest c.args.row c.loop-v.v c.loop-v.invariant.rest;
  taken =
      codes_more c.args.row c.loop-v.rest c.loop-v.v (code_at c.args.plan.now c.args.section) c.word_at.result
      c.loop-v.invariant.rest c.word_at.ensures.0 c.loop-v.invariant.taken c.push_code.ensures;
}
