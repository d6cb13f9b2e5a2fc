-- The lines of the variables passed are put, and `section` is the place of the next one's section.
use Prim.Native.Nat.{suc, ◌+◌, ◌*◌, ◌≤◌}
use mathlib.Core.Path.{◌≡◌}
use Rattle.base.specs.Below.{gather_below}
use Rattle.plan.specs.Decode.{plan_of}
use Rattle.format.specs.Format.{section_start}
use Rattle.format.specs.Version.{row_words}
use Rattle.buffer.specs.Taken.{Takes}
use Rattle.domains.specs.Lines.{variable_line}
use Rattle.domains.proofs.push_domains.Given as goal

abbrev pub invariant-loop-x : goal.invariant-loop-x
invariant-loop-x l = record {
  place : l.section ≡ section_start l.plan (suc l.x);
  near : l.section ≤ 65538 + l.x * 65537;
  taken : Takes (gather_below l.x (variable_line (row_words l.plan) (plan_of l.plan) l.lists)) l.initial.text l.text;
}
