-- The codes of the values passed are put, and `rest` has the bits of the others.
use Prim.Native.Nat.{◌/◌, ◌^◌}
use mathlib.Core.Path.{◌≡◌}
use Rattle.format.specs.Format.{code_at}
use Rattle.buffer.specs.Taken.{Takes}
use Rattle.domains.specs.Lines.{listed_codes}
use Rattle.domains.proofs.push_codes.Given as goal

abbrev pub invariant-loop-v : goal.invariant-loop-v
invariant-loop-v l = record {
  rest : l.rest ≡ l.row / 2 ^ l.v;
  taken : Takes (listed_codes l.v (code_at l.plan l.section) l.row) l.initial.text l.text;
}
