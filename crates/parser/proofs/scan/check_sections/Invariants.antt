use Prim.Native.Nat.{◌≤◌}
use mathlib.Core.Path.{◌≡◌}
use lib.ListN.{length}
use Rattle.sections.specs.Known.{start_count}
use Rattle.touching.specs.Touching.{Touching}
use Rattle.format.specs.Format.{section_start}
use Rattle.parser.specs.Known.{PassedBefore, labels_before, constraints_before}
use Rattle.parser.proofs.scan.check_sections.Given as goal

abbrev pub invariant-loop-k : goal.invariant-loop-k
invariant-loop-k l =
    record {
      passed : PassedBefore l.plan l.starts l.k;
      size : length l.starts ≡ start_count;
      start : l.at ≡ section_start l.plan l.k;
      within : l.at ≤ length l.plan;
      labels : l.labels ≡ labels_before l.plan l.k;
      touching : Touching l.plan (constraints_before l.plan l.k) l.touched.rows l.touched.pairs;
    }
