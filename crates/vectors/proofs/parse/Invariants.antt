-- The plan holds what is used of it and keeps its length; the rest of the line gets shorter.
use Rattle.std.proofs.Common.{length, ◌≡◌, ◌≤◌}
use Rattle.vectors.proofs.parse.Given as goal

abbrev pub invariant-loop-rest : goal.invariant-loop-rest
invariant-loop-rest l = record { within : l.used ≤ length l.plan; kept : length l.plan ≡ length l.initial.plan }

abbrev pub decreases-loop-rest : goal.decreases-loop-rest
decreases-loop-rest l = length l.rest
