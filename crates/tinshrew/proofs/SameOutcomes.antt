-- Two accepted plans that differ in nothing but how their rules are written, as a plan and its copy with the set rules written out, give
-- the same in every run and in the sweeps.
use Prim.Native.Nat.{ℕ}
use mathlib.Core.List.{List}
use mathlib.Core.Path.{◌≡◌, refl}
use Rattle.disac4.proofs.SamePlans.{same_largest, same_turns, same_round}
use Rattle.disac4.specs.System.{network_at}
use Rattle.format.specs.Version.{row_words}
use Rattle.lending.proofs.Outcome.{same_gives, same_outcome}
use Rattle.plan.proofs.SamePlans.{same_network, same_words, both_accepted}
use Rattle.plan.proofs.WrittenOut.{copy_same}
use Rattle.plan.specs.Decode.{decode, accepted, plan_of}
use Rattle.plan.specs.SamePlans.{SamePlans}
use Rattle.plan.specs.WrittenOut.{Copies}
use Rattle.sweeping.specs.Outcome.{TwoLists, sweep_outcome, sweep_call}
use Rattle.tinshrew.specs.SameOutcomes.{SameOutcomes, SameResults}

-- any two such plans
pub same_outcomes : (b c : List ℕ) → SamePlans b c → decode b ≡ accepted (plan_of b) → decode c ≡ accepted (plan_of c)
    → SameOutcomes b c
same_outcomes b c same here there = record {
  turns = same_turns b c same here there;
  round = same_round b c same here there;
  sweeps = same_outcome (sweep_call b) (sweep_call c) refl (both_accepted b c here there) swept (λ d. refl);
  largest = same_largest b c same;
}
  where
    swept : (l : TwoLists) → sweep_outcome (row_words b) (network_at b) l ≡ sweep_outcome (row_words c) (network_at c) l
    swept l = rw (same_words b c same, same_network b c same)

-- so a caller sees the same of both
pub same_results : (b c : List ℕ) → SameOutcomes b c → SameResults b c
same_results b c same = record {
  turns = λ ts l r r' after after'. same_gives r r' after after' (same.turns ts l);
  round = λ l r r' after after'. same_gives r r' after after' (same.round l);
  sweeps = λ l r r' after after'. same_gives r r' after after' (same.sweeps l);
}

-- a plan and its copy with the set rules written out, if that is accepted
pub copy_outcomes : (b c : List ℕ) → Copies b c → decode b ≡ accepted (plan_of b) → decode c ≡ accepted (plan_of c)
    → SameOutcomes b c
copy_outcomes b c copy = same_outcomes b c (copy_same b c copy)
