-- The answers as numbers.
use Rattle.std.specs.Prelude.{ℕ, cond, List, [], ◌∷◌, length, replicate, Result, Ok, Err}
use Rattle.base.specs.Row.{is_odd}
use Rattle.disac4.specs.declared.Report.{Report}
use Rattle.disac4.specs.declared.Status.{Status}
use Rattle.disac4.specs.declared.Status.TheVariants.{Open, Closed, Bare}
use Rattle.faults.specs.Fault.{number_of}
use Rattle.plan.specs.declared.Counts.{Counts}
use Rattle.faults.specs.declared.Decline.{Decline}
use Rattle.sweeping.specs.Outcome.{TwoLists, last_sweep}

-- a number for each status
abbrev pub status_number : Status → ℕ
status_number Open = 0
status_number Closed = 1
status_number Bare = 2

-- a decline's number and place, and then so many zeros
abbrev pub decline_numbers : ℕ → Decline → List ℕ
decline_numbers zeros d = number_of d.fault ∷ d.place ∷ replicate zeros 0

-- 0, p, n, the number of rules and L; or a decline
unfoldable pub checked_numbers : Result Counts Decline → List ℕ
checked_numbers (Ok f) = 0 ∷ f.workers ∷ f.variables ∷ f.constraints ∷ f.labels ∷ []
checked_numbers (Err d) = decline_numbers 3 d

-- 0 and the report in its order; or a decline
unfoldable pub answer_numbers : Result Report Decline → List ℕ
answer_numbers (Ok r) = 0 ∷ status_number r.status ∷ r.changes ∷ r.sends ∷ r.polls ∷ r.empty ∷ []
answer_numbers (Err d) = decline_numbers 4 d

-- 0 and the number of sweeps; or a decline
unfoldable pub swept_numbers : Result ℕ Decline → List ℕ
swept_numbers (Ok k) = 0 ∷ k ∷ []
swept_numbers (Err d) = decline_numbers 0 d

-- 0, the buffer that holds the last sweep, 1 or 2, and the cells of the part
unfoldable pub part_numbers : ℕ → ℕ → List ℕ
part_numbers sweeps cells = 0 ∷ cond (is_odd sweeps) 2 1 ∷ cells ∷ []

-- those of the part that holds the last sweep: as many cells as were asked for, or 0 where the buffer has fewer
abbrev pub last_sweep_numbers : ℕ → ℕ → TwoLists → List ℕ
last_sweep_numbers sweeps count l = part_numbers sweeps (length (last_sweep sweeps count l))
