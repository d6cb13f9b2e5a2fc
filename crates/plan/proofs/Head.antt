-- The ranges of the counts that a head without fault gives.
use Prim.Native.Nat.{ℕ, ◌≤◌}
use mathlib.Core.Bool.{Bool, true, ◌&&◌}
use mathlib.Core.List.{List}
use mathlib.Core.Option.{none}
use mathlib.Core.Path.{◌≡◌}
use borrow.Author.Tests.{leb-true}
use lib.Dec.{leb}
use Rattle.base.proofs.Bools.{and_left, and_right}
use Rattle.base.proofs.Choice.{between_low, between_high}
use Rattle.base.specs.Choice.{between}
use Rattle.format.specs.Format.{worker_count, variable_count, constraint_count}
use Rattle.format.specs.Limits.{max_workers, max_variables, max_constraints}
use Rattle.plan.proofs.SectionSays.{head_says}
use Rattle.faults.specs.CheckList.{first_fault}
use Rattle.plan.specs.Check.{head_in_range, head_checks}

-- the head's counts, as `WellFormed` has them
pub record HeadFits (b : List ℕ) : Type 0 where
  pub workers_low : 1 ≤ worker_count b
  pub workers_high : worker_count b ≤ max_workers
  pub variables_low : 1 ≤ variable_count b
  pub variables_high : variable_count b ≤ max_variables
  pub constraints_high : constraint_count b ≤ max_constraints

-- they are so where no check of the head fails
pub head_fits : (b : List ℕ) (at : ℕ) → first_fault (head_checks b at) ≡ none → HeadFits b
unfolding head_in_range
head_fits b at passed =
    let workers : Bool = between 1 max_workers (worker_count b) in
    let variables : Bool = between 1 max_variables (variable_count b) in
    let constraints : Bool = leb (constraint_count b) max_constraints in
    let all : workers && variables && constraints ≡ true = (head_says b at passed).in_range in
    let both : workers && variables ≡ true = and_left (workers && variables) constraints all in
    record {
      workers_low = between_low 1 max_workers (worker_count b) (and_left workers variables both);
      workers_high = between_high 1 max_workers (worker_count b) (and_left workers variables both);
      variables_low = between_low 1 max_variables (variable_count b) (and_right workers variables both);
      variables_high = between_high 1 max_variables (variable_count b) (and_right workers variables both);
      constraints_high = leb-true (constraint_count b) max_constraints (and_right (workers && variables) constraints all);
    }
