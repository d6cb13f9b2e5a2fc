-- What the scan of a plan's sections knows: the sections that passed, where they start, and how many labels and constraints they have.
use Rattle.std.specs.Prelude.{ℕ, ◌-◌, ◌<◌, min, List, ◌≡◌, get_or}
use Rattle.std.proofs.Math.Option.{none}
use Rattle.sections.specs.Known.{start_count}
use Rattle.base.specs.Below.{first_below}
use Rattle.format.specs.Format.{section_start, variable_count}
use Rattle.plan.specs.Check.{section_fault, labels_to}

-- the sections before section k have no fault; `starts` has the places of the head and the variables
pub record PassedBefore (b starts : List ℕ) (k : ℕ) : Type 0 where
  pub passed : first_below k (section_fault b) ≡ none
  pub found : (i : ℕ) → i < k → i < start_count → get_or starts i 0 ≡ section_start b i

-- the labels of the variables among the first `k` sections: the head is not one of them, nor are the constraints
abbrev pub labels_before : List ℕ → ℕ → ℕ
labels_before b k = labels_to b (min (k - 1) (variable_count b))

-- the constraints among the first `k` sections: they stand behind the head and the variables
abbrev pub constraints_before : List ℕ → ℕ → ℕ
constraints_before b k = k - 1 - variable_count b
