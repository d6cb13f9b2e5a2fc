-- What a section that passed its checks says, each check by a name. Where a check stands in its list is known here, and to the proof of
-- the function that makes the checks.
use Prim.Native.Nat.{ℕ, ◌+◌, ◌*◌}
use mathlib.Core.Bool.{true, not}
use mathlib.Core.List.{List}
use mathlib.Core.Option.{none}
use mathlib.Core.Path.{◌≡◌}
use lib.Dec.{leb, eqb}
use Rattle.base.specs.Bytes.{word_at}
use Rattle.base.specs.Choice.{between}
use Rattle.faults.proofs.Checks.{each_holds}
use Rattle.faults.specs.CheckList.{first_fault}
use Rattle.format.specs.Format.{worker_count, owner_at, size_at, kind_at, further_count}
use Rattle.format.specs.Limits.{max_labels, max_pairs, max_further}
use Rattle.format.specs.Version.{max_size, max_kind}
use Rattle.plan.specs.Check.{complete, head_in_range, head_checks, repeats_code, labels_to, variable_checks, variables_in_order, has_count, constraint_length, further_in_order, table_fits, pairs_to, constraint_checks}

-- the head
pub record HeadSays (b : List ℕ) (at : ℕ) : Type 0 where
  pub whole : complete b at ≡ true
  pub exact : eqb (word_at b at) 3 ≡ true
  pub in_range : head_in_range b ≡ true

pub head_says : (b : List ℕ) (at : ℕ) → first_fault (head_checks b at) ≡ none → HeadSays b at
unfolding head_checks
head_says b at e =
    let h = each_holds (head_checks b at) e in
    record { whole = h 0; exact = h 1; in_range = h 2 }

-- variable `s`
pub record VariableSays (b : List ℕ) (s at : ℕ) : Type 0 where
  pub whole : complete b at ≡ true
  pub has_count_lem : leb 2 (word_at b at) ≡ true
  pub few_values : leb (size_at b at) (max_size b) ≡ true
  pub few_labels : leb (labels_to b s) max_labels ≡ true
  pub exact : eqb (word_at b at) (2 + 4 * size_at b at) ≡ true
  pub owned : between 1 (worker_count b) (owner_at b at) ≡ true
  pub codes_differ : not (repeats_code b at) ≡ true

pub variable_says : (b : List ℕ) (s at : ℕ) → first_fault (variable_checks b s at) ≡ none → VariableSays b s at
unfolding variable_checks
variable_says b s at e =
    let h = each_holds (variable_checks b s at) e in
    record { whole = h 0; has_count_lem = h 1; few_values = h 2; few_labels = h 3; exact = h 4; owned = h 5; codes_differ = h 6 }

-- constraint `r`
pub record ConstraintSays (b : List ℕ) (r at : ℕ) : Type 0 where
  pub whole : complete b at ≡ true
  pub has_kind : leb 3 (word_at b at) ≡ true
  pub known_kind : leb (kind_at b at) (max_kind b) ≡ true
  pub in_order : variables_in_order b at ≡ true
  pub counted : has_count b at ≡ true
  pub few_further : leb (further_count b at) max_further ≡ true
  pub exact : eqb (word_at b at) (constraint_length b at) ≡ true
  pub further_in_order_lem : further_in_order b at ≡ true
  pub bits_fit : table_fits b at ≡ true
  pub few_pairs : leb (pairs_to b r) max_pairs ≡ true

pub constraint_says : (b : List ℕ) (r at : ℕ) → first_fault (constraint_checks b r at) ≡ none → ConstraintSays b r at
unfolding constraint_checks
constraint_says b r at e =
    let h = each_holds (constraint_checks b r at) e in
    record {
      whole = h 0;
      has_kind = h 1;
      known_kind = h 2;
      in_order = h 3;
      counted = h 4;
      few_further = h 5;
      exact = h 6;
      further_in_order_lem = h 7;
      bits_fit = h 8;
      few_pairs = h 9;
    }
