-- The checks on a plan's sections, in document 01's order ("In a section: .."), as jobs 4 and 5 have it.
use Rattle.std.specs.Prelude.{ℕ, suc, ◌+◌, ◌-◌, ◌*◌, ◌^◌, Bool, true, cond, ◌&&◌, ◌||◌, not, List, [], ◌∷◌, leb, ltb, eqb, length}
use Rattle.std.proofs.Math.Option.{Option}
use Rattle.base.specs.Below.{sum_below, count_below, all_below, any_below}
use Rattle.base.specs.Bytes.{word_at}
use Rattle.base.specs.Choice.{between}
use Rattle.format.specs.Format.{behind, section_start, constraint_start, worker_count, variable_count, constraint_count, owner_at, size_at, code_at, first_at, second_at, kind_at, table_row_at, is_set, further_count, scope_at, scope_of, numbered_size}
use Rattle.format.specs.Limits.{max_workers, max_variables, max_labels, max_constraints, max_pairs, max_further}
use Rattle.format.specs.Version.{max_size, row_bytes, max_kind}
use Rattle.plan.specs.Network.{joins}
use Rattle.faults.specs.CheckList.{Check, ◌or_else◌, first_fault, fault_at}
use Rattle.faults.specs.declared.Decline.{Decline}
use Rattle.faults.specs.declared.Fault.TheVariants.{Truncated, BadLength, BadCount, BadNumber, RepeatedCode, BadConstraint}

-- neither the section nor its length is cut off: a length that is cut off puts the end past the bytes all the same
unfoldable pub complete : List ℕ → ℕ → Bool
complete b at = leb (behind b at) (length b)

-- p from 1 to 8, n from 1 to 32, at most 128 rules
unfoldable pub head_in_range : List ℕ → Bool
head_in_range b =
    between 1 max_workers (worker_count b) && between 1 max_variables (variable_count b) && leb (constraint_count b) max_constraints

-- head: 1, 3, 4
unfoldable pub head_checks : List ℕ → ℕ → List Check
head_checks b at =
    (complete b at or_else Truncated) ∷ (eqb (word_at b at) 3 or_else BadLength) ∷ (head_in_range b or_else BadCount) ∷ []

-- some dish's code stands earlier in the slot
unfoldable pub repeats_code : List ℕ → ℕ → Bool
repeats_code b at = any_below (size_at b at) (λ v. any_below v (λ u. eqb (code_at b at u) (code_at b at v)))

-- the dishes of the slots up to slot `s`
abbrev pub labels_to : List ℕ → ℕ → ℕ
labels_to b s = sum_below s (λ x. numbered_size b (suc x))

-- slot `s`: 1, 3 (length under 2), 4 (its own count), 4 (more than 512 dishes with it), 3, 5, 6
unfoldable pub variable_checks : List ℕ → ℕ → ℕ → List Check
variable_checks b s at =
    (complete b at or_else Truncated)
    ∷ (leb 2 (word_at b at) or_else BadLength)
    ∷ (leb (size_at b at) (max_size b) or_else BadCount)
    ∷ (leb (labels_to b s) max_labels or_else BadCount)
    ∷ (eqb (word_at b at) (2 + 4 * size_at b at) or_else BadLength)
    ∷ (between 1 (worker_count b) (owner_at b at) or_else BadNumber)
    ∷ (not (repeats_code b at) or_else RepeatedCode)
    ∷ []

-- the first two slot numbers are in range, and the first is the smaller
unfoldable pub variables_in_order : List ℕ → ℕ → Bool
variables_in_order b at = leb 1 (first_at b at) && ltb (first_at b at) (second_at b at) && leb (second_at b at) (variable_count b)

-- a set rule has room for its limit and its count; rules of other kinds have no count, and pass
unfoldable pub has_count : List ℕ → ℕ → Bool
has_count b at = not (is_set b at) || leb 6 (word_at b at)

-- the length that a rule's content calls for
unfoldable pub constraint_length : List ℕ → ℕ → ℕ
constraint_length b at =
    cond (eqb (kind_at b at) 0) (3 + row_bytes b * numbered_size b (first_at b at)) (cond (is_set b at) (6 + further_count b at) 5)

-- each further slot is above the slot before it, and in range
unfoldable pub further_in_order : List ℕ → ℕ → Bool
further_in_order b at =
    all_below (further_count b at) (λ i. ltb (scope_at b at (i + 1)) (scope_at b at (i + 2)) && leb (scope_at b at (i + 2)) (variable_count b))

-- no bit of a table stands at or past the second slot's count
unfoldable pub table_fits : List ℕ → ℕ → Bool
table_fits b at =
    cond (eqb (kind_at b at) 0)
    (all_below (numbered_size b (first_at b at)) (λ v. ltb (table_row_at b at v) (2 ^ numbered_size b (second_at b at))))
    true

-- one of the first `r` rules is over variables `x` and `y` (slots, counted from 0), of which `x` is the lower
unfoldable pub touched : List ℕ → ℕ → ℕ → ℕ → Bool
touched b r x y = any_below r (λ c. joins (scope_of b (constraint_start b c)) x y)

-- the different pairs of slots that the first `r` rules touch
unfoldable pub pairs_to : List ℕ → ℕ → ℕ
pairs_to b r = sum_below (variable_count b) (λ y. count_below y (λ x. touched b r x y))

-- the rule whose number is `r`, counted from 1: 1, 3 (length under 3), 7 (kind), 5 (first two slots); of a set rule 3 (length under 6),
-- 4 (count), 3, 5 (further slots); of any other 3, 7 (bits); last, 4 (more than 128 pairs with it). A check that is not for the rule's
-- kind passes
unfoldable pub constraint_checks : List ℕ → ℕ → ℕ → List Check
constraint_checks b r at =
    (complete b at or_else Truncated)
    ∷ (leb 3 (word_at b at) or_else BadLength)
    ∷ (leb (kind_at b at) (max_kind b) or_else BadConstraint)
    ∷ (variables_in_order b at or_else BadNumber)
    ∷ (has_count b at or_else BadLength)
    ∷ (leb (further_count b at) max_further or_else BadCount)
    ∷ (eqb (word_at b at) (constraint_length b at) or_else BadLength)
    ∷ (further_in_order b at or_else BadNumber)
    ∷ (table_fits b at or_else BadConstraint)
    ∷ (leb (pairs_to b r) max_pairs or_else BadCount)
    ∷ []

-- the checks of section k
unfoldable pub section_checks : List ℕ → ℕ → List Check
section_checks b k =
    cond (eqb k 0) (head_checks b (section_start b k))
    (cond (leb k (variable_count b)) (variable_checks b k (section_start b k))
    (constraint_checks b (k - variable_count b) (section_start b k)))

-- the fault of section k, at the section's start
unfoldable pub section_fault : List ℕ → ℕ → Option Decline
section_fault b k = fault_at (section_start b k) (first_fault (section_checks b k))
