-- What a section's checks say: that it is complete, which number it gives, and where.
use Prim.Native.Nat.{ℕ, zero, suc, ◌-◌, ◌<◌, ◌≤◌}
use mathlib.Core.Bool.{Bool, true, false, cond}
use mathlib.Core.List.{List}
use mathlib.Core.Option.{Option, none, some}
use mathlib.Core.Path.{◌≡◌, refl, sym}
use native.Mathlib.Nat.{le_refl}
use borrow.Author.Tests.{leb-true}
use lib.Dec.{leb, eqb}
use lib.ListN.{length}
use Rattle.base.proofs.Below.{none_first}
use Rattle.base.proofs.Choice.{none≢some, some_same}
use Rattle.base.specs.Below.{first_below}
use Rattle.base.specs.Choice.{all_of, between}
use Rattle.format.specs.Format.{section_start, variable_count}
use Rattle.faults.proofs.Checks.{fault_among}
use Rattle.faults.specs.CheckList.{Check, first_fault, fault_at}
use Rattle.plan.proofs.SectionSays.{head_says, variable_says, constraint_says}
use Rattle.plan.specs.Check.{complete, head_checks, variable_checks, constraint_checks, section_checks, section_fault}
use Rattle.faults.specs.Fault.{number_of}
use Rattle.faults.specs.declared.Decline.{Decline}
use Rattle.faults.specs.declared.Fault.{Fault}

-- what holds of the checks of each kind of section holds of every section's
pub each_section : (P : List Check → Type 0) (b : List ℕ) (k : ℕ) → P (head_checks b (section_start b k))
    → P (variable_checks b k (section_start b k)) → P (constraint_checks b (k - variable_count b) (section_start b k)) → P (section_checks b k)
unfolding section_checks
each_section P b k head variable constraint = go (eqb k 0) (leb k (variable_count b))
  where
    go : (s t : Bool)
        → P (cond s (head_checks b (section_start b k))
        (cond t (variable_checks b k (section_start b k)) (constraint_checks b (k - variable_count b) (section_start b k))))
    go true t = head
    go false true = variable
    go false false = constraint

-- a section without fault is not cut off
pub section_complete : (b : List ℕ) (k : ℕ) → first_fault (section_checks b k) ≡ none → section_start b (suc k) ≤ length b
unfolding complete section_start
section_complete b k =
    each_section (λ cs. first_fault cs ≡ none → section_start b (suc k) ≤ length b) b k
    (λ e. leb-true (section_start b (suc k)) (length b) (head_says b (section_start b k) e).whole)
    (λ e. leb-true (section_start b (suc k)) (length b) (variable_says b k (section_start b k) e).whole)
    (λ e. leb-true (section_start b (suc k)) (length b) (constraint_says b (k - variable_count b) (section_start b k) e).whole)

-- a section's checks give the numbers 1 to 7 alone
pub section_number : (b : List ℕ) (k : ℕ) (f : Fault) → first_fault (section_checks b k) ≡ some f → between 1 7 (number_of f) ≡ true
unfolding head_checks variable_checks constraint_checks
section_number b k f =
    fault_among (λ g. between 1 7 (number_of g)) (section_checks b k)
    (each_section (λ cs. all_of (λ c. between 1 7 (number_of c.fault)) cs ≡ true) b k refl refl refl) f

-- a fault with its place is the fault that was found, at that place
fault_found : (at : ℕ) (o : Option Fault) (d : Decline) → fault_at at o ≡ some d → (o ≡ some d.fault) × (d.place ≡ at)
fault_found at none d e = none≢some e
fault_found at (some f) d e =
    some_same (λ d. (◌≡◌ {A = Option Fault} (some f) (some d.fault)) × (d.place ≡ at)) e (refl, refl)

-- where there is none, none was found
fault_none : (at : ℕ) (o : Option Fault) → fault_at at o ≡ none → o ≡ none
fault_none at none e = refl
fault_none at (some f) e = none≢some (sym e)

-- a section's fault is the first of its checks', and stands at the section's start
pub section_declines : (b : List ℕ) (k : ℕ) (d : Decline) → section_fault b k ≡ some d
    → (first_fault (section_checks b k) ≡ some d.fault) × (d.place ≡ section_start b k)
unfolding section_fault
section_declines b k = fault_found (section_start b k) (first_fault (section_checks b k))

-- a section with no fault passes its checks
section_passes : (b : List ℕ) (k : ℕ) → section_fault b k ≡ none → first_fault (section_checks b k) ≡ none
unfolding section_fault
section_passes b k = fault_none (section_start b k) (first_fault (section_checks b k))

-- the sections before the first fault pass their checks
pub passed_before : (b : List ℕ) (k : ℕ) → first_below k (section_fault b) ≡ none → (i : ℕ) → i < k
    → first_fault (section_checks b i) ≡ none
passed_before b k e i h = section_passes b i (none_first k (section_fault b) e i h)

-- a section starts within the plan where those before it pass
pub start_within : (b : List ℕ) → 0 < length b → (k : ℕ) → ((i : ℕ) → i < k → first_fault (section_checks b i) ≡ none)
    → section_start b k ≤ length b
unfolding section_start
start_within b h zero passed = h
start_within b h (suc k) passed = section_complete b k (passed k (le_refl (suc k)))
