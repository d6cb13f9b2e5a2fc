-- How the plan check ends: which fault it gives, where, and what a plan without fault has passed.
use Prim.Native.Nat.{ℕ, suc, ◌+◌, ◌<◌, ◌≤◌}
use mathlib.Core.Bool.{Bool, true, false, cond}
use mathlib.Core.List.{List}
use mathlib.Core.Option.{Option, none, some}
use mathlib.Core.Path.{◌≡◌, refl, sym, ◌∙◌, ap}
use native.Mathlib.Omega.{arith}
use borrow.Author.Tests.{ltb-true, ltb-false, eqb-true, eqb-false}
use lib.Dec.{ltb, eqb}
use lib.ListN.{length}
use Rattle.base.proofs.Below.{first_below_lem}
use Rattle.base.proofs.Choice.{none≢some, some_same, between_low, between_high}
use Rattle.base.specs.Below.{first_below}
use Rattle.base.specs.Choice.{between, first_of}
use Rattle.format.specs.Format.{section_start, variable_count, constraint_count, section_count}
use Rattle.format.specs.Limits.{max_version}
use Rattle.format.specs.Version.{version as version_of}
use Rattle.plan.proofs.Answer.{plan_check_lem, no_fault, its_fault}
use Rattle.plan.proofs.Sections.{section_complete, section_number, section_declines, passed_before, start_within}
use Rattle.plan.specs.Answer.{counts_of, checked_as, plan_check}
use Rattle.faults.specs.CheckList.{first_fault}
use Rattle.plan.specs.Check.{section_checks, section_fault}
use Rattle.plan.specs.Decode.{plan_end, trailing_fault, sections_fault, plan_fault, plan_of, accepted, declined, decoded_as, decode}
use Rattle.faults.specs.Fault.{number_of, decline}
use Rattle.plan.specs.Plan.{Plan}
use Rattle.faults.specs.declared.Decline.{Decline}
use Rattle.faults.specs.declared.Fault.TheVariants.{Truncated, BadVersion, TrailingBytes}

-- the five ways in which the check of a plan ends
pub data Ending (b : List ℕ) (o : Option Decline) : Type 0 where
  empty : length b ≡ 0 → o ≡ some (decline Truncated 0) → Ending b o
  version : 0 < length b → between 1 max_version (version_of b) ≡ false → o ≡ some (decline BadVersion 0) → Ending b o
  section : 0 < length b → (k : ℕ) → k < section_count b → first_below k (section_fault b) ≡ none → (d : Decline)
      → section_fault b k ≡ some d → o ≡ some d → Ending b o
  trailing : plan_end b < length b → o ≡ some (decline TrailingBytes (plan_end b)) → Ending b o
  sound : between 1 max_version (version_of b) ≡ true → first_below (section_count b) (section_fault b) ≡ none → length b ≤ plan_end b → o ≡ none → Ending b o

-- every check of a plan ends in one of them
pub ending : (b : List ℕ) → Ending b (plan_fault b)
unfolding plan_fault sections_fault trailing_fault
ending b =
    go (eqb (length b) 0) refl (between 1 max_version (version_of b)) refl (first_below (section_count b) (section_fault b)) refl
    (ltb (plan_end b) (length b)) refl
  where
    go : (s : Bool) → eqb (length b) 0 ≡ s → (t : Bool) → between 1 max_version (version_of b) ≡ t → (o : Option Decline)
        → first_below (section_count b) (section_fault b) ≡ o → (u : Bool) → ltb (plan_end b) (length b) ≡ u
        → Ending b
        (cond s (some (decline Truncated 0))
        (cond t (first_of o (cond u (some (decline TrailingBytes (plan_end b))) none)) (some (decline BadVersion 0))))
    go true p t q o r u w = empty (eqb-true (length b) 0 p) refl
    go false p false q o r u w =
        let h : length b ≡ 0 → ⊥ = eqb-false (length b) 0 p in
        version (omega arith) q refl
    go false p true q (some d) r u w =
        let h : length b ≡ 0 → ⊥ = eqb-false (length b) 0 p in
        let f : (k : ℕ) × (k < section_count b) × (section_fault b k ≡ some d) × (first_below k (section_fault b) ≡ none) =
        first_below_lem (section_count b) (section_fault b) d r in
        section (omega arith) f.0 f.1 f.3 d f.2 refl
    go false p true q none r true w = trailing (ltb-true (plan_end b) (length b) w) refl
    go false p true q none r false w =
        sound q r (ltb-false (plan_end b) (length b) w) refl

-- a plan without fault has a version that there is, no section with a fault, and nothing behind the last one
sound_plan : (b : List ℕ) {o : Option Decline} → Ending b o → o ≡ none
    → (between 1 max_version (version_of b) ≡ true) × (first_below (section_count b) (section_fault b) ≡ none) × (length b ≤ plan_end b)
sound_plan b (empty p q) e = none≢some (sym e ∙ q)
sound_plan b (version p q r) e = none≢some (sym e ∙ r)
sound_plan b (section p j q r d s t) e = none≢some (sym e ∙ t)
sound_plan b (trailing p q) e = none≢some (sym e ∙ q)
sound_plan b (sound v q r s) e = (v, q, r)

-- a plan without fault is of a version that there is
pub sound_version : (b : List ℕ) → plan_fault b ≡ none → between 1 max_version (version_of b) ≡ true
sound_version b e = (sound_plan b (ending b) e).0

-- a plan without fault has passed the checks of each of its sections
pub sound_section : (b : List ℕ) → plan_fault b ≡ none → (k : ℕ) → k < section_count b → first_fault (section_checks b k) ≡ none
sound_section b e = passed_before b (section_count b) (sound_plan b (ending b) e).1

-- a plan without fault ends where its last section ends
pub sound_end : (b : List ℕ) → plan_fault b ≡ none → plan_end b ≡ length b
unfolding plan_end
sound_end b e =
    let last : ℕ = variable_count b + constraint_count b in
    let count : suc last ≡ 1 + variable_count b + constraint_count b = omega arith in
    let within : section_start b (suc last) ≤ length b = section_complete b last (sound_section b e last (omega arith)) in
    omega (arith, ap (section_start b) count, (sound_plan b (ending b) e).2)

-- a plan without a fault is accepted
pub decoded : (b : List ℕ) → plan_fault b ≡ none → decode b ≡ accepted (plan_of b)
unfolding decode
decoded b e = ap (decoded_as (plan_of b)) e

-- and one with a fault is declined for it
pub not_decoded : (b : List ℕ) (d : Decline) → plan_fault b ≡ some d → decode b ≡ declined d
unfolding decode
not_decoded b d e = ap (decoded_as (plan_of b)) e

-- back: an accepted plan has no fault, and is what the bytes hold
pub decode_plan : (b : List ℕ) (plan : Plan) → decode b ≡ accepted plan → (plan_fault b ≡ none) × (plan ≡ plan_of b)
unfolding plan_check
decode_plan b plan e =
    let sound = (no_fault b _ (counts_of plan) (sym (ap checked_as e) ∙ plan_check_lem b)).0 in
    (sound, let same = decoded b sound in cc)

-- and a plan is declined for its first fault
pub decode_fault : (b : List ℕ) (d : Decline) → decode b ≡ declined d → plan_fault b ≡ some d
unfolding plan_check
decode_fault b d e = its_fault b _ d (sym (ap checked_as e) ∙ plan_check_lem b)

module _ (P : Decline → Type 0) (b : List ℕ) (at_none : P (decline Truncated 0)) (at_version : P (decline BadVersion 0))
    (at_section : 0 < length b → (k : ℕ) → first_below k (section_fault b) ≡ none → (d : Decline) → section_fault b k ≡ some d → P d)
    (at_end : plan_end b < length b → P (decline TrailingBytes (plan_end b))) where
  -- what holds of each fault that a plan can have holds of the one that its check ends with
  each_fault : {o : Option Decline} → Ending b o → (d : Decline) → o ≡ some d → P d
  each_fault (empty p q) d e = some_same P (sym q ∙ e) at_none
  each_fault (version p q r) d e = some_same P (sym r ∙ e) at_version
  each_fault (section p k q r c s t) d e = some_same P (sym t ∙ e) (at_section p k r c s)
  each_fault (trailing p q) d e = some_same P (sym q ∙ e) (at_end p)
  each_fault (sound v q r s) d e = none≢some (sym s ∙ e)

-- a decline's place is in the plan or at its end: a section starts there only where those before it are complete
pub place_within : (b : List ℕ) (d : Decline) → decode b ≡ declined d → d.place ≤ length b
place_within b d e =
    each_fault (λ c. c.place ≤ length b) b (omega arith) (omega arith)
    (λ p k r c s. omega (arith, start_within b p k (passed_before b k r), (section_declines b k c s).1))
    (λ p. omega arith) (ending b) d (decode_fault b d e)

-- the plan check alone gives the numbers 1 to 8
pub number_within : (b : List ℕ) (d : Decline) → decode b ≡ declined d
    → (1 ≤ number_of d.fault) × (number_of d.fault ≤ 8)
number_within b d e =
    each_fault (λ c. (1 ≤ number_of c.fault) × (number_of c.fault ≤ 8)) b (omega arith) (omega arith)
    (λ p k r c s.
    let h : between 1 7 (number_of c.fault) ≡ true = section_number b k c.fault (section_declines b k c s).0 in
    omega (arith, between_low 1 7 (number_of c.fault) h, between_high 1 7 (number_of c.fault) h))
    (λ p. omega arith) (ending b) d (decode_fault b d e)
