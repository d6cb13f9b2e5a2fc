-- What it means that checks find no fault, and what it means that they find one.
use Prim.Native.Nat.{ℕ, zero, suc}
use mathlib.Core.Bool.{Bool, true}
use mathlib.Core.List.{List, [], ◌∷◌}
use mathlib.Core.Option.{none, some}
use mathlib.Core.Path.{◌≡◌, refl, sym}
use lib.ListN.{get_or}
use Rattle.base.proofs.Bools.{and_left, and_right}
use Rattle.base.proofs.Choice.{by_test, none≢some, some_same}
use Rattle.base.specs.Choice.{all_of}
use Rattle.faults.specs.CheckList.{Check, ◌or_else◌, first_fault}
use Rattle.faults.specs.declared.Fault.{Fault}
use Rattle.faults.specs.declared.Fault.TheVariants.{Truncated}

-- where no check fails, the first holds and no later one fails
first_holds : (c : Check) (cs : List Check) → first_fault (c ∷ cs) ≡ none → (c.holds ≡ true) × (first_fault cs ≡ none)
first_holds c cs e = by_test c.holds e (λ p q. (p, q)) (λ p q. none≢some (sym q))

-- where no check fails, each of them holds; past the end stands one that holds
pub each_holds : (cs : List Check) → first_fault cs ≡ none → (i : ℕ) → (get_or cs i (true or_else Truncated)).holds ≡ true
each_holds [] e i = refl
each_holds (c ∷ cs) e zero = (first_holds c cs e).0
each_holds (c ∷ cs) e (suc i) = each_holds cs (first_holds c cs e).1 i

-- the fault found is one of the checks'
pub fault_among : (t : Fault → Bool) (cs : List Check) → all_of (λ c. t c.fault) cs ≡ true → (f : Fault)
    → first_fault cs ≡ some f → t f ≡ true
fault_among t [] h f e = none≢some e
fault_among t (c ∷ cs) h f e =
    let others = all_of (λ c. t c.fault) cs in
    by_test c.holds e (λ p q. fault_among t cs (and_right (t c.fault) others h) f q)
    (λ p q. some_same (λ g. t g ≡ true) q (and_left (t c.fault) others h))
