-- A verdict whose fault is given a place, as by `.map_err(|fault| decline_at(fault, at))`.
use Prim.Native.Nat.{ℕ}
use mathlib.Core.Option.{Option, none, some}
use mathlib.Core.Path.{◌≡◌, refl, sym, ◌∙◌, ap, subst}
use native.Mathlib.Omega.{arith}
use Rattle.faults.specs.CheckList.{fault_at, verdict_of}
use Rattle.faults.specs.Fault.{decline}
use Rattle.faults.specs.declared.Decline.{Decline}
use Rattle.faults.specs.declared.Fault.{Fault}
use Rattle.std.proofs.lemmas.Result.{err_from_is_err_and}
use Rattle.std.specs.Prelude.{Result, Ok, Err, MatchResult, IsErrAnd}

-- `Places` is what the closure does with a fault
module _ (at : ℕ) (o : Option Fault) (v : Result (Unit {0}) Fault) (e : v ≡ verdict_of o) (r : Result (Unit {0}) Decline)
    {Places : Fault → Decline → Type 0} (mapped : MatchResult v (λ u. r ≡ Ok u) (λ f. IsErrAnd r (Places f)))
    (places : (f : Fault) (d : Decline) → Places f d → d ≡ decline f at) where
  -- it passes only where there is no fault
  pub placed_passes : (u : Unit {0}) → r ≡ Ok u → o ≡ none
  placed_passes u is = go o (subst (λ (w : Result (Unit {0}) Fault). MatchResult w (λ u. r ≡ Ok u) (λ f. IsErrAnd r (Places f))) e mapped)
    where
      go : (o : Option Fault) → MatchResult (verdict_of o) (λ u. r ≡ Ok u) (λ f. IsErrAnd r (Places f)) → o ≡ none
      go none m = refl
      go (some f) m = let p = err_from_is_err_and r m in let q = p.1 in let z : ◌≡◌ {A = ℕ} 0 1 = cc in absurd (omega arith)

  -- and else it is the fault at its place
  pub placed_fails : (d : Decline) → r ≡ Err d → fault_at at o ≡ some d
  placed_fails d is = go o (subst (λ (w : Result (Unit {0}) Fault). MatchResult w (λ u. r ≡ Ok u) (λ f. IsErrAnd r (Places f))) e mapped)
    where
      go : (o : Option Fault) → MatchResult (verdict_of o) (λ u. r ≡ Ok u) (λ f. IsErrAnd r (Places f)) → fault_at at o ≡ some d
      go none m = let z : ◌≡◌ {A = ℕ} 0 1 = cc in absurd (omega arith)
      go (some f) m =
          let p = err_from_is_err_and r m in
          let q = p.1 in
          let same : p.0 ≡ d = cc in
          ap {B = Option Decline} some (sym (places f p.0 p.2) ∙ same)
