-- How many turns of a run change something: by the potential, at most 5pL + 2L + 3p + 1.
use Prim.Native.Nat.{ℕ, suc, ◌+◌, ◌*◌, ◌≤◌}
use mathlib.Core.Bool.{true}
use mathlib.Core.List.{List, []}
use mathlib.Core.Logic.{◌↔◌}
use mathlib.Core.Path.{◌≡◌, refl, ◌∙◌, ap}
use native.Mathlib.Nat.{mul-add, add-mul}
use native.Mathlib.Omega.{arith}
use Rattle.format.specs.Limits.{max_workers}
use Rattle.base.proofs.Sums.{sum_zero}
use Rattle.base.specs.Below.{one}
use Rattle.disac4.proofs.Channels.{into, into_none}
use Rattle.disac4.proofs.DomainSize.{load_size, deletions_loaded}
use Rattle.disac4.proofs.Fold.{count_keeps}
use Rattle.disac4.proofs.Moves.{Effect, idle, acts, effect}
use Rattle.disac4.proofs.Potential.{controller_weight, worker_weight, potential, potential_falls}
use Rattle.disac4.specs.Loading.{unsupported, load}
use Rattle.disac4.specs.State.{State}
use Rattle.disac4.specs.System.{System, turn_bound, bound_of, Sound}
use Rattle.disac4.specs.Turn.{Turn, step, after, play, changes, changes_where}
use Rattle.network.specs.Network.{domain_size}

module _ (sys : System) (few : sys.workers ≤ max_workers) where
  -- a turn that is not idle lowers the potential by 1 or more
  turn_bounded : (st : State) (t : Turn)
      → one (changes sys st t) + potential sys (after sys st t) ≤ potential sys st
  turn_bounded st t = go (effect sys st few t)
    where
      go : Effect sys st t → one (changes sys st t) + potential sys (after sys st t) ≤ potential sys st
      go (idle c a e) = omega (arith, ap one c, ap (potential sys) a)
      go (acts c o l m u) = omega (arith, ap one c, potential_falls sys st m)

  -- the report counts a turn exactly if the state after it differs from the state before
  pub changes_exactly : (st : State) (t : Turn) → (changes sys st t ≡ true) ↔ (after sys st t ≡ st → ⊥)
  changes_exactly st t = (
    λ c e. omega (arith, turn_bounded st t, ap one c, ap (potential sys) e),
    λ h. go (effect sys st few t) h,
  )
    where
      go : Effect sys st t → (after sys st t ≡ st → ⊥) → changes sys st t ≡ true
      go (idle c a e) h = absurd (h a)
      go (acts c o l m u) h = c

  -- the turns that change something and what is left of the potential are at most the potential before
  pub turns_bounded : (ts : List Turn) (st : State)
      → changes_where sys (λ t. true) st ts + potential sys (play sys st ts) ≤ potential sys st
  turns_bounded ts st =
      count_keeps (step sys) (λ t. true) (λ s n. n + potential sys s ≤ potential sys st)
      (λ s n t h. omega (arith, turn_bounded s t)) ts st (omega arith)

-- `gone` labels to treat and to send, and `listed` labels in the domains, weigh as much as the bound
loaded_weight : (p listed gone : ℕ)
    → gone + (5 * p + 1) * gone + (5 * p + 2) * listed + (3 * p + 1) ≡ turn_bound p (listed + gone)
unfolding turn_bound
loaded_weight p listed gone =
    omega (arith, mul-add (5 * p) listed gone, add-mul (5 * p) 1 gone, add-mul (5 * p) 2 listed)

-- at loading the potential is the bound
pub potential_loaded : (sys : System) → Sound sys → potential sys (load sys) ≡ bound_of sys
unfolding potential load bound_of
potential_loaded sys sound =
    let p : ℕ = sys.workers in
    let gone : ℕ = domain_size sys.net (unsupported sys.net) in
    let listed : ℕ = domain_size sys.net (load sys).domain in
    let summands : potential sys (load sys) ≡ gone + (5 * p + 1) * gone + (5 * p + 2) * listed + (3 * p + 1) =
    omega (
      arith,
      deletions_loaded sys sound.owned,
      ap (λ x. (5 * p + 1) * x) (deletions_loaded sys sound.owned),
      sum_zero p (λ i. 0) (λ i h. refl),
      into_none (controller_weight p) p 0,
      sum_zero p (λ i. into worker_weight p (λ j k. []) (suc i)) (λ i h. into_none worker_weight p (suc i)),
    ) in
    summands ∙ (loaded_weight p listed gone ∙ ap (turn_bound p) (load_size sys))

-- of the turns of a run, at most the bound change something
pub changes_bounded : (sys : System) → Sound sys → (ts : List Turn) → changes_where sys (λ t. true) (load sys) ts ≤ bound_of sys
changes_bounded sys sound ts =
    omega (arith, turns_bounded sys sound.few ts (load sys), potential_loaded sys sound)
