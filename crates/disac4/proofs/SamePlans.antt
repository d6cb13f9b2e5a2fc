-- Plans that differ in nothing but how their rules are written: every run of the one gives what it gives of the other, and their
-- largest domains are the same.
use Prim.Native.Nat.{ℕ}
use mathlib.Core.List.{List}
use mathlib.Core.Logic.{◌↔◌}
use mathlib.Core.Path.{◌≡◌, refl, sym, subst}
use lib.ListN.{get_or}
use Rattle.format.specs.Format.{worker_count}
use Rattle.lending.proofs.Outcome.{same_outcome}
use Rattle.network.specs.Consistency.{Largest}
use Rattle.network.specs.Network.{Network, Domains}
use Rattle.plan.proofs.SamePlans.{same_network, same_words, both_accepted}
use Rattle.plan.specs.Decode.{plan_of, decode, accepted}
use Rattle.plan.specs.Plan.{no_variable, variable_of}
use Rattle.plan.specs.SamePlans.{SamePlans}
use Rattle.disac4.specs.Outcome.{Lent, input_fault, written, played, call_of, run_of, turn_run, round_run}
use Rattle.disac4.specs.Round.{round_run_turns}
use Rattle.disac4.specs.System.{system_of, network_at, system_at}
use Rattle.disac4.specs.Turn.{Turn, turns_of}

module _ (b c : List ℕ) (same : SamePlans b c) where
  -- they have one system
  pub same_system : system_at b ≡ system_at c
  unfolding system_of variable_of
  same_system = λ i. record {
    net = same_network b c same i;
    workers = same.workers i;
    owner = λ x. (get_or (same.variables i) x no_variable).owner;
  }

  -- so the largest domains of the one are those of the other
  pub same_largest : (d : Domains) → Largest (network_at b) d ↔ Largest (network_at c) d
  same_largest d = (
    subst (λ (net : Network). Largest net d) (same_network b c same),
    subst (λ (net : Network). Largest net d) (sym (same_network b c same)),
  )

  -- any turns leave the same
  same_written : (turns : List Turn) (l : Lent) → written b turns l ≡ written c turns l
  unfolding written
  same_written turns l = rw (same_words b c same, same_system)

  -- what the turns of a list give
  turns_played : (ts : List ℕ) (l : Lent) → played (turn_run b ts) l ≡ played (turn_run c ts) l
  unfolding played
  turns_played ts l = rw (same_system, same_written (turns_of ts) l)

  -- and those of the round run
  round_played : (l : Lent) → played (round_run b) l ≡ played (round_run c) l
  unfolding played
  round_played l = rw (same_system, same_written (round_run_turns (system_at c)) l)

  -- two accepted plans
  module _ (here : decode b ≡ accepted (plan_of b)) (there : decode c ≡ accepted (plan_of c)) where
    same_input : (ts : List ℕ) → input_fault b ts ≡ input_fault c ts
    unfolding input_fault plan_of
    same_input ts =
        let workers : worker_count b ≡ worker_count c = same.workers in
        rw (both_accepted b c here there, workers)

    -- the turn run gives the same of both, for every turn list and whatever is lent to it
    pub same_turns : (ts : List ℕ) (l : Lent) → run_of (turn_run b ts) l ≡ run_of (turn_run c ts) l
    same_turns ts =
        same_outcome (call_of (turn_run b ts)) (call_of (turn_run c ts)) refl (same_input ts) (turns_played ts) (λ d. refl)

    -- and so does the round run
    pub same_round : (l : Lent) → run_of (round_run b) l ≡ run_of (round_run c) l
    same_round =
        same_outcome (call_of (round_run b)) (call_of (round_run c)) refl (both_accepted b c here there) round_played (λ d. refl)
