-- The table of the turns that are known to be idle, as a run goes on.
use Prim.Native.Nat.{ℕ, ◌+◌, ◌-◌, ◌<◌}
use mathlib.Core.Bool.{Bool, true, false, ◌&&◌, ◌||◌, not}
use mathlib.Core.List.{List, [], ◌∷◌}
use mathlib.Core.Option.{Option, none, some}
use mathlib.Core.Path.{◌≡◌, refl, sym, ◌∙◌, ap, subst}
use native.Mathlib.Omega.{arith}
use borrow.Author.Tests.{eqb-true, ne_eqb}
use lib.Dec.{eqb}
use lib.ListN.{length}
use Rattle.base.proofs.Bools.{and_left, and_right}
use Rattle.std.proofs.lemmas.Bool.{false≢true}
use Rattle.base.proofs.Choice.{by_test, cond_same, cond_false}
use Rattle.base.specs.Below.{one}
use Rattle.cells.proofs.Acting.{idle}
use Rattle.cells.specs.Memory.{mem_of}
use Rattle.controller.specs.Controller.{Machine, machine}
use Rattle.disac4.proofs.Fold.{after_idle}
use Rattle.disac4.specs.Fold.{is_some}
use Rattle.disac4.specs.Report.{is_send, is_poll}
use Rattle.disac4.specs.System.{System, system_at}
use Rattle.disac4.specs.Turn.{turn, allowed}
use Rattle.disac4.specs.declared.Tally.{Tally}
use Rattle.engine.proofs.Advancing.{advanced, none_added}
use Rattle.playing.specs.Known.{Idle, KnownIdle}
use Rattle.flags.specs.Flags.{actors, actions, cell_count, cell_at}
use Rattle.idle.specs.Table.{Puts, enables}
use Rattle.refinement.proofs.IdleKept.{idle_kept}
use Rattle.refinement.proofs.Start.{fits_regions}
use Rattle.refinement.proofs.Underway.{going_inv, going_after}
use Rattle.refinement.specs.Run.{worker_on, Going, Plays}
use Rattle.refinement.specs.Step.{with_mem, step_m, after_m}
use Rattle.disac4.specs.declared.Progress.{Progress}

-- at first nothing is known
pub nothing_known : (b cells : List ℕ) (t : Tally) (table : List Bool) → length table ≡ cell_count
    → ((k d : ℕ) → k < actors → d < actions → cell_at table k d ≡ false) → KnownIdle b cells t table
nothing_known b cells t table l z = record { long = l; idle = λ k d h e q. absurd (false≢true (sym (z k d h e) ∙ q)) }

-- a turn that is known to be idle is played by passing it over
pub passed_over : (b cells : List ℕ) (g : Progress) (table : List Bool) → Going b cells g → KnownIdle b cells g.tally table
    → (k d : ℕ) → k < actors → d < actions → cell_at table k d ≡ true → Plays b (turn k d ∷ []) cells g cells g
passed_over b cells g table go known k d h e q =
    advanced b cells cells g g k d false go.sound (idle _ _ (known.idle k d h e q)) (omega arith)
    (omega (arith, none_added (is_send (turn k d)))) (omega (arith, none_added (is_poll (turn k d))))

-- a turn may be noted as idle where it is
pub noted : {b cells : List ℕ} {t : Tally} {table table' : List Bool} (c : Bool) (k d : ℕ)
    → (c ≡ true → Idle b (machine cells t) k d)
    → Puts c (λ j a. eqb j k && eqb a d) table table' → KnownIdle b cells t table → KnownIdle b cells t table'
noted {b} {cells} {t} c k d idle p known = record {
  long = p.long;
  idle = λ j a h m q.
      by_test (eqb j k && eqb a d) (sym (p.each j a h m) ∙ q)
      (λ s o.
      rw (eqb-true j k (and_left (eqb j k) (eqb a d) s), eqb-true a d (and_right (eqb j k) (eqb a d) s)) (idle o))
      (λ _ z. known.idle j a h m z);
}

-- a worker's turn is idle where its action is
pub work_idle : (b cells : List ℕ) (t : Tally) (k d : ℕ) → (k ≡ 0 → ⊥) → worker_on (system_at b) t (k - 1) d (mem_of cells) ≡ none
    → Idle b (machine cells t) k d
unfolding step_m
work_idle b cells t k d n e =
    cond_same (t.closed || not (allowed (system_at b).workers (turn k d))) none _ none refl
    (cond_false _ _ (ne_eqb k 0 n) ∙ ap (with_mem t) e)

-- ---- after a turn that was played

module _ (b cells cells' : List ℕ) (g r : Progress) (go : Going b cells g) (k d : ℕ)
    (plays : Plays b (turn k d ∷ []) cells g cells' r) {table : List Bool} (known : KnownIdle b cells g.tally table) where
  abbrev sys : System
  sys = system_at b

  abbrev s : Machine
  s = machine cells g.tally

  -- what the turn has done
  abbrev done : (machine cells' r.tally ≡ after_m sys s (turn k d)) × (r.changes ≡ g.changes + one (is_some (step_m sys s (turn k d))))
  done = going_after b cells g go (turn k d) cells' r plays

  -- where it changed nothing it is idle, and all that was known is so still
  module _ (same : r.changes ≡ g.changes) where
    nothing : Idle b s k d
    nothing = uncounted (step_m sys s (turn k d)) (omega (arith, done.1, same))
      where
        uncounted : (o : Option Machine) → one (is_some o) ≡ 0 → o ≡ none
        uncounted none e = refl
        uncounted (some x) e = absurd (omega arith)

    stays : machine cells' r.tally ≡ s
    stays = done.0 ∙ after_idle (step_m sys) s (turn k d) nothing

    pub idle_again : Idle b (machine cells' r.tally) k d
    idle_again = subst (λ (x : Machine). Idle b x k d) (sym stays) nothing

    pub known_still : KnownIdle b cells' r.tally table
    known_still = record {
      long = known.long;
      idle = λ j a h m q. subst (λ (x : Machine). Idle b x j a) (sym stays) (known.idle j a h m q);
    }

  -- and what is not forgotten after it is so
  pub forgotten : (table' : List Bool) → Puts false (λ j a. enables (turn k d) (turn j a)) table table' → KnownIdle b cells' r.tally table'
  forgotten table' p = record {
    long = p.long;
    idle = λ j a h m q.
        subst (λ (x : Machine). Idle b x j a) (sym done.0)
        (by_test (enables (turn k d) (turn j a)) (sym (p.each j a h m) ∙ q)
        (λ _ z. absurd (false≢true z))
        (λ n z.
        idle_kept sys (fits_regions b go.sound) s (going_inv b cells g go)
        (turn k d) (turn j a) n (known.idle j a h m z)));
  }
