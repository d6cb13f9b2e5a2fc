-- A run that goes on can be played one turn further.
use Prim.Native.Nat.{ℕ, ◌+◌, ◌≤◌}
use mathlib.Core.Bool.{Bool, true, false, cond, ◌&&◌}
use mathlib.Core.List.{List, [], ◌∷◌}
use mathlib.Core.Option.{none}
use mathlib.Core.Path.{◌≡◌, refl, sym, ◌∙◌, ap}
use mir.Val.{bool_byte}
use native.Mathlib.Nat.{pow-le-pow_right}
use native.Mathlib.Omega.{arith}
use Rattle.base.proofs.Sums.{one_and, one_le}
use Rattle.base.specs.Below.{one}
use Rattle.disac4.specs.Fold.{is_some, after_by}
use Rattle.disac4.specs.Report.{is_send, is_poll}
use Rattle.disac4.specs.System.{system_of, system_at}
use Rattle.disac4.specs.Turn.{Turn, turn}
use Rattle.engine.proofs.RunLaws.{workers_are}
use Rattle.refinement.proofs.Start.{fits_regions}
use Rattle.refinement.proofs.Underway.{going_inv, going_ready, at_next}
use Rattle.rows.specs.Permits.{Loaded}
use Rattle.refinement.specs.Inv.{LoadedNumber}
use Rattle.cells.specs.Acts.{Acts}
use Rattle.cells.specs.View.{label_of}
use Rattle.cells.specs.Layout.{WORKERS, HEAD}
use Rattle.cells.specs.Memory.{mem_of}
use Rattle.refinement.specs.Run.{turn_on, Going, Plays, Playable}
use Rattle.controller.specs.Controller.{machine}
use Rattle.refinement.specs.Step.{step_m}
use Rattle.disac4.specs.declared.Progress.{Progress}
use Rattle.plan.proofs.Parts.{variables_read}
use Rattle.plan.specs.Decode.{plan_fault}
use Rattle.format.specs.Format.{worker_count}
use Rattle.format.specs.Limits.{max_workers}
use Rattle.plan.specs.Network.{network_of}

module _ (b cells : List ℕ) (g : Progress) (go : Going b cells g) where
  few : worker_count b ≤ max_workers
  few = omega (arith, (fits_regions b go.sound).sound.few, workers_are b)

  -- the number stands for a label of the plan
  number_loaded : (c : ℕ) → LoadedNumber (system_at b) c → Loaded b (label_of c).variable (label_of c).value
  unfolding system_of network_of
  number_loaded c k = record { variable = omega (arith, k.variable, variables_read b); value = k.value }

  pub playable : Playable b cells g.tally
  playable = record {
    ready = going_ready b cells g go;
    marks = omega (arith, (going_inv b cells g go).marks, pow-le-pow_right {n = 2} (omega arith) (fits_regions b go.sound).sound.few);
    workers = few;
    labels = λ i h l. number_loaded _ (((going_inv b cells g go).rows i (omega (arith, workers_are b))).work_labels (mem_of cells WORKERS i HEAD) l);
  }

-- what code adds for a test: at most 1, and nothing where nothing changed
pub one_byte : (c : Bool) {n : ℕ} → n ≡ bool_byte c → n ≡ one c
one_byte true e = e
one_byte false e = e

pub byte_few : (c : Bool) {n : ℕ} → n ≡ bool_byte c → n ≤ 1
byte_few c e = omega (arith, one_byte c e, one_le c)

pub none_added : (kind : Bool) → ◌≡◌ {A = ℕ} (cond kind 0 0) 0
none_added true = refl
none_added false = refl

-- one turn more, from what the code of a turn ensures
pub advanced : (b cells cells' : List ℕ) (g r : Progress) (actor action : ℕ) (changed : Bool) → plan_fault b ≡ none
    → Acts (turn_on (system_at b) actor action) (machine cells g.tally) (machine cells' r.tally) changed
    → r.changes ≡ g.changes + one changed
    → r.sends ≡ g.sends + cond (is_send (turn actor action)) (one changed) 0
    → r.polls ≡ g.polls + cond (is_poll (turn actor action)) (one changed) 0
    → Plays b (turn actor action ∷ []) cells g cells' r
unfolding Plays after_by
advanced b cells cells' g r actor action changed sound does changes sends polls m ts at =
    at_next b sound m ts cells g at t cells' r does.leaves
    (changes ∙ ap (λ (c : Bool). g.changes + one c) does.says)
    (sends ∙ ap (λ (k : ℕ). g.sends + k) (kind is_send))
    (polls ∙ ap (λ (k : ℕ). g.polls + k) (kind is_poll))
  where
    t : Turn
    t = turn actor action

    kind : (test : Turn → Bool)
        → cond (test t) (one changed) 0 ≡ one (test t && is_some (step_m (system_at b) (machine cells g.tally) t))
    kind test =
        ap (λ (c : Bool). cond (test t) (one c) 0) does.says
        ∙ sym (one_and (test t) (is_some (step_m (system_at b) (machine cells g.tally) t)))
