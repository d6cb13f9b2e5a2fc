-- Every turn in memory does what document 01 lays down, and keeps the invariant.
use Rattle.disac4.specs.System.{System}
use Rattle.disac4.specs.Turn.{step}
use Rattle.refinement.proofs.Simulation.{Simulates}
use Rattle.refinement.proofs.StepKeeps.{step_keeps}
use Rattle.refinement.proofs.StepRefines.{step_refines}
use Rattle.refinement.specs.Inv.{Small, Inv}
use Rattle.refinement.specs.Run.{view_of}
use Rattle.refinement.specs.Step.{step_m}

abbrev pub Refines : System → Type 0
Refines sys = Simulates (step_m sys) (step sys) (view_of sys) (Inv sys)

pub refined : (sys : System) → Small sys → Refines sys
refined sys small = record {
  turn = λ s t inv. step_refines sys small s inv t;
  keeps = λ s t s' inv e. step_keeps sys small s inv t s' e;
}
