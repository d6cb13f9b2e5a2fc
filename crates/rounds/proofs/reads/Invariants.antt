use mathlib.Core.Bool.{cond}
use mathlib.Core.List.{[], ◌∷◌, map}
use lib.Dec.{eqb}
use Rattle.disac4.specs.Turn.{turn}
use Rattle.engine.proofs.Working.{Working}
use Rattle.rounds.proofs.reads.Given as goal

abbrev pub invariant-loop-j : goal.invariant-loop-j
invariant-loop-j l =
    Working l.plan (λ i. map (turn l.k) (cond (eqb i l.k) [] (i ∷ []))) l.initial.cells l.t l.j l.changes l.cells
