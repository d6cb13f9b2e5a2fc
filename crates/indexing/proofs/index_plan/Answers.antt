-- `indexing::index_plan` writes the index of an accepted plan. Assumes nothing.
use Prim.Native.Nat.{ℕ}
use mathlib.Core.List.{List}
use mathlib.Core.Path.{◌∙◌, ap}
use native.Mathlib.Omega.{arith}
use Rattle.index.proofs.ConstraintIndex.{constraints_keep}
use Rattle.index.proofs.Places.{places_at, located_kept}
use Rattle.index.specs.Index.{Located, constraints_m, own_m, index_m}
use Rattle.cells.specs.Layout.{PLACES}
use Rattle.cells.specs.Memory.{Mem, mem_of}
use Rattle.indexing.proofs.index_plan.Goals as goal
use Rattle.indexing.proofs.index_plan.Goals.{After-index_places}

-- the places are written
module _ (p : After-index_places) where
  abbrev plan-of : List ℕ
  plan-of = p.args.plan.now

  written : Located plan-of p.index_places.new.cells
  written = record {
    sound = p.requires.0;
    places = λ k h.
        ap (λ (m : Mem). m PLACES 0 k) p.index_places.ensures
        ∙ places_at plan-of (mem_of p.args.cells.now) k h;
    long = omega (arith, p.index_places.auto.cells, p.requires);
  }

pub index_constraints-requires : goal.index_constraints-requires
index_constraints-requires c = written (goal.at.index_constraints-requires c).After-index_places

pub index_own-requires : goal.index_own-requires
index_own-requires c =
    let all = c.index_constraints in
    located_kept (plan-of (goal.at.index_own-requires c).After-index_places) c.index_places.new.cells all.new.cells _ (written (goal.at.index_own-requires c).After-index_places) all.auto.cells
    all.ensures (λ k. constraints_keep (plan-of (goal.at.index_own-requires c).After-index_places) _ PLACES 0 k (λ e. omega arith, λ e. omega arith, λ a e. omega arith))

pub returns : goal.returns
unfolding index_m
returns c =
    c.index_own.ensures ∙ ap (own_m (plan-of (goal.at.returns c).After-index_places)) (c.index_constraints.ensures ∙ ap (constraints_m (plan-of (goal.at.returns c).After-index_places)) c.index_places.ensures)
