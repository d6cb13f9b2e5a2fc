-- The index of an accepted plan gives each two linked variables a number of their own.
use Prim.Native.Nat.{ℕ, ◌<◌}
use mathlib.Core.Bool.{true, not}
use mathlib.Core.List.{List}
use mathlib.Core.Path.{◌≡◌, sym, ◌∙◌, ap}
use borrow.Author.Tests.{eqb-false}
use native.Mathlib.Omega.{arith}
use Rattle.disac4.specs.System.{system_of, system_at}
use Rattle.index.proofs.Linked.{linked_over}
use Rattle.index.specs.Index.{Indexed, Paired}
use Rattle.cells.specs.Layout.{PAIRS}
use Rattle.cells.specs.Memory.{Mem}
use Rattle.plan.specs.Decode.{plan_of}
use Rattle.plan.specs.Network.{share_constraint, network_of}

module _ (b : List ℕ) (m : Mem) (index : Indexed b m) where
  pub above : (x y : ℕ) → share_constraint (plan_of b) x y ≡ true → 0 < m PAIRS x y
  above x y e =
      let some : m PAIRS x y ≡ 0 → ⊥ = eqb-false (m PAIRS x y) 0 (index.numbered x y ∙ ap not (sym (linked_over b x y) ∙ e)) in
      omega arith

  -- each two linked variables have a number of their own
  pub paired : Paired (system_at b) m
  unfolding system_of network_of
  paired = record {
    low = above;
    high = λ x y e. index.few x y;
    own = λ x y x' y' e e' p. index.own x y x' y' (above x y e) p;
  }
