-- What loading and treating delete, as a number for one label and each worker.
use Prim.Native.Nat.{ℕ, ◌+◌}
use mathlib.Core.Bool.{Bool, true, false, ◌&&◌, not}
use mathlib.Core.List.{List}
use mathlib.Core.Path.{◌≡◌, refl, sym, ◌∙◌, ap}
use native.Mathlib.Decide.{ℕ_discrete}
use borrow.Author.Tests.{ne_eqb}
use lib.Dec.{eqb}
use Rattle.base.proofs.Bools.{and_true}
use Rattle.base.specs.Below.{one}
use Rattle.network.proofs.Labels.{labels_once}
use Rattle.network.specs.Network.{Label, loaded, supports}
use Rattle.disac4.proofs.Occurrences.{occurs}
use Rattle.disac4.specs.Action.{loses, lowered, deletes, deletions, after_treat}
use Rattle.disac4.specs.Event.{deleted}
use Rattle.disac4.specs.Loading.{unsupported, loaded_deletions, load}
use Rattle.disac4.specs.State.{State}
use Rattle.disac4.specs.System.{System}

-- 1 for the owner of a label that is deleted
abbrev pub deleted_by : System → ℕ → ℕ → State → ℕ → ℕ
deleted_by sys x v st j = one (eqb (sys.owner x) j && deleted sys st x v)

module _ (sys : System) (x v : ℕ) where
  -- each worker's loaded deletions are what it has deleted at loading
  pub load_deletes : (j : ℕ) → occurs x v (loaded_deletions sys j) ≡ deleted_by sys x v (load sys) j
  unfolding loaded_deletions load deleted
  load_deletes j =
      labels_once sys.net (λ y w. eqb (sys.owner y) j && unsupported sys.net y w) x v
      ∙ same (loaded sys.net x v) (eqb (sys.owner x) j) (unsupported sys.net x v)
    where
      same : (l o u : Bool) → one (l && (o && u)) ≡ one (o && (l && not (l && not u)))
      same false true u = refl
      same false false u = refl
      same true false u = refl
      same true true false = refl
      same true true true = refl

  module _ (k : ℕ) (a : Label) (rest : List Label) (st : State) where
    -- a treat by `k` adds its deletions to what `k` has deleted
    pub treat_deletes : deleted_by sys x v (after_treat sys k a rest st) k
        ≡ deleted_by sys x v st k + occurs x v (deletions sys k a st)
    unfolding after_treat deletions deleted deletes loses
    treat_deletes =
        same (eqb (sys.owner x) k) (loaded sys.net x v) (st.domain x v)
        (supports sys.net x v a.variable a.value)
        (eqb (lowered sys k a st x v a.variable) 0)
        ∙ ap (λ (n : ℕ). deleted_by sys x v st k + n) (sym (labels_once sys.net (deletes sys k a st) x v))
      where
        same : (o l d s z : Bool)
            → one (o && (l && not (d && not ((o && d && s) && z))))
            ≡ one (o && (l && not d)) + one (l && ((o && d && s) && z))
        same false false d s z = refl
        same false true d s z = refl
        same true false d s z = refl
        same true true false s z = refl
        same true true true false z = refl
        same true true true true false = refl
        same true true true true true = refl

    -- and nothing to what any other has
    pub treat_deletes_own : (j : ℕ) → (j ≡ k → ⊥)
        → deleted_by sys x v (after_treat sys k a rest st) j ≡ deleted_by sys x v st j
    unfolding after_treat deleted deletes loses
    treat_deletes_own j n =
        elim (ℕ_discrete (sys.owner x) j) [
          | yes e ↦ rw (ne_eqb (sys.owner x) k (λ p. n (sym e ∙ p))) (
              ap (λ (b : Bool). one (eqb (sys.owner x) j && (loaded sys.net x v && not b))) (and_true (st.domain x v) {b = true} refl))
          | no d ↦ rw (ne_eqb (sys.owner x) j d)
        ]
