-- The enumeration of the loaded labels: what it weighs, and that it names each label once.
use Prim.Native.Nat.{ℕ}
use mathlib.Core.Bool.{Bool, true, false, cond, ◌&&◌}
use mathlib.Core.List.{[], ◌∷◌}
use mathlib.Core.Logic.{⊎_elim}
use mathlib.Core.Path.{◌≡◌, refl, sym, ◌∙◌, ap}
use native.Mathlib.Nat.{add-zero}
use native.Mathlib.Omega.{arith}
use borrow.Author.Tests.{eqb-true, eq-eqb}
use lib.Dec.{eqb}
use lib.ListN.{length}
use Rattle.base.proofs.Bools.{decided, clash, and_left, and_right, and_intro}
use Rattle.base.proofs.Choice.{pair_other, cond_ext, cond_same}
use Rattle.base.proofs.Sums.{sum_ext, sum_zero, sum_const, sum_single}
use Rattle.base.proofs.Weight.{weigh, weigh_gather, weigh_one}
use Rattle.base.specs.Below.{sum_below, count_below, one, gather_below}
use Rattle.network.proofs.Loaded.{loaded_variable, loaded_value, loaded_intro}
use Rattle.network.specs.Network.{Network, Label, label, is_label, loaded, labels_where, label_count}

-- a label that passes the test for `x`, `v` is that label
pub is_label_eq : (x v : ℕ) (a : Label) → is_label x v a ≡ true → a ≡ label x v
unfolding is_label
is_label_eq x v a e =
    let p : a.variable ≡ x = eqb-true a.variable x (and_left (eqb a.variable x) (eqb a.value v) e) in
    let q : a.value ≡ v = eqb-true a.value v (and_right (eqb a.variable x) (eqb a.value v) e) in
    λ i. record { variable = p i; value = q i }

-- each label passes its own test
pub is_label_same : (x v : ℕ) → is_label x v (label x v) ≡ true
unfolding is_label
is_label_same x v = and_intro (eq-eqb x x refl) (eq-eqb v v refl)

-- and no other label's
pub is_label_other : (x v y w : ℕ) → (y ≡ x → w ≡ v → ⊥) → is_label x v (label y w) ≡ false
unfolding is_label
is_label_other = pair_other

-- the labels that pass a test weigh the sum over variables and values
weigh_labels : (net : Network) (t : ℕ → ℕ → Bool) (w : Label → ℕ)
    → weigh w (labels_where net t)
    ≡ sum_below net.variables (λ x. sum_below (net.size x) (λ v. cond (t x v) (w (label x v)) 0))
unfolding labels_where
weigh_labels net t w =
    weigh_gather w net.variables (λ x. gather_below (net.size x) (λ v. cond (t x v) (label x v ∷ []) []))
    ∙ sum_ext net.variables
    (λ x. weigh w (gather_below (net.size x) (λ v. cond (t x v) (label x v ∷ []) [])))
    (λ x. sum_below (net.size x) (λ v. cond (t x v) (w (label x v)) 0))
    (λ x p.
    weigh_gather w (net.size x) (λ v. cond (t x v) (label x v ∷ []) [])
    ∙ sum_ext (net.size x) (λ v. weigh w (cond (t x v) (label x v ∷ []) []))
    (λ v. cond (t x v) (w (label x v)) 0) (λ v q. single (label x v) (t x v)))
  where
    single : (a : Label) (b : Bool) → weigh w (cond b (a ∷ []) []) ≡ cond b (w a) 0
    single a true = add-zero (w a)
    single a false = refl

-- the labels that pass a test, counted over variables and values
pub labels_length : (net : Network) (t : ℕ → ℕ → Bool)
    → length (labels_where net t) ≡ sum_below net.variables (λ x. count_below (net.size x) (t x))
labels_length net t = sym (weigh_one (labels_where net t)) ∙ weigh_labels net t (λ a. 1)

-- all loaded labels are enumerated
pub label_count_lem : (net : Network) → length (labels_where net (λ x v. true)) ≡ label_count net
unfolding label_count
label_count_lem net =
    labels_length net (λ x v. true)
    ∙ sum_ext net.variables (λ x. count_below (net.size x) (λ v. true)) net.size
    (λ x p. omega (arith, sum_const (net.size x) 1))

module _ (net : Network) (t : ℕ → ℕ → Bool) (x v : ℕ) where
  weight : ℕ → ℕ → ℕ
  weight y w = cond (t y w) (one (is_label x v (label y w))) 0

  other : (y w : ℕ) → (y ≡ x → w ≡ v → ⊥) → weight y w ≡ 0
  unfolding weight
  other y w h = cond_same (t y w) _ _ 0 (ap one (is_label_other x v y w h)) refl

  own : weight x v ≡ one (t x v)
  unfolding weight
  own = cond_ext (t x v) _ 1 0 0 (λ p. ap one (is_label_same x v)) (λ p. refl)

  -- each loaded label that passes the test is enumerated exactly once, no other at all
  pub labels_once : weigh (λ a. one (is_label x v a)) (labels_where net t) ≡ one (loaded net x v && t x v)
  unfolding weight
  labels_once =
      weigh_labels net t (λ a. one (is_label x v a))
      ∙ ⊎_elim
      (λ p.
      sum_single net.variables row x (loaded_variable net x v p)
      (λ y k d. sum_zero (net.size y) (weight y) (λ w j. other y w (λ e f. d e)))
      ∙ sum_single (net.size x) (weight x) v (loaded_value net x v p) (λ w j d. other x w (λ e f. d f))
      ∙ own
      ∙ ap (λ (b : Bool). one (b && t x v)) (sym p))
      (λ p.
      sum_zero net.variables row
      (λ y k.
      sum_zero (net.size y) (weight y)
      (λ w j. other y w (λ e f. clash (loaded_intro net x v (omega arith) (omega (arith, ap net.size e))) p)))
      ∙ ap (λ (b : Bool). one (b && t x v)) (sym p))
      (decided (loaded net x v))
    where
      row : ℕ → ℕ
      row y = sum_below (net.size y) (weight y)
