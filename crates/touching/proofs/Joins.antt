-- Rows of bits that take in pairs of variables: row by row, and constraint by constraint.
use Prim.Native.Nat.{ℕ, zero, suc, ◌+◌, ◌<◌, ◌≤◌}
use mathlib.Core.Bool.{Bool, false, ◌||◌}
use mathlib.Core.List.{List}
use mathlib.Core.Path.{◌≡◌, refl, sym, ◌∙◌, ap}
use native.Mathlib.Omega.{arith}
use lib.ListN.{length, set, get_or, replicate, length-set}
use lib.Seq.{get_or-set_same, get_or-set_other}
use Rattle.base.proofs.Choice.{everywhere}
use Rattle.base.proofs.Row.{bit_past}
use Rattle.base.proofs.Sums.{sum_ext, sum_zero, sum_change, count_ext}
use Rattle.base.specs.Below.{sum_below, one, count_below}
use Rattle.base.specs.Row.{bit}
use Rattle.format.specs.Format.{constraint_start, variable_count, scope_of}
use Rattle.format.specs.Limits.{max_variables, max_pairs}
use Rattle.plan.specs.Check.{touched, pairs_to}
use Rattle.plan.specs.Network.{joins}
use Rattle.touching.proofs.Grown.{Grown, or_none}
use Rattle.touching.specs.Touching.{held_pairs, Joined, Touching}

module _ (n : ℕ) where
  -- no pair taken in yet
  pub joined_none : (t : ℕ → ℕ → Bool) (rows : List ℕ) → length rows ≡ max_variables → ((x y : ℕ) → t x y ≡ false)
      → Joined n t rows rows 0
  joined_none t rows r h = record {
    room = r;
    held = λ x y l p. or_none (bit (get_or rows y 0) x) (t x y) (h x y);
    counted = omega arith;
  }

  -- the same pairs by another test
  pub joined_ext : (t u : ℕ → ℕ → Bool) (before after : List ℕ) (fresh : ℕ) → ((x y : ℕ) → t x y ≡ u x y)
      → Joined n t before after fresh → Joined n u before after fresh
  joined_ext t u before after fresh h j = record {
    room = j.room;
    held = λ x y l p. j.held x y l p ∙ ap (λ (a : Bool). bit (get_or before y 0) x || a) (h x y);
    counted = j.counted;
  }

  -- pairs that all have the same second variable are taken in with its row
  module _ (t : ℕ → Bool) (u : ℕ → ℕ → Bool) (rows : List ℕ) (y row fresh : ℕ) (r : length rows ≡ max_variables) (l : y < n)
      (m : n ≤ max_variables) (g : Grown y t (get_or rows y 0) row fresh) (same : (x : ℕ) → u x y ≡ t x)
      (other : (x z : ℕ) → (z ≡ y → ⊥) → u x z ≡ false) where
    abbrev after : List ℕ
    after = set rows y row

    here : get_or after y 0 ≡ row
    here = get_or-set_same rows y row 0 (omega arith)

    there : (z : ℕ) → (z ≡ y → ⊥) → get_or after z 0 ≡ get_or rows z 0
    there z d = get_or-set_other rows y z row 0 d

    Held : ℕ → Type 0
    Held z = (x : ℕ) → x < z → bit (get_or after z 0) x ≡ bit (get_or rows z 0) x || u x z

    held_each : (z : ℕ) → Held z
    unfolding Held
    held_each =
        everywhere Held y
        (λ x p.
        ap (λ (k : ℕ). bit k x) here ∙ g.bits x p ∙ ap (λ (a : Bool). bit (get_or rows y 0) x || a) (sym (same x)))
        (λ z d x p. ap (λ (k : ℕ). bit k x) (there z d) ∙ or_none (bit (get_or rows z 0) x) (u x z) (other x z d))

    held_count : held_pairs n after ≡ held_pairs n rows + fresh
    unfolding held_pairs
    held_count =
        omega (
          arith,
          sum_change n (λ z. count_below z (bit (get_or rows z 0))) (λ z. count_below z (bit (get_or after z 0))) y l
              (λ z p d. ap (λ (k : ℕ). count_below z (bit k)) (sym (there z d))),
          ap (λ (k : ℕ). count_below y (bit k)) here,
          g.counted,
        )

    pub joined_row : Joined n u rows after fresh
    unfolding Held
    joined_row = record { room = length-set rows y row ∙ r; held = λ x z p q. held_each z x p; counted = held_count }

-- rows that hold a test's pairs hold as many as pass it
held_passing : (n : ℕ) (t : ℕ → ℕ → Bool) (rows : List ℕ)
    → ((x y : ℕ) → x < y → y < n → bit (get_or rows y 0) x ≡ t x y)
    → held_pairs n rows ≡ sum_below n (λ y. count_below y (λ x. t x y))
unfolding held_pairs
held_passing n t rows h =
    sum_ext n (λ y. count_below y (bit (get_or rows y 0))) (λ y. count_below y (λ x. t x y))
    (λ y p. count_ext y (bit (get_or rows y 0)) (λ x. t x y) (λ x l. h x y l p))

-- a row of zeros is 0 everywhere
zeros : (n y : ℕ) → ◌≡◌ {A = ℕ} (get_or (replicate n 0) y 0) 0
zeros zero y = refl
zeros (suc n) zero = refl
zeros (suc n) (suc y) = zeros n y

-- before the first constraint no pair is in
pub touching_none : (b : List ℕ) → Touching b 0 (replicate max_variables 0) 0
unfolding touched pairs_to
touching_none b = record {
  room = refl;
  held = λ x y l p. ap (λ (k : ℕ). bit k x) (zeros max_variables y) ∙ bit_past 0 0 x (omega arith) (omega arith);
  counted = sym (sum_zero (variable_count b) (λ y. count_below y (λ x. false)) (λ y p. sum_zero y (λ x. one false) (λ x q. refl)));
  few = omega arith;
}

-- constraint r takes in its pairs
module _ (b : List ℕ) (r at : ℕ) (rows after : List ℕ) (pairs fresh : ℕ) (known : Touching b r rows pairs)
    (e : at ≡ constraint_start b r) (j : Joined (variable_count b) (joins (scope_of b at)) rows after fresh) where
  held_more : (x y : ℕ) → x < y → y < variable_count b → bit (get_or after y 0) x ≡ touched b (suc r) x y
  unfolding touched
  held_more x y l p =
      j.held x y l p ∙ ap (λ (a : Bool). a || joins (scope_of b at) x y) (known.held x y l p)
      ∙ ap (λ (k : ℕ). touched b r x y || joins (scope_of b k) x y) e

  pub pairs_more : pairs + fresh ≡ pairs_to b (suc r)
  unfolding pairs_to
  pairs_more =
      omega (
        arith,
        j.counted,
        known.counted,
        held_passing (variable_count b) (touched b r) rows known.held,
        held_passing (variable_count b) (touched b (suc r)) after held_more,
      )

  pub touching_more : pairs + fresh ≤ max_pairs → Touching b (suc r) after (pairs + fresh)
  touching_more h = record { room = j.room; held = held_more; counted = pairs_more; few = h }
