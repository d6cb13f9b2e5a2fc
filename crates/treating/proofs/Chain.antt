-- The chain of a row's variables that are linked with the treated label's: how far the code has walked along it.
use Prim.Native.Nat.{ℕ, zero, suc, ◌-◌, ◌<◌, ◌≤◌}
use mathlib.Core.Bool.{true, false}
use mathlib.Core.List.{List}
use mathlib.Core.Logic.{⊎_elim}
use mathlib.Core.Path.{◌≡◌, sym, ◌∙◌, ap}
use native.Mathlib.Omega.{arith}
use Rattle.base.proofs.Bools.{decided, and-false}
use Rattle.base.specs.Below.{loop}
use Rattle.cells.specs.Memory.{Mem}
use Rattle.disac4.specs.System.{system_of, system_at}
use Rattle.format.specs.Format.{variable_count}
use Rattle.index.proofs.Labels.{own_linked_lem}
use Rattle.index.proofs.Own.{next_none, next_here, next_past, next_above}
use Rattle.index.specs.Index.{owns, own_linked, next_own}
use Rattle.plan.specs.Decode.{plan_of}
use Rattle.plan.specs.Network.{share_constraint, network_of}
use Rattle.treating.proofs.TreatLaws.{not_linked, not_owned}
use Rattle.treating.specs.Treat.{touch_variable_m}

-- where the chain goes on with `next`: every variable before it is done, and all are at its end
pub record ChainReached (b : List ℕ) (i y w : ℕ) (start m : Mem) (next : ℕ) : Type 0 where
  pub done : next ≡ 0 → m ≡ loop (variable_count b) (touch_variable_m (system_at b) i y w) start
  pub before : (x : ℕ) → next ≡ suc x → m ≡ loop x (touch_variable_m (system_at b) i y w) start
  pub inside : (x : ℕ) → next ≡ suc x → x < variable_count b
  pub mine : (x : ℕ) → next ≡ suc x → own_linked b i y x ≡ true

module _ (b : List ℕ) (i y w : ℕ) (m : Mem) where
  abbrev touched_below : ℕ → Mem
  touched_below n = loop n (touch_variable_m (system_at b) i y w) m

  -- a variable that is not in the chain leaves all as it is
  passed : (x : ℕ) → own_linked b i y x ≡ false → touched_below x ≡ touched_below (suc x)
  unfolding loop system_of network_of owns
  passed x p =
      ⊎_elim (not_owned (system_at b) i y w x (touched_below x))
      (not_linked (system_at b) i y w x (touched_below x))
      (and-false (owns b i x) (share_constraint (plan_of b) x y) (sym (own_linked_lem b i y x) ∙ p))

  -- before the last `n` variables, the chain goes on with the next of them
  reached : (m₁ : Mem) (n : ℕ) → n ≤ variable_count b → m₁ ≡ touched_below (variable_count b - n)
      → ChainReached b i y w m m₁ (next_own b i y n)
  reached m₁ zero h e = record {
    done = λ p. let all : variable_count b - 0 ≡ variable_count b = omega arith in e ∙ ap touched_below all;
    before = λ x p. absurd (omega (arith, next_none b i y));
    inside = λ x p. absurd (omega (arith, next_none b i y));
    mine = λ x p. absurd (omega (arith, next_none b i y));
  }
  reached m₁ (suc n) h e = ⊎_elim here (λ p. there p (reached m₁ n (omega arith))) (decided (own_linked b i y z))
    where
      z : ℕ
      z = variable_count b - suc n

      here : own_linked b i y z ≡ true → ChainReached b i y w m m₁ (next_own b i y (suc n))
      here p =
          let same : (x : ℕ) → next_own b i y (suc n) ≡ suc x → z ≡ x = λ x q. omega (arith, next_here b i y n p) in
          record {
            done = λ q. absurd (omega (arith, next_here b i y n p));
            before = λ x q. e ∙ ap touched_below (same x q);
            inside = λ x q. omega (arith, same x q);
            mine = λ x q. ap (own_linked b i y) (sym (same x q)) ∙ p;
          }

      there : own_linked b i y z ≡ false
          → (m₁ ≡ touched_below (variable_count b - n) → ChainReached b i y w m m₁ (next_own b i y n))
          → ChainReached b i y w m m₁ (next_own b i y (suc n))
      there p ih =
          let one : suc z ≡ variable_count b - n = omega arith in
          rw (next_past b i y n p) (ih (e ∙ passed z p ∙ ap touched_below one))

  -- at the chain's start nothing is done
  pub reached_start : (next : ℕ) → next ≡ next_own b i y (variable_count b) → ChainReached b i y w m m next
  unfolding loop
  reached_start next q =
      let none_done : 0 ≡ variable_count b - variable_count b = omega arith in
      rw q (reached m (variable_count b) (omega arith) (ap touched_below none_done))

  -- one variable of the chain more
  pub reached_next : (m₁ m₂ : Mem) (x next : ℕ) → x < variable_count b → m₁ ≡ touched_below x
      → m₂ ≡ touch_variable_m (system_at b) i y w x m₁ → next ≡ next_own b i y (variable_count b - suc x)
      → ChainReached b i y w m m₂ next
  unfolding loop
  reached_next m₁ m₂ x next h e p q =
      let more : suc x ≡ variable_count b - (variable_count b - suc x) = omega arith in
      rw q
      (reached m₂ (variable_count b - suc x) (omega arith)
      (p ∙ ap (touch_variable_m (system_at b) i y w x) e ∙ ap touched_below more))

-- how many variables are left from the chain's next one on
abbrev pub chain_left : ℕ → ℕ → ℕ
chain_left n zero = 0
chain_left n (suc x) = n - x

-- they become fewer: the chain goes upwards
pub chain_falls : (b : List ℕ) (i y x next : ℕ) → x < variable_count b → next ≡ next_own b i y (variable_count b - suc x)
    → chain_left (variable_count b) next < variable_count b - x
chain_falls b i y x next h e =
    ⊎_elim (λ p. end (e ∙ p)) (λ p. on (omega (arith, e))) (next_above b i y (variable_count b - suc x))
  where
    end : next ≡ 0 → chain_left (variable_count b) next < variable_count b - x
    end p = omega (arith, ap (chain_left (variable_count b)) p)

    on : suc x < next → chain_left (variable_count b) next < variable_count b - x
    on p =
        let q : next ≡ suc (next - 1) = omega arith in
        omega (arith, ap (chain_left (variable_count b)) q)
