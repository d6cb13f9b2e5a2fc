-- Laws of loops: steps one after the other, below a bound.
use Prim.Native.Nat.{ℕ, zero, suc, ◌+◌, ◌<◌}
use mathlib.Core.Bool.{Bool, true, false, cond}
use mathlib.Core.List.{List, ◌++◌, append_assoc, append-nil}
use mathlib.Core.Logic.{⊎_elim}
use mathlib.Core.Path.{◌≡◌, refl, sym, ◌∙◌, ap, subst}
use native.Mathlib.Nat.{not-suc-le-zero, le_refl, le_step}
use native.Mathlib.Numerals.{add-one}
use native.Mathlib.Omega.{arith}
use Rattle.base.proofs.Below.{below_cases}
use Rattle.base.specs.Below.{gather_below, loop}

module _ {A : Type 0} where
  -- one step more
  pub loop_more : (n : ℕ) (f : ℕ → A → A) (a : A) {b c : A} → b ≡ loop n f a → c ≡ f n b → c ≡ loop (n + 1) f a
  unfolding loop
  loop_more n f a p q = rw add-one (q ∙ ap (f n) p)

  -- what holds at the start and is carried on by each step holds at the end
  pub loop_carries : (P : ℕ → A → Type 0) (n : ℕ) (f : ℕ → A → A) (a : A)
      → ((j : ℕ) → j < n → P j (loop j f a) → P (suc j) (f j (loop j f a))) → P 0 a → P n (loop n f a)
  unfolding loop
  loop_carries P zero f a step p = p
  loop_carries P (suc n) f a step p = step n (le_refl (suc n)) (loop_carries P n f a (λ j h. step j (le_step h)) p)

  -- what each step keeps, the loop keeps
  pub loop_keeps : (P : A → Type 0) (n : ℕ) (f : ℕ → A → A) → ((j : ℕ) → j < n → (a : A) → P a → P (f j a)) → (a : A) → P a
      → P (loop n f a)
  loop_keeps P n f step a = loop_carries (λ j. P) n f a (λ j h. step j h (loop j f a))

  -- what no step changes is as it was
  pub loop_same : {B : Type 0} (g : A → B) (n : ℕ) (f : ℕ → A → A) → ((j : ℕ) → j < n → (a : A) → g (f j a) ≡ g a) → (a : A)
      → g (loop n f a) ≡ g a
  loop_same g n f step a = loop_keeps (λ b. g b ≡ g a) n f (λ j h b e. step j h b ∙ e) a refl

  -- two loops are equal if their steps do the same on the way of the second
  pub loop_ext : (n : ℕ) (f g : ℕ → A → A) (a : A) → ((j : ℕ) → j < n → f j (loop j g a) ≡ g j (loop j g a))
      → loop n f a ≡ loop n g a
  unfolding loop
  loop_ext n f g a same = loop_carries (λ j b. b ≡ loop j g a) n f a (λ j h e. ap (f j) e ∙ same j h) refl

  -- a test before the loop may as well stand before each step
  pub loop_if : (t : Bool) (n : ℕ) (f : ℕ → A → A) (a : A) → cond t (loop n f a) a ≡ loop n (λ j b. cond t (f j b) b) a
  loop_if true n f a = refl
  loop_if false n f a = sym (loop_same (λ b. b) n (λ j b. b) (λ j h b. refl) a)

  -- what holds after one step and is kept by the later ones holds at the end
  pub loop_from : (R : A → Type 0) (n : ℕ) (f : ℕ → A → A) (a : A) (i : ℕ) → i < n → R (f i (loop i f a))
      → ((j : ℕ) → i < j → j < n → (a : A) → R a → R (f j a)) → R (loop n f a)
  loop_from R n f a i h here later =
      loop_carries (λ j b. i < j → R b) n f a
      (λ j l before k.
      ⊎_elim (λ e. subst (λ (j : ℕ). R (f j (loop j f a))) e here) (λ g. later j g l (loop j f a) (before g)) (below_cases k))
      (λ k. absurd (not-suc-le-zero k)) h

  -- one step turns `Q` into `R`, and the others keep them
  pub loop_at : (Q R : A → Type 0) (n : ℕ) (f : ℕ → A → A) (i : ℕ) → i < n
      → ((j : ℕ) → j < n → (j ≡ i → ⊥) → (a : A) → Q a → Q (f j a))
      → ((j : ℕ) → j < n → (j ≡ i → ⊥) → (a : A) → R a → R (f j a))
      → ((a : A) → Q a → R (f i a)) → (a : A) → Q a → R (loop n f a)
  loop_at Q R n f i h q r here a p =
      loop_from R n f a i h
      (here (loop i f a) (loop_keeps Q i f (λ j l. q j (omega arith) (λ e. omega arith)) a p))
      (λ j g l. r j l (λ e. omega arith))

  -- what the steps append is gathered
  pub loop_gather : {B : Type 0} (J : List B → A → Type 0) (n : ℕ) (f : ℕ → A → A) (g : ℕ → List B) (l₀ : List B) (a : A)
      → ((j : ℕ) → j < n → (l : List B) → J l (loop j f a) → J (l ++ g j) (f j (loop j f a))) → J l₀ a
      → J (l₀ ++ gather_below n g) (loop n f a)
  loop_gather J n f g l₀ a step p =
      loop_carries (λ j. J (l₀ ++ gather_below j g)) n f a
      (λ j h k.
      subst (λ l. J l (f j (loop j f a))) (append_assoc l₀ (gather_below j g) (g j)) (step j h (l₀ ++ gather_below j g) k))
      (subst (λ l. J l a) (sym (append-nil l₀)) p)
