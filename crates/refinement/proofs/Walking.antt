-- Walks over the variables and their values, ascending: what each step keeps, what one step does, and what is gathered.
use Prim.Native.Nat.{ℕ, ◌<◌}
use mathlib.Core.List.{List, [], ◌++◌}
use mathlib.Core.Path.{◌≡◌}
use native.Mathlib.Omega.{arith}
use Rattle.base.proofs.Loops.{loop_keeps, loop_at, loop_gather}
use Rattle.base.specs.Below.{gather_below, loop}
use Rattle.network.specs.Network.{Network, Label}

-- the step `f x v` for each value of variable `x`
abbrev pub values : {A : Type 0} → Network → (ℕ → ℕ → A → A) → ℕ → A → A
values net f x = loop (net.size x) (f x)

-- and for each variable
abbrev pub walk : {A : Type 0} → Network → (ℕ → ℕ → A → A) → A → A
walk net f = loop net.variables (values net f)

-- what is appended for each value of each variable
abbrev pub gathered : Network → (ℕ → ℕ → List Label) → List Label
gathered net g = gather_below net.variables (λ x. gather_below (net.size x) (g x))

module _ {A : Type 0} (net : Network) (f : ℕ → ℕ → A → A) where
  -- a step at a loaded label keeps a statement
  abbrev pub Keeps : (A → Type 0) → ℕ → ℕ → Type 0
  Keeps P x v = x < net.variables → v < net.size x → (a : A) → P a → P (f x v a)

  -- and each step at another label than `v` of `x` does
  abbrev pub Others : (A → Type 0) → ℕ → ℕ → Type 0
  Others P x v = (x' v' : ℕ) → (x' ≡ x → v' ≡ v → ⊥) → Keeps P x' v'

  -- what each step keeps, the walk keeps
  pub walk_keeps : (P : A → Type 0) → ((x v : ℕ) → Keeps P x v) → (a : A) → P a → P (walk net f a)
  walk_keeps P h a p =
      loop_keeps P net.variables (values net f) (λ x l. loop_keeps P (net.size x) (f x) (λ v k. h x v l k)) a p

  -- one step turns `Q` into `R`, which the others keep
  pub walk_at : (Q R : A → Type 0) (x v : ℕ) → x < net.variables → v < net.size x → Others Q x v → Others R x v
      → ((a : A) → Q a → R (f x v a)) → (a : A) → Q a → R (walk net f a)
  walk_at Q R x v h l q r s a p =
      loop_at Q R net.variables (values net f) x h (elsewhere Q q) (elsewhere R r)
      (loop_at Q R (net.size x) (f x) v l (λ j i n. q x j (λ z. n) h i) (λ j i n. r x j (λ z. n) h i) s) a p
    where
      elsewhere : (P : A → Type 0) → Others P x v → (j : ℕ) → j < net.variables → (j ≡ x → ⊥) → (b : A) → P b
          → P (values net f j b)
      elsewhere P o j i n = loop_keeps P (net.size j) (f j) (λ u c. o j u (λ z. absurd (n z)) i c)

  module _ (Q : ℕ → ℕ → A → Type 0) (others : (x v : ℕ) → Others (Q x v) x v) where
    -- before the step at a label, what holds of it at the start still holds
    before : (x v : ℕ) → x < net.variables → v < net.size x → (a : A) → Q x v a
        → Q x v (loop v (f x) (loop x (values net f) a))
    before x v h l a p =
        loop_keeps (Q x v) v (f x) (λ u k. others x v x u (λ z w. omega arith) h (omega arith)) (loop x (values net f) a)
        (loop_keeps (Q x v) x (values net f)
        (λ y k. loop_keeps (Q x v) (net.size y) (f y) (λ u i. others x v y u (λ z w. omega arith) (omega arith) i)) a p)

    -- what the steps append is gathered in the order of the labels
    pub walk_gather : (J : List Label → A → Type 0) (g : ℕ → ℕ → List Label)
        → ((x v : ℕ) → x < net.variables → v < net.size x → (l : List Label) (a : A) → Q x v a → J l a
        → J (l ++ g x v) (f x v a))
        → (a : A) → ((x v : ℕ) → x < net.variables → v < net.size x → Q x v a) → J [] a
        → J (gathered net g) (walk net f a)
    walk_gather J g s a q p =
        loop_gather J net.variables (values net f) (λ x. gather_below (net.size x) (g x)) [] a
        (λ x h l j.
        loop_gather J (net.size x) (f x) (g x) l (loop x (values net f) a)
        (λ v k l' j'. s x v h k l' (loop v (f x) (loop x (values net f) a)) (before x v h k a (q x v h k)) j') j)
        p
