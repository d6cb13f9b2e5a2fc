-- The first of several checks that fails, pointwise change of a function, and tests over a list.
-- A choice by a test is the library's `cond`.
use Rattle.std.specs.Prelude.{ℕ, Bool, true, false, cond, ◌&&◌, ◌||◌, List, [], ◌∷◌, leb, eqb}
use Rattle.std.proofs.Math.Option.{Option, none, some}

-- `f` with the value `v` at `i`
abbrev pub update {ℓ} : {A : Type ℓ} → (ℕ → A) → ℕ → A → ℕ → A
update f i v j = cond (eqb j i) v (f j)

-- `x` is at least `low` and at most `high`
abbrev pub between : ℕ → ℕ → ℕ → Bool
between low high x = leb low x && leb x high

-- some member of the list passes the test
abbrev pub any_of {ℓ} : {A : Type ℓ} → (A → Bool) → List A → Bool
any_of t [] = false
any_of t (a ∷ l) = t a || any_of t l

-- every member of the list passes the test
abbrev pub all_of {ℓ} : {A : Type ℓ} → (A → Bool) → List A → Bool
all_of t [] = true
all_of t (a ∷ l) = t a && all_of t l

-- the first of two results
abbrev pub first_of {ℓ} : {A : Type ℓ} → Option A → Option A → Option A
first_of none other = other
first_of (some a) other = some a

-- `f` with the value `v` at `i`, `k`
abbrev pub update₂ {ℓ} : {A : Type ℓ} → (ℕ → ℕ → A) → ℕ → ℕ → A → ℕ → ℕ → A
update₂ f i k v j l = cond (eqb j i && eqb l k) v (f j l)
