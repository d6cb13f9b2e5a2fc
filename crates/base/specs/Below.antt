-- Loops over the numbers below a bound, in ascending order.
use Rattle.std.specs.Prelude.{ℕ, zero, suc, ◌+◌, Bool, true, false, cond, ◌&&◌, ◌||◌, List, [], ◌∷◌, ◌++◌}
use Rattle.std.proofs.Math.Option.{Option, none}
use Rattle.base.specs.Choice.{first_of}

-- `f 0 + f 1 + ..`, the results below the bound added up
abbrev pub sum_below : ℕ → (ℕ → ℕ) → ℕ
sum_below zero f = 0
sum_below (suc n) f = sum_below n f + f n

-- 1 where the test holds
abbrev pub one : Bool → ℕ
one b = cond b 1 0

-- how many indexes pass the test
abbrev pub count_below : ℕ → (ℕ → Bool) → ℕ
count_below n t = sum_below n (λ i. one (t i))

-- some index passes the test
abbrev pub any_below : ℕ → (ℕ → Bool) → Bool
any_below zero t = false
any_below (suc n) t = any_below n t || t n

-- every index passes the test
abbrev pub all_below : ℕ → (ℕ → Bool) → Bool
all_below zero t = true
all_below (suc n) t = all_below n t && t n

-- the lists `f 0`, `f 1`, .. joined
abbrev pub gather_below {ℓ} : {A : Type ℓ} → ℕ → (ℕ → List A) → List A
gather_below zero f = []
gather_below (suc n) f = gather_below n f ++ f n

-- the list of `f 0`, `f 1`, ..
abbrev pub list_below {ℓ} : {A : Type ℓ} → ℕ → (ℕ → A) → List A
list_below n f = gather_below n (λ i. f i ∷ [])

-- what the lowest index with a result gives
abbrev pub first_below {ℓ} : {A : Type ℓ} → ℕ → (ℕ → Option A) → Option A
first_below zero f = none
first_below (suc n) f = first_of (first_below n f) (f n)

-- the steps `f 0`, `f 1`, .. one after the other
unfoldable pub loop : {A : Type 0} → ℕ → (ℕ → A → A) → A → A
loop zero f a = a
loop (suc n) f a = f n (loop n f a)
