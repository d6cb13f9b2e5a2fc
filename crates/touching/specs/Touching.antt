-- What rows of bits hold of the pairs of variables that constraints touch.
use Rattle.std.specs.Prelude.{ℕ, suc, ◌+◌, ◌<◌, ◌≤◌, Bool, ◌&&◌, ◌||◌, List, ◌≡◌, eqb, length, get_or}
use Rattle.base.specs.Below.{sum_below, count_below, any_below}
use Rattle.base.specs.Row.{bit}
use Rattle.format.specs.Format.{variable_count, scope_at}
use Rattle.format.specs.Limits.{max_variables, max_pairs}
use Rattle.plan.specs.Check.{touched, pairs_to}

-- variable `x`, counted from 0, is one of the first `i` of the scope
unfoldable pub among_first : List ℕ → ℕ → ℕ → ℕ → Bool
among_first b at i x = any_below i (λ k. eqb (suc x) (scope_at b at k))

-- `y` is variable `j` of the scope, and `x` is one before it
unfoldable pub joins_at : List ℕ → ℕ → ℕ → ℕ → ℕ → Bool
joins_at b at j x y = eqb (suc y) (scope_at b at j) && among_first b at j x

-- how many pairs of the variables below `n` the rows hold: bit `x` of row `y`, where `x` is below `y`
unfoldable pub held_pairs : ℕ → List ℕ → ℕ
held_pairs n rows = sum_below n (λ y. count_below y (bit (get_or rows y 0)))

-- the rows `after` hold what `before` do and the pairs that pass a test; so many of these are new
pub record Joined (n : ℕ) (t : ℕ → ℕ → Bool) (before after : List ℕ) (fresh : ℕ) : Type 0 where
  pub room : length after ≡ max_variables
  pub held : (x y : ℕ) → x < y → y < n → bit (get_or after y 0) x ≡ bit (get_or before y 0) x || t x y
  pub counted : held_pairs n after ≡ held_pairs n before + fresh

-- the rows hold the pairs that the first `r` constraints touch, and there are so many
pub record Touching (b : List ℕ) (r : ℕ) (rows : List ℕ) (pairs : ℕ) : Type 0 where
  pub room : length rows ≡ max_variables
  pub held : (x y : ℕ) → x < y → y < variable_count b → bit (get_or rows y 0) x ≡ touched b r x y
  pub counted : pairs ≡ pairs_to b r
  pub few : pairs ≤ max_pairs
