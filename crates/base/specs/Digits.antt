-- Numbers made of several parts of so many bits each, the highest first: the bytes of a longer number, the words of a row.
use Rattle.std.specs.Prelude.{ℕ, zero, suc, ◌+◌, ◌*◌, ◌/◌, ◌%◌, ◌^◌, List, [], ◌∷◌, ◌++◌, get_or}

-- the number of the parts `part 0`, `part 1`, .., so many of them
abbrev pub number_of : ℕ → (ℕ → ℕ) → ℕ → ℕ
number_of bits part zero = 0
number_of bits part (suc k) = number_of bits part k * 2 ^ bits + part k

-- the number whose `k` parts stand in a list from place `i` on
unfoldable pub number_at : ℕ → List ℕ → ℕ → ℕ → ℕ
number_at bits l i k = number_of bits (λ j. get_or l (i + j) 0) k

-- back: the lowest `k` parts of a number
unfoldable pub digits : ℕ → ℕ → ℕ → List ℕ
digits bits zero n = []
digits bits (suc k) n = digits bits k (n / 2 ^ bits) ++ ((n % 2 ^ bits) ∷ [])
