-- A number in decimal digits, as ASCII.
use Rattle.std.specs.Prelude.{ℕ, zero, suc, ◌+◌, ◌/◌, ◌%◌, cond, List, [], ◌∷◌, ◌++◌, ltb}

-- the digits of `n`, highest first; the first number bounds the calls, and `n` of them are enough
unfoldable pub decimal_in : ℕ → ℕ → List ℕ
decimal_in zero n = (48 + n) ∷ []
decimal_in (suc calls) n = cond (ltb n 10) ((48 + n) ∷ []) (decimal_in calls (n / 10) ++ (48 + n % 10) ∷ [])

-- no digit 0 in front, and 0 itself is one digit
unfoldable pub decimal : ℕ → List ℕ
decimal n = decimal_in n n

-- a number after a space
unfoldable pub spaced : ℕ → List ℕ
spaced n = 32 ∷ decimal n
