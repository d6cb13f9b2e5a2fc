-- Laws of the decimal digits.
use Prim.Native.Nat.{ℕ, zero, suc, ◌+◌, ◌/◌, ◌%◌, ◌^◌, ◌<◌, ◌≤◌}
use mathlib.Core.List.{List, [], ◌∷◌, ◌++◌}
use mathlib.Core.Path.{◌≡◌, refl, sym, ◌∙◌, ap}
use native.Mathlib.Decide.{dec_lt}
use native.Mathlib.Omega.{arith}
use borrow.Author.Tests.{lt-ltb, le-ltb}
use lib.ListN.{length, length-append}
use Rattle.base.proofs.Choice.{cond_true, cond_false}
use Rattle.buffer.specs.Decimal.{decimal_in, decimal}

-- a number below ten is one digit
in_low : (calls n : ℕ) → n < 10 → decimal_in calls n ≡ (48 + n) ∷ []
unfolding decimal_in
in_low zero n h = refl
in_low (suc calls) n h = cond_true _ _ (lt-ltb n 10 h)

-- any other has one more digit than its tenth
in_high : (calls n : ℕ) → 10 ≤ n → decimal_in (suc calls) n ≡ decimal_in calls (n / 10) ++ (48 + n % 10) ∷ []
unfolding decimal_in
in_high calls n h = cond_false _ _ (le-ltb n 10 h)

-- as many calls as the number says are enough
in_enough : (calls more n : ℕ) → n ≤ calls → n ≤ more → decimal_in calls n ≡ decimal_in more n
in_enough zero more n h k = in_low zero n (omega arith) ∙ sym (in_low more n (omega arith))
in_enough (suc calls) zero n h k = in_low (suc calls) n (omega arith) ∙ sym (in_low zero n (omega arith))
in_enough (suc calls) (suc more) n h k =
    elim (dec_lt n 10) [
      | yes low ↦ in_low (suc calls) n low ∙ sym (in_low (suc more) n low)
      | no high ↦ in_high calls n (omega arith)
          ∙ ap (λ (l : List ℕ). l ++ (48 + n % 10) ∷ []) (in_enough calls more (n / 10) (omega arith) (omega arith))
          ∙ sym (in_high more n (omega arith))
    ]

-- the same for all the digits of a number
pub decimal_low : (n : ℕ) → n < 10 → decimal n ≡ (48 + n) ∷ []
unfolding decimal
decimal_low n h = in_low n n h

pub decimal_high : (n : ℕ) → 10 ≤ n → decimal n ≡ decimal (n / 10) ++ (48 + n % 10) ∷ []
unfolding decimal
decimal_high n h =
    in_enough n (suc n) n (omega arith) (omega arith)
    ∙ in_high n n h
    ∙ ap (λ (l : List ℕ). l ++ (48 + n % 10) ∷ []) (in_enough n (n / 10) (n / 10) (omega arith) (omega arith))

-- how many digits a number has at most
pub decimal_length : (k n : ℕ) → n < 10 ^ suc k → length (decimal n) ≤ suc k
decimal_length zero n h = omega (arith, ap length (decimal_low n (omega arith)))
decimal_length (suc k) n h =
    elim (dec_lt n 10) [
      | yes low ↦ omega (arith, ap length (decimal_low n low))
      | no high ↦ omega (
        arith,
        ap length (decimal_high n (omega arith)),
        length-append (decimal (n / 10)) ((48 + n % 10) ∷ []),
        decimal_length k (n / 10) (omega arith),
      )
    ]
