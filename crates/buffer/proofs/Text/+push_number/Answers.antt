-- `buffer::Text::push_number` puts the digits of a number's tenth, where it has one, and then the last digit.
use Prim.Native.Nat.{ℕ, ◌+◌, ◌/◌, ◌%◌, ◌<◌, ◌≤◌}
use mathlib.Core.List.{[], ◌∷◌}
use mathlib.Core.Path.{◌≡◌}
use native.Mathlib.Decide.{dec_lt}
use native.Mathlib.Omega.{arith}
use Rattle.buffer.proofs.Decimal.{decimal_low, decimal_high}
use Rattle.buffer.proofs.Puts.{◌then◌}
use Rattle.buffer.specs.Decimal.{decimal}
use Rattle.buffer.specs.Taken.{Takes}
use Rattle.buffer.specs.declared.Text.{Text}
use Rattle.buffer.proofs.Text.+push_number.Goals as goal

-- a number below ten is its last digit
digit : {t u : Text} (n : ℕ) → n < 10 → Takes ((48 + n % 10) ∷ []) t u → Takes (decimal n) t u
digit n h p =
    let e : n % 10 ≡ n = omega arith in
    rw (decimal_low n h) (rw e at p)

-- any other one is the digits of its tenth, and the last one
digits : {t u v : Text} (n : ℕ) → 10 ≤ n → Takes (decimal (n / 10)) t u → Takes ((48 + n % 10) ∷ []) u v → Takes (decimal n) t v
digits n h p q = rw (decimal_high n h) (p then q)

pub returns : goal.returns
returns t c =
    elim (dec_lt c.args.n 10) [
      | yes low ↦ digit c.args.n low (grind arith)
      | no high ↦ digits c.args.n (omega arith) (grind arith) c.push.ensures
    ]
