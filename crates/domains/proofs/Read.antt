-- The printed lines of the variables by the bytes of their sections.
use Prim.Native.Nat.{ℕ, suc, ◌+◌, ◌/◌, ◌^◌, ◌<◌}
use mathlib.Core.Bool.{cond}
use mathlib.Core.List.{List, []}
use mathlib.Core.Path.{◌≡◌, ap}
use native.Mathlib.Nat.{div-div-eq-div-mul, pow-suc}
use native.Mathlib.Numerals.{add-one}
use native.Mathlib.Omega.{arith}
use Rattle.base.proofs.Below.{gather_ext}
use Rattle.base.specs.Below.{gather_below}
use Rattle.base.specs.Bytes.{word_at}
use Rattle.base.specs.Row.{is_odd, bit}
use Rattle.plan.proofs.Parts.{variables_read, variable_read, size_read, value_read}
use Rattle.plan.specs.Decode.{variable_at, plan_of}
use Rattle.format.specs.Format.{section_start, variable_count, owner_at, size_at, code_at, numbered_size}
use Rattle.format.specs.Lists.{row_in}
use Rattle.format.specs.Version.{row_words}
use Rattle.plan.specs.Plan.{Value, value_of}
use Rattle.buffer.proofs.Puts.{then_more}
use Rattle.buffer.specs.Taken.{Takes}
use Rattle.buffer.specs.declared.Text.{Text}
use Rattle.buffer.specs.Decimal.{spaced}
use Rattle.domains.specs.Lines.{listed_codes, domain_line, variable_line, variable_lines}

-- ---- the codes of one variable

-- the row's rest behind one more value
pub half_more : (rest row v : ℕ) → rest ≡ row / 2 ^ v → rest / 2 ≡ row / 2 ^ (v + 1)
half_more rest row v e = rw (e, add-one, pow-suc) (div-div-eq-div-mul row (2 ^ v) 2)

-- one value more, by the lowest bit of the row's rest
pub codes_more : {t u w : Text} (row rest v : ℕ) (code : ℕ → ℕ) (c : ℕ) → rest ≡ row / 2 ^ v → c ≡ code v
    → Takes (listed_codes v code row) t u → Takes (cond (is_odd rest) (spaced c) []) u w → Takes (listed_codes (v + 1) code row) t w
unfolding listed_codes bit
codes_more row rest v code c e p a b =
    then_more v (λ v. cond (bit row v) (spaced (code v)) []) a (rw (e, p)) b

-- ---- the line of one variable

codes_ext : (n : ℕ) (f g : ℕ → ℕ) (row : ℕ) → ((v : ℕ) → v < n → f v ≡ g v) → listed_codes n f row ≡ listed_codes n g row
unfolding listed_codes
codes_ext n f g row e =
    gather_ext n (λ v. cond (bit row v) (spaced (f v)) []) (λ v. cond (bit row v) (spaced (g v)) [])
    (λ v h. ap (λ (c : ℕ). cond (bit row v) (spaced c) []) (e v h))

-- the line of variable `x`, whose section starts at `at`
pub line_read : (b lists : List ℕ) (x at number row : ℕ) → x < variable_count b → at ≡ section_start b (suc x) → number ≡ suc x
    → row ≡ row_in (row_words b) lists x
    → domain_line number (owner_at b at) (size_at b at) (code_at b at) row ≡ variable_line (row_words b) (plan_of b) lists x
unfolding variable_line domain_line variable_at
line_read b lists x at number row h e p q =
    rw (
      e,
      p,
      q,
      variable_read b x h,
      size_read b x h,
      codes_ext (numbered_size b (suc x)) (λ v. (value_of (plan_of b) x v).code) (code_at b (section_start b (suc x))) (row_in (row_words b) lists x)
          (λ v k. ap (λ (a : Value). a.code) (value_read b x h v k)),
    )

-- ---- the places of the sections

-- the first variable's section stands behind the head
pub start_first : (b : List ℕ) (first : ℕ) → first ≡ word_at b 1 → 3 + first ≡ section_start b 1
unfolding section_start
start_first b first e = omega arith

-- the next one stands behind
pub start_more : (b : List ℕ) (at word x : ℕ) → at ≡ section_start b (suc x) → word ≡ word_at b at
    → at + (2 + word) ≡ section_start b (suc (x + 1))
unfolding section_start
start_more b at word x e p = rw (p, e, add-one) (omega arith)

-- the lines of all variables
pub lines_all : (b lists : List ℕ) (x : ℕ) → x ≡ variable_count b
    → gather_below x (variable_line (row_words b) (plan_of b) lists) ≡ variable_lines (row_words b) (plan_of b) lists
unfolding variable_lines
lines_all b lists x e = rw (e, variables_read b)
