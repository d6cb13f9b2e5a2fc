-- Reads in a list of bytes: total, 0 past the end. All numbers are big-endian.
use Rattle.std.specs.Prelude.{ℕ, ◌+◌, ◌*◌, List, get_or}
use Rattle.base.specs.Digits.{digits}

-- the byte at place `i`
unfoldable pub byte_at : List ℕ → ℕ → ℕ
byte_at b i = get_or b i 0

-- a 16-bit number
unfoldable pub word_at : List ℕ → ℕ → ℕ
word_at b i = byte_at b i * 256 + byte_at b (i + 1)

-- `k` bytes that are written as one hexadecimal number
unfoldable pub hex : ℕ → ℕ → List ℕ
hex k n = digits 8 k n
