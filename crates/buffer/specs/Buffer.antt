-- A lent buffer that takes a text byte by byte: its cells, and the place of the next byte.
use Rattle.std.specs.Prelude.{ℕ, ◌+◌, min, cond, List, [], ◌∷◌, ◌++◌, ◌≡◌, ltb, length, set, take, drop}

-- its cells, and the place of the next byte
pub record Buffer : Type 0 where
  pub cells : List ℕ
  pub at : ℕ

-- such a buffer, of the two
abbrev pub buffer : List ℕ → ℕ → Buffer
buffer cells at = record { cells = cells; at = at }

-- one more byte, dropped where the buffer is full
unfoldable pub put : Buffer → ℕ → Buffer
put t b = cond (ltb t.at (length t.cells)) (buffer (set t.cells t.at b) (t.at + 1)) t

-- a text, byte after byte
unfoldable pub puts : Buffer → List ℕ → Buffer
puts t [] = t
puts t (b ∷ text) = puts (put t b) text

-- the text is put at `at`, and `next` is the place behind it
pub record Adds (text before : List ℕ) (at : ℕ) (after : List ℕ) (next : ℕ) : Type 0 where
  pub done : buffer after next ≡ puts (buffer before at) text

-- the buffer starts with as much of the text as fits, `count` bytes, and keeps its other cells
pub record Holds (text before after : List ℕ) (count : ℕ) : Type 0 where
  pub counted : count ≡ min (length text) (length before)
  pub cells : after ≡ take count text ++ drop count before
