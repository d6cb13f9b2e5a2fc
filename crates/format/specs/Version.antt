-- What a plan's version fixes: how wide a row of bits is, and which kinds of rules there are.
use Rattle.std.specs.Prelude.{ℕ, ◌*◌, cond, List, eqb}
use Rattle.base.specs.Bytes.{byte_at}
use Rattle.format.specs.Limits.{word_bits, word_bytes}

-- byte 0
abbrev pub version : List ℕ → ℕ
version b = byte_at b 0

-- what version 1 has, and what version 2 has
abbrev pub by_version : List ℕ → ℕ → ℕ → ℕ
by_version b one two = cond (eqb (version b) 2) two one

-- how many 16-bit words a row of bits has, in a table and in the list cells
unfoldable pub row_words : List ℕ → ℕ
row_words b = by_version b 1 2

-- dishes that a slot may have: a row has a bit for each
abbrev pub max_size : List ℕ → ℕ
max_size b = word_bits * row_words b

-- bytes of a table's row
abbrev pub row_bytes : List ℕ → ℕ
row_bytes b = word_bytes * row_words b

-- the highest kind of a rule: kind 0 is a table, kind 1 a sodium rule, and in version 2 kind 2 is a set rule
unfoldable pub max_kind : List ℕ → ℕ
max_kind b = by_version b 1 2
