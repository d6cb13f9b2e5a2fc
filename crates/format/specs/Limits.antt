-- The limits of "What the words mean" and "The plan as bytes", as jobs 4 and 5 have them. The constants of `src/limits.rt` are the same numbers.
use Rattle.std.specs.Prelude.{ℕ, ◌*◌}

-- the highest version; the lowest is 1
abbrev pub max_version : ℕ
max_version = 2

-- kitchens
abbrev pub max_workers : ℕ
max_workers = 8

-- slots
abbrev pub max_variables : ℕ
max_variables = 32

-- bits of a word of a row, and the word's bytes
abbrev pub word_bits : ℕ
word_bits = 16

abbrev pub word_bytes : ℕ
word_bytes = 2

-- words of a row, in any version
abbrev pub max_words : ℕ
max_words = 2

-- dishes of a slot, in any version
abbrev pub max_values : ℕ
max_values = word_bits * max_words

-- labels of a plan (L)
abbrev pub max_labels : ℕ
max_labels = 512

-- rules
abbrev pub max_constraints : ℕ
max_constraints = 128

-- different pairs of slots that the rules of a plan touch
abbrev pub max_pairs : ℕ
max_pairs = 128

-- slots of a set rule behind its first two
abbrev pub max_further : ℕ
max_further = 6
