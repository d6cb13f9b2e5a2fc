-- Where the parts of a plan's bytes stand: "The plan as bytes". Reads are total; the checks say which of them mean something.
use Rattle.std.specs.Prelude.{ℕ, zero, suc, ◌+◌, ◌*◌, Bool, cond, List, ltb, eqb}
use Rattle.base.specs.Below.{list_below}
use Rattle.base.specs.Bytes.{byte_at, word_at}
use Rattle.base.specs.Digits.{number_at}
use Rattle.format.specs.Limits.{word_bytes, max_words}
use Rattle.format.specs.Version.{row_bytes}

-- a section is a 16-bit length and then that many bytes: the place behind the section at `at`
abbrev pub behind : List ℕ → ℕ → ℕ
behind b at = at + 2 + word_at b at

-- where section k starts: 0 is the head, 1 to n are the slots, then come the rules
unfoldable pub section_start : List ℕ → ℕ → ℕ
section_start b zero = 1
section_start b (suc k) = behind b (section_start b k)

-- the head: p, n, number of rules
abbrev pub worker_count : List ℕ → ℕ
worker_count b = byte_at b (1 + 2)

abbrev pub variable_count : List ℕ → ℕ
variable_count b = byte_at b (1 + 2 + 1)

abbrev pub constraint_count : List ℕ → ℕ
constraint_count b = byte_at b (1 + 2 + 2)

-- how many sections the head calls for: itself, the slots and the rules
abbrev pub section_count : List ℕ → ℕ
section_count b = 1 + variable_count b + constraint_count b

-- a slot's section at `at`: owning kitchen, count, then for each dish a code and a figure
abbrev pub owner_at : List ℕ → ℕ → ℕ
owner_at b at = byte_at b (at + 2)

abbrev pub size_at : List ℕ → ℕ → ℕ
size_at b at = byte_at b (at + 2 + 1)

abbrev pub code_at : List ℕ → ℕ → ℕ → ℕ
code_at b at v = word_at b (at + 4 + 4 * v)

abbrev pub figure_at : List ℕ → ℕ → ℕ → ℕ
figure_at b at v = word_at b (at + 4 + 4 * v + 2)

-- the place behind the first `n` dishes of a slot's section at `at`
abbrev pub values_end : ℕ → ℕ → ℕ
values_end at n = at + 4 + 4 * n

-- where constraint (rule) `c` starts, counted from 0: behind the head and the slots
abbrev pub constraint_start : List ℕ → ℕ → ℕ
constraint_start b c = section_start b (suc (variable_count b + c))

-- a rule's section at `at`: first slot, second slot, kind, then a row for each dish of the first slot, or a limit, and in a set rule
-- behind the limit a count of further slots and their numbers
abbrev pub first_at : List ℕ → ℕ → ℕ
first_at b at = byte_at b (at + 2)

abbrev pub second_at : List ℕ → ℕ → ℕ
second_at b at = byte_at b (at + 2 + 1)

abbrev pub kind_at : List ℕ → ℕ → ℕ
kind_at b at = byte_at b (at + 2 + 2)

-- where the row for dish `v` of the first slot starts
abbrev pub table_row_start : List ℕ → ℕ → ℕ → ℕ
table_row_start b at v = at + 5 + row_bytes b * v

-- bytes that 256 rows take at most, in any version
abbrev pub rows_room : ℕ
rows_room = word_bytes * max_words * 256

-- that row
abbrev pub table_row_at : List ℕ → ℕ → ℕ → ℕ
table_row_at b at v = number_at 8 b (table_row_start b at v) (row_bytes b)

-- a byte of it, the highest first
abbrev pub table_byte_at : List ℕ → ℕ → ℕ → ℕ → ℕ
table_byte_at b at v part = byte_at b (table_row_start b at v + part)

abbrev pub limit_at : List ℕ → ℕ → ℕ
limit_at b at = word_at b (at + 5)

-- kind 2 is a set rule: one sodium limit over a set of slots
abbrev pub is_set : List ℕ → ℕ → Bool
is_set b at = eqb (kind_at b at) 2

-- how many further slots a rule has: only a set rule has any
unfoldable pub further_count : List ℕ → ℕ → ℕ
further_count b at = cond (is_set b at) (byte_at b (at + 7)) 0

-- how many slots a rule is over
abbrev pub scope_size : List ℕ → ℕ → ℕ
scope_size b at = 2 + further_count b at

-- the number of the slot at place `i` of a rule's scope, places counted from 0: the first two stand before the kind, the further ones
-- behind the count
unfoldable pub scope_at : List ℕ → ℕ → ℕ → ℕ
scope_at b at i = cond (ltb i 2) (byte_at b (at + 2 + i)) (byte_at b (at + 6 + i))

-- the rule's scope: the numbers of all its slots
unfoldable pub scope_of : List ℕ → ℕ → List ℕ
scope_of b at = list_below (scope_size b at) (scope_at b at)

-- the number of dishes of the slot with number s, from 1: slot s is section s
abbrev pub numbered_size : List ℕ → ℕ → ℕ
numbered_size b s = size_at b (section_start b s)
