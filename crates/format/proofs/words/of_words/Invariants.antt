use Prim.Native.Nat.{ℕ, ◌*◌, ◌^◌, ◌<◌}
use mathlib.Core.Path.{◌≡◌}
use Rattle.base.specs.Digits.{number_of}
use Rattle.format.specs.Limits.{word_bits}
use Rattle.format.proofs.words.of_words.Given as goal

abbrev pub invariant-loop-k : goal.invariant-loop-k
invariant-loop-k g l =
    (l.row < 2 ^ (word_bits * l.k))
    × ((part : ℕ → ℕ) → ((k : ℕ) → k < l.words → (value : ℕ) → goal.F-post g l.word k value → value ≡ part k)
    → l.row ≡ number_of word_bits part l.k)
