-- Named on an `unfolding` line, this opens what the crate and those below it compute with, for facts that hold by computing.
use Rattle.base.specs.Bytes.{byte_at, word_at, hex}
use Rattle.base.specs.Digits.{number_at, digits}
use Rattle.base.specs.Row.{bit, row_of, without_lowest, row_count_in, row_count}

unfoldable pub base_computes : Unit {0}
unfolding byte_at word_at hex number_at digits bit row_of without_lowest row_count_in row_count
base_computes = tt
