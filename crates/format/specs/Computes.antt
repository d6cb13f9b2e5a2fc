-- Named on an `unfolding` line, this opens what the crate computes with, for facts that hold by computing.
use Rattle.format.specs.Format.{section_start, further_count, scope_at, scope_of}
use Rattle.format.specs.Lists.{row_cells, row_in}
use Rattle.format.specs.Version.{row_words, max_kind}

unfoldable pub format_computes : Unit {0}
unfolding section_start further_count scope_at scope_of row_cells row_in row_words max_kind
format_computes = tt
