use mathlib.Core.Path.{◌≡◌}
use lib.ListN.{length}
use Rattle.listing.proofs.ListCells.{put_words}
use Rattle.listing.proofs.put_row.Given as goal

abbrev pub invariant-loop-k : goal.invariant-loop-k
invariant-loop-k l =
    (length l.lists ≡ length l.initial.lists) × (put_words l.start l.k l.rest l.lists ≡ put_words l.start l.words l.row l.initial.lists)
