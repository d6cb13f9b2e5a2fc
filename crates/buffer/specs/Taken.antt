-- The struct `Text`: a text begins in a lent buffer, and takes bytes there.
use Rattle.std.specs.Prelude.{ℕ, List, ◌≡◌}
use Rattle.std.specs.Borrow.{MutBor}
use Rattle.buffer.specs.declared.Text.{Text}
use Rattle.buffer.specs.Buffer.{Adds}

-- nothing is taken, and the next byte comes to the start of the buffer `out`
pub record Begins (out : MutBor (List ℕ)) (text : Text) : Type 0 where
  pub same : text.cells.ghost_name ≡ out.ghost_name
  pub cells : text.cells.now ≡ out.now
  pub at : text.at ≡ 0

-- the text takes `more`, and stays in its buffer
pub record Takes (more : List ℕ) (before after : Text) : Type 0 where
  pub same : after.cells.ghost_name ≡ before.cells.ghost_name
  pub adds : Adds more before.cells.now before.at after.cells.now after.at
