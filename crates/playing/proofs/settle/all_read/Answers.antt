-- `playing::settle::all_read` sees that there is nothing to read. Assumes nothing.
use mathlib.Core.Path.{◌∙◌}
use native.Mathlib.Omega.{arith}
use borrow.Author.Tests.{leb-true}
use Rattle.engine.proofs.RunLaws.{read_polls, read_lists}
use Rattle.reads.proofs.ReadLaws.{read_no_poll, list_idle}
use Rattle.playing.proofs.settle.all_read.Goals as goal

pub returns-then-d-eq0 : goal.returns-then-d-eq0
returns-then-d-eq0 c e =
    read_polls _ _ _ _ c.if-d-eq0.true ∙ read_no_poll _ _ _ c.get-polls.ensures.0 (leb-true _ _ e)

pub returns : goal.returns
returns c e =
    read_lists _ _ _ _ c.if-d-eq0.false ∙ list_idle _ _ _ (λ has. omega (arith, leb-true))
