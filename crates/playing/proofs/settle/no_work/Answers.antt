-- `playing::settle::no_work` sees that there is nothing to treat. Assumes nothing.
use native.Mathlib.Omega.{arith}
use borrow.Author.Tests.{leb-true}
use Rattle.treating.proofs.TreatLaws.{treat_idle}
use Rattle.playing.proofs.settle.no_work.Goals as goal

pub returns : goal.returns
returns c sys e = treat_idle sys _ _ (λ has. omega (arith, leb-true))
