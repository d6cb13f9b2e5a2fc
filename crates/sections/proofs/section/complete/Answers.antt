-- `sections::section::complete` says whether a section ends within the bytes. Assumes nothing.
use Rattle.plan.specs.Check.{complete}
use Rattle.sections.proofs.section.complete.Goals as goal

pub returns : goal.returns
unfolding complete
returns c = rw c.behind.ensures
