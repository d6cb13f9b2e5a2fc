-- `format::version::max_kind`: a table and a sum limit in version 1, in version 2 a limit over a set too. Assumes nothing.
use Rattle.format.specs.Version.{max_kind}
use Rattle.format.proofs.version.max_kind.Goals as goal

pub returns : goal.returns
unfolding max_kind
returns c = c.by_version.ensures
