-- `domains::push_domain` puts the line of a variable. Assumes nothing.
use mathlib.Core.Path.{sym}
use Rattle.buffer.proofs.Puts.{◌then◌}
use Rattle.domains.specs.Lines.{domain_line}
use Rattle.domains.proofs.push_domain.Goals as goal

pub returns : goal.returns
unfolding domain_line
returns c =
    rw (sym c.byte_at.ensures.0)
    (c.push_number.ensures then c.push_spaced.ensures then c.push.ensures then c.push_codes.ensures then c.push-2.ensures)
