-- `runs::play_until_closed` plays rounds on an accepted plan until it is closed. Assumes nothing.
use mathlib.Core.Path.{◌∙◌}
use native.Mathlib.Omega.{arith}
use Rattle.std.proofs.Common.{rules}
use Rattle.disac4.specs.Outcome.{played}
use Rattle.engine.proofs.Further.{underway_after}
use Rattle.runs.proofs.Runs.{begun, loaded, ends}
use Rattle.runs.proofs.play_until_closed.Goals as goal

pub play_rounds-requires : goal.play_rounds-requires
play_rounds-requires c =
    (begun _ _ _ _ c.requires.0 (omega (arith, c.requires.1, c.load-progress.auto.work)) c.load-progress.ensures, c.requires.3)

pub finish-requires : goal.finish-requires
finish-requires c =
    let u = (loaded c.requires.0 (omega (arith, c.requires.1, c.load-progress.auto.work)) c.requires.3 c.load-progress.ensures) in
    ((underway_after u c.play_rounds.ensures.played).going, c.requires.2)

pub returns : goal.returns
unfolding played
returns c =
    let p = c.play_rounds.ensures.played in
    ends _ c.requires.0 _ _ _ _ _ _ _ _ _ _ c.load-progress.ensures p.plays (p.long ∙ c.load-progress.auto.work) (omega arith)
    (rw p.plan at c.finish.ensures.ended) (search rules)
