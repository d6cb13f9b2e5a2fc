-- `format::constraint::scope_at`: a byte before the kind for the first two, one behind the count for the others. Assumes a section that
-- starts within the plan.
use Prim.Native.Nat.{◌+◌}
use mathlib.Core.Path.{sym, ◌∙◌}
use borrow.Author.Tests.{lt-ltb, le-ltb}
use Rattle.base.proofs.Choice.{cond_true, cond_false}
use Rattle.base.specs.Bytes.{byte_at}
use Rattle.format.specs.Format.{scope_at}
use Rattle.format.proofs.constraint.scope_at.Goals as goal

pub returns-then-i-lt2 : goal.returns-then-i-lt2
unfolding scope_at
returns-then-i-lt2 c =
    let b = c.args.plan.now in
    let at = c.args.at in
    let i = c.args.i in (
      c.byte_at.ensures.0
          ∙ sym (cond_true (byte_at b (at + 2 + i)) (byte_at b (at + 6 + i)) (lt-ltb i 2 c.if-i-lt2.true)),
      c.byte_at.ensures.1,
    )

pub returns-else-i-lt2 : goal.returns-else-i-lt2
unfolding scope_at
returns-else-i-lt2 c =
    let b = c.args.plan.now in
    let at = c.args.at in
    let i = c.args.i in (
      c.byte_at-else-i-lt2.ensures.0
          ∙ sym (cond_false (byte_at b (at + 2 + i)) (byte_at b (at + 6 + i)) (le-ltb i 2 c.if-i-lt2.false)),
      c.byte_at-else-i-lt2.ensures.1,
    )
