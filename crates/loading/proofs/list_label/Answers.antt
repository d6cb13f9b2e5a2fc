-- `loading::list_label` puts a label into its domain, or deletes it. Assumes nothing.
use mathlib.Core.Path.{refl}
use native.Mathlib.Omega.{arith}
use Rattle.disac4.specs.System.{system_at}
use Rattle.index.proofs.Labels.{label_small}
use Rattle.loading.proofs.LoadLaws.{label_deleted, label_kept}
use Rattle.cells.proofs.Ranges.{may_put}
use Rattle.loading.proofs.list_label.Goals as goal

pub put-requires : goal.put-requires
put-requires c =
    may_put _ _ _ refl _ _
    (omega (arith, c.requires.0.long, label_small c.args.plan.now c.requires.0.sound c.args.x c.args.v c.requires.1))

pub delete-requires : goal.delete-requires
delete-requires c =
    omega (
      arith,
      c.requires.0.long,
      c.put.auto.cells,
      label_small c.args.plan.now c.requires.0.sound c.args.x c.args.v c.requires.1,
      c.owner-owner.ensures,
    )

pub returns-then-not-supported : goal.returns-then-not-supported
returns-then-not-supported c =
    let a = c.args in
    label_deleted (system_at a.plan.now) a.x a.v _ _ c.put.ensures a.supported _ _
    c.if-not-supported.true
    c.owner-owner.ensures.0 c.delete.ensures

pub returns-else-not-supported : goal.returns-else-not-supported
returns-else-not-supported c =
    let a = c.args in
    label_kept (system_at a.plan.now) a.x a.v _ _ c.put.ensures a.supported
    c.if-not-supported.false
