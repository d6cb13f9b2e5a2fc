-- `revising::revised_row` gives the values of the row that have a support in another variable's list. Assumes nothing.
use Prim.Native.Nat.{ℕ, ◌<◌}
use mathlib.Core.Bool.{Bool, ◌&&◌}
use mathlib.Core.Path.{◌≡◌, ◌∙◌, ap}
use native.Mathlib.Omega.{arith}
use borrow.Author.Rules.{rules}
use Rattle.base.specs.Row.{bit, row_of}
use Rattle.disac4.specs.Report.{row_from}
use Rattle.disac4.specs.System.{network_at}
use Rattle.format.specs.Format.{variable_count}
use Rattle.format.specs.Lists.{row_in}
use Rattle.index.proofs.Linked.{linked_inside}
use Rattle.index.proofs.Places.{few_sections}
use Rattle.listing.specs.ListCells.{Shows}
use Rattle.network.specs.Sweep.{has_support}
use Rattle.plan.proofs.Parts.{variables_read}
use Rattle.plan.specs.Network.{network_of}
use Rattle.revising.proofs.revised_row.Goals as goal
use Rattle.revising.proofs.revised_row.Goals.{Start}

-- the other variable is one of the plan's
inside : (start : Start) → start.args.y < variable_count start.args.plan.now
inside start =
    (linked_inside start.args.plan.now start.requires.0.sound start.args.x start.args.y start.requires.2).1

pub row_at-other-requires : goal.row_at-other-requires
row_at-other-requires c =
    (c.row_words.ensures.2, omega (arith, few_sections c.args.plan.now c.requires.0.sound, inside (goal.at.row_at-other-requires c).Start))

pub returns : goal.returns
unfolding Shows network_of
returns c d shows =
    let a = c.args in
    let net = network_at a.plan.now in
    let other : c.row_at-other.result ≡ row_from net d a.y =
    c.row_at-other.ensures
    ∙ ap (λ (n : ℕ). row_in n a.lists.now a.y) c.row_words.ensures.0
    ∙ shows a.y (omega (arith, inside (goal.at.returns c).Start, variables_read a.plan.now)) in
    let kept : ℕ → Bool = λ v. bit a.row v && has_support net d a.x v a.y in
    c.row_where.ensures kept (λ v h held post. search rules)
    ∙ ap (λ (n : ℕ). row_of n kept) (omega (arith, c.size-values.ensures))
