-- `treating::touch_variable` goes through a variable of the owner that is linked with the treated one. Assumes nothing.
use Prim.Native.Nat.{ℕ, ◌<◌, ◌≤◌}
use mathlib.Core.Bool.{true, ◌&&◌}
use mathlib.Core.List.{List}
use mathlib.Core.Path.{◌≡◌, refl, sym, ◌∙◌}
use native.Mathlib.Omega.{arith}
use lib.Bits.{bit_and, and_le_r}
use lib.Dec.{eqb}
use Rattle.base.proofs.Bools.{and_left, and_right}
use Rattle.base.proofs.Row.{row_small}
use Rattle.disac4.specs.System.{system_of, system_at}
use Rattle.format.specs.Format.{variable_count}
use Rattle.plan.proofs.Links.{linked_symmetric}
use Rattle.plan.specs.Decode.{plan_of}
use Rattle.plan.specs.Plan.{size_of}
use Rattle.plan.specs.Network.{share_constraint, network_of}
use Rattle.index.proofs.Labels.{values_low, own_linked_lem, numbered}
use Rattle.index.proofs.Places.{few_sections}
use Rattle.index.specs.Index.{owns}
use Rattle.cells.proofs.Ranges.{may_get}
use Rattle.cells.specs.Layout.{DOMAIN, VALUEROOM, LISTED}
use Rattle.cells.specs.Memory.{mem_of}
use Rattle.cells.specs.View.{Numbered}
use Rattle.treating.proofs.TreatLaws.{losing, losing_none, variable_touched}
use Rattle.treating.proofs.LoseLaws.{LosingRow, row_touched, none_touched}
use Rattle.treating.proofs.touch_variable.Goals as goal
use Rattle.treating.proofs.touch_variable.Goals.{Start}

-- what is known of the two variables
module _ (s : Start) where
  abbrev plan-of : List ℕ
  plan-of = s.args.plan.now

  both : owns plan-of s.args.i s.args.x && share_constraint (plan_of plan-of) s.args.x s.args.y ≡ true
  both = sym (own_linked_lem plan-of s.args.i s.args.y s.args.x) ∙ s.requires.3

  owned : owns plan-of s.args.i s.args.x ≡ true
  owned = and_left (owns plan-of s.args.i s.args.x) (share_constraint (plan_of plan-of) s.args.x s.args.y) both

  linked : share_constraint (plan_of plan-of) s.args.x s.args.y ≡ true
  linked = and_right (owns plan-of s.args.i s.args.x) (share_constraint (plan_of plan-of) s.args.x s.args.y) both

  linked-too : share_constraint (plan_of plan-of) s.args.y s.args.x ≡ true
  linked-too = linked_symmetric (plan_of plan-of) s.args.y s.args.x ∙ linked

  known : (s.args.x < variable_count plan-of) × (s.args.y < variable_count plan-of) × Numbered (mem_of s.args.cells.now) s.args.x s.args.y
  known = numbered plan-of s.requires.0.sound _ s.requires.0.index s.args.x s.args.y linked

  few_values : size_of (plan_of plan-of) s.args.x ≤ VALUEROOM
  few_values = values_low plan-of s.requires.0.sound s.args.x known.0

pub row_holding-listed-requires : goal.row_holding-listed-requires
row_holding-listed-requires c =
    let few = few_sections (plan-of (goal.at.row_holding-listed-requires c).Start) c.requires.0.sound in
    (may_get _ _ _ refl _ (omega (arith, (known (goal.at.row_holding-listed-requires c).Start).0, c.requires.0.long)), omega arith)

pub returns-then-listed-eq0 : goal.returns-then-listed-eq0
unfolding system_of network_of owns
returns-then-listed-eq0 c =
    let a = c.args in
    let sys = system_at (plan-of (goal.at.returns-then-listed-eq0 c).Start) in
    variable_touched sys a.i a.y a.w a.x _ _ (owned (goal.at.returns-then-listed-eq0 c).Start) (linked (goal.at.returns-then-listed-eq0 c).Start)
    (none_touched sys a.i a.y a.w a.x _
    (losing_none (plan-of (goal.at.returns-then-listed-eq0 c).Start) _ a.y a.w a.x _ (few_values (goal.at.returns-then-listed-eq0 c).Start) c.row_holding-listed.ensures c.if-listed-eq0.true))

pub support_row-requires : goal.support_row-requires
support_row-requires c =
    (c.requires.0, c.requires.2, linked-too (goal.at.support_row-requires c).Start)

pub lose_against-requires : goal.lose_against-requires
lose_against-requires c =
    let few = few_sections (plan-of (goal.at.lose_against-requires c).Start) c.requires.0.sound in (
      c.requires.0.long,
      c.requires.1,
      omega (arith, (known (goal.at.lose_against-requires c).Start).0),
      omega (arith, (known (goal.at.lose_against-requires c).Start).1),
      (known (goal.at.lose_against-requires c).Start).2,
      omega (
        arith,
        and_le_r c.support_row.result c.row_holding-listed.result,
        row_small VALUEROOM (λ v. eqb (mem_of c.args.cells.now DOMAIN c.args.x v) LISTED),
        c.row_holding-listed.ensures,
      ),
    )

pub returns : goal.returns
unfolding system_of network_of owns
returns c =
    let a = c.args in
    let sys = system_at (plan-of (goal.at.returns c).Start) in
    let row : LosingRow sys (mem_of a.cells.now) a.y a.w a.x (bit_and c.support_row.result c.row_holding-listed.result) =
    losing (plan-of (goal.at.returns c).Start) _ a.y a.w a.x _ (few_values (goal.at.returns c).Start) c.row_holding-listed.ensures _ (linked-too (goal.at.returns c).Start)
    c.support_row.ensures in
    variable_touched sys a.i a.y a.w a.x _ _ (owned (goal.at.returns c).Start) (linked (goal.at.returns c).Start)
    (c.lose_against.ensures (sys.net.size a.x) row.few
    ∙ row_touched sys a.i a.y a.w a.x _ _ row)
