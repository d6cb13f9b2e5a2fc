-- The run's report and the list cells, from the turns that were played.
use Rattle.std.specs.Prelude.{ℕ, suc, Bool, true, cond, ◌&&◌, not, List, eqb}
use Rattle.std.proofs.Math.Option.{none, some, get_or}
use Rattle.base.specs.Below.{any_below, first_below, gather_below}
use Rattle.base.specs.Row.{row_of}
use Rattle.format.specs.Lists.{row_cells}
use Rattle.network.specs.Network.{Network, Domains}
use Rattle.disac4.specs.Loading.{load}
use Rattle.disac4.specs.State.{State}
use Rattle.disac4.specs.System.{System}
use Rattle.disac4.specs.Turn.{Turn, send_action, poll_action, play, changes_where}
use Rattle.disac4.specs.declared.Report.{Report}
use Rattle.disac4.specs.declared.Status.{Status}
use Rattle.disac4.specs.declared.Status.TheVariants.{Open, Closed, Bare}

-- the lowest slot with an empty list, 0 if none
unfoldable pub lowest_empty : System → State → ℕ
lowest_empty sys st =
    get_or
    (first_below sys.net.variables (λ x. cond (any_below (sys.net.size x) (st.domain x)) none (some (suc x))))
    0

-- open, closed, or bare: closed with an empty list
unfoldable pub status_of : System → State → Status
status_of sys st = cond st.controller.closed (cond (eqb (lowest_empty sys st) 0) Closed Bare) Open

-- a variable's values in the domains, as a row: lowest bit for its first
abbrev pub row_from : Network → Domains → ℕ → ℕ
row_from net d x = row_of (net.size x) (d x)

-- the list cells of domains: for each variable (slot) the row of the values in its domain (listed dishes), of so many words
unfoldable pub domain_cells : ℕ → Network → Domains → List ℕ
domain_cells words net d = gather_below net.variables (λ x. row_cells words (row_from net d x))

-- those of a state
abbrev pub list_cells : ℕ → System → State → List ℕ
list_cells words sys st = domain_cells words sys.net st.domain

-- a turn in which a worker sends
abbrev pub is_send : Turn → Bool
is_send t = not (eqb t.actor 0) && eqb t.action send_action

-- a turn in which the controller polls
abbrev pub is_poll : Turn → Bool
is_poll t = eqb t.actor 0 && eqb t.action poll_action

-- the state after the turns were played from the plan as loaded
unfoldable pub final : System → List Turn → State
final sys turns = play sys (load sys) turns

-- the report: status, turns that changed something, list messages and polls sent, lowest variable (slot) with an empty list
unfoldable pub report_of : System → List Turn → Report
report_of sys turns = record {
  status = status_of sys (final sys turns);
  changes = changes_where sys (λ t. true) (load sys) turns;
  sends = changes_where sys is_send (load sys) turns;
  polls = changes_where sys is_poll (load sys) turns;
  empty = lowest_empty sys (final sys turns);
}
