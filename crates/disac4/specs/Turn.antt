-- Turns: which are allowed, what one does, and what a list of them does.
use Rattle.std.specs.Prelude.{ℕ, ◌+◌, ◌*◌, ◌/◌, ◌%◌, Bool, cond, ◌&&◌, ◌||◌, not, List, leb, eqb, length}
use Rattle.std.proofs.Math.Option.{Option, none, some}
use Rattle.base.specs.Below.{list_below, first_below}
use Rattle.base.specs.Bytes.{byte_at}
use Rattle.base.specs.Choice.{between}
use Rattle.faults.specs.Fault.{decline}
use Rattle.faults.specs.declared.Decline.{Decline}
use Rattle.faults.specs.declared.Fault.TheVariants.{BadTurn}
use Rattle.disac4.specs.Action.{treat, send, read_worker, answer, new_poll, read_controller}
use Rattle.disac4.specs.Fold.{is_some, after_by, play_by, count_by}
use Rattle.disac4.specs.State.{State}
use Rattle.disac4.specs.System.{System}

-- the actor and its action, by document 01's numbers: an action from 0 to p reads from that sender
pub record Turn : Type 0 where
  pub actor : ℕ
  pub action : ℕ

-- the turn of actor `k` with action `d`
abbrev pub turn : ℕ → ℕ → Turn
turn k d = record { actor = k; action = d }

-- a worker's deed 9, treat
abbrev pub treat_action : ℕ
treat_action = 9

-- a worker's deed 10, send
abbrev pub send_action : ℕ
send_action = 10

-- a worker's deed 11, answer
abbrev pub answer_action : ℕ
answer_action = 11

-- the controller's deed 12, poll
abbrev pub poll_action : ℕ
poll_action = 12

-- for worker (kitchen) `k`: 0 to p except k, read from that sender; 9 to 11, treat, send or answer. With at most eight
-- workers, no number means two things
unfoldable pub worker_may : ℕ → ℕ → ℕ → Bool
worker_may p k d = (leb d p && not (eqb d k)) || between treat_action answer_action d

-- for the controller (desk): 1 to p, read from that worker; 12, poll
unfoldable pub controller_may : ℕ → ℕ → Bool
controller_may p d = between 1 p d || eqb d poll_action

-- no other turn is allowed
unfoldable pub allowed : ℕ → Turn → Bool
allowed p t =
    cond (eqb t.actor 0) (controller_may p t.action) (leb t.actor p && worker_may p t.actor t.action)

-- what worker `k` does
unfoldable pub worker_step : System → ℕ → ℕ → State → Option State
worker_step sys k d st =
    cond (eqb d treat_action) (treat sys k st)
    (cond (eqb d send_action) (send sys k st) (cond (eqb d answer_action) (answer k st) (read_worker d k st)))

-- what the controller does
unfoldable pub controller_step : System → ℕ → State → Option State
controller_step sys d st = cond (eqb d poll_action) (new_poll sys st) (read_controller sys d st)

-- the next state, or nothing where the turn is idle; in a closed plan every turn is
unfoldable pub step : System → State → Turn → Option State
step sys st t =
    cond (st.controller.closed || not (allowed sys.workers t)) none
    (cond (eqb t.actor 0) (controller_step sys t.action st) (worker_step sys t.actor t.action st))

-- the state after a turn
abbrev pub after : System → State → Turn → State
after sys = after_by (step sys)

-- the state after a list of turns, of any length
abbrev pub play : System → State → List Turn → State
play sys = play_by (step sys)

-- the turn is not idle; `changes_exactly` proves that this is exactly "the state after differs from the state before"
abbrev pub changes : System → State → Turn → Bool
changes sys st t = is_some (step sys st t)

-- how many turns of the list pass a test and changed something
abbrev pub changes_where : System → (Turn → Bool) → State → List Turn → ℕ
changes_where sys = count_by (step sys)

-- ---- the turn list as bytes: two for each turn

-- turn `i` of a turn list, from 0
unfoldable pub turn_at : List ℕ → ℕ → Turn
turn_at b i = turn (byte_at b (2 * i)) (byte_at b (2 * i + 1))

-- all turns of a turn list
unfoldable pub turns_of : List ℕ → List Turn
turns_of b = list_below (length b / 2) (turn_at b)

-- the bytes that a turn list may have
abbrev pub max_turn_bytes : ℕ
max_turn_bytes = 65536

-- of even length and not too long
unfoldable pub turn_list_fits : List ℕ → Bool
turn_list_fits b = eqb (length b % 2) 0 && leb (length b) max_turn_bytes

-- the fault of turn `i` alone
abbrev pub fault_of : ℕ → List ℕ → ℕ → Option Decline
fault_of p b i = cond (allowed p (turn_at b i)) none (some (decline BadTurn i))

-- the first turn that is not allowed, by its number from 0
unfoldable pub turn_fault : ℕ → List ℕ → Option Decline
turn_fault p b = first_below (length b / 2) (fault_of p b)
