-- The state: what loading and the actions speak of, and nothing else.
use Rattle.std.specs.Prelude.{ℕ, Bool, List}
use Rattle.std.proofs.Math.Option.{Option}
use Rattle.base.specs.Choice.{update, update₂}
use Rattle.network.specs.Network.{Label, Domains}
use Rattle.disac4.specs.declared.Poll.{Poll}
use Rattle.disac4.specs.declared.Timestamp.{Timestamp}

-- a list message with its labels, a poll (the code's struct: its own number and the wanted count of lists), or a reply with the
-- poll's number
pub data Message : Type 0 where
  list : List Label → Message
  poll : Poll → Message
  reply : Timestamp → Message

-- the controller's part: the poll number, whether that poll is open, the workers marked by their replies, whether the plan
-- is closed; its count of lists stands with the workers'
pub record Controller : Type 0 where
  pub timestamp : ℕ
  pub poll_open : Bool
  pub marked : ℕ → Bool
  pub closed : Bool

-- the whole state of a run
pub record State : Type 0 where
  -- the values not deleted (struck)
  pub domain : Domains
  -- supports left of a label against a variable: `counter x v y`
  pub counter : ℕ → ℕ → ℕ → ℕ
  -- each worker's labels to treat, oldest first
  pub work_list : ℕ → List Label
  -- each worker's labels to send (out list), oldest first
  pub to_send : ℕ → List Label
  -- the poll that a worker holds
  pub held : ℕ → Option Poll
  -- each actor's count of lists; the controller's is at 0
  pub list_counter : ℕ → ℕ
  -- the mailbox from a sender to a receiver, oldest message first: `channel sender receiver`
  pub channel : ℕ → ℕ → List Message
  pub controller : Controller

-- ---- A state with one part changed and all others kept

-- a state by its parts, in the order above
abbrev pub state_of : Domains → (ℕ → ℕ → ℕ → ℕ) → (ℕ → List Label) → (ℕ → List Label) → (ℕ → Option Poll) → (ℕ → ℕ)
    → (ℕ → ℕ → List Message) → Controller → State
state_of domains counters work_lists to_sends helds list_counters channels control = record {
  domain = domains;
  counter = counters;
  work_list = work_lists;
  to_send = to_sends;
  held = helds;
  list_counter = list_counters;
  channel = channels;
  controller = control;
}

-- one change, and then the next
infixl 10 ◌|>◌
abbrev pub ◌|>◌ : State → (State → State) → State
st |> change = change st

-- the domains, or the counters, of all variables
abbrev pub set_domain : Domains → State → State
set_domain d st =
    state_of d st.counter st.work_list st.to_send st.held st.list_counter st.channel st.controller

abbrev pub set_counter : (ℕ → ℕ → ℕ → ℕ) → State → State
set_counter c st =
    state_of st.domain c st.work_list st.to_send st.held st.list_counter st.channel st.controller

-- what actor `k` has
abbrev pub set_work_list : ℕ → List Label → State → State
set_work_list k labels st =
    state_of st.domain st.counter (update st.work_list k labels) st.to_send st.held st.list_counter
    st.channel st.controller

abbrev pub set_to_send : ℕ → List Label → State → State
set_to_send k labels st =
    state_of st.domain st.counter st.work_list (update st.to_send k labels) st.held st.list_counter
    st.channel st.controller

abbrev pub set_held : ℕ → Option Poll → State → State
set_held k q st =
    state_of st.domain st.counter st.work_list st.to_send (update st.held k q) st.list_counter
    st.channel st.controller

abbrev pub set_list_counter : ℕ → ℕ → State → State
set_list_counter k n st =
    state_of st.domain st.counter st.work_list st.to_send st.held (update st.list_counter k n)
    st.channel st.controller

-- all channels, or the one from `j` to `k`
abbrev pub set_channels : (ℕ → ℕ → List Message) → State → State
set_channels c st =
    state_of st.domain st.counter st.work_list st.to_send st.held st.list_counter c st.controller

abbrev pub set_channel : ℕ → ℕ → List Message → State → State
set_channel j k messages st = set_channels (update₂ st.channel j k messages) st

-- the controller's part
abbrev pub on_controller : (Controller → Controller) → State → State
on_controller f st =
    state_of st.domain st.counter st.work_list st.to_send st.held st.list_counter st.channel
    (f st.controller)

abbrev pub set_timestamp : ℕ → State → State
set_timestamp n = on_controller (λ c. record { timestamp = n; poll_open = c.poll_open; marked = c.marked; closed = c.closed })

abbrev pub set_poll_open : Bool → State → State
set_poll_open b = on_controller (λ c. record { timestamp = c.timestamp; poll_open = b; marked = c.marked; closed = c.closed })

abbrev pub set_marked : (ℕ → Bool) → State → State
set_marked m = on_controller (λ c. record { timestamp = c.timestamp; poll_open = c.poll_open; marked = m; closed = c.closed })

abbrev pub set_closed : Bool → State → State
set_closed b = on_controller (λ c. record { timestamp = c.timestamp; poll_open = c.poll_open; marked = c.marked; closed = b })
