-- A call that is lent buffers: when it declines, and its whole outcome, the answer and every cell of the buffers.
-- `L` is the record of the buffers that are lent to it, `A` its answer.
use Rattle.std.specs.Prelude.{ℕ, ◌<◌, ◌≤◌, List, [], ◌∷◌, ◌++◌, map, ◌⊎◌, ◌≡◌, leb, length, get_or, drop}
use Rattle.std.proofs.Math.Option.{Option, none, some}
use Rattle.base.specs.Choice.{first_of}
use Rattle.faults.specs.CheckList.{Check, ◌or_else◌, first_fault, fault_at}
use Rattle.faults.specs.declared.Decline.{Decline}
use Rattle.faults.specs.declared.Fault.{Fault}

-- what a call gives, and what it leaves in the lent buffers
pub record Outcome (A L : Type 0) : Type 0 where
  pub answer : A
  pub left : L

-- this answer, and these buffers
abbrev pub outcome : {A L : Type 0} → A → L → Outcome A L
outcome a l = record { answer = a; left = l }

-- a call leaves its caller this outcome
pub record Gives {A L : Type 0} (o : Outcome A L) (r : A) (after : L) : Type 0 where
  pub answer : r ≡ o.answer
  pub cells : after ≡ o.left

-- the first cells hold `new`, later ones keep what they had
unfoldable pub overwrite : List ℕ → List ℕ → List ℕ
overwrite new cells = new ++ drop (length new) cells

-- that is, cell by cell: a buffer that starts with `new` and keeps its length and its later cells
pub record StartsWith (new before after : List ℕ) : Type 0 where
  pub same_length : length after ≡ length before
  pub start : (i : ℕ) → i < length new → get_or after i 0 ≡ get_or new i 0
  pub kept : (i : ℕ) → length new ≤ i → get_or after i 0 ≡ get_or before i 0

-- ---- the lent buffers

-- a buffer: its cells, how many are needed, and the fault of fewer
pub record Buffer (L : Type 0) : Type 0 where
  pub cells : L → List ℕ
  pub need : ℕ
  pub fault : Fault

-- a call's checks of its buffers, in their order: each has the cells that are needed
unfoldable pub buffer_checks : {L : Type 0} → List (Buffer L) → L → List Check
buffer_checks buffers l = map (λ b. leb b.need (length (b.cells l)) or_else b.fault) buffers

-- what it means that they pass: every buffer is long enough
abbrev pub LongEnough : {L : Type 0} → List (Buffer L) → L → Type 0
LongEnough [] l = Unit {0}
LongEnough (b ∷ buffers) l = (b.need ≤ length (b.cells l)) × LongEnough buffers l

-- and that they fail: this is the fault of the first that is too short
abbrev pub TooShort : {L : Type 0} → List (Buffer L) → L → Fault → Type 0
TooShort [] l f = ⊥
TooShort (b ∷ buffers) l f =
    ((length (b.cells l) < b.need) × (f ≡ b.fault)) ⊎ ((b.need ≤ length (b.cells l)) × TooShort buffers l f)

-- ---- the call

-- a call, whatever buffers it is lent
pub record Call (A L : Type 0) : Type 0 where
  -- the buffers that it needs
  pub buffers : List (Buffer L)
  -- the first fault of its other inputs
  pub fault : Option Decline
  -- what it gives where nothing is at fault
  pub does : L → Outcome A L
  -- its answer to a fault
  pub declines : Decline → A

-- the first fault: the buffers' come before all others, at place 0
unfoldable pub call_fault : {A L : Type 0} → Call A L → L → Option Decline
call_fault c l = first_of (fault_at 0 (first_fault (buffer_checks c.buffers l))) c.fault

-- a declined call changes no lent cell
abbrev pub refused : {A L : Type 0} → Call A L → L → Decline → Outcome A L
refused c l d = outcome (c.declines d) l

-- it does its work, unless a fault was found
abbrev pub outcome_by : {A L : Type 0} → Call A L → L → Option Decline → Outcome A L
outcome_by c l none = c.does l
outcome_by c l (some d) = refused c l d

-- the whole outcome of a call
unfoldable pub outcome_of : {A L : Type 0} → Call A L → L → Outcome A L
outcome_of c l = outcome_by c l (call_fault c l)
