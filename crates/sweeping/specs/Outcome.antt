-- The slow engine (document 02, job 2): the whole outcome of the sweeps, the answer and every cell of the two lent list buffers; and the part
-- of a buffer that holds the last sweep.
use Rattle.std.specs.Prelude.{ℕ, zero, suc, Bool, cond, List, [], ◌∷◌, leb, length, take, Result, Ok, Err}
use Rattle.base.specs.Row.{is_odd}
use Rattle.disac4.specs.Need.{list_need}
use Rattle.disac4.specs.Report.{domain_cells}
use Rattle.disac4.specs.System.{network_at}
use Rattle.format.specs.Version.{row_words}
use Rattle.faults.specs.declared.Decline.{Decline}
use Rattle.faults.specs.declared.Fault.TheVariants.{ShortLists}
use Rattle.lending.specs.Call.{Outcome, outcome, overwrite, Buffer, Call}
use Rattle.network.specs.Network.{Network, loaded}
use Rattle.network.specs.Sweep.{swept, sweep_count}
use Rattle.plan.specs.Decode.{plan_fault}

-- the two list buffers that are lent to the sweeps, before them or after them
pub record TwoLists : Type 0 where
  pub first : List ℕ
  pub second : List ℕ

-- these buffers
abbrev pub two_lists : List ℕ → List ℕ → TwoLists
two_lists first second = record { first = first; second = second }

-- the one buffer or the other
abbrev pub one_of : Bool → TwoLists → List ℕ
one_of second l = cond second l.second l.first

-- these cells written over the other one
abbrev pub write_beside : Bool → List ℕ → TwoLists → TwoLists
write_beside second cells l =
    cond second (two_lists (overwrite cells l.first) l.second) (two_lists l.first (overwrite cells l.second))

-- the buffer that holds the lists after `k` sweeps, and that the next sweep reads: the second after an odd number, else the first
unfoldable pub holding : ℕ → TwoLists → List ℕ
holding k = one_of (is_odd k)

-- the next sweep writes the other one
unfoldable pub write_other : ℕ → List ℕ → TwoLists → TwoLists
write_other k = write_beside (is_odd k)

-- the lists after `k` sweeps of the loaded ones, as cells; a row has so many words
abbrev pub swept_cells : ℕ → Network → ℕ → List ℕ
swept_cells words net k = domain_cells words net (swept net k)

-- the buffers after `k` sweeps: the first starts with the loaded lists, each sweep writes its lists, and later cells are kept
unfoldable pub after_sweeps : ℕ → Network → ℕ → TwoLists → TwoLists
after_sweeps words net zero l = two_lists (overwrite (domain_cells words net (loaded net)) l.first) l.second
after_sweeps words net (suc k) l = write_other k (swept_cells words net (suc k)) (after_sweeps words net k l)

-- either buffer under 64 cells: 10
abbrev pub first_buffer : Buffer TwoLists
first_buffer = record { cells = λ l. l.first; need = list_need; fault = ShortLists }

abbrev pub second_buffer : Buffer TwoLists
second_buffer = record { cells = λ l. l.second; need = list_need; fault = ShortLists }

-- sweeps until the first that deletes nothing: their number, and what they leave
unfoldable pub sweep_outcome : ℕ → Network → TwoLists → Outcome (Result ℕ Decline) TwoLists
sweep_outcome words net l = outcome (Ok (sweep_count net)) (after_sweeps words net (sweep_count net) l)

-- the first call: the sweeps of a plan
abbrev pub sweep_call : List ℕ → Call (Result ℕ Decline) TwoLists
sweep_call bytes = record {
  buffers = first_buffer ∷ second_buffer ∷ [];
  fault = plan_fault bytes;
  does = sweep_outcome (row_words bytes) (network_at bytes);
  declines = Err;
}

-- that many cells from the start, or an empty part if there are fewer
unfoldable pub part_of : ℕ → List ℕ → List ℕ
part_of count cells = cond (leb count (length cells)) (take count cells) []

-- the second call: the part of the buffer that holds the last sweep
unfoldable pub last_sweep : ℕ → ℕ → TwoLists → List ℕ
last_sweep sweeps count l = part_of count (holding sweeps l)
