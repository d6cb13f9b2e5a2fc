-- The starred lines of document 01's "Plans worked by hand", as document 02 changes them: questions to the definitions, and
-- what the documents say of each.
use Rattle.std.specs.Prelude.{ℕ, suc, Bool, true, false, cond, ◌&&◌, List, [], ◌∷◌, ◌++◌, map, eqb, take, drop}
use Rattle.std.proofs.Math.Option.{Option, none, some}
use Rattle.base.specs.Below.{gather_below}
use Rattle.base.specs.Bytes.{hex}
use Rattle.network.specs.Network.{Label, label, labels_where}
use Rattle.network.specs.Solution.{solvable}
use Rattle.plan.specs.Decode.{plan_fault}
use Rattle.faults.specs.Fault.{number_of}
use Rattle.faults.specs.declared.Decline.{Decline}
use Rattle.disac4.specs.Event.{events, unsent, deleted}
use Rattle.disac4.specs.Loading.{load}
use Rattle.disac4.specs.Outcome.{input_fault, final_cells}
use Rattle.disac4.specs.Report.{report_of, final}
use Rattle.disac4.specs.Round.{round_run_turns}
use Rattle.disac4.specs.System.{System, bound_of, system_at}
use Rattle.disac4.specs.Turn.{Turn, turn, allowed, turn_at, turns_of}
use Rattle.disac4.specs.declared.Report.{Report}
use Rattle.disac4.specs.declared.Status.{Status}
use Rattle.disac4.specs.declared.Status.TheVariants.{Open, Closed, Bare}

-- what is asked of the definitions; plans and turn lists are bytes
pub data Question : Type 0 where
  -- the report and list cells of the turn run
  run : List ℕ → List ℕ → Question
  -- the report and list cells of the round run
  rounds : List ℕ → Question
  -- the deleted labels of a worker that no send has carried, after these turns
  unsent_of : List ℕ → List ℕ → ℕ → Question
  -- the turns that are allowed with so many workers
  allowed_with : ℕ → Question
  -- the bound on changing turns
  bound : List ℕ → Question
  -- whether there is a solution
  solution : List ℕ → Question
  -- whether value `v` of variable `x` may stand with value `w` of `y`: `pair plan x v y w`
  pair : List ℕ → ℕ → ℕ → ℕ → ℕ → Question

-- what a question gives: a report with its list cells, a decline with number and place, or what else was asked for
pub data Finding : Type 0 where
  report : Report → List ℕ → Finding
  decline : ℕ → ℕ → Finding
  labels : List Label → Finding
  turns : List Turn → Finding
  number : ℕ → Finding
  truth : Bool → Finding

-- the allowed turns of `p` workers, actors and actions ascending
unfoldable pub allowed_turns : ℕ → List Turn
allowed_turns p = gather_below (suc p) (λ k. gather_below 13 (λ d. cond (allowed p (turn k d)) (turn k d ∷ []) []))

-- the finding, or the decline's number and place
abbrev pub unless : Option Decline → Finding → Finding
unless none f = f
unless (some d) f = decline (number_of d.fault) d.place

-- the report and list cells after these turns
unfoldable pub ran : List ℕ → List Turn → Finding
ran b ts = report (report_of (system_at b) ts) (final_cells b ts)

-- the deleted labels of worker `k` that are unsent after these turns
unfoldable pub unsent_labels : System → List Turn → ℕ → List Label
unsent_labels sys ts k =
    labels_where sys.net
    (λ x v. eqb (sys.owner x) k && deleted sys (final sys ts) x v && unsent sys (events sys (load sys) ts) x v)

-- what the definitions give
unfoldable pub finding_of : Question → Finding
finding_of (run b ts) = unless (input_fault b ts) (ran b (turns_of ts))
finding_of (rounds b) = unless (plan_fault b) (ran b (round_run_turns (system_at b)))
finding_of (unsent_of b ts k) = unless (input_fault b ts) (labels (unsent_labels (system_at b) (turns_of ts) k))
finding_of (allowed_with p) = turns (allowed_turns p)
finding_of (bound b) = unless (plan_fault b) (number (bound_of (system_at b)))
finding_of (solution b) = unless (plan_fault b) (truth (solvable (system_at b).net))
finding_of (pair b x v y w) = unless (plan_fault b) (truth ((system_at b).net.allows x v y w))

-- a starred line: a question, and what the documents state
pub record Line : Type 0 where
  pub question : Question
  pub stated : Finding

-- `question gives finding` is such a line
infix 10 ◌gives◌
abbrev pub ◌gives◌ : Question → Finding → Line
q gives f = record { question = q; stated = f }

-- a report in the document's order, and the list cells
abbrev pub reported : Status → ℕ → ℕ → ℕ → ℕ → List ℕ → Finding
reported s changes sends polls empty cells =
    report (record { status = s; changes = changes; sends = sends; polls = polls; empty = empty }) cells

-- plan P
abbrev pub plan_p : List ℕ
plan_p =
    hex 58 0x01_0003020302_000A_0102_000B012C_000C0384_000A_0202_001501F4_00160320_000A_0202_001F0064_0020FFFF_0005_010201_04B0_0007_010300_0001_0002

-- list T
abbrev pub turns_t : List ℕ
turns_t = hex 34 0x0109_010A_0201_0209_0209_020A_0102_0109_0001_0002_000C_0100_0200_010B_020B_0001_0002

-- one worker, one variable without values, no constraints
abbrev pub plan_bare : List ℕ
plan_bare = hex 10 0x01_0003010100_0002_0100

-- figure 700 against 500 and 501, limit 1,200
abbrev pub plan_limit : List ℕ
plan_limit = hex 33 0x01_0003010201_0006_0101_000102BC_000A_0102_000101F4_000201F5_0005_010201_04B0

-- figure 300 against not recorded and 0, limit 0
abbrev pub plan_unrecorded : List ℕ
plan_unrecorded = hex 33 0x01_0003010201_0006_0101_0001012C_000A_0102_0001FFFF_00020000_0005_010201_0000

-- one value against two: one table allows only the first pair, another over the same variables only the second
abbrev pub plan_halves : List ℕ
plan_halves =
    hex 40 0x01_0003010202_0006_0101_00010000_000A_0102_00010000_00020000_0005_010200_0001_0005_010200_0002

-- one worker, three variables with the same two codes, tables that forbid equal codes for each two of them
abbrev pub plan_ring : List ℕ
plan_ring =
    hex 69 0x01_0003010303_000A_0102_00010000_00020000_000A_0102_00010000_00020000_000A_0102_00010000_00020000_0007_010200_0002_0001_0007_010300_0002_0001_0007_020300_0002_0001

-- the list of turns after which worker 1 still has an unsent deletion
abbrev pub turns_unsent : List ℕ
turns_unsent = hex 12 0x000C_0200_020B_0109_0100_010B

-- every allowed turn of two workers, by its two bytes
abbrev pub turns_of_two : List (List ℕ)
turns_of_two =
    map (hex 2)
    (0x0001 ∷ 0x0002 ∷ 0x000C ∷ 0x0100 ∷ 0x0102 ∷ 0x0109 ∷ 0x010A ∷ 0x010B ∷ 0x0200 ∷ 0x0201 ∷ 0x0209 ∷ 0x020A ∷ 0x020B ∷ [])

-- all starred lines
unfoldable pub table : List Line
table =
    (run plan_p turns_t gives reported Closed 17 2 1 0 (1 ∷ 3 ∷ 1 ∷ []))
    ∷ (run plan_p [] gives reported Open 0 0 0 0 (1 ∷ 3 ∷ 3 ∷ []))
    ∷ (run plan_p (take 32 turns_t) gives reported Open 16 2 1 0 (1 ∷ 3 ∷ 1 ∷ []))
    ∷ (run plan_p turns_unsent gives reported Open 5 0 1 0 (1 ∷ 3 ∷ 3 ∷ []))
    ∷ (unsent_of plan_p turns_unsent 1 gives labels (label 0 1 ∷ []))
    ∷ (run plan_bare (hex 8 0x000C_0100_010B_0001) gives reported Bare 4 0 1 1 (0 ∷ []))
    ∷ (bound plan_bare gives number 4)
    ∷ (pair plan_limit 0 0 1 0 gives truth true)
    ∷ (pair plan_limit 0 0 1 1 gives truth false)
    ∷ (pair plan_unrecorded 0 0 1 0 gives truth false)
    ∷ (pair plan_unrecorded 0 0 1 1 gives truth false)
    ∷ (run plan_halves [] gives reported Open 0 0 0 1 (0 ∷ 0 ∷ []))
    ∷ (unsent_of plan_halves [] 1 gives labels (label 0 0 ∷ label 1 0 ∷ label 1 1 ∷ []))
    ∷ (rounds plan_ring gives reported Closed 4 0 1 0 (3 ∷ 3 ∷ 3 ∷ []))
    ∷ (solution plan_ring gives truth false)
    ∷ (run [] [] gives decline 1 0)
    ∷ (run (hex 1 0x03 ++ drop 1 plan_p) [] gives decline 2 0)
    ∷ (allowed_with 2 gives turns (map (λ (b : List ℕ). turn_at b 0) turns_of_two))
    ∷ map (λ t. run plan_p (turns_t ++ t) gives reported Closed 17 2 1 0 (1 ∷ 3 ∷ 1 ∷ [])) turns_of_two
