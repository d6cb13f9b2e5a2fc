-- What the program prints (document 01, "Plans worked by hand"), as ASCII bytes.
use Rattle.std.specs.Prelude.{ℕ, List, [], ◌∷◌, ◌++◌, Result, Ok, Err}
use Rattle.plan.specs.Decode.{plan_of}
use Rattle.format.specs.Version.{row_words}
use Rattle.faults.specs.Fault.{number_of}
use Rattle.faults.specs.declared.Decline.{Decline}
use Rattle.disac4.specs.declared.Report.{Report}
use Rattle.disac4.specs.declared.Status.{Status}
use Rattle.disac4.specs.declared.Status.TheVariants.{Open, Closed, Bare}
use Rattle.buffer.specs.Decimal.{spaced}
use Rattle.domains.specs.Lines.{newline, variable_lines}

-- `open`, `closed`, `bare`
unfoldable pub status_word : Status → List ℕ
status_word Open = 111 ∷ 112 ∷ 101 ∷ 110 ∷ []
status_word Closed = 99 ∷ 108 ∷ 111 ∷ 115 ∷ 101 ∷ 100 ∷ []
status_word Bare = 98 ∷ 97 ∷ 114 ∷ 101 ∷ []

-- `declined`
unfoldable pub declined_word : List ℕ
declined_word = 100 ∷ 101 ∷ 99 ∷ 108 ∷ 105 ∷ 110 ∷ 101 ∷ 100 ∷ []

-- the report in its order
unfoldable pub report_line : Report → List ℕ
report_line r =
    status_word r.status ++ spaced r.changes ++ spaced r.sends ++ spaced r.polls ++ spaced r.empty ++ newline

-- `declined`, number, place
unfoldable pub decline_line : Decline → List ℕ
decline_line d = declined_word ++ spaced (number_of d.fault) ++ spaced d.place ++ newline

-- an answer with the plan's bytes and the list cells: the report and a line for each variable, or the line of a decline
unfoldable pub printed : Result Report Decline → List ℕ → List ℕ → List ℕ
printed (Ok r) b lists = report_line r ++ variable_lines (row_words b) (plan_of b) lists
printed (Err d) b lists = decline_line d

-- the bytes that every text of a run fits
abbrev pub text_room : ℕ
text_room = 4096
