-- How long the printed text is: a buffer of `text_room` bytes takes the whole text of an accepted plan.
use Prim.Native.Nat.{ℕ, suc, ◌+◌, ◌*◌, ◌^◌, ◌<◌, ◌≤◌}
use mathlib.Core.Bool.{Bool, true, false, cond}
use mathlib.Core.List.{List, []}
use mathlib.Core.Option.{none}
use mathlib.Core.Path.{◌≡◌, ap}
use native.Mathlib.Omega.{arith}
use lib.ListN.{length, length-append}
use Rattle.base.proofs.Below.{gather_length}
use Rattle.base.proofs.Sums.{sum_add, sum_times, sum_const}
use Rattle.base.specs.Bytes.{byte_at, word_at}
use Rattle.base.specs.Row.{bit}
use Rattle.faults.proofs.FaultNumbers.{number_range}
use Rattle.network.specs.Network.{label_count}
use Rattle.plan.proofs.Faults.{decode_plan}
use Rattle.plan.proofs.Parts.{variables_read, size_read, value_read}
use Rattle.plan.proofs.WellFormed.{read_well_formed}
use Rattle.plan.specs.Decode.{plan_fault, plan_of, accepted, decode}
use Rattle.faults.specs.Fault.{number_of}
use Rattle.format.specs.Format.{section_start}
use Rattle.format.specs.Limits.{max_workers, max_variables, max_labels}
use Rattle.plan.specs.Network.{network_of}
use Rattle.format.specs.Version.{row_words, max_size}
use Rattle.plan.specs.Plan.{Plan, Value, variable_of, value_of, size_of}
use Rattle.plan.specs.WellFormed.{WellFormed}
use Rattle.faults.specs.declared.Decline.{Decline}
use Rattle.disac4.proofs.RunFits.{RunFits, run_fits}
use Rattle.disac4.specs.Report.{report_of}
use Rattle.disac4.specs.System.{system_at}
use Rattle.disac4.specs.Turn.{Turn}
use Rattle.std.specs.Prelude.{Ok, Err}
use Rattle.disac4.specs.declared.Report.{Report}
use Rattle.disac4.specs.declared.Status.{Status}
use Rattle.disac4.specs.declared.Status.TheVariants.{Open, Closed, Bare}
use Rattle.buffer.proofs.Decimal.{decimal_length}
use Rattle.buffer.specs.Decimal.{spaced}
use Rattle.domains.specs.Lines.{listed_codes, domain_line, variable_line, variable_lines}
use Rattle.text.specs.Printed.{status_word, declined_word, report_line, decline_line, printed, text_room}

-- a space and at most k + 1 digits
spaced_length : (k n : ℕ) → n < 10 ^ suc k → length (spaced n) ≤ suc (suc k)
unfolding spaced
spaced_length k n h = omega (arith, decimal_length k n h)

-- a number of 64 bits has at most 20 digits
spaced_64 : (n : ℕ) → n < 2 ^ 64 → length (spaced n) ≤ 21
spaced_64 n h = spaced_length 19 n (omega arith)

status_length : (s : Status) → length (status_word s) ≤ 6
unfolding status_word
status_length Open = omega arith
status_length Closed = omega arith
status_length Bare = omega arith

-- a report whose numbers fit 64 bits
record Report64 (r : Report) : Type 0 where
  pub changes : r.changes < 2 ^ 64
  pub sends : r.sends < 2 ^ 64
  pub polls : r.polls < 2 ^ 64
  pub empty : r.empty < 2 ^ 64

report_length : (r : Report) → Report64 r → length (report_line r) ≤ 91
unfolding report_line
report_length r h =
    simp length-append
    (omega (
      arith,
      status_length r.status,
      spaced_64 r.changes h.changes,
      spaced_64 r.sends h.sends,
      spaced_64 r.polls h.polls,
      spaced_64 r.empty h.empty,
    ))

codes_length : (size : ℕ) (code : ℕ → ℕ) (row : ℕ) → ((v : ℕ) → v < size → code v < 65536)
    → length (listed_codes size code row) ≤ size * 6
unfolding listed_codes
codes_length size code row h =
    omega (
      arith,
      sum_const size 6,
      gather_length size (λ v. 6) (λ v. cond (bit row v) (spaced (code v)) []) (λ v k. one (bit row v) (code v) (h v k)),
    )
  where
    one : (b : Bool) (c : ℕ) → c < 65536 → length (cond b (spaced c) []) ≤ 6
    one true c k = spaced_length 4 c (omega arith)
    one false c k = omega arith

-- the bytes of a variable's line: its number and its owner, and a code of five digits with a space for each value
abbrev line_room : ℕ → ℕ
line_room size = 6 + 6 * size

domain_length : (number owner size row : ℕ) (code : ℕ → ℕ) → number ≤ max_variables → owner ≤ max_workers → ((v : ℕ) → v < size → code v < 65536)
    → length (domain_line number owner size code row) ≤ line_room size
unfolding domain_line
domain_length number owner size row code a b h =
    simp length-append
    (omega (
      arith,
      decimal_length 1 number (omega arith),
      spaced_length 0 owner (omega arith),
      codes_length size code row h,
    ))

module _ (b lists : List ℕ) where
  pub decline_short : (d : Decline) → d.place < 2 ^ 64 → length (printed (Err d) b lists) ≤ text_room
  unfolding printed decline_line declined_word
  decline_short d h =
      simp length-append
      (omega (
        arith,
        spaced_length 1 (number_of d.fault) (omega (arith, number_range d.fault)),
        spaced_64 d.place h,
      ))

  module _ (passed : plan_fault b ≡ none) (bytes : (i : ℕ) → byte_at b i < 256) where
    fits : WellFormed (max_size b) (plan_of b)
    fits = read_well_formed b passed

    code_small : (x : ℕ) → x < length (plan_of b).variables → (v : ℕ) → v < size_of (plan_of b) x → (value_of (plan_of b) x v).code < 65536
    unfolding word_at
    code_small x h v k =
        let at = section_start b (suc x) + 4 + 4 * v in
        omega (
          arith,
          ap (λ (a : Value). a.code)
              (value_read b x (omega (arith, variables_read b)) v (omega (arith, size_read b x (omega (arith, variables_read b))))),
          bytes at,
          bytes (at + 1),
        )

    -- a plan has few labels together, so its lines are short together, however its labels stand in its variables
    lines_length : length (variable_lines (row_words b) (plan_of b) lists) ≤ 6 * max_variables + 6 * max_labels
    unfolding variable_lines variable_line label_count network_of
    lines_length =
        let n = length (plan_of b).variables in
        omega (
          arith,
          fits.variables_high,
          fits.few_labels,
          sum_add n (λ x. 6) (λ x. 6 * size_of (plan_of b) x),
          sum_const n 6,
          sum_times n 6 (size_of (plan_of b)),
          gather_length n (λ x. line_room (size_of (plan_of b) x)) (variable_line (row_words b) (plan_of b) lists)
              (λ x h. domain_length (suc x) (variable_of (plan_of b) x).owner (size_of (plan_of b) x) _
              (λ v. (value_of (plan_of b) x v).code) (omega (arith, fits.variables_high))
              (omega (arith, fits.workers_high, (fits.each_variable x h).owner_high)) (code_small x h)),
        )

    report_short : (r : Report) → Report64 r → length (printed (Ok r) b lists) ≤ text_room
    unfolding printed
    report_short r h = simp length-append (omega (arith, report_length r h, lines_length))

-- the text of a run's report, whatever its turns
pub run_short : (b lists : List ℕ) (plan : Plan) → decode b ≡ accepted plan → ((i : ℕ) → byte_at b i < 256) → (ts : List Turn)
    → length (printed (Ok (report_of (system_at b) ts)) b lists) ≤ text_room
unfolding report_of
run_short b lists plan e bytes ts =
    let read = decode_plan b plan e in
    let fit : RunFits (system_at b) ts = rw read.1 at (run_fits b plan e ts) in
    report_short b lists read.0 bytes (report_of (system_at b) ts)
    (record {
      changes = omega (arith, fit.turns, fit.bound);
      sends = omega (arith, fit.sends);
      polls = omega (arith, fit.polls);
      empty = omega (arith, fit.lowest_empty_lem);
    })
