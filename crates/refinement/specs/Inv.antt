-- What holds of the memory in every run: the queues are in order, nothing overflows, and the counters lie apart.
use Rattle.std.specs.Prelude.{ℕ, ◌+◌, ◌-◌, ◌^◌, ◌<◌, ◌≤◌, true, false, ◌⊎◌, ◌≡◌, leb}
use Rattle.base.specs.Below.{sum_below, count_below}
use Rattle.disac4.specs.System.{System, Sound}
use Rattle.disac4.specs.declared.Tally.{Tally}
use Rattle.network.specs.Network.{loaded, label_count, domain_size}
use Rattle.cells.specs.Layout.{WORKERS, CURSORS, BOUNDS, LOG, WORK, OUT, WANTED, HEAD, TAIL, LOGEND, SENDS, LISTS, HELD, POLLS, OUTEND, OUTREAD, LABELROOM, VALUEROOM, LISTMARK}
use Rattle.cells.specs.Memory.{Mem}
use Rattle.index.specs.Index.{Paired}
use Rattle.controller.specs.Controller.{Machine}
use Rattle.cells.specs.View.{in_domain, label_of}

-- the system fits the regions: so does each accepted plan's
pub record Small (sys : System) : Type 0 where
  pub sound : Sound sys
  pub few_values : (x : ℕ) → x < sys.net.variables → sys.net.size x ≤ VALUEROOM
  pub few_labels : label_count sys.net ≤ LABELROOM
  -- constraints join two different variables of the network
  pub links_inside : (x y : ℕ) → sys.net.linked x y ≡ true
      → (x < sys.net.variables) × (y < sys.net.variables) × (x ≡ y → ⊥)

-- ---- one worker's row

-- the number stands for a loaded label
pub record LoadedNumber (sys : System) (c : ℕ) : Type 0 where
  pub variable : (label_of c).variable < sys.net.variables
  pub value : (label_of c).value < sys.net.size (label_of c).variable

-- its queues are in order, and hold what they stand for
pub record Row (sys : System) (m : Mem) (t : Tally) (i : ℕ) : Type 0 where
  pub queue : m WORKERS i HEAD ≤ m WORKERS i TAIL
  -- the list messages cut the log into parts that are not empty
  pub first_bound : m BOUNDS i 0 ≡ 0
  pub bounds_rise : (n : ℕ) → n < m WORKERS i SENDS → m BOUNDS i n < m BOUNDS i (n + 1)
  pub last_bound : m BOUNDS i (m WORKERS i SENDS) ≤ m WORKERS i LOGEND
  -- what was put for the controller: its own list messages, each once and in order of their numbers, and replies
  pub out_read : m WORKERS i OUTREAD ≤ m WORKERS i OUTEND
  pub out_list : (e : ℕ) → e < m WORKERS i OUTEND → LISTMARK ≤ m OUT i e → m OUT i e - LISTMARK < m WORKERS i SENDS
  pub polls_read : m WORKERS i POLLS ≤ t.timestamp.0
  pub held_read : m WORKERS i HELD ≤ m WORKERS i POLLS
  pub log_labels : (d : ℕ) → d < m WORKERS i LOGEND → LoadedNumber sys (m LOG i d)
  pub work_labels : (d : ℕ) → d < m WORKERS i TAIL → LoadedNumber sys (m WORK i d)

-- ---- counts over all rows

-- list messages among the first `n` that row `i` put for the controller
abbrev pub lists_out : Mem → ℕ → ℕ → ℕ
lists_out m i n = count_below n (λ e. leb LISTMARK (m OUT i e))

-- the labels in the domains
abbrev pub remaining : System → Mem → ℕ
remaining sys m = domain_size sys.net (in_domain m)

-- the labels in the logs and in the domains
abbrev pub accounted : System → Mem → ℕ
accounted sys m = sum_below sys.workers (λ i. m WORKERS i LOGEND) + remaining sys m

-- what was pushed, counted, logged and put for the controller, each by where it came from
pub record Totals (sys : System) (m : Mem) (t : Tally) : Type 0 where
  pub own_cursor : (i : ℕ) → i < sys.workers → m CURSORS i i ≡ 0
  pub cursor : (j i : ℕ) → j < sys.workers → i < sys.workers → m CURSORS j i ≤ m WORKERS j SENDS
  -- all that row `i` ever had on its work list: its own deletions and what it read
  pub pushed : (i : ℕ) → i < sys.workers
      → m WORKERS i TAIL ≡ m WORKERS i LOGEND + sum_below sys.workers (λ j. m BOUNDS j (m CURSORS j i))
  -- its list counter: its own sends and what it read
  pub counted : (i : ℕ) → i < sys.workers
      → m WORKERS i LISTS ≡ m WORKERS i SENDS + sum_below sys.workers (λ j. m CURSORS j i)
  -- each loaded label is in its domain or in one log
  pub logged : accounted sys m ≡ label_count sys.net
  -- every list message was put for the controller
  pub all_out : (i : ℕ) → i < sys.workers → lists_out m i (m WORKERS i OUTEND) ≡ m WORKERS i SENDS
  -- the controller has counted those that it read
  pub lists_read_lem : t.lists.0 ≡ sum_below sys.workers (λ i. lists_out m i (m WORKERS i OUTREAD))

-- ---- polls and replies

-- wanted counts rise from poll to poll, since a poll ends only by a list message
pub record Polled (m : Mem) (t : Tally) : Type 0 where
  pub rises : (n : ℕ) → 0 < n → n < t.timestamp.0 → m WANTED 0 n < m WANTED 0 (n + 1)
  pub wanted_open : t.polling ≡ true → (0 < t.timestamp.0) × (m WANTED 0 t.timestamp.0 ≡ t.lists.0)
  pub wanted_ended : t.polling ≡ false → 0 < t.timestamp.0 → m WANTED 0 t.timestamp.0 < t.lists.0

-- row `i` has replied at its present list counter: it can't do so again before that has grown
pub record Replied (m : Mem) (t : Tally) (i : ℕ) : Type 0 where
  pub one_more : m WORKERS i OUTEND ≡ m WORKERS i LISTS + 1
  pub no_work : m WORKERS i HEAD ≡ m WORKERS i TAIL
  pub no_send : m BOUNDS i (m WORKERS i SENDS) ≡ m WORKERS i LOGEND
  pub held_later : 0 < m WORKERS i HELD → m WORKERS i LISTS < m WANTED 0 (m WORKERS i HELD)
  pub polls_later : (n : ℕ) → m WORKERS i POLLS < n → n ≤ t.timestamp.0 → m WORKERS i LISTS < m WANTED 0 n
  pub ended_later : t.polling ≡ false → m WORKERS i LISTS < t.lists.0
  pub count_low : m WORKERS i LISTS ≤ t.lists.0

-- row `i` has put as many messages for the controller as its list counter says, or one more where it has replied
abbrev pub OutCounted : Mem → Tally → ℕ → Type 0
OutCounted m t i = (m WORKERS i OUTEND ≤ m WORKERS i LISTS) ⊎ Replied m t i

-- all of it
pub record Inv (sys : System) (s : Machine) : Type 0 where
  pub rows : (i : ℕ) → i < sys.workers → Row sys s.mem s.tally i
  pub totals : Totals sys s.mem s.tally
  pub polled : Polled s.mem s.tally
  pub replied : (i : ℕ) → i < sys.workers → OutCounted s.mem s.tally i
  pub paired : Paired sys s.mem
  -- only loaded labels are in the domains
  pub listed : (x v : ℕ) → in_domain s.mem x v ≡ true → loaded sys.net x v ≡ true
  pub marks : s.tally.marks < 2 ^ sys.workers
