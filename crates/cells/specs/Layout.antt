-- Where everything stands in the work cells: one table of regions, worked out from their sizes. The constants of `src/layout.rt`
-- say the same.
use Rattle.std.specs.Prelude.{ℕ, suc, ◌+◌, ◌*◌, ◌/◌, ◌^◌, ◌<◌, ◌≤◌, Bool, true, false, cond, List, [], ◌∷◌, ◌≡◌, length, get_or}
use Rattle.disac4.specs.Need.{work_need}
use Rattle.format.specs.Limits.{max_workers, max_variables, max_values, max_labels, max_constraints, max_pairs}
use Rattle.cells.specs.declared.Region.{Region}

-- ---- the regions' numbers

-- a row for each worker: the columns below
abbrev pub WORKERS : ℕ
WORKERS = 0

-- how many lists of a sender (row) a reader (column) has read
abbrev pub CURSORS : ℕ
CURSORS = 1

-- where each list message of a worker begins in its log, and where the last one ends
abbrev pub BOUNDS : ℕ
BOUNDS = 2

-- the labels that a worker has deleted, in order; those behind its last list message are still to be sent
abbrev pub LOG : ℕ
LOG = 3

-- each worker's work list, written once from left to right
abbrev pub WORK : ℕ
WORK = 4

-- the messages from a worker to the controller: a reply's number, or LISTMARK and the number of a list message
abbrev pub OUT : ℕ
OUT = 5

-- the wanted count of each poll, by its number
abbrev pub WANTED : ℕ
WANTED = 6

-- LISTED for each value that is in its variable's domain
abbrev pub DOMAIN : ℕ
DOMAIN = 7

-- the counters of a variable's values against another: a row for each two variables and side
abbrev pub COUNTERS : ℕ
COUNTERS = 8

-- the number of the pair that two linked variables are, 0 where they share no constraint
abbrev pub PAIRS : ℕ
PAIRS = 9

-- where each section of the plan starts
abbrev pub PLACES : ℕ
PLACES = 10

-- one more than the table before a table over the same two variables, 0 for none
abbrev pub NEXT : ℕ
NEXT = 11

-- one more than the first variable of a worker that is linked with another one (column), 0 for none
abbrev pub FIRST : ℕ
FIRST = 12

-- one more than the next variable of the same worker that is linked with another one (column), 0 for none
abbrev pub FOLLOW : ℕ
FOLLOW = 13

-- one more than the last table over the two variables of a pair (column), 0 for none
abbrev pub LASTS : ℕ
LASTS = 14

-- the lowest limit over the two variables of a pair (row): the columns below
abbrev pub LIMITS : ℕ
LIMITS = 15

-- the highest number of a pair, 0 where there is none
abbrev pub PAIREND : ℕ
PAIREND = 16

-- the cells behind the needed ones, which no run touches
abbrev pub BEHIND : ℕ
BEHIND = 17

-- ---- the columns of a worker's row

-- where the work list begins
abbrev pub HEAD : ℕ
HEAD = 0

-- where it ends
abbrev pub TAIL : ℕ
TAIL = 1

-- the end of the log
abbrev pub LOGEND : ℕ
LOGEND = 2

-- list messages sent
abbrev pub SENDS : ℕ
SENDS = 3

-- the list counter
abbrev pub LISTS : ℕ
LISTS = 4

-- the number of the held poll, 0 for none
abbrev pub HELD : ℕ
HELD = 5

-- polls read
abbrev pub POLLS : ℕ
POLLS = 6

-- messages put for the controller
abbrev pub OUTEND : ℕ
OUTEND = 7

-- those of them that it has read
abbrev pub OUTREAD : ℕ
OUTREAD = 8

-- ---- the columns of a pair's row of LIMITS

-- 1 where some limit is over its variables
abbrev pub LIMITED : ℕ
LIMITED = 0

-- the lowest of them
abbrev pub LOWEST : ℕ
LOWEST = 1

-- ---- sizes and limits

-- columns of a worker's row, and of a sender's row of cursors
abbrev pub WORKERCOLS : ℕ
WORKERCOLS = 16

-- values of a variable that the cells have room for: as many as a plan may give it
abbrev pub VALUEROOM : ℕ
VALUEROOM = max_values

-- labels that a row of LOG or WORK has room for: as many as a plan may have
abbrev pub LABELROOM : ℕ
LABELROOM = max_labels

-- list messages that a worker has room for, each with a label at least, and some to spare: rows of a multiple of 8 cells. BOUNDS has
-- a column more, for where the last one ends
abbrev pub SENDROOM : ℕ
SENDROOM = LABELROOM + 7

-- messages from a worker to the controller that there is room for
abbrev pub OUTROOM : ℕ
OUTROOM = LABELROOM + 8

-- polls that there is room for: WANTED has a column more, since no poll has number 0
abbrev pub POLLROOM : ℕ
POLLROOM = LABELROOM + 7

-- the highest row of COUNTERS: each two linked variables have two, and row 0 is no one's
abbrev pub COUNTERMAX : ℕ
COUNTERMAX = 2 * max_pairs

-- sections of a plan that there is room for: 1 + maxVariables + maxConstraints, and some to spare
abbrev pub PLACEROOM : ℕ
PLACEROOM = 176

-- the highest list counter: a cell holds no more
abbrev pub LISTSMAX : ℕ
LISTSMAX = 65535

-- ---- marks in cells

-- what a domain cell holds while its value is not deleted
abbrev pub LISTED : ℕ
LISTED = 65535

-- the mark of a list message among the messages to the controller
abbrev pub LISTMARK : ℕ
LISTMARK = 1024

-- ---- the table

-- a region by its parts
abbrev pub region : ℕ → ℕ → ℕ → ℕ → Bool → Region
region id base rows cols halved = record { id = id; base = base; rows = rows; cols = cols; halved = halved }

-- a region's rows and columns, and whether it is halved: then two rows share their cells
abbrev pub Size : Type 0
Size = ℕ × ℕ × Bool

-- the sizes of the regions, in the order of their numbers
abbrev pub sizes : List Size
sizes =
    (max_workers, WORKERCOLS, false)  -- WORKERS
    ∷ (max_workers, WORKERCOLS, false)  -- CURSORS
    ∷ (max_workers, SENDROOM + 1, false)  -- BOUNDS
    ∷ (max_workers, LABELROOM, false)  -- LOG
    ∷ (max_workers, LABELROOM, false)  -- WORK
    ∷ (max_workers, OUTROOM, false)  -- OUT
    ∷ (1, POLLROOM + 1, false)  -- WANTED
    ∷ (max_variables, VALUEROOM, false)  -- DOMAIN
    ∷ (COUNTERMAX + 1, VALUEROOM, true)  -- COUNTERS
    ∷ (max_variables, max_variables, false)  -- PAIRS
    ∷ (1, PLACEROOM, false)  -- PLACES
    ∷ (1, max_constraints, false)  -- NEXT
    ∷ (max_workers, max_variables, false)  -- FIRST
    ∷ (max_variables, max_variables, false)  -- FOLLOW
    ∷ (1, max_pairs + 1, false)  -- LASTS
    ∷ (max_pairs + 1, 2, false)  -- LIMITS
    ∷ (1, 1, false)  -- PAIREND
    ∷ []

-- where a region ends; the last of an odd number of rows has its cells alone
abbrev pub ends : Region → ℕ
ends g = g.base + cond g.halved ((g.rows + 1) / 2) g.rows * g.cols

-- regions of these sizes, numbered from `id` and standing from `at` on: each begins where the one before it ends
abbrev pub placed : ℕ → ℕ → List Size → List Region
placed id at [] = []
placed id at (s ∷ rest) = let g = region id at s.0 s.1 s.2 in g ∷ placed (suc id) (ends g) rest

-- the regions, each at its number
abbrev pub regions : List Region
regions = placed 0 0 sizes

-- the region of a number: past the table, all the cells behind the needed ones
abbrev pub region_at : ℕ → Region
region_at r = get_or regions r (region BEHIND work_need 1 (2 ^ 64) false)

-- the row of cells where row `i` of a region stands
abbrev pub cell_row : Region → ℕ → ℕ
cell_row g i = cond g.halved (i / 2) i

-- the place of a row and column in the cells
abbrev pub address : Region → ℕ → ℕ → ℕ
address g i j = g.base + cell_row g i * g.cols + j

-- a region has room for numbers below this one: of a halved one a row has a byte of each cell
abbrev pub room : Region → ℕ
room g = cond g.halved 256 65536

-- the place lies in the region, and the cells are as many as are needed
pub record Fits (cells : List ℕ) (g : Region) (i j : ℕ) : Type 0 where
  pub known : region_at g.id ≡ g
  pub writable : g.id < BEHIND
  pub row : i < g.rows
  pub col : j < g.cols
  pub long : work_need ≤ length cells
