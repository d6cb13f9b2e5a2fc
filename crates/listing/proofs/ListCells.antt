-- Rows written into list cells one after the other, and what the cells then hold.
use Prim.Native.Nat.{ℕ, zero, suc, ◌+◌, ◌*◌, ◌/◌, ◌%◌, ◌^◌, ◌<◌, ◌≤◌}
use mathlib.Core.Bool.{true, ◌&&◌}
use mathlib.Core.List.{List, ◌∷◌, ◌++◌, append_assoc}
use mathlib.Core.Option.{none}
use mathlib.Core.Path.{◌≡◌, refl, sym, ◌∙◌, ap, fun_ext}
use native.Mathlib.Nat.{mul-le-mul_right, mul-suc}
use native.Mathlib.Numerals.{add-one}
use native.Mathlib.Omega.{arith}
use lib.ListN.{length, get_or, set, take, drop, length-append, length-drop, take-append-drop}
use lib.Seq.{length-take-le, split_at, set_at, take_at, drop_at, drop-drop, drop-append-add, append_snoc}
use Rattle.base.proofs.Below.{gather_at}
use Rattle.base.proofs.Bools.{bool_ext, and_left}
use Rattle.base.proofs.Digits.{number_digits, number_same}
use Rattle.base.proofs.Row.{row_bit, row_low}
use Rattle.base.specs.Digits.{digits}
use Rattle.base.specs.Row.{bit}
use Rattle.disac4.proofs.Outcome.{lists_length}
use Rattle.disac4.specs.Need.{list_need}
use Rattle.disac4.specs.Report.{domain_cells, row_from}
use Rattle.disac4.specs.System.{network_at}
use Rattle.format.proofs.RowCells.{cells_each, first_rows, cells_first}
use Rattle.format.specs.Limits.{word_bits, max_words, max_variables}
use Rattle.format.specs.Lists.{row_cells, row_in}
use Rattle.format.specs.Version.{row_words}
use Rattle.lending.proofs.Overwritten.{overwrite_front, written_all, written_length}
use Rattle.lending.specs.Call.{overwrite}
use Rattle.listing.specs.ListCells.{put_row, WideEnough, Shows, listed_in}
use Rattle.network.proofs.Loaded.{loaded_variable, loaded_value}
use Rattle.network.specs.Consistency.{Within}
use Rattle.network.specs.Network.{Network, Domains, loaded}
use Rattle.plan.proofs.WellFormed.{read_well_formed}
use Rattle.plan.specs.Decode.{plan_fault}
use Rattle.plan.specs.Network.{network_of}

-- the lowest `k` words of a number put into cells from place `at` on, one after the other from the lowest
unfoldable pub put_words : ℕ → ℕ → ℕ → List ℕ → List ℕ
put_words at zero n cells = cells
put_words at (suc k) n cells = put_words at k (n / 2 ^ word_bits) (set cells (at + k) (n % 2 ^ word_bits))

-- behind a beginning they stand in place of what was there
words_put : (k n : ℕ) (front back : List ℕ) → k ≤ length back
    → put_words (length front) k n (front ++ back) ≡ front ++ (digits word_bits k n ++ drop k back)
unfolding put_words digits
words_put zero n front back h = refl
words_put (suc k) n front back h =
    let word = n % 2 ^ word_bits in
    let up = n / 2 ^ word_bits in
    let kept = take k back in
    let rest = drop (suc k) back in
    let seam : length kept ≡ k = length-take-le k back (omega arith) in
    let one_put : set (front ++ back) (length front + k) word ≡ front ++ (kept ++ (word ∷ rest)) =
    ap (λ (l : List ℕ). set (front ++ l) (length front + k) word) (split_at back k 0 h)
    ∙ ap (λ (l : List ℕ). set l (length front + k) word) (sym (append_assoc front kept (get_or back k 0 ∷ rest)))
    ∙ set_at (front ++ kept) (get_or back k 0) rest word (length front + k) (length-append front kept ∙ omega arith)
    ∙ append_assoc front kept (word ∷ rest) in
    ap (put_words (length front) k up) one_put
    ∙ words_put k up front (kept ++ (word ∷ rest)) (omega (arith, length-append kept (word ∷ rest)))
    ∙ ap (λ (l : List ℕ). front ++ (digits word_bits k up ++ l)) (drop_at kept (word ∷ rest) k seam)
    ∙ ap (λ (l : List ℕ). front ++ l) (sym (append_snoc (digits word_bits k up) word rest))

-- so a row is put, where there is room for it
pub row_put : (words x row : ℕ) (cells : List ℕ) → words * x + words ≤ length cells → put_words (words * x) words row cells ≡ put_row words x row cells
unfolding put_row row_cells
row_put words x row cells h =
    let at = words * x in
    let front = take at cells in
    let back = drop at cells in
    let e : length front ≡ at = length-take-le at cells (omega arith) in
    ap (put_words at words row) (sym (take-append-drop at cells))
    ∙ ap (λ (n : ℕ). put_words n words row (front ++ back)) (sym e)
    ∙ words_put words row front back (omega (arith, length-drop at cells))
    ∙ ap (λ (l : List ℕ). front ++ (digits word_bits words row ++ l)) (drop-drop words at cells)

module _ (words : ℕ) where
  -- the rows of the first `k` variables, in front of the cells that are not written yet
  unfoldable pub rows_before : (ℕ → ℕ) → ℕ → List ℕ → List ℕ
  rows_before row k cells = first_rows words row k ++ drop (words * k) cells

  -- no row is written yet
  pub rows_none : (row : ℕ → ℕ) (cells : List ℕ) → cells ≡ rows_before row 0 cells
  unfolding rows_before
  rows_none row cells = let none_yet : 0 ≡ words * 0 = omega arith in ap (λ (n : ℕ). drop n cells) none_yet

  module _ (few : words ≤ max_words) (row : ℕ → ℕ) (k : ℕ) (cells : List ℕ) (long : list_need ≤ length cells) where
    -- the buffer stays as long as it is
    pub rows_length : k ≤ max_variables → length (rows_before row k cells) ≡ length cells
    unfolding rows_before list_need
    rows_length h =
        written_length (first_rows words row k) (words * k) (cells_first words row k) cells (omega (arith, mul-le-mul_right k few))

    -- one more row is written
    pub rows_next : k < max_variables → put_row words k (row k) (rows_before row k cells) ≡ rows_before row (k + 1) cells
    unfolding put_row rows_before list_need
    rows_next h =
        let front = first_rows words row k in
        let back = drop (words * k) cells in
        let own = row_cells words (row k) in
        let e : length front ≡ words * k = cells_first words row k in
        let more : words * k + words ≡ words * (k + 1) = omega (arith, mul-suc words k, ap (λ (n : ℕ). words * n) (add-one k)) in
        ap (λ (l : List ℕ). l ++ (own ++ drop (words * k + words) (front ++ back))) (take_at front back (words * k) e)
        ∙ ap (λ (l : List ℕ). front ++ (own ++ l))
        (ap (λ (n : ℕ). drop (n + words) (front ++ back)) (sym e)
        ∙ drop-append-add front back words
        ∙ drop-drop words (words * k) cells
        ∙ ap (λ (n : ℕ). drop n cells) more)
        ∙ sym (append_assoc front own (drop (words * (k + 1)) cells))
        ∙ ap (λ (n : ℕ). first_rows words row n ++ drop (words * (k + 1)) cells) (sym (add-one k))

  module _ (net : Network) (d : Domains) (cells : List ℕ) where
    -- all rows are written
    pub rows_all : (k : ℕ) → k ≡ net.variables → rows_before (row_from net d) k cells ≡ overwrite (domain_cells words net d) cells
    unfolding rows_before domain_cells
    rows_all k e =
        written_all (first_rows words (row_from net d) k) (words * k) (cells_first words (row_from net d) k) cells
        ∙ ap (λ (n : ℕ). overwrite (first_rows words (row_from net d) n) cells) e

    -- cells that are those of the domains hold them
    pub shows_cells : WideEnough words net
        → ((i : ℕ) → i < length (domain_cells words net d) → get_or cells i 0 ≡ get_or (domain_cells words net d) i 0)
        → Shows words net d cells
    unfolding Shows row_in domain_cells row_cells
    shows_cells wide same x h =
        number_same word_bits cells (row_cells words (row_from net d x)) (words * x) 0 words
        (λ j l.
        same (words * x + j) (omega (arith, lists_length words net d, mul-suc words x, mul-le-mul_right words h))
        ∙ gather_at net.variables words (λ z. row_cells words (row_from net d z)) (cells_each words (row_from net d)) 0 x j h l
        ∙ ap (λ (i : ℕ). get_or (row_cells words (row_from net d x)) i 0) (omega arith))
        ∙ number_digits word_bits words (row_from net d x) (row_low (word_bits * words) (net.size x) (d x) (wide x h))

    -- and then a label is listed in them exactly if it is in its domain
    pub shown_listed : Shows words net d cells → (x v : ℕ) → loaded net x v ≡ true → listed_in words net cells x v ≡ d x v
    unfolding Shows listed_in
    shown_listed shows x v h =
        rw h
        (ap (λ (r : ℕ). bit r v) (shows x (loaded_variable net x v h))
        ∙ row_bit (net.size x) (d x) v (loaded_value net x v h))

    -- so they list the domains, if those are within the loaded ones
    pub shown_domains : Shows words net d cells → Within d (loaded net) → listed_in words net cells ≡ d
    unfolding Within listed_in
    shown_domains shows within =
        fun_ext (λ x. fun_ext (λ v.
        bool_ext (loaded net x v && bit (row_in words cells x) v) (d x v)
        (λ p. sym (shown_listed shows x v (and_left _ _ p)) ∙ p)
        (λ p. shown_listed shows x v (within x v p) ∙ p)))

  -- cells hold the domains that were written into them
  pub shows_written : (net : Network) → WideEnough words net → (d : Domains) (cells : List ℕ)
      → Shows words net d (overwrite (domain_cells words net d) cells)
  shows_written net wide d cells =
      shows_cells net d (overwrite (domain_cells words net d) cells) wide (overwrite_front (domain_cells words net d) cells)

-- the rows of an accepted plan's lists are wide enough, whatever its version
pub plan_wide : (b : List ℕ) → plan_fault b ≡ none → WideEnough (row_words b) (network_at b)
unfolding network_of
plan_wide b sound x h = ((read_well_formed b sound).each_variable x h).few_values
