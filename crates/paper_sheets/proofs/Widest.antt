-- The longest evening sheet is reached, and the sheets worked by hand: which rows are in use by laws, the text by computing. Assumes nothing.
use mathlib.Core.Path.{◌≡◌, refl, sym, ap, ap₂, ◌∙◌}
use mathlib.Core.Logic.{⊎_elim}
use mathlib.Core.Bool.{true, false, cond}
use mathlib.Core.List.{List, [], ◌∷◌, ◌++◌}
use Prim.Native.Nat.{ℕ, zero, suc, ◌+◌, ◌*◌, ◌-◌, ◌≤◌, ◌<◌}
use native.Mathlib.Nat.{zero-mul, suc-mul}
use native.Mathlib.Omega.{arith}
use lib.Dec.{lit<, lit≤}
use lib.ListN.{length, drop, length-append, length-replicate}
use Rattle.paper.specs.Row.{width, row_in_range}
use Rattle.paper.specs.Book.{size, row_at, with_row, is_zeros, place_for, row_for, all_below, is_sound}
use Rattle.paper.specs.Calls.{opening, day}
use Rattle.paper_sheets.specs.Sheet.{decimal, more, count_form, opening_form, day_form, corridor_form}
use Rattle.paper_sheets.specs.Written.{written, written_rows, written_section, sheet_of}
use Rattle.paper_sheets.specs.Evening.{used_rows, evening_sheet, evening_number}
use Rattle.paper.specs.Promises.Book.{word_at, IsFree, IsOpen, IsSoundBook}
use Rattle.paper.specs.Promises.Worked.{day_at}
use Rattle.paper.specs.Promises.Alive.{empty_book, open_book, book101, book102, three_book}
use Rattle.paper_sheets.specs.Promises.Sheet.{bytes}
use Rattle.paper_sheets.specs.Promises.Evening.{widest_row, widest_book, LongestEvening, WorkedEvenings}
use Rattle.paper.proofs.Book.{below_all, row_word_at, zeros_not, free_tells, place_below, open_says, closed_row, written_other, written_row, written_others}
use Rattle.paper.proofs.Sound.{sound_long, sound_says, used_positive}
use Rattle.paper.proofs.Rows.{row_of_open, place_holds, place_alone}
use Rattle.paper.proofs.Writes.{touches_one_row}
use Rattle.paper.proofs.Standing.{row_open, put_stands, put_closed}
use Rattle.paper.proofs.Computing.{computing}
use Rattle.paper_sheets.proofs.Computing.{sheet_computing}
use Rattle.paper.proofs.Alive.{empty_word, empty_sound, empty_closed, first_row, middle_row, last_row, row102, stands102, one_book, two_book, one_sound, two_stands}
use Rattle.paper_sheets.proofs.Digits.{places_only, decimal_length}
use Rattle.paper_sheets.proofs.Evening.{row_bytes, sheet_bytes, used_next, used_run, rows_append, none_long}

-- A row that is written where it and all after it are free is the last one in use.
module _ (book : List ℕ) (k : ℕ) (ws : List ℕ) (long : length book ≡ size) (below : k < 64) (wide : length ws ≡ width) (used : is_zeros ws ≡ false) (free : (j : ℕ) → k ≤ j → j < 64 → IsFree book j) where
  abbrev left : List ℕ
  left = with_row book k ws

  pub still_free : (j : ℕ) → k < j → j < 64 → IsFree left j
  still_free j l top place q = written_other book k ws j place wide (λ same. omega arith) q ∙ free j (omega arith) top place q

  before : (n : ℕ) → n ≤ k → used_rows left n ≡ used_rows book n
  unfolding used_rows
  before zero l = refl
  before (suc n) l = ap₂ (λ (rows : List (List ℕ)) (row : List ℕ). rows ++ cond (is_zeros row) [] (row ∷ [])) (before n (omega arith)) (written_others book k ws n long wide (λ same. omega arith) (omega arith))

  pub used_last : used_rows left 64 ≡ used_rows book 64 ++ ws ∷ []
  used_last =
      let here = written_row book k ws long below wide in
      used_run left (suc k) 64 below (λ j l top. free_tells left j (still_free j l top))
      ∙ used_next left k (ap is_zeros here ∙ used)
      ∙ ap₂ (λ (rows : List (List ℕ)) (row : List ℕ). rows ++ row ∷ []) (before k (omega arith)) here
      ∙ ap (λ (rows : List (List ℕ)). rows ++ ws ∷ []) (sym (used_run book k 64 (omega arith) (λ j l top. free_tells book j (free j l top))))

empty_used : used_rows empty_book 64 ≡ []
unfolding used_rows
empty_used = used_run empty_book 0 64 (lit≤ tt) (λ j l top. free_tells empty_book j (λ place q. empty_word j place top q))

-- The book of three instruments, row after row.
three_used : used_rows three_book 64 ≡ first_row ∷ middle_row ∷ last_row ∷ []
unfolding is_zeros
three_used =
    let none : (j : ℕ) → 0 ≤ j → j < 64 → IsFree empty_book j = λ j l top place q. empty_word j place top q in
    let empty-long = length-replicate {A = ℕ} size 0 in
    let one : (j : ℕ) → 0 < j → j < 64 → IsFree one_book j = still_free empty_book 0 first_row empty-long (lit< tt) refl refl none in
    let two : (j : ℕ) → 30 < j → j < 64 → IsFree two_book j
    = still_free one_book 30 middle_row (sound_long one_book one_sound) (lit< tt) refl refl (λ j l top. one j (omega arith) top) in
    used_last two_book 63 last_row (sound_long two_book two_stands.sound) (lit< tt) refl refl (λ j l top. two j (omega arith) top)
    ∙ ap (λ (rows : List (List ℕ)). rows ++ last_row ∷ [])
    (used_last one_book 30 middle_row (sound_long one_book one_sound) (lit< tt) refl refl (λ j l top. one j (omega arith) top)
    ∙ ap (λ (rows : List (List ℕ)). rows ++ middle_row ∷ [])
    (used_last empty_book 0 first_row empty-long (lit< tt) refl refl none ∙ ap (λ (rows : List (List ℕ)). rows ++ first_row ∷ []) empty_used))

-- A book in which no instrument but one is open has its row alone in use.
module _ (book : List ℕ) (i : ℕ) (sound : IsSoundBook book) (positive : 0 < i) (opened : IsOpen book i) (alone : (j : ℕ) → 0 < j → ¬ (j ≡ i) → row_for book j ≡ []) where
  others_free : (j : ℕ) → j < 64 → ¬ (j ≡ place_for book i) → IsFree book j
  others_free j l n =
      ⊎_elim (λ free. free)
      (λ u.
      let named = used_positive book j u in
      let there : IsOpen book (word_at book j 0) = record { place = j; below = l; there = refl } in
      let row = row_of_open book (word_at book j 0) sound named there in
      absurd (omega (arith, ap length (sym row.keeps ∙ alone (word_at book j 0) named (λ same. place_alone book i sound positive opened j l n same)))))
      (sound.rows j l)

  pub alone_used : used_rows book 64 ≡ row_for book i ∷ []
  unfolding used_rows row_for
  alone_used =
      let k = place_for book i in
      let below = place_below book i opened in
      let used : is_zeros (row_at book k) ≡ false
      = zeros_not (row_at book k) 0 (λ e. omega (arith, positive, row_word_at book k 0 (lit< tt), place_holds book i sound positive opened)) in
      used_run book (suc k) 64 below (λ j l top. free_tells book j (others_free j top (λ same. omega arith)))
      ∙ used_next book k used
      ∙ ap (λ (rows : List (List ℕ)). rows ++ row_at book k ∷ []) (used_run book 0 k (omega arith) (λ j l top. free_tells book j (others_free j (omega arith) (λ same. omega arith))))

example_used : used_rows book102 64 ≡ row102 7 ∷ []
example_used =
    let sound = sound_says book102 stands102.sound in
    let opened = open_says book102 7 (row_open book102 7 (row102 7) (lit< tt) stands102) in
    alone_used book102 7 sound (lit< tt) opened (λ j positive n.
    touches_one_row.others book101 (day (day_at 102 103000 6 0)) j positive n
    ∙ touches_one_row.others open_book (day (day_at 101 103000 0 0)) j positive n
    ∙ touches_one_row.others empty_book (opening first_row) j positive n
    ∙ closed_row empty_book j (length-replicate {A = ℕ} size 0) (empty_closed j positive))
    ∙ ap (λ (row : List ℕ). row ∷ []) stands102.is_row

-- The sheet by the rows in use.
sheet_by : (book : List ℕ) (used : List (List ℕ)) → used_rows book 64 ≡ used → evening_sheet book ≡ sheet_of (record { openings = used; days = []; corridors = [] })
unfolding evening_sheet
sheet_by book used e = ap (λ (rows : List (List ℕ)). sheet_of (record { openings = rows; days = []; corridors = [] })) e

-- The answers: the empty book's sheet has six bytes.
empty_sheet : evening_sheet empty_book ≡ bytes "0\n0\n0\n"
unfolding sheet_computing sheet_of
empty_sheet = sheet_by empty_book [] empty_used

exact_done : evening_number empty_book (bytes "------") ≡ 0
unfolding evening_number
exact_done = rw (empty_sound, empty_sheet)

short_room : evening_number empty_book (bytes "-----") ≡ 11
unfolding evening_number
short_room = rw (empty_sound, empty_sheet)

unsound_book : evening_number [] (bytes "------") ≡ 1
unfolding evening_number computing
unsound_book = refl

pub worked_evenings : WorkedEvenings
unfolding sheet_computing sheet_of
worked_evenings =
    record {
      empty = empty_sheet;
      example = sheet_by book102 (row102 7 ∷ []) example_used;
      gaps = sheet_by three_book (first_row ∷ middle_row ∷ last_row ∷ []) three_used;
      exact = exact_done;
      short = short_room;
      unsound = unsound_book;
    }

-- The rows of the longest one: each is in range, is in use, and has a line of the most bytes.
widest_passes : all_below 64 (λ k. row_in_range (widest_row k)) ≡ true
unfolding computing
widest_passes = refl

widest_row_lem : (k : ℕ) → k < 64 → row_in_range (widest_row k) ≡ true
widest_row_lem k l = below_all 64 (λ k. row_in_range (widest_row k)) widest_passes k l

widest_rest : 9 + length (written (more (width - 1)) (drop 1 (widest_row 0))) ≡ row_bytes
unfolding sheet_computing row_bytes
widest_rest = refl

widest_line : (k : ℕ) → k < 64 → length (written opening_form (widest_row k)) ≡ row_bytes
widest_line k l =
    let nine : length (decimal (999999936 + k)) ≡ 9
    = decimal_length (999999936 + k) ∙ places_only (999999936 + k) 9 (lit≤ tt) (omega arith) (λ m. omega arith) in
    length-append (decimal (999999936 + k)) (written (more (width - 1)) (drop 1 (widest_row 0))) ∙ omega (arith, nine, widest_rest)

-- The book after so many of them: an instrument after theirs is not open, and the rows after theirs are free.
record Widens (k : ℕ) : Type 0 where
  sound : is_sound (widest_book k) ≡ true
  closed : (i : ℕ) → 999999936 + k ≤ i → ¬ IsOpen (widest_book k) i
  free : (j : ℕ) → k ≤ j → j < 64 → IsFree (widest_book k) j
  many : length (used_rows (widest_book k) 64) ≡ k
  bytes : length (written_rows opening_form (used_rows (widest_book k) 64)) ≡ k * row_bytes

widens : (k : ℕ) → k ≤ 64 → Widens k
unfolding is_zeros
widens zero l =
    record {
      sound = empty_sound;
      closed = λ i few. empty_closed i (omega arith);
      free = λ j few top place q. empty_word j place top q;
      many = ap length empty_used;
      bytes = ap (λ (rows : List (List ℕ)). length (written_rows opening_form rows)) empty_used ∙ sym (zero-mul row_bytes);
    }
widens (suc k) l =
    let w = widens k (omega arith) in
    let below : k < 64 = omega arith in
    let book = widest_book k in
    let row = widest_row k in
    let long = sound_long book w.sound in
    let used = zeros_not row 1 (λ e. omega arith) in
    let last = used_last book k row long below refl used w.free in
    record {
      sound = (put_stands book k row w.sound below (widest_row_lem k below) (w.closed _ (omega arith))).sound;
      closed = λ i few. put_closed book k row w.sound below (widest_row_lem k below) (w.closed _ (omega arith)) i (λ same. omega arith) (w.closed i (omega arith));
      free = λ j few top. still_free book k row long below refl used w.free j few top;
      many = ap length last ∙ length-append (used_rows book 64) (row ∷ []) ∙ omega (arith, w.many);
      bytes =
          ap (λ (rows : List (List ℕ)). length (written_rows opening_form rows)) last
          ∙ ap length (rows_append opening_form (used_rows book 64) (row ∷ []))
          ∙ length-append (written_rows opening_form (used_rows book 64)) (written opening_form row ++ [])
          ∙ omega (arith, length-append (written opening_form row) [], widest_line k below, w.bytes, suc-mul k row_bytes);
    }

count_long : length (written count_form (64 ∷ [])) ≡ 3
unfolding sheet_computing
count_long = refl

pub longest_evening : LongestEvening
unfolding evening_sheet sheet_of
longest_evening =
    let w = widens 64 (lit≤ tt) in
    let used = used_rows (widest_book 64) 64 in
    let first : length (written_section opening_form used) ≡ 3 + 64 * row_bytes
    = length-append (written count_form (length used ∷ [])) (written_rows opening_form used) ∙ omega (arith, ap (λ (n : ℕ). length (written count_form (n ∷ []))) w.many ∙ count_long, w.bytes) in
    record {
      sound = w.sound;
      reached = length-append (written_section opening_form used) _ ∙ omega (arith, first, sheet_bytes, length-append (written_section day_form []) (written_section corridor_form []), none_long.0, none_long.1);
    }
