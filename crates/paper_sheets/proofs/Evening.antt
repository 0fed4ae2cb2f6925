-- The evening sheet as a text: its rows are those in use, it is in the sheet's form and no longer than its most, and when a buffer is too short for it. Assumes nothing.
use mathlib.Core.Path.{◌≡◌, refl, sym, ap, ◌∙◌}
use mathlib.Core.Logic.{◌⊎◌, inl, inr, ⊎_elim}
use mathlib.Core.Bool.{Bool, true, false, cond}
use mathlib.Core.List.{List, [], ◌∷◌, ◌++◌, map, append-nil, append_assoc}
use Prim.Native.Nat.{ℕ, zero, suc, ◌+◌, ◌*◌, ◌-◌, ◌≤◌, ◌<◌}
use native.Mathlib.Nat.{zero-add, le_trans, mul-le-mul_right, eq-or-lt_of_le}
use native.Mathlib.Omega.{arith}
use borrow.Author.Tests.{leb-true, leb-false, ne_eqb}
use lib.Dec.{leb, lit≤}
use lib.ListN.{length, drop, length-append}
use lib.Seq.{sets, sets-eq, take_at, drop_at}
use Rattle.paper.specs.Refusal.{Refusal}
use Rattle.paper.specs.Row.{Interval, ranges, is_in, are_in, width, row_in_range}
use Rattle.paper.specs.Book.{row_at, is_zeros, is_sound}
use Rattle.paper.specs.Calls.{opening, unless}
use Rattle.paper_sheets.specs.Sheet.{line_feed, blank, decimal, Item, more, opening_form, day_form, corridor_form, fields_text}
use Rattle.paper_sheets.specs.Written.{written, written_rows, written_section, calls_in, AreShort, InForm}
use Rattle.paper.specs.Each.{Each}
use Rattle.paper_sheets.specs.Evening.{used_rows, evening_rows, evening_sheet, evening_number, evening_text}
use Rattle.paper.specs.Promises.Ranges.{IsRow}
use Rattle.paper.specs.Promises.Book.{IsSoundBook}
use Rattle.paper.specs.Promises.Ends.{◌when◌, Give, none}
use Rattle.paper_sheets.specs.Promises.Evening.{EveningIsRead, EveningFits, EveningRefusesInOrder, EveningWrites}
use Rattle.paper.proofs.Tests.{clash, and_left, and_right}
use Rattle.paper.proofs.Row.{in_to, row_are, row_long}
use Rattle.paper.proofs.Ranges.{row_is}
use Rattle.paper.proofs.Book.{free_tells}
use Rattle.paper.proofs.Sound.{sound_says, sound_means, used_is}
use Rattle.paper.proofs.Order.{link, deny}
use Rattle.paper_sheets.proofs.Computing.{sheet_computing}
use Rattle.paper_sheets.proofs.Digits.{each_append, places_least, decimal_length}
use Rattle.paper_sheets.proofs.Sheets.{each_of, written_is_read}
use Rattle.paper_sheets.proofs.Output.{AreUnder, end, ◌&◌, fields_under}
use Rattle.paper_sheets.proofs.Longest.{rows_short, sections_short}

-- The used rows, with one row more that is used, and with one that is free.
module _ (book : List ℕ) (k : ℕ) where
  pub used_next : is_zeros (row_at book k) ≡ false → used_rows book (suc k) ≡ used_rows book k ++ row_at book k ∷ []
  unfolding used_rows
  used_next used = rw used

  pub used_free : is_zeros (row_at book k) ≡ true → used_rows book (suc k) ≡ used_rows book k
  unfolding used_rows
  used_free free = rw free (append-nil (used_rows book k))

-- Rows that are free add none.
pub used_run : (book : List ℕ) (k m : ℕ) → k ≤ m → ((j : ℕ) → k ≤ j → j < m → is_zeros (row_at book j) ≡ true) → used_rows book m ≡ used_rows book k
used_run book k zero l free = ap (used_rows book) (omega arith)
used_run book k (suc m) l free = go (eq-or-lt_of_le l) (λ few. used_run book k m few (λ j h less. free j h (omega arith)))
  where
    go : (k ≡ suc m) ⊎ (k < suc m) → (k ≤ m → used_rows book m ≡ used_rows book k) → used_rows book (suc m) ≡ used_rows book k
    go (inl same) before = ap (used_rows book) (sym same)
    go (inr less) before = used_free book m (free m (omega arith) (omega arith)) ∙ before (omega arith)

-- They are no more than the rows, and what holds of each row in use holds of each of them.
pub used_few : (book : List ℕ) (k : ℕ) → length (used_rows book k) ≤ k
unfolding used_rows
used_few book zero = lit≤ tt
used_few book (suc k) = go (is_zeros (row_at book k)) (used_few book k)
  where
    go : (free : Bool) → length (used_rows book k) ≤ k → length (used_rows book k ++ cond free [] (row_at book k ∷ [])) ≤ suc k
    go true few = rw append-nil (omega arith)
    go false few = rw length-append (omega arith)

pub each_used : (P : List ℕ → Type 0) (book : List ℕ) (k : ℕ) → ((j : ℕ) → j < k → is_zeros (row_at book j) ≡ false → P (row_at book j)) → Each P (used_rows book k)
unfolding used_rows
each_used P book zero each = tt
each_used P book (suc k) each =
    each_append P (used_rows book k) _ (each_used P book k (λ j l. each j (omega arith))) (go (is_zeros (row_at book k)) refl)
  where
    go : (free : Bool) → is_zeros (row_at book k) ≡ free → Each P (cond free [] (row_at book k ∷ []))
    go true e = tt
    go false e = (each k (omega arith) e, tt)

-- In a sound book a row that is not free is in range.
pub used_row : (book : List ℕ) (k : ℕ) → IsSoundBook book → k < 64 → is_zeros (row_at book k) ≡ false → IsRow (row_at book k)
used_row book k sound l used =
    ⊎_elim (λ free. absurd (clash _ (free_tells book k free) used)) (used_is book k sound.long l) (sound.rows k l)

each_row : (book : List ℕ) → is_sound book ≡ true → Each (λ row. row_in_range row ≡ true) (used_rows book 64)
each_row book sound =
    each_used (λ row. row_in_range row ≡ true) book 64 (λ j l used. row_is (row_at book j) (used_row book j (sound_says book sound) l used))

-- Numbers in range are not above the greatest of their ranges, so they are short, and their line is not longer than that of the greatest.
abbrev tops : List Interval → List ℕ
tops rs = map (λ r. r.to) rs

ranged_under : (rs : List Interval) (ns : List ℕ) → are_in rs ns ≡ true → AreUnder ns (tops rs)
unfolding are_in
ranged_under [] [] e = end
ranged_under [] (n ∷ ns) e = absurd (clash false e refl)
ranged_under (r ∷ rs) [] e = absurd (clash false e refl)
ranged_under (r ∷ rs) (n ∷ ns) e = in_to r n (and_left (is_in r n) (are_in rs ns) e) & ranged_under rs ns (and_right (is_in r n) (are_in rs ns) e)

under_short : {ns most : List ℕ} → AreUnder ns most → AreShort most → AreShort ns
under_short end short = tt
under_short (h & rest) short = (omega (arith, h, short.0), under_short rest short.1)

row_short : (row : List ℕ) → row_in_range row ≡ true → AreShort row
row_short row r = under_short (ranged_under ranges row (row_are row r)) (omega arith)

-- A line of a sheet that has no sign: its numbers, a space between two, and LF.
pub more_written : (ns : List ℕ) → written (more (length ns)) ns ≡ fields_text ns
unfolding fields_text
more_written [] = refl
more_written (n ∷ ns) = ap (λ (text : List ℕ). blank ∷ decimal n ++ text) (more_written ns)

pub row_written : (n : ℕ) (ns : List ℕ) → suc (length ns) ≡ width → written opening_form (n ∷ ns) ≡ decimal n ++ fields_text ns
row_written n ns long =
    let rest : length ns ≡ width - 1 = omega (arith, long) in
    ap (λ (text : List ℕ). decimal n ++ text) (ap (λ (k : ℕ). written (more k) ns) (sym rest) ∙ more_written ns)

-- Rows after rows.
pub rows_append : (form : List Item) (xs ys : List (List ℕ)) → written_rows form (xs ++ ys) ≡ written_rows form xs ++ written_rows form ys
rows_append form [] ys = refl
rows_append form (x ∷ xs) ys = ap (λ (text : List ℕ). written form x ++ text) (rows_append form xs ys) ∙ sym (append_assoc (written form x) (written_rows form xs) (written_rows form ys))

-- The most bytes of a row's line: with a space before it, it is no longer than that of the greatest values.
unfoldable pub row_bytes : ℕ
row_bytes = length (fields_text (tops ranges)) - 1

widest_fields : length (fields_text (tops ranges)) ≡ suc row_bytes
unfolding sheet_computing row_bytes
widest_fields = refl

-- So many for each row, the count, and the counts of no days and no corridors are the most of a sheet.
pub sheet_bytes : 3 + 64 * row_bytes + 2 + 2 ≡ 10375
unfolding sheet_computing row_bytes
sheet_bytes = refl

line_short : (row : List ℕ) → row_in_range row ≡ true → length (written opening_form row) ≤ row_bytes
unfolding fields_text
line_short [] r = absurd (omega (arith, row_long [] r))
line_short (n ∷ ns) r =
    rw (row_written n ns (row_long (n ∷ ns) r)) (omega (arith, widest_fields, fields_under (ranged_under ranges (n ∷ ns) (row_are (n ∷ ns) r))))

-- The sheet: a line with the count, which has two digits at most, a line for each row, and the counts of no days and no corridors.
section_short : (n : ℕ) (used : List (List ℕ)) → length used ≡ n → n ≤ 64 → Each (λ row. length (written opening_form row) ≤ row_bytes) used → length (written_section opening_form used) ≤ 3 + 64 * row_bytes
section_short n used count few each =
    let short : length (decimal n) ≤ 2 = omega (arith, decimal_length n, places_least n 2 (lit≤ tt) (omega arith)) in
    rw (count, length-append (decimal n ++ line_feed ∷ []), length-append (decimal n)) (omega (arith, rows_short opening_form row_bytes n used count each, mul-le-mul_right row_bytes few))

pub none_long : (length (written_section day_form []) ≡ 2) × (length (written_section corridor_form []) ≡ 2)
unfolding sheet_computing
none_long = (refl, refl)

pub evening_fits : EveningFits
unfolding evening_sheet
evening_fits book sound =
    le_trans
    (sections_short (evening_rows book) (3 + 64 * row_bytes) 2 2
    (section_short _ (used_rows book 64) refl (used_few book 64) (each_of (λ row. row_in_range row ≡ true) _ line_short (used_rows book 64) (each_row book sound)))
    (omega (arith, none_long.0)) (omega (arith, none_long.1)))
    (omega (arith, sheet_bytes))

evening_in_form : (book : List ℕ) → is_sound book ≡ true → InForm (evening_rows book)
unfolding evening_sheet
evening_in_form book sound =
    record {
      openings_most = used_few book 64;
      days_most = lit≤ tt;
      corridors_most = lit≤ tt;
      openings_wide = each_of (λ row. row_in_range row ≡ true) _ row_long (used_rows book 64) (each_row book sound);
      openings_short = each_of (λ row. row_in_range row ≡ true) _ row_short (used_rows book 64) (each_row book sound);
      days_short = tt;
      corridors_short = tt;
      bytes_most = le_trans (evening_fits book sound) (lit≤ tt);
    }

pub evening_is_read : EveningIsRead
unfolding evening_sheet calls_in
evening_is_read book sound =
    let read = written_is_read (evening_rows book) (evening_in_form book sound) in
    (read.0, read.1 ∙ append-nil (map opening (used_rows book 64)))

-- The call: its refusals, and what it writes.
-- The test of the room fails exactly where the buffer is shorter.
room_short : (book buffer : List ℕ) → Give ((11 when (length buffer < length (evening_sheet book))) ∷ []) (unless (leb (length (evening_sheet book)) (length buffer)) Refusal.Room 0)
room_short book buffer =
    link [] (leb (length (evening_sheet book)) (length buffer)) Refusal.Room _ 0 (λ e. leb-false (length (evening_sheet book)) (length buffer) e)
    (λ e l. omega (arith, leb-true (length (evening_sheet book)) (length buffer) e)) (λ e. none)

pub evening_refuses_in_order : EveningRefusesInOrder
unfolding evening_number
evening_refuses_in_order book buffer = deny _ (is_sound book) Refusal.Book _ _ (sound_means book) (λ sound. room_short book buffer)

-- A buffer that is not refused holds the sheet.
pub evening_room : (book buffer : List ℕ) → evening_number book buffer ≡ 0 → length (evening_sheet book) ≤ length buffer
unfolding evening_number
evening_room book buffer e = go (is_sound book) (leb (length (evening_sheet book)) (length buffer)) refl e
  where
    go : (sound fits : Bool) → leb (length (evening_sheet book)) (length buffer) ≡ fits → unless sound Refusal.Book (unless fits Refusal.Room 0) ≡ 0 → length (evening_sheet book) ≤ length buffer
    go true true f n = leb-true _ _ f
    go true false f n = absurd (omega arith)
    go false fits f n = absurd (omega arith)

-- A text that is written from the start of a buffer on, before what the buffer held there.
start_written : (buffer text : List ℕ) → length text ≤ length buffer → sets buffer 0 text ≡ text ++ drop (length text) buffer
start_written buffer text room = sets-eq text buffer 0 (omega arith) ∙ ap (λ (n : ℕ). text ++ drop n buffer) (zero-add (length text))

pub evening_writes : EveningWrites
unfolding evening_text
evening_writes =
    record {
      refused = λ book buffer n. ap (λ (t : Bool). cond t (evening_sheet book) []) (ne_eqb (evening_number book buffer) 0 n);
      done = λ book buffer e.
          let sheet = evening_sheet book in
          let room = evening_room book buffer e in
          rw (e, start_written buffer sheet room) (take_at sheet (drop (length sheet) buffer) (length sheet) refl, drop_at sheet (drop (length sheet) buffer) (length sheet) refl);
    }
