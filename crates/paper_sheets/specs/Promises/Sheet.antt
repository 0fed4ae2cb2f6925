-- What is claimed of the sheet: the example and the shortest and longest sheets; where a bad line lies;
-- that accepted sheets and rows in the sheet's form are each other's text and meaning; and demand 3 over the days of a sheet.
use Rattle.std.specs.Prelude.{ℕ, suc, ◌+◌, ◌-◌, ◌^◌, ◌≤◌, ◌<◌, ◌≡◌, ◌≢◌, ◌⊎◌, true, false, cond, List, [], ◌∷◌, ◌++◌, eqb, length, take, drop, get_or}
use Prim.Native.Char.{code}
use Prim.Native.String.{String, [] as none, ◌∷◌ as ◌then◌}
use Rattle.paper.specs.Row as Row
use Rattle.paper.specs.Row.{word}
use Rattle.paper.specs.Rates.{Day, Figures, figure_list}
use Rattle.paper.specs.Corridor.{Terms}
use Rattle.paper.specs.Bond.{Bond}
use Rattle.paper.specs.Book.{row_for, is_sound}
use Rattle.paper.specs.Exact.{denominator}
use Rattle.paper.specs.Calls.{Call, closing, parameters, halt, day, why, bond, answer, after, after_all}
use Rattle.paper_sheets.specs.Sheet.{line_feed, decimal, is_digit, value_from, number, at, read_item, Finding, nowhere, finding, asks, line_text}
use Rattle.paper_sheets.specs.Sheet.{answer_line, text_of, sheet_finding, morning_text, book_after}
use Rattle.paper_sheets.specs.Written.{Rows, sheet_of, calls_in, InForm}
use Rattle.paper.specs.Promises.Alive.{empty_book}
use Rattle.paper.specs.Promises.Drift.{smaller_weight, exact_after, IsNear, candidate_of, exact_candidate_of, IsCovered}
use Rattle.paper.specs.Promises.AnyCalls.{moves_after, IsHistory}

-- A quoted text as bytes.
abbrev pub bytes : String → List ℕ
bytes none = []
bytes (c then cs) = code c ∷ bytes cs

-- The example: what is written for its sheet, on an empty book.
abbrev pub example_sheet : List ℕ
example_sheet =
    bytes "1\n7 2500 2000 500 10000 2 2 8 0 50000 1000000 0 1000000 1 400000000 50000 50000 100000 95 100 100000 100000 0\n"
    ++ (bytes "2\n7 101 103000 0 0\n7 102 103000 6 0\n" ++ bytes "1\n7 73 -1000 1000 500 2000 50000 20000 1000\n")

abbrev pub ExampleText : Type 0
ExampleText =
    morning_text empty_book example_sheet
    ≡ bytes "O 7 0\nD 7 101 0 60000 120000 60000 500000000 0 1\nD 7 102 0 140000 280000 70000 580000000 0 2\nC 7 73 0 101000 108000\n"

-- Refused rows have their lines too: an opening out of range, and a day and a corridor of instruments that are not open.
abbrev pub RefusedRows : Type 0
RefusedRows =
    morning_text empty_book (bytes "1\n6 0 0 0 0 0 0 0 0 0 0 0 0 0 0 0 0 0 0 0 0 0 0\n1\n8 5 300 1 2\n1\n9 3 -4 10 500 2000 50000 20000 1000\n")
    ≡ bytes "O 6 2\nD 8 5 5 0 0 0 0 0 0\nC 9 3 5 0 0\n"

-- Sheets that are refused whole: the empty sheet for its first line, and any sheet too long for none of its lines.
-- Nothing is written for a book that is not sound. Each leaves the book as it was.
pub record RefusedSheets : Type 0 where
  pub empty : (book : List ℕ) → is_sound book ≡ true → morning_text book [] ≡ bytes "L 1\n"
  pub too_long : (book sheet : List ℕ) → is_sound book ≡ true → 65536 < length sheet → morning_text book sheet ≡ bytes "L 0\n"
  pub too_long_found : (sheet : List ℕ) → 65536 < length sheet → finding sheet ≡ nowhere 9
  pub bad :
      (book sheet : List ℕ) → is_sound book ≡ true → (finding sheet).number ≢ 0
      → morning_text book sheet ≡ bytes "L " ++ (decimal (finding sheet).line ++ bytes "\n")
  pub asks_nothing : (sheet : List ℕ) → (finding sheet).number ≢ 0 → asks sheet ≡ []
  pub found : (book sheet : List ℕ) → is_sound book ≡ true → sheet_finding book sheet ≡ finding sheet
  pub unsound : (book sheet : List ℕ) → is_sound book ≡ false → (sheet_finding book sheet ≡ nowhere 1) × (morning_text book sheet ≡ [])
  pub untouched : (book sheet : List ℕ) → (sheet_finding book sheet).number ≢ 0 → book_after book sheet ≡ book

-- A sheet's calls have a line each, in order, refused or not, and each is made on the book that those before it left.
pub record LinesFollow : Type 0 where
  pub first : (book : List ℕ) (call : Call) → text_of book (call ∷ []) ≡ answer_line call (answer book call)
  pub next : (book : List ℕ) (before calls : List Call) → text_of book (before ++ calls) ≡ text_of book before ++ text_of (after_all book before) calls
  pub accepted :
      (book sheet : List ℕ) → (sheet_finding book sheet).number ≡ 0
      → (morning_text book sheet ≡ text_of book (asks sheet)) × (book_after book sheet ≡ after_all book (asks sheet))
  -- A call that no sheet asks has no line.
  pub none :
      (book : List ℕ) (i value : ℕ) (ps : List ℕ) (d : Day) (t : Terms) (b : Bond)
      → (text_of book (closing i ∷ []) ≡ []) × (text_of book (parameters i ps ∷ []) ≡ []) × (text_of book (halt i value ∷ []) ≡ [])
      × (text_of book (why d ∷ []) ≡ []) × (text_of book (bond i t b ∷ []) ≡ [])

-- How many LF bytes have.
abbrev pub line_feeds : List ℕ → ℕ
line_feeds [] = 0
line_feeds (b ∷ bs) = cond (eqb b line_feed) (suc (line_feeds bs)) (line_feeds bs)

-- The first bad line of a sheet, by where it is found. It lies within the sheet, starts where the lines before it end, has no LF in it,
-- and ends at an LF or with the sheet.
pub record IsBadLine (sheet : List ℕ) (f : Finding) : Type 0 where
  pub refused : f.number ≡ 9
  pub within : f.start + f.length ≤ length sheet
  pub numbered : f.line ≡ suc (line_feeds (take f.start sheet))
  pub starts : (f.start ≡ 0) ⊎ (get_or sheet (f.start - 1) 0 ≡ line_feed)
  pub one_line : line_feeds (take f.length (drop f.start sheet)) ≡ 0
  pub ends : (f.start + f.length ≡ length sheet) ⊎ (get_or sheet (f.start + f.length) 0 ≡ line_feed)
  -- The lines before it are good: whatever else follows them, no line is bad before this one;
  pub good_before :
      (rest : List ℕ) → length (take f.start sheet ++ rest) ≤ 65536
      → let other = finding (take f.start sheet ++ rest) in
      (other.number ≡ 0) ⊎ (f.line ≤ other.line)
  -- and it is bad itself: whatever else follows it and its LF, it is the first bad line.
  pub bad_itself :
      f.start + f.length < length sheet → (rest : List ℕ)
      → let other = take (f.start + f.length) sheet ++ line_feed ∷ rest in
      length other ≤ 65536 → finding other ≡ f

-- A sheet that is not too long is accepted, with nothing handed back, or has a first bad line.
abbrev pub FirstBadLine : Type 0
FirstBadLine = (sheet : List ℕ) → length sheet ≤ 65536 → (finding sheet ≡ nowhere 0) ⊎ IsBadLine sheet (finding sheet)

-- Findings worked by hand: a good sheet, a count above its most, a minus where none may stand, an empty line after the last, a line that should have stood
-- but does not, which is an empty part at the sheet's end, and a last line with no LF.
pub record Findings : Type 0 where
  pub good : finding (bytes "0\n0\n0\n") ≡ record { number = 0; line = 0; start = 0; length = 0 }
  pub count : finding (bytes "65\n") ≡ record { number = 9; line = 1; start = 0; length = 2 }
  pub minus : finding (bytes "0\n1\n7 101 -3 0 0\n0\n") ≡ record { number = 9; line = 3; start = 4; length = 12 }
  pub after : finding (bytes "0\n0\n0\n\n") ≡ record { number = 9; line = 4; start = 6; length = 0 }
  pub missing : finding (bytes "0\n0\n") ≡ record { number = 9; line = 3; start = 4; length = 0 }
  pub missing_row : finding (bytes "0\n1\n") ≡ record { number = 9; line = 3; start = 4; length = 0 }
  pub unended : finding (bytes "0\n0\n0") ≡ record { number = 9; line = 3; start = 4; length = 1 }

-- The text of a number is digits of that value, whatever the number.
abbrev pub DecimalMeans : Type 0
DecimalMeans = (n : ℕ) → value_from 0 (decimal n) ≡ n

-- A number that is written is read back, before anything that is no digit.
abbrev pub ReadBack : Type 0
ReadBack =
    (n : ℕ) (ns rest : List ℕ) → n < 10 ^ 18 → is_digit (get_or rest 0 0) ≡ false → read_item number ns (decimal n ++ rest) ≡ at (ns ++ n ∷ []) rest

-- Reading and writing are each other's inverse. The sheet written from rows in the sheet's form is accepted, and asks exactly these rows;
abbrev pub WrittenIsRead : Type 0
WrittenIsRead = (rows : Rows) → InForm rows → (finding (sheet_of rows) ≡ nowhere 0) × (asks (sheet_of rows) ≡ calls_in rows)

-- an accepted sheet is the one written from the rows that it asks;
pub record IsWritten (sheet : List ℕ) : Type 0 where
  pub rows : Rows
  pub in_form : InForm rows
  pub text : sheet ≡ sheet_of rows
  pub asked : asks sheet ≡ calls_in rows

abbrev pub ReadIsWritten : Type 0
ReadIsWritten = (sheet : List ℕ) → (finding sheet).number ≡ 0 → IsWritten sheet

-- so no two accepted sheets ask the same.
abbrev pub NoTwoAsk : Type 0
NoTwoAsk = (one other : List ℕ) → (finding one).number ≡ 0 → (finding other).number ≡ 0 → asks one ≡ asks other → one ≡ other

-- The calls of a sheet are calls, so demand 3 holds of the days in it. Where the calls of a sheet, after some of them, are a history of an instrument, its
-- variance after the sheet is near the exact one.
abbrev pub VarianceOverSheet : Type 0
VarianceOverSheet =
    (i : ℕ) (book sheet : List ℕ) (before calls : List Call) → (sheet_finding book sheet).number ≡ 0 → asks sheet ≡ before ++ calls
    → IsHistory i (after_all book before) calls
    → let start = row_for (after_all book before) i in
    let moves = moves_after i (after_all book before) calls [] in
    IsNear (smaller_weight start) (denominator (length moves)) (exact_after start moves) (word (row_for (book_after book sheet) i) Row.variance)

-- A day among the calls of a sheet, after such a history: its line in the text shows figures, and these are covered.
pub record IsShown (book sheet : List ℕ) (before calls later : List Call) (d : Day) : Type 0 where
  pub figures : Figures
  pub line :
      morning_text book sheet
      ≡ text_of book (before ++ calls)
      ++ (line_text 68 (d.instrument ∷ d.day ∷ 0 ∷ figure_list figures) ++ text_of (after (after_all book (before ++ calls)) (day d)) later)
  pub covered :
      let i = d.instrument in
      let start = row_for (after_all book before) i in
      let moves = moves_after i (after_all book before) calls [] in
      let row = row_for (after_all book (before ++ calls)) i in
      IsCovered (word start Row.step) (exact_candidate_of start moves row d) (candidate_of row d figures.variance) figures.preliminary

-- On each accepted day of the sheet the candidate is not below the exact one and at most one step above it, and the preliminary that the day's line shows is
-- not below the candidate.
abbrev pub CandidateOverSheet : Type 0
CandidateOverSheet =
    (book sheet : List ℕ) (before calls later : List Call) (d : Day) → (sheet_finding book sheet).number ≡ 0
    → asks sheet ≡ (before ++ calls) ++ day d ∷ later → IsHistory d.instrument (after_all book before) calls
    → (answer (after_all book (before ++ calls)) (day d)).number ≡ 0 → IsShown book sheet before calls later d
