-- How long a text is, and when an output is too short for it.
use Rattle.std.specs.Prelude.{ℕ, zero, suc, ◌+◌, ◌*◌, ◌-◌, ◌/◌, ◌%◌, ◌^◌, ◌≤◌, ◌<◌, ◌≡◌, ◌≢◌, true, List, [], ◌∷◌, ◌++◌, pos, length, replicate}
use Rattle.paper.specs.Row as Row
use Rattle.paper.specs.Row.{width, word}
use Rattle.paper.specs.Rates.{Day}
use Rattle.paper.specs.Corridor.{Terms}
use Rattle.paper.specs.Book.{is_sound}
use Rattle.paper.specs.Calls.{Call, opening, day, corridor, answer}
use Rattle.paper_sheets.specs.Sheet.{nowhere, answer_line, sheet_finding, morning_text, book_after}
use Rattle.paper_sheets.specs.Written.{Asked, Rows, sheet_of}
use Rattle.paper_sheets.specs.Output.{finding_into, text_into, left_into}
use Rattle.paper.specs.Promises.Book.{IsSoundBook}
use Rattle.paper.specs.Promises.Ends.{◌when◌, Give}
use Rattle.paper.specs.Promises.Worked.{day_of}
use Rattle.paper_sheets.specs.Promises.Sheet.{IsWritten}

-- The line that is written for a call on a book.
abbrev pub line_of : List ℕ → Call → List ℕ
line_of book call = answer_line call (answer book call)

-- An accepted call shows values and figures in range, each no longer than the greatest of its range;
pub record AcceptedLines : Type 0 where
  pub openings : (book row : List ℕ) → (answer book (opening row)).number ≡ 0 → length (line_of book (opening row)) ≤ 14
  pub days : (book : List ℕ) (d : Day) → (answer book (day d)).number ≡ 0 → length (line_of book (day d)) ≤ 68
  pub corridors : (book : List ℕ) (i : ℕ) (t : Terms) → (answer book (corridor i t)).number ≡ 0 → length (line_of book (corridor i t)) ≤ 40

-- a refused one shows what the sheet gave, of 18 digits at most, and zeros. A number of two digits, Halted, comes only with values in range.
pub record RefusedLines : Type 0 where
  pub openings :
      (book row : List ℕ) → word row Row.instrument < 10 ^ 18 → (answer book (opening row)).number ≢ 0
      → length (line_of book (opening row)) ≤ 23
  pub days :
      (book : List ℕ) (d : Day) → d.instrument < 10 ^ 18 → d.day < 10 ^ 18 → (answer book (day d)).number ≢ 0
      → length (line_of book (day d)) ≤ 54
  pub corridors :
      (book : List ℕ) (i : ℕ) (t : Terms) → i < 10 ^ 18 → t.k < 10 ^ 18 → (answer book (corridor i t)).number ≢ 0
      → length (line_of book (corridor i t)) ≤ 46

-- So no text is longer than 64 lines of 23 bytes, 1,000 of 68 and 64 of 46, whatever the book and the sheet.
abbrev pub TextFits : Type 0
TextFits = (book sheet : List ℕ) → length (morning_text book sheet) ≤ 72416

-- The prices of a longest text: two days each at 1, 2, 4 and so on to 16,777,216, and then from 1 again.
-- Each is twice the one of two days before, or a fall to 1 that is rounded up, so each move is 1,000,000.
abbrev pub longest_price : ℕ → ℕ
longest_price k = 2 ^ (k / 2 % 25)

-- The days at these prices, and the row after each. Its figures have the most digits, and a day of such a move keeps them:
-- M is 0, so the least rates are published, and the candidate is the preliminary, which last changed on day 0.
abbrev pub longest_day : ℕ → Day
longest_day k = day_of 999999999 (100000 + k) (longest_price (suc k)) 0 0

abbrev pub longest_row : ℕ → List ℕ
longest_row k =
    999999999
    ∷ 1000
    ∷ 10000
    ∷ 10000
    ∷ 100000
    ∷ 0
    ∷ 1
    ∷ 1
    ∷ 0
    ∷ 1000000
    ∷ 1000000
    ∷ 1000000
    ∷ 1000000
    ∷ 0
    ∷ 1000000000000
    ∷ 1000000
    ∷ 1000000
    ∷ 1000000
    ∷ 0
    ∷ (100000 + k)
    ∷ longest_price (suc k)
    ∷ longest_price k
    ∷ 0
    ∷ []

-- So many days after day k.
abbrev pub longest_days : ℕ → ℕ → List Day
longest_days zero k = []
longest_days (suc n) k = longest_day (suc k) ∷ longest_days n (suc k)

-- The book has the row that the first day meets, and 63 free ones.
abbrev pub longest_book : List ℕ
longest_book = longest_row 0 ++ replicate (63 * width) 0

-- The sheet has the opening 64 times, the days, and the corridor 64 times. Opening and corridor are out of range, and show numbers of 18 digits.
abbrev pub longest_opening : List ℕ
longest_opening = 999999999999999999 ∷ replicate (width - 1) 0

abbrev pub longest_asked : Asked
longest_asked =
    record {
      instrument = 999999999999999999;
      terms = record { k = 999999999999999999; lower = pos 0; upper = pos 0; shift = 0; x = 0; rise = 0; fall = 0; tick = 0 };
    }

abbrev pub longest_rows : Rows
longest_rows = record { openings = replicate 64 longest_opening; days = longest_days 1000 0; corridors = replicate 64 longest_asked }

abbrev pub longest_sheet : List ℕ
longest_sheet = sheet_of longest_rows

-- Some book and sheet reach that.
pub record LongestText : Type 0 where
  pub sound : is_sound longest_book ≡ true
  pub reached : length (morning_text longest_book longest_sheet) ≡ 72416

-- A run into a lent output refuses an unsound book, then an output shorter than that, then a sheet that is not one written from rows in its form.
abbrev pub RunRefusesInOrder : Type 1
RunRefusesInOrder =
    (book sheet out : List ℕ)
    → Give ((1 when ¬ IsSoundBook book) ∷ (11 when (length out < 72416)) ∷ (9 when ¬ IsWritten sheet) ∷ []) (finding_into book sheet out).number

-- Where the output is too short nothing is found in the sheet, nothing is written, and the book stays; else the run is the sheet's.
pub record RoomMeans : Type 0 where
  pub short :
      (book sheet out : List ℕ) → (finding_into book sheet out).number ≡ 11
      → (finding_into book sheet out ≡ nowhere 11) × (text_into book sheet out ≡ []) × (left_into book sheet out ≡ book)
  pub enough :
      (book sheet out : List ℕ) → (finding_into book sheet out).number ≢ 11
      → (finding_into book sheet out ≡ sheet_finding book sheet) × (text_into book sheet out ≡ morning_text book sheet)
      × (left_into book sheet out ≡ book_after book sheet)
