-- What is claimed of the evening sheet: what a morning on it opens and leaves, how long it is, when a buffer is too short,
-- that no call tells the night from no night, and that demand 3 goes through any number of them.
use Rattle.std.specs.Prelude.{ℕ, zero, suc, ◌+◌, ◌*◌, ◌<◌, ◌≤◌, ◌≡◌, ◌≢◌, true, List, [], ◌∷◌, ◌++◌, map, pos, length, take, drop}
use Rattle.std.proofs.lemmas.List.Edits.{sets}
use Rattle.paper.specs.Row as Row
use Rattle.paper.specs.Row.{width, word, parameters_of}
use Rattle.paper.specs.Rates.{Day, Figures, accepted, day_on}
use Rattle.paper.specs.Corridor.{Terms}
use Rattle.paper.specs.Book.{with_row, row_for, is_open, is_sound}
use Rattle.paper.specs.Exact.{denominator}
use Rattle.paper.specs.Calls.{Call, opening, day, corridor, answer, after, after_all}
use Rattle.paper_sheets.specs.Sheet.{nowhere, finding, asks, text_of, book_after}
use Rattle.paper_sheets.specs.Evening.{used_rows, evening_sheet, gaps_closed, evening_number, evening_text}
use Rattle.paper.specs.Promises.Book.{word_at, IsFree, IsSoundBook}
use Rattle.paper.specs.Promises.Ends.{IsInstrument, ◌when◌, Give}
use Rattle.paper.specs.Promises.Worked.{day_of}
use Rattle.paper.specs.Promises.Alive.{empty_book, book102, three_book}
use Rattle.paper.specs.Promises.Drift.{smaller_weight, exact_after, IsNear, candidate_of, exact_candidate_of, IsCovered}
use Rattle.paper.specs.Promises.AnyCalls.{moves_after, StaysOpenWith, IsHistory}
use Rattle.paper_sheets.specs.Promises.Sheet.{bytes}

-- No gap stands before a used row: after a free row every row is free.
abbrev pub HasNoGap : List ℕ → Type 0
HasNoGap book = (j k : ℕ) → j < k → k < 64 → IsFree book j → IsFree book k

-- A book with the gaps of another closed: each used row of that one has a place in it and the same words there, a later one a later place;
-- no other row is used; and it has no gap before a used row.
pub record ClosesGaps (book closed : List ℕ) : Type 0 where
  pub long : length closed ≡ 64 * width
  pub place : ℕ → ℕ
  pub below : (k : ℕ) → k < 64 → ¬ IsFree book k → place k < 64
  pub same : (k at : ℕ) → k < 64 → ¬ IsFree book k → at < width → word_at closed (place k) at ≡ word_at book k at
  pub later : (j k : ℕ) → j < k → k < 64 → ¬ IsFree book j → ¬ IsFree book k → place j < place k
  pub no_other : (m : ℕ) → m < 64 → ¬ IsFree closed m → (k : ℕ) × (k < 64) × (¬ IsFree book k) × (place k ≡ m)
  pub no_gap : HasNoGap closed

-- So is the one that the definition gives.
abbrev pub GapsClose : Type 0
GapsClose = (book : List ℕ) → length book ≡ 64 * width → ClosesGaps book (gaps_closed book)

-- On a sound book the evening sheet is accepted as a sheet, and asks exactly the openings of the used rows, in row order.
abbrev pub EveningIsRead : Type 0
EveningIsRead =
    (book : List ℕ) → is_sound book ≡ true
    → (finding (evening_sheet book) ≡ nowhere 0) × (asks (evening_sheet book) ≡ map opening (used_rows book 64))

-- Each of some calls is answered 0, on the book that those before it left.
abbrev pub AllDone : List ℕ → List Call → Type 0
AllDone book [] = Unit {0}
AllDone book (call ∷ calls) = ((answer book call).number ≡ 0) × AllDone (after book call) calls

-- The book with which the next morning starts: the evening sheet read into an empty book.
abbrev pub next_morning : List ℕ → List ℕ
next_morning book = book_after empty_book (evening_sheet book)

-- On the empty book each of the openings is answered 0. The book afterwards is sound and the same one with its gaps closed: every instrument has the row that
-- it had, or is open in neither; and where there was no gap before a used row it is the book itself, word for word.
pub record MorningStarts (book : List ℕ) : Type 0 where
  pub opens : AllDone empty_book (asks (evening_sheet book))
  pub sound : is_sound (next_morning book) ≡ true
  pub closed : next_morning book ≡ gaps_closed book
  pub instruments : (i : ℕ) → 0 < i → row_for (next_morning book) i ≡ row_for book i
  pub itself : HasNoGap book → next_morning book ≡ book

abbrev pub NightKeeps : Type 0
NightKeeps = (book : List ℕ) → is_sound book ≡ true → MorningStarts book

-- No sheet is longer than 10,375 bytes: a line of 3 with the count, 64 lines of 162, and two lines of 2.
abbrev pub EveningFits : Type 0
EveningFits = (book : List ℕ) → is_sound book ≡ true → length (evening_sheet book) ≤ 10375

-- The book of a longest one: in each row the greatest values, and an instrument of nine digits.
abbrev pub widest_row : ℕ → List ℕ
widest_row k =
    (999999936 + k)
    ∷ 4000
    ∷ 10000
    ∷ 10000
    ∷ 100000
    ∷ 250
    ∷ 10
    ∷ 60
    ∷ 1000000
    ∷ 1000000
    ∷ 1000000
    ∷ 1000000
    ∷ 1000000
    ∷ 1
    ∷ 1000000000000
    ∷ 4100000
    ∷ 1000000
    ∷ 1000000
    ∷ 999999
    ∷ 999999
    ∷ 1000000000
    ∷ 1000000000
    ∷ 1
    ∷ []

abbrev pub widest_book : ℕ → List ℕ
widest_book zero = empty_book
widest_book (suc k) = with_row (widest_book k) k (widest_row k)

-- It reaches that.
pub record LongestEvening : Type 0 where
  pub sound : is_sound (widest_book 64) ≡ true
  pub reached : length (evening_sheet (widest_book 64)) ≡ 10375

-- The call refuses an unsound book, then a buffer that is shorter than the sheet, and nothing else.
abbrev pub EveningRefusesInOrder : Type 1
EveningRefusesInOrder =
    (book buffer : List ℕ)
    → Give ((1 when ¬ IsSoundBook book) ∷ (11 when (length buffer < length (evening_sheet book))) ∷ []) (evening_number book buffer)

-- A refused call writes nothing. Else the buffer starts with the sheet, and the bytes beyond it keep what they held.
pub record EveningWrites : Type 0 where
  pub refused : (book buffer : List ℕ) → evening_number book buffer ≢ 0 → evening_text book buffer ≡ []
  pub done :
      (book buffer : List ℕ) → evening_number book buffer ≡ 0
      → let sheet = evening_sheet book in
      let left = sets buffer 0 (evening_text book buffer) in
      (take (length sheet) left ≡ sheet) × (drop (length sheet) left ≡ drop (length sheet) buffer)

-- Sheets worked by hand: of the empty book; of the example sheet's book after its two days; and of the book of three instruments, which stand in the first
-- row, in row 30 and in the last. And each answer is met: a buffer of just the sheet's length, one a byte shorter, and a book of no words.
pub record WorkedEvenings : Type 0 where
  pub empty : evening_sheet empty_book ≡ bytes "0\n0\n0\n"
  pub example :
      evening_sheet book102
      ≡ bytes "1\n7 2500 2000 500 10000 2 2 8 0 50000 1000000 0 1000000 1 580000000 70000 140000 280000 102 102 103000 103000 0\n0\n0\n"
  pub gaps :
      evening_sheet three_book
      ≡ bytes "3\n7 2500 2000 500 10000 2 2 8 0 50000 1000000 0 1000000 1 400000000 50000 50000 100000 95 100 100000 100000 0\n"
      ++ (bytes "11 2600 1500 700 5000 4 3 7 12000 60000 240000 90000 310000 1 900000000 85000 120000 200000 298 300 50000 48000 0\n"
      ++ bytes "999999999 2500 2000 500 10000 2 2 8 0 50000 1000000 0 1000000 1 400000000 50000 50000 100000 95 100 100000 100000 0\n0\n0\n")
  pub exact : evening_number empty_book (bytes "------") ≡ 0
  pub short : evening_number empty_book (bytes "-----") ≡ 11
  pub unsound : evening_number [] (bytes "------") ≡ 1

-- No call tells the night from no night: whatever is asked the next morning, on the book that the sheet left, is answered as on the book itself, line for line
-- where it has a line, and leaves every instrument the same row.
pub record NightUnseen : Type 0 where
  pub answers :
      (book : List ℕ) (before : List Call) (call : Call) → is_sound book ≡ true
      → answer (after_all (next_morning book) before) call ≡ answer (after_all book before) call
  pub lines : (book : List ℕ) (calls : List Call) → is_sound book ≡ true → text_of (next_morning book) calls ≡ text_of book calls
  pub rows :
      (book : List ℕ) (calls : List Call) (i : ℕ) → is_sound book ≡ true → 0 < i
      → row_for (after_all (next_morning book) calls) i ≡ row_for (after_all book calls) i

-- Demand 3 goes through any number of nights. Past days are a list: of each its calls, and a night after it, the evening sheet read into an empty book.
-- The book with which the day after them starts:
abbrev pub after_nights : List ℕ → List (List Call) → List ℕ
after_nights book [] = book
after_nights book (calls ∷ days) = after_nights (next_morning (after_all book calls)) days

-- The moves of an instrument's accepted days, the last one first: those before the past days, and with them.
abbrev pub moves_over : ℕ → List ℕ → List (List Call) → List ℕ → List ℕ
moves_over i book [] moves = moves
moves_over i book (calls ∷ days) moves = moves_over i (next_morning (after_all book calls)) days (moves_after i book calls moves)

-- On each of them an instrument is open with these parameters after each call.
abbrev pub StaysThrough : ℕ → List ℕ → List ℕ → List (List Call) → Type 0
StaysThrough i ps book [] = Unit {0}
StaysThrough i ps book (calls ∷ days) = StaysOpenWith i ps book calls × StaysThrough i ps (next_morning (after_all book calls)) days

-- Past days and the calls of today, on a sound book in which the instrument is open at the start: on each day, after each call, it is open with the parameters
-- that it had at the start of the first.
pub record IsThroughNights (i : ℕ) (book : List ℕ) (days : List (List Call)) (calls : List Call) : Type 0 where
  pub instrument : IsInstrument i
  pub sound : is_sound book ≡ true
  pub open_here : is_open book i ≡ true
  pub past : StaysThrough i (parameters_of (row_for book i)) book days
  pub today : StaysOpenWith i (parameters_of (row_for book i)) (after_nights book days) calls

-- They are one run: its start is the row that the instrument had in the first book. Its moves, and the row that it has come to:
abbrev pub moves_through : ℕ → List ℕ → List (List Call) → List Call → List ℕ
moves_through i book days calls = moves_after i (after_nights book days) calls (moves_over i book days [])

abbrev pub row_through : ℕ → List ℕ → List (List Call) → List Call → List ℕ
row_through i book days calls = row_for (after_all (after_nights book days) calls) i

-- The kept variance is near the exact one:
abbrev pub VarianceOverNights : Type 0
VarianceOverNights =
    (i : ℕ) (book : List ℕ) (days : List (List Call)) (calls : List Call) → IsThroughNights i book days calls
    → let start = row_for book i in
    let moves = moves_through i book days calls in
    IsNear (smaller_weight start) (denominator (length moves)) (exact_after start moves) (word (row_through i book days calls) Row.variance)

-- and on each accepted day after the nights the candidate is not below the exact one and at most one step above it, and the preliminary not below the candidate.
abbrev pub CandidateOverNights : Type 0
CandidateOverNights =
    (i : ℕ) (book : List ℕ) (days : List (List Call)) (calls : List Call) (d : Day) (f : Figures) (next : List ℕ) → IsThroughNights i book days calls
    → let start = row_for book i in
    let row = row_through i book days calls in
    day_on row d ≡ accepted f next
    → IsCovered (word start Row.step) (exact_candidate_of start (moves_through i book days calls) row d) (candidate_of row d f.variance) f.preliminary

-- The same calls with no night between them.
abbrev pub without_nights : List (List Call) → List Call → List Call
without_nights [] calls = calls
without_nights (before ∷ days) calls = before ++ without_nights days calls

-- Wherever nights are put into a history, it is such a run, with the moves that the history has without them.
abbrev pub NightsAreNoBreak : Type 0
NightsAreNoBreak =
    (i : ℕ) (book : List ℕ) (days : List (List Call)) (calls : List Call) → IsHistory i book (without_nights days calls)
    → IsThroughNights i book days calls × (moves_through i book days calls ≡ moves_after i book (without_nights days calls) [])

-- Such days there are: the week of examples/chain. The book that Monday's three openings leave,
abbrev pub week_row : List ℕ
week_row =
    2003 ∷ 3000 ∷ 2000 ∷ 500 ∷ 5000 ∷ 2 ∷ 2 ∷ 15 ∷ 10000 ∷ 70000 ∷ 900000 ∷ 150000 ∷ 1000000 ∷ 1
    ∷ 1600000000 ∷ 120000 ∷ 130000 ∷ 345000 ∷ 20099 ∷ 20099 ∷ 6612 ∷ 6640 ∷ 0 ∷ []

abbrev pub week_book : List ℕ
week_book =
    after_all empty_book
    (opening
    (2001 ∷ 2500 ∷ 2000 ∷ 500 ∷ 10000 ∷ 3 ∷ 2 ∷ 8 ∷ 0 ∷ 50000 ∷ 1000000 ∷ 100000 ∷ 1000000 ∷ 1
    ∷ 400000000 ∷ 50000 ∷ 50000 ∷ 100000 ∷ 20094 ∷ 20099 ∷ 281500 ∷ 279900 ∷ 0 ∷ [])
    ∷ opening
    (2002 ∷ 2500 ∷ 1500 ∷ 600 ∷ 10000 ∷ 2 ∷ 2 ∷ 10 ∷ 5000 ∷ 60000 ∷ 800000 ∷ 120000 ∷ 1000000 ∷ 1
    ∷ 900000000 ∷ 80000 ∷ 90000 ∷ 180000 ∷ 20087 ∷ 20099 ∷ 162380 ∷ 163010 ∷ 0 ∷ [])
    ∷ opening week_row
    ∷ [])

-- and the calls of a day: a day and then a corridor of each of the three, by the day's number, the three prices, m and K.
abbrev pub week_terms : ℕ → ℕ → ℕ → Terms
week_terms k bound tick =
    record {
      k = k;
      lower = pos 1450;
      upper = pos 1650;
      shift = 500;
      x = 1000;
      rise = bound;
      fall = bound;
      tick = tick;
    }

abbrev pub week_day : ℕ → ℕ → ℕ → ℕ → ℕ → ℕ → List Call
week_day number first second third m k =
    day (day_of 2001 number first m 0)
    ∷ day (day_of 2002 number second m 0)
    ∷ day (day_of 2003 number third m 0)
    ∷ corridor 2001 (week_terms k 200000 10)
    ∷ corridor 2002 (week_terms k 200000 10)
    ∷ corridor 2003 (week_terms k 400000 1)
    ∷ []

-- Monday to Thursday, each with its night, and Friday.
abbrev pub monday_to_thursday : List (List Call)
monday_to_thursday =
    week_day 20100 283900 160900 6105 0 4
    ∷ week_day 20101 301200 161320 6230 0 4
    ∷ week_day 20102 299800 161150 6215 0 4
    ∷ week_day 20103 300100 161400 6240 0 4
    ∷ []

abbrev pub friday : List Call
friday = week_day 20104 300400 161290 6225 2 7

-- The third of them is open all the week; its moves; and the variance that it keeps, which Friday's answer shows.
pub record NightsExist : Type 0 where
  pub through : IsThroughNights 2003 week_book monday_to_thursday friday
  pub moves : moves_through 2003 week_book monday_to_thursday friday ≡ 2404 ∷ 4023 ∷ 18019 ∷ 57774 ∷ 80573 ∷ []
  pub variance : word (row_through 2003 week_book monday_to_thursday friday) Row.variance ≡ 2356590081
