-- The same over any list of calls on a book, through a halt, over a sheet and through any number of nights.
use Rattle.std.specs.Prelude.{ℕ, ◌*◌, ◌≤◌, ◌<◌, ◌≡◌, List, [], ◌∷◌, ◌++◌}
use Rattle.paper.specs.Row as Row
use Rattle.paper.specs.Row.{word}
use Rattle.paper.specs.Rates.{Day, Figures, accepted, figure_list, day_on}
use Rattle.paper.specs.Book.{row_for}
use Rattle.paper.specs.Calls.{Call, day, answer, after, after_all}
use Rattle.paper.specs.Promises.AnyCalls.{IsHistory}
use Rattle.paper.specs.Promises.Halts.{low_book, gap_calls}
use Rattle.paper_sheets.specs.Sheet.{asks, text_of, morning_text, line_text, sheet_finding, book_after}
use Rattle.paper_sheets.specs.Promises.Evening.{IsThroughNights, row_through, week_book, monday_to_thursday, friday}
use Rattle.paper_prices.specs.Days.{days_after, days_through}
use Rattle.paper_prices.specs.Promises.Prices.{exact_moves_of, prices_after, prices_under, KeptAbove, CoveredFrom}
use Rattle.paper_prices.specs.Promises.Cases.{over}

-- Over any list of calls in which the instrument stays open with its parameters, whatever is done to the others, halts among them:
abbrev pub VarianceFromPricesOverCalls : Type 0
VarianceFromPricesOverCalls =
    (i : ℕ) (book : List ℕ) (calls : List Call) → IsHistory i book calls
    → KeptAbove (row_for book i) (days_after i book calls []) (word (row_for (after_all book calls) i) Row.variance)

abbrev pub CandidateFromPricesOverCalls : Type 0
CandidateFromPricesOverCalls =
    (i : ℕ) (book : List ℕ) (calls : List Call) (d : Day) (f : Figures) (next : List ℕ) → IsHistory i book calls
    → let row = row_for (after_all book calls) i in
    day_on row d ≡ accepted f next → CoveredFrom (row_for book i) (days_after i book calls []) row d f

-- Over a sheet, where its calls, after some of them, are such a list:
abbrev pub VarianceFromPricesOverSheet : Type 0
VarianceFromPricesOverSheet =
    (i : ℕ) (book sheet : List ℕ) (before calls : List Call) → (sheet_finding book sheet).number ≡ 0 → asks sheet ≡ before ++ calls
    → IsHistory i (after_all book before) calls
    → KeptAbove (row_for (after_all book before) i) (days_after i (after_all book before) calls []) (word (row_for (book_after book sheet) i) Row.variance)

-- and on each accepted day of it, whose figures its line shows:
pub record IsShownFromPrices (book sheet : List ℕ) (before calls later : List Call) (d : Day) : Type 0 where
  pub figures : Figures
  pub line :
      morning_text book sheet
      ≡ text_of book (before ++ calls)
      ++ (line_text 68 (d.instrument ∷ d.day ∷ 0 ∷ figure_list figures) ++ text_of (after (after_all book (before ++ calls)) (day d)) later)
  pub covered :
      let i = d.instrument in
      CoveredFrom (row_for (after_all book before) i) (days_after i (after_all book before) calls []) (row_for (after_all book (before ++ calls)) i) d figures

abbrev pub CandidateFromPricesOverSheet : Type 0
CandidateFromPricesOverSheet =
    (book sheet : List ℕ) (before calls later : List Call) (d : Day) → (sheet_finding book sheet).number ≡ 0
    → asks sheet ≡ (before ++ calls) ++ day d ∷ later → IsHistory d.instrument (after_all book before) calls
    → (answer (after_all book (before ++ calls)) (day d)).number ≡ 0 → IsShownFromPrices book sheet before calls later d

-- Through any number of nights:
abbrev pub VarianceFromPricesOverNights : Type 0
VarianceFromPricesOverNights =
    (i : ℕ) (book : List ℕ) (days : List (List Call)) (calls : List Call) → IsThroughNights i book days calls
    → KeptAbove (row_for book i) (days_through i book days calls) (word (row_through i book days calls) Row.variance)

abbrev pub CandidateFromPricesOverNights : Type 0
CandidateFromPricesOverNights =
    (i : ℕ) (book : List ℕ) (days : List (List Call)) (calls : List Call) (d : Day) (f : Figures) (next : List ℕ) → IsThroughNights i book days calls
    → let row = row_through i book days calls in
    day_on row d ≡ accepted f next → CoveredFrom (row_for book i) (days_through i book days calls) row d f

-- Such runs there are. Through a halt: the history in which the price stays. Its exact moves are 0, and the prices' own variance is 0.9025, where 1 is kept.
pub record GapFromPrices : Type 0 where
  pub moves : exact_moves_of (days_after 7 low_book gap_calls []) ≡ over 0 100000 ∷ over 0 100000 ∷ []
  pub own : 10000 * prices_after (row_for low_book 7) (days_after 7 low_book gap_calls []) ≡ 9025 * prices_under (days_after 7 low_book gap_calls [])
  pub kept : word (row_for (after_all low_book gap_calls) 7) Row.variance ≡ 1
  pub above : KeptAbove (row_for low_book 7) (days_after 7 low_book gap_calls []) 1

-- Through four nights: the week of examples/chain, by its third instrument. Its exact moves, the last one first; and the prices' own variance, 2,356,567,492 and a
-- part, where 2,356,590,081 is kept.
pub record WeekFromPrices : Type 0 where
  pub moves :
      exact_moves_of (days_through 2003 week_book monday_to_thursday friday)
      ≡ over 15000000 6240 ∷ over 25000000 6215 ∷ over 110000000 6105 ∷ over 382000000 6612 ∷ over 535000000 6640 ∷ []
  pub own :
      let days = days_through 2003 week_book monday_to_thursday friday in
      (2356567492 * prices_under days ≤ prices_after (row_for week_book 2003) days) × (prices_after (row_for week_book 2003) days < 2356567493 * prices_under days)
  pub above : KeptAbove (row_for week_book 2003) (days_through 2003 week_book monday_to_thursday friday) 2356590081
