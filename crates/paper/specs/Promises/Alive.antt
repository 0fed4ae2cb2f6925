-- Nothing is vacuous: the example sheet's calls answer what the example prints,
-- calls in the middle and in the last row of a book answer and leave what was worked by hand, and each refusal of a call is met.
use Rattle.std.specs.Prelude.{ℕ, zero, suc, ◌*◌, ◌≡◌, List, [], ◌∷◌, pos, neg_ℤ, replicate, set}
use Rattle.paper.specs.Row.{width, parameters_of}
use Rattle.paper.specs.Book.{rows, with_row}
use Rattle.paper.specs.Calls.{opening, closing, parameters, halt, day, corridor, answer, after}
use Rattle.paper.specs.Promises.Worked.{sheet_row_of, sheet_row, day_of, day_at, distinct_row, terms_at}

-- The empty book; the same once the example sheet's instrument is open, and after the sheet's first and second day.
abbrev pub empty_book : List ℕ
empty_book = replicate (rows * width) 0

abbrev pub open_book : List ℕ
open_book = after empty_book (opening (sheet_row 2000 100000 100000))

abbrev pub book101 : List ℕ
book101 = after open_book (day (day_at 101 103000 0 0))

abbrev pub book102 : List ℕ
book102 = after book101 (day (day_at 102 103000 6 0))

-- The four lines that the example sheet gives.
pub record ExampleSheet : Type 0 where
  pub opens : answer empty_book (opening (sheet_row 2000 100000 100000)) ≡ record { number = 0; figures = [] }
  pub day101 : answer open_book (day (day_at 101 103000 0 0)) ≡ record { number = 0; figures = 60000 ∷ 120000 ∷ 60000 ∷ 500000000 ∷ 0 ∷ 1 ∷ [] }
  pub day102 : answer book101 (day (day_at 102 103000 6 0)) ≡ record { number = 0; figures = 140000 ∷ 280000 ∷ 70000 ∷ 580000000 ∷ 0 ∷ 2 ∷ [] }
  pub corridor73 :
      answer book102 (corridor 7 (terms_at 73 (neg_ℤ (pos 1000)) (pos 1000) 50000 20000 1000))
      ≡ record { number = 0; figures = 101000 ∷ 108000 ∷ [] }

-- A book of three instruments: 7 in the first row, 11 in row 30, and the greatest number in the last.
abbrev pub greatest_instrument : ℕ
greatest_instrument = 999999999

abbrev pub three_book : List ℕ
three_book =
    with_row
    (with_row (with_row empty_book 0 (sheet_row 2000 100000 100000)) 30 (distinct_row 1 900000000 85000 298))
    63
    (sheet_row_of greatest_instrument 2000 100000 100000)

-- Calls in the middle and in the last row, and an opening into the lowest free one: what each answers, and the whole book after it.
pub record ThreeInstruments : Type 0 where
  pub middle_day : answer three_book (day (day_of 11 301 51000 2 1)) ≡ record { number = 0; figures = 145000 ∷ 220000 ∷ 100000 ∷ 1350937500 ∷ 0 ∷ 2 ∷ [] }
  pub middle_after :
      after three_book (day (day_of 11 301 51000 2 1))
      ≡ with_row three_book 30
      (11 ∷ 2600 ∷ 1500 ∷ 700 ∷ 5000 ∷ 4 ∷ 3 ∷ 7 ∷ 12000 ∷ 60000 ∷ 240000 ∷ 90000 ∷ 310000 ∷ 1
      ∷ 1350937500 ∷ 100000 ∷ 145000 ∷ 220000 ∷ 301 ∷ 301 ∷ 51000 ∷ 50000 ∷ 0 ∷ [])
  pub last_parameters :
      after three_book (parameters greatest_instrument (parameters_of (sheet_row 500 1 1)))
      ≡ with_row three_book 63 (sheet_row_of greatest_instrument 500 100000 100000)
  pub last_closed : after three_book (closing greatest_instrument) ≡ with_row three_book 63 (replicate width 0)
  pub last_corridor :
      answer three_book (corridor greatest_instrument (terms_at 73 (neg_ℤ (pos 1000)) (pos 1000) 50000 20000 1000))
      ≡ record { number = 0; figures = 98000 ∷ 104000 ∷ [] }
  pub lowest_opened : after three_book (opening (sheet_row_of 8 2000 100000 100000)) ≡ with_row three_book 1 (sheet_row_of 8 2000 100000 100000)

-- Rows of the example sheet's values for the instruments from 1 to a number, in falling order.
abbrev pub rows_down : ℕ → List ℕ
rows_down zero = []
rows_down (suc n) = append (sheet_row_of (suc n) 2000 100000 100000) (rows_down n)
  where
    append : List ℕ → List ℕ → List ℕ
    append [] rest = rest
    append (w ∷ ws) rest = w ∷ append ws rest

-- Each refusal of a call, by a call that meets it and none before it.
pub record Refusals : Type 0 where
  pub unsound : (answer [] (closing 0)).number ≡ 1
  pub range : (answer three_book (closing 0)).number ≡ 2
  pub known : (answer three_book (opening (sheet_row_of greatest_instrument 2000 100000 100000))).number ≡ 3
  pub full : (answer (rows_down 64) (opening (sheet_row_of 65 2000 100000 100000))).number ≡ 4
  pub unknown : (answer three_book (closing 8)).number ≡ 5
  pub stale : (answer three_book (day (day_of 11 300 51000 0 0))).number ≡ 6
  pub move : (answer three_book (day (day_of greatest_instrument 101 200001 0 0))).number ≡ 7
  pub empty : (answer three_book (corridor 11 (terms_at 73 (pos 0) (pos 0) 50000 20000 1000000))).number ≡ 8
  pub halted : (answer (after three_book (halt 11 1)) (day (day_of 11 301 51000 2 1))).number ≡ 12
  pub step : (answer three_book (parameters greatest_instrument (set (parameters_of (sheet_row 2000 1 1)) 3 20000))).number ≡ 10
