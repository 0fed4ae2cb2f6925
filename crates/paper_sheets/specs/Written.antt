-- A sheet written from its rows: what reading is compared with.
use Rattle.std.specs.Prelude.{ℕ, suc, ◌^◌, ◌≤◌, ◌<◌, ◌≡◌, cond, List, [], ◌∷◌, ◌++◌, map, eqb, ℤ, pos, negsuc, length}
use Rattle.paper.specs.Row as Row
use Rattle.paper.specs.Rates.{Day}
use Rattle.paper.specs.Corridor.{Terms}
use Rattle.paper.specs.Calls.{Call, opening, day, corridor}
use Rattle.paper.specs.Each.{Each}
use Rattle.paper_sheets.specs.Sheet.{line_feed, blank, minus, decimal, Item, number, space, sign, count_form, openings, days, corridors}

-- A line written from the numbers that its form keeps.
abbrev pub written : List Item → List ℕ → List ℕ
written [] ns = line_feed ∷ []
written (space ∷ items) ns = blank ∷ written items ns
written (number ∷ items) [] = []
written (number ∷ items) (n ∷ ns) = decimal n ++ written items ns
written (sign ∷ items) [] = []
written (sign ∷ items) (s ∷ ns) = cond (eqb s 0) (written items ns) (minus ∷ written items ns)

-- A section: the count of its rows, then a line each.
abbrev pub written_rows : List Item → List (List ℕ) → List ℕ
written_rows form [] = []
written_rows form (row ∷ rows) = written form row ++ written_rows form rows

abbrev pub written_section : List Item → List (List ℕ) → List ℕ
written_section form rows = written count_form (length rows ∷ []) ++ written_rows form rows

-- A corridor's row: its instrument and its terms.
pub record Asked : Type 0 where
  pub instrument : ℕ
  pub terms : Terms

-- The rows of a sheet.
pub record Rows : Type 0 where
  pub openings : List (List ℕ)
  pub days : List Day
  pub corridors : List Asked

-- The numbers of a day's line and of a corridor's. A rate has a sign, 1 where it is below 0, and a size.
abbrev pub day_numbers : Day → List ℕ
day_numbers d = d.instrument ∷ d.day ∷ d.price ∷ d.m ∷ d.j ∷ []

abbrev pub sign_of : ℤ → ℕ
sign_of (pos n) = 0
sign_of (negsuc n) = 1

abbrev pub size_of : ℤ → ℕ
size_of (pos n) = n
size_of (negsuc n) = suc n

abbrev pub term_numbers : Terms → List ℕ
term_numbers t =
    t.k
    ∷ sign_of t.lower
    ∷ size_of t.lower
    ∷ sign_of t.upper
    ∷ size_of t.upper
    ∷ t.shift
    ∷ t.x
    ∷ t.rise
    ∷ t.fall
    ∷ t.tick
    ∷ []

abbrev pub asked_numbers : Asked → List ℕ
asked_numbers a = a.instrument ∷ term_numbers a.terms

-- The sheet of rows, and the calls that they are.
unfoldable pub sheet_of : Rows → List ℕ
sheet_of rows =
    written_section openings.form rows.openings
    ++ (written_section days.form (map day_numbers rows.days) ++ written_section corridors.form (map asked_numbers rows.corridors))

unfoldable pub calls_in : Rows → List Call
calls_in rows =
    map opening rows.openings ++ (map day rows.days ++ map (λ (a : Asked). corridor a.instrument a.terms) rows.corridors)

-- Numbers of at most 18 digits.
abbrev pub AreShort : List ℕ → Type 0
AreShort ns = Each (λ n. n < 10 ^ 18) ns

-- Rows in the sheet's form: no more than each section has, each opening of as many values as a row has, each number of at most 18 digits, and a text that is not too long.
pub record InForm (rows : Rows) : Type 0 where
  pub openings_most : length rows.openings ≤ 64
  pub days_most : length rows.days ≤ 1000
  pub corridors_most : length rows.corridors ≤ 64
  pub openings_wide : Each (λ row. length row ≡ Row.width) rows.openings
  pub openings_short : Each AreShort rows.openings
  pub days_short : Each (λ d. AreShort (day_numbers d)) rows.days
  pub corridors_short : Each (λ a. AreShort (asked_numbers a)) rows.corridors
  pub bytes_most : length (sheet_of rows) ≤ 65536
