-- Runs that keep their days: each day with the row that it met. The runs of demand 3 keep of a day its move alone, in whole millionths, and the exact move asks for
-- the row's prices; Promises/Days.antt says that the two are the same runs.
use Rattle.std.specs.Prelude.{ℕ, ◌≡◌, cond, ◌&&◌, List, [], ◌∷◌, eqb}
use Rattle.paper.specs.Rates.{Day, Figures, accepted, move_on, day_on}
use Rattle.paper.specs.Book.{row_for}
use Rattle.paper.specs.Calls.{Call, opening, closing, parameters, halt, day, why, corridor, bond, answer, after, after_all}
use Rattle.paper_sheets.specs.Promises.Evening.{next_morning, after_nights}

-- A day of a run: the row that it met, and what it brought.
pub record RunDay : Type 0 where
  pub row : List ℕ
  pub day : Day

abbrev pub met : List ℕ → Day → RunDay
met row d = record { row = row; day = d }

-- The moves of a run's days, in whole millionths.
abbrev pub moves_of : List RunDay → List ℕ
moves_of [] = []
moves_of (m ∷ days) = (move_on m.row m.day).size ∷ moves_of days

-- A run from a row: the row that it has come to, and its days, the last one first. Each day is accepted, on the row that the day before left.
pub data RunOver (start : List ℕ) : List ℕ → List RunDay → Type 0 where
  no_days : RunOver start start []
  a_day : {row next : List ℕ} {days : List RunDay} {f : Figures} (d : Day) → RunOver start row days → day_on row d ≡ accepted f next → RunOver start next (met row d ∷ days)

-- An instrument's accepted days, the last one first, each with the row that it met: those before a call, and with it.
abbrev pub days_with : ℕ → List ℕ → Call → List RunDay → List RunDay
days_with i book (opening row) days = days
days_with i book (closing k) days = days
days_with i book (parameters k ps) days = days
days_with i book (halt k value) days = days
days_with i book (day d) days =
    cond (eqb d.instrument i && eqb (answer book (day d)).number 0) (met (row_for book i) d ∷ days) days
days_with i book (why d) days = days
days_with i book (corridor k t) days = days
days_with i book (bond k t b) days = days

-- Those before a list of calls, and with it.
abbrev pub days_after : ℕ → List ℕ → List Call → List RunDay → List RunDay
days_after i book [] days = days
days_after i book (call ∷ calls) days = days_after i (after book call) calls (days_with i book call days)

-- Those before past days, each with its night, and with them; and those of past days and the calls of today.
abbrev pub days_over : ℕ → List ℕ → List (List Call) → List RunDay → List RunDay
days_over i book [] days = days
days_over i book (calls ∷ past) days = days_over i (next_morning (after_all book calls)) past (days_after i book calls days)

abbrev pub days_through : ℕ → List ℕ → List (List Call) → List Call → List RunDay
days_through i book past calls = days_after i (after_nights book past) calls (days_over i book past [])
