-- The no-fall period in calendar days: how long a fall waits, and what a day makes of the day of the last change,
-- on the values of a row in range and a day that is accepted.
use Rattle.std.specs.Prelude.{ℕ, ◌+◌, ◌≤◌, ◌≡◌, List, [], ◌∷◌, ◌↔◌, ◌≢◌, set}
use Rattle.paper.specs.Row as Row
use Rattle.paper.specs.Row.{word, parameters_of}
use Rattle.paper.specs.Rates.{Day, Figures, accepted, move_on, day_on}
use Rattle.paper.specs.Book.{row_for}
use Rattle.paper.specs.Calls.{opening, parameters, day_figures, answer, after}
use Rattle.paper.specs.Values.{Values, words}
use Rattle.paper.specs.Promises.Ranges.{AreValues}
use Rattle.paper.specs.Promises.Days.{candidate_for}
use Rattle.paper.specs.Promises.Worked.{day_of, day_at, row_after, after102, distinct_row}
use Rattle.paper.specs.Promises.Alive.{empty_book}

-- Values in range, and an accepted day on them.
pub record IsNext (v : Values) (d : Day) (f : Figures) (next : List ℕ) : Type 0 where
  pub in_range : AreValues v
  pub taken : day_on (words v) d ≡ accepted f next

-- Its candidate is at least h below the preliminary kept.
abbrev pub WouldFall : Values → Day → Figures → Type 0
WouldFall v d f = candidate_for v d (move_on (words v) d).size f.variance + v.parameters.h ≤ v.preliminary

-- The preliminary falls, by h.
abbrev pub Falls : Values → Figures → Type 0
Falls v f = f.preliminary + v.parameters.h ≡ v.preliminary

-- A fall waits exactly until today less the day of the last change reaches n;
abbrev pub WaitsExactly : Type 0
WaitsExactly =
    (v : Values) (d : Day) (f : Figures) (next : List ℕ) → IsNext v d f next → WouldFall v d f
    → Falls v f ↔ (v.last_change + v.parameters.n ≤ d.day)

-- so with n 0 or 1 it never waits, since today is later than the last day.
abbrev pub NeverWaits : Type 0
NeverWaits =
    (v : Values) (d : Day) (f : Figures) (next : List ℕ) → IsNext v d f next → WouldFall v d f → v.parameters.n ≤ 1 → Falls v f

-- A change, up or down, is of today: this is then the day of the last change, and 0 days are handed out.
-- Else that day stays, and the days from it to today are handed out, however many.
pub record ChangeIsToday : Type 0 where
  pub changed :
      (v : Values) (d : Day) (f : Figures) (next : List ℕ) → IsNext v d f next → f.preliminary ≢ v.preliminary
      → (word next Row.last_change ≡ d.day) × (f.days ≡ 0)
  pub kept :
      (v : Values) (d : Day) (f : Figures) (next : List ℕ) → IsNext v d f next → f.preliminary ≡ v.preliminary
      → (word next Row.last_change ≡ v.last_change) × (v.last_change + f.days ≡ d.day)

-- An opened row after new parameters, its own but for n.
abbrev pub with_period : List ℕ → ℕ → List ℕ
with_period row n =
    let i = word row Row.instrument in
    row_for (after (after empty_book (opening row)) (parameters i (set (parameters_of row) 4 n))) i

-- A row of which the preliminary last changed on day 0, after day 999,300.
abbrev pub far_row : List ℕ
far_row = row_after (distinct_row 1 900000000 100000 0) (day_of 11 999300 51000 2 1)

-- Cases worked by hand.
pub record CalendarDays : Type 0 where
  -- P5 and P6 over a holiday: with no trading on day 103 the rate of day 102 falls on day 104, two days of two.
  pub holiday : day_figures (day_on after102 (day_at 104 103000 0 0)) ≡ 60000 ∷ 120000 ∷ 60000 ∷ 551000000 ∷ 0 ∷ 1 ∷ []
  pub holiday_kept : word (row_after after102 (day_at 104 103000 0 0)) Row.last_change ≡ 104
  -- Two days after the last day, with n 4: the fourth day after the last change, and the third.
  pub fourth_day : day_figures (day_on (distinct_row 1 1 150000 298) (day_of 11 302 50000 2 1)) ≡ 200000 ∷ 305000 ∷ 145000 ∷ 260420835 ∷ 0 ∷ 2 ∷ []
  pub third_day : day_figures (day_on (distinct_row 1 1 150000 299) (day_of 11 302 50000 2 1)) ≡ 210000 ∷ 310000 ∷ 150000 ∷ 260420835 ∷ 3 ∷ 2 ∷ []
  -- New parameters leave the day of the last change: the same row falls on the third day with n 3, and waits on the fourth with n 5.
  pub shorter : day_figures (day_on (with_period (distinct_row 1 1 150000 298) 3) (day_of 11 301 50000 2 1)) ≡ 200000 ∷ 305000 ∷ 145000 ∷ 260420835 ∷ 0 ∷ 2 ∷ []
  pub longer : day_figures (day_on (with_period (distinct_row 1 1 150000 298) 5) (day_of 11 302 50000 2 1)) ≡ 210000 ∷ 310000 ∷ 150000 ∷ 260420835 ∷ 4 ∷ 2 ∷ []
  -- From day 0 to day 999,300 with no change, every day of it handed out, and then a fall on the last day that there is.
  pub far : day_figures (day_on (distinct_row 1 900000000 100000 0) (day_of 11 999300 51000 2 1)) ≡ 145000 ∷ 220000 ∷ 100000 ∷ 1350937500 ∷ 999300 ∷ 2 ∷ []
  pub far_kept : word far_row Row.last_change ≡ 0
  pub far_falls : day_figures (day_on far_row (day_of 11 999999 51000 0 1)) ≡ 110000 ∷ 165000 ∷ 95000 ∷ 1284371875 ∷ 0 ∷ 2 ∷ []
  pub far_changed : word (row_after far_row (day_of 11 999999 51000 0 1)) Row.last_change ≡ 999999
  -- Opened with the last change on the last day, long before it, and a day after it.
  pub on_last_day : (answer empty_book (opening (distinct_row 1 1 150000 300))).number ≡ 0
  pub long_before : (answer empty_book (opening (distinct_row 1 1 150000 0))).number ≡ 0
  pub day_after : (answer empty_book (opening (distinct_row 1 1 150000 301))).number ≡ 2
