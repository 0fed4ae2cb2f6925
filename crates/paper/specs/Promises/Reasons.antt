-- Why a day has its figures. Each reason is given exactly when the rule's own quantities say so, and the figure is then the one that it names;
-- an asking gives the refusal or the figures that the day gives which is given next, and leaves the book. And the cases worked by hand, ties among them.
use Rattle.std.specs.Prelude.{ℕ, ◌+◌, ◌*◌, ◌-◌, ◌≤◌, ◌<◌, max, ◌≡◌, Bool, true, false, List, [], ◌∷◌, ◌++◌, ◌↔◌, leb, replicate, set, take}
use Rattle.paper.specs.Row as Row
use Rattle.paper.specs.Rates.{ceil_div, square, Day, Figures, figure_list, candidate, covers_margin, move_on, day_on}
use Rattle.paper.specs.Reasons.{Weight, Upper, Lower, Branch, Rise, Fall, Kept, SetBy, NotMonitored, Greatest, Least, Preliminary, Reasons, reason_list, reasons_of}
use Rattle.paper.specs.Calls.{day, why, why_figures, answer, after}
use Rattle.paper.specs.Values.{Values, words}
use Rattle.paper.specs.Promises.Found.{IsLeastMultiple}
use Rattle.paper.specs.Promises.Worked.{sheet_row, day_of, day_at, after102, after103, distinct_row}
use Rattle.paper.specs.Promises.Calls.{Keeps}
use Rattle.paper.specs.Promises.Alive.{greatest_instrument, three_book}
use Rattle.paper.specs.Promises.Calendar.{IsNext}

-- Rule 2: when each weight is taken, by D and V, and which it is.
abbrev pub TakesWeight : Values → ℕ → Weight → Type 0
TakesWeight v D Upper = v.variance < square D
TakesWeight v D Lower = square D ≤ v.variance

abbrev pub weight_of : Values → Weight → ℕ
weight_of v Upper = v.parameters.upper
weight_of v Lower = v.parameters.lower

-- Rule 3: when a day is a shock day, by D, the margin kept from the day before, and j; and when it is none.
abbrev pub IsShockDay : Values → Day → ℕ → Bool → Type 0
IsShockDay v d D true = (v.margin < D) × (d.j ≤ 1)
IsShockDay v d D false = (v.margin < D) → 1 < d.j

-- Rule 5: when each branch is taken, by the candidate c, the old preliminary, h, n and the day of the last change, and what it gives.
abbrev pub TakesBranch : Values → Day → ℕ → Branch → Type 0
TakesBranch v d c Rise = v.preliminary + v.parameters.h ≤ c
TakesBranch v d c Fall = (c + v.parameters.h ≤ v.preliminary) × (v.last_change + v.parameters.n ≤ d.day)
TakesBranch v d c Kept =
    (c < v.preliminary + v.parameters.h) × (c + v.parameters.h ≤ v.preliminary → d.day < v.last_change + v.parameters.n)

abbrev pub preliminary_by : Values → ℕ → Branch → ℕ
preliminary_by v c Rise = c
preliminary_by v c Fall = v.preliminary - v.parameters.h
preliminary_by v c Kept = v.preliminary

-- Rule 6: what sets the margin, by the greatest, the least rounded up to a multiple of h, and the sum, the preliminary with its add-on, rounded up
-- to one; and what the margin then is.
abbrev pub SetsMargin : Values → ℕ → ℕ → SetBy → Type 0
SetsMargin v least sum NotMonitored = v.parameters.M ≡ 0
SetsMargin v least sum Greatest = (v.parameters.M ≡ 1) × (v.parameters.greatest_margin ≤ max least sum)
SetsMargin v least sum Least = (v.parameters.M ≡ 1) × (sum ≤ least) × (least < v.parameters.greatest_margin)
SetsMargin v least sum Preliminary = (v.parameters.M ≡ 1) × (least < sum) × (sum < v.parameters.greatest_margin)

abbrev pub margin_by : Values → ℕ → ℕ → SetBy → ℕ
margin_by v least sum NotMonitored = v.parameters.least_margin
margin_by v least sum Greatest = v.parameters.greatest_margin
margin_by v least sum Least = least
margin_by v least sum Preliminary = sum

-- The reasons of an accepted day whose move is D are true of the rules, both ways.
pub record AreReasons (v : Values) (d : Day) (D : ℕ) (f : Figures) (r : Reasons) : Type 0 where
  pub weight : (w : Weight) → (r.weight ≡ w) ↔ TakesWeight v D w
  pub variance : let w = weight_of v r.weight in f.variance ≡ ceil_div ((10000 - w) * v.variance + w * square D) 10000
  pub shock : (s : Bool) → (r.shock ≡ s) ↔ IsShockDay v d D s
  pub branch :
      (b : Branch) → (r.branch ≡ b) ↔ TakesBranch v d (candidate v.parameters.h v.parameters.alpha f.variance D r.shock) b
  pub preliminary : f.preliminary ≡ preliminary_by v (candidate v.parameters.h v.parameters.alpha f.variance D r.shock) r.branch
  -- The two rates that are rounded up, each once: they are the least multiples of h that are not below.
  pub least : ℕ
  pub is_least : IsLeastMultiple v.parameters.h (leb v.parameters.least_margin) least
  pub sum : ℕ
  pub is_sum : IsLeastMultiple v.parameters.h (covers_margin f.preliminary v.parameters.T d.m v.parameters.R) sum
  pub margin : (s : SetBy) → (r.margin ≡ s) ↔ SetsMargin v least sum s
  pub published : f.margin ≡ margin_by v least sum r.margin

abbrev pub ReasonsMean : Type 0
ReasonsMean =
    (v : Values) (d : Day) (f : Figures) (next : List ℕ) → IsNext v d f next → AreReasons v d (move_on (words v) d).size f (reasons_of (words v) d f)

-- So are those that an accepted asking hands out, after the figures, by the values that the row keeps.
abbrev pub WhyIsTrue : Type 0
WhyIsTrue =
    (book : List ℕ) (d : Day) → (answer book (why d)).number ≡ 0
    → (v : Values) × (f : Figures) × (next : List ℕ) × (r : Reasons) × Keeps book d.instrument v × IsNext v d f next
    × AreReasons v d (move_on (words v) d).size f r × ((answer book (why d)).figures ≡ figure_list f ++ reason_list r)

-- Whatever the book and the day, refused or not: the day, given on the book that the asking leaves, has the same number and the same figures,
-- and that book is the one that was asked of.
pub record WhyIsDay : Type 0 where
  pub number : (book : List ℕ) (d : Day) → (answer book (why d)).number ≡ (answer (after book (why d)) (day d)).number
  pub figures : (book : List ℕ) (d : Day) → take 6 (answer book (why d)).figures ≡ (answer (after book (why d)) (day d)).figures
  pub untouched : (book : List ℕ) (d : Day) → after book (why d) ≡ book

-- What a day asked about on a row hands out.
abbrev pub why_on : List ℕ → Day → List ℕ
why_on row d = why_figures row d (day_on row d)

-- The row whose words all differ, in which one is another.
abbrev pub distinct_with : ℕ → ℕ → ℕ → ℕ → ℕ → List ℕ
distinct_with variance preliminary last_change place value = set (distinct_row 1 variance preliminary last_change) place value

-- Every reason, worked by hand: after the six figures the weight, the shock day, the branch, and what set the margin.
pub record WhyWorked : Type 0 where
  -- The example sheet's days: the upper weight, a rise, the preliminary; and P5 and P6, the lower weight, a fall that waits and one that has waited.
  pub day101 : why_on (sheet_row 2000 100000 100000) (day_at 101 103000 0 0) ≡ 60000 ∷ 120000 ∷ 60000 ∷ 500000000 ∷ 0 ∷ 1 ∷ 1 ∷ 0 ∷ 1 ∷ 4 ∷ []
  pub p5 : why_on after102 (day_at 103 103000 0 0) ≡ 70000 ∷ 140000 ∷ 70000 ∷ 551000000 ∷ 1 ∷ 1 ∷ 2 ∷ 0 ∷ 3 ∷ 4 ∷ []
  pub p6 : why_on after103 (day_at 104 103000 0 0) ≡ 60000 ∷ 120000 ∷ 60000 ∷ 523450000 ∷ 0 ∷ 1 ∷ 2 ∷ 0 ∷ 2 ∷ 4 ∷ []
  -- P8: a shock day with j 1, and none with j 2. D is 61,000 and the margin kept 50,000; the margin published is 70,000, above D.
  pub p8_shock : why_on (sheet_row 500 100000 100000) (day_at 101 106100 0 1) ≡ 70000 ∷ 140000 ∷ 70000 ∷ 566050000 ∷ 0 ∷ 1 ∷ 1 ∷ 1 ∷ 1 ∷ 4 ∷ []
  pub p8_calm : why_on (sheet_row 500 100000 100000) (day_at 101 106100 0 2) ≡ 60000 ∷ 120000 ∷ 60000 ∷ 566050000 ∷ 0 ∷ 1 ∷ 1 ∷ 0 ∷ 1 ∷ 4 ∷ []
  -- D is 62,500. Where its square equals V the weight is the lower one, and where it exceeds V by one the upper one, to the same variance.
  pub square_equal : why_on (distinct_row 1 3906250000 85000 298) (day_of 11 301 51000 2 1) ≡ 230000 ∷ 310000 ∷ 165000 ∷ 3906250000 ∷ 0 ∷ 2 ∷ 2 ∷ 0 ∷ 1 ∷ 4 ∷ []
  pub square_exceeds : why_on (distinct_row 1 3906249999 85000 298) (day_of 11 301 51000 2 1) ≡ 230000 ∷ 310000 ∷ 165000 ∷ 3906250000 ∷ 0 ∷ 2 ∷ 1 ∷ 0 ∷ 1 ∷ 4 ∷ []
  -- It equals the margin kept, exceeds it by one, and does so with j 2; the candidate is above it in all three.
  pub margin_met : why_on (distinct_with 900000000 85000 298 Row.margin 62500) (day_of 11 301 51000 2 1) ≡ 145000 ∷ 220000 ∷ 100000 ∷ 1350937500 ∷ 0 ∷ 2 ∷ 1 ∷ 0 ∷ 1 ∷ 4 ∷ []
  pub margin_passed : why_on (distinct_with 900000000 85000 298 Row.margin 62499) (day_of 11 301 51000 2 1) ≡ 145000 ∷ 220000 ∷ 100000 ∷ 1350937500 ∷ 0 ∷ 2 ∷ 1 ∷ 1 ∷ 1 ∷ 4 ∷ []
  pub two_holidays : why_on (distinct_with 900000000 85000 298 Row.margin 62499) (day_of 11 301 51000 2 2) ≡ 145000 ∷ 220000 ∷ 100000 ∷ 1350937500 ∷ 0 ∷ 2 ∷ 1 ∷ 0 ∷ 1 ∷ 4 ∷ []
  -- The candidate is 100,000 and h 5,000: one step above the old one, equal to it, and one step below it on the fourth day of four and on the third.
  pub step_above : why_on (distinct_row 1 900000000 95000 298) (day_of 11 301 51000 2 1) ≡ 145000 ∷ 220000 ∷ 100000 ∷ 1350937500 ∷ 0 ∷ 2 ∷ 1 ∷ 0 ∷ 1 ∷ 4 ∷ []
  pub no_step : why_on (distinct_row 1 900000000 100000 298) (day_of 11 301 51000 2 1) ≡ 145000 ∷ 220000 ∷ 100000 ∷ 1350937500 ∷ 3 ∷ 2 ∷ 1 ∷ 0 ∷ 3 ∷ 4 ∷ []
  pub step_below : why_on (distinct_row 1 900000000 105000 297) (day_of 11 301 51000 2 1) ≡ 145000 ∷ 220000 ∷ 100000 ∷ 1350937500 ∷ 0 ∷ 2 ∷ 1 ∷ 0 ∷ 2 ∷ 4 ∷ []
  pub step_waits : why_on (distinct_row 1 900000000 105000 298) (day_of 11 301 51000 2 1) ≡ 150000 ∷ 230000 ∷ 105000 ∷ 1350937500 ∷ 3 ∷ 2 ∷ 1 ∷ 0 ∷ 3 ∷ 4 ∷ []
  -- Not monitored: the least margin, and no reason beside it, though the least and the greatest are equal.
  pub unmonitored : why_on (distinct_row 0 900000000 85000 298) (day_of 11 301 51000 2 1) ≡ 60000 ∷ 90000 ∷ 100000 ∷ 1350937500 ∷ 0 ∷ 2 ∷ 1 ∷ 0 ∷ 1 ∷ 1 ∷ []
  pub unmonitored_equal :
      why_on (set (distinct_row 0 900000000 85000 298) Row.greatest_margin 60000) (day_of 11 301 51000 2 1)
      ≡ 60000 ∷ 90000 ∷ 100000 ∷ 1350937500 ∷ 0 ∷ 2 ∷ 1 ∷ 0 ∷ 1 ∷ 1 ∷ []
  -- The greatest: the preliminary gives 345,000, and 145,000 just as the greatest is; with a greatest of one more it is the preliminary.
  pub cut : why_on (distinct_row 1 900000000 85000 298) (day_of 11 301 51000 30 1) ≡ 240000 ∷ 310000 ∷ 100000 ∷ 1350937500 ∷ 0 ∷ 2 ∷ 1 ∷ 0 ∷ 1 ∷ 2 ∷ []
  pub just_greatest :
      why_on (distinct_with 900000000 85000 298 Row.greatest_margin 145000) (day_of 11 301 51000 2 1)
      ≡ 145000 ∷ 220000 ∷ 100000 ∷ 1350937500 ∷ 0 ∷ 2 ∷ 1 ∷ 0 ∷ 1 ∷ 2 ∷ []
  pub below_greatest :
      why_on (distinct_with 900000000 85000 298 Row.greatest_margin 145001) (day_of 11 301 51000 2 1)
      ≡ 145000 ∷ 220000 ∷ 100000 ∷ 1350937500 ∷ 0 ∷ 2 ∷ 1 ∷ 0 ∷ 1 ∷ 4 ∷ []
  -- The figure equals the greatest and the least: the greatest.
  pub both_equal :
      why_on (distinct_with 1 0 298 Row.greatest_margin 60000) (day_of 11 301 50000 0 1) ≡ 60000 ∷ 90000 ∷ 45000 ∷ 260420835 ∷ 0 ∷ 2 ∷ 1 ∷ 0 ∷ 1 ∷ 2 ∷ []
  -- The least rounded up equals what the preliminary gives, 60,000 and 145,000: the least; and one step below it: the preliminary, which the old one,
  -- giving 125,000, would not be.
  pub least_equal : why_on (distinct_row 1 1 0 298) (day_of 11 301 50000 0 1) ≡ 60000 ∷ 90000 ∷ 45000 ∷ 260420835 ∷ 0 ∷ 2 ∷ 1 ∷ 0 ∷ 1 ∷ 3 ∷ []
  pub least_rounded_equal :
      why_on (distinct_with 900000000 85000 298 Row.least_margin 140001) (day_of 11 301 51000 2 1)
      ≡ 145000 ∷ 220000 ∷ 100000 ∷ 1350937500 ∷ 0 ∷ 2 ∷ 1 ∷ 0 ∷ 1 ∷ 3 ∷ []
  pub least_below :
      why_on (distinct_with 900000000 85000 298 Row.least_margin 140000) (day_of 11 301 51000 2 1)
      ≡ 145000 ∷ 220000 ∷ 100000 ∷ 1350937500 ∷ 0 ∷ 2 ∷ 1 ∷ 0 ∷ 1 ∷ 4 ∷ []
  -- The least, 61,000, is no multiple of h: rounded up it is 65,000, above what the preliminary gives; then the greatest cuts it, or equals it.
  pub least_rounded :
      why_on (distinct_with 1 0 298 Row.least_margin 61000) (day_of 11 301 50000 0 1) ≡ 65000 ∷ 90000 ∷ 45000 ∷ 260420835 ∷ 0 ∷ 2 ∷ 1 ∷ 0 ∷ 1 ∷ 3 ∷ []
  pub least_cut :
      why_on (set (distinct_with 1 0 298 Row.least_margin 61000) Row.greatest_margin 62000) (day_of 11 301 50000 0 1)
      ≡ 62000 ∷ 90000 ∷ 45000 ∷ 260420835 ∷ 0 ∷ 2 ∷ 1 ∷ 0 ∷ 1 ∷ 2 ∷ []
  pub least_cut_equal :
      why_on (set (distinct_with 1 0 298 Row.least_margin 61000) Row.greatest_margin 65000) (day_of 11 301 50000 0 1)
      ≡ 65000 ∷ 90000 ∷ 45000 ∷ 260420835 ∷ 0 ∷ 2 ∷ 1 ∷ 0 ∷ 1 ∷ 2 ∷ []

-- Asked of a book: in its middle and in its last row, and refused, with zeros.
pub record WhyOfBook : Type 0 where
  pub middle :
      answer three_book (why (day_of 11 301 51000 2 1))
      ≡ record { number = 0; figures = 145000 ∷ 220000 ∷ 100000 ∷ 1350937500 ∷ 0 ∷ 2 ∷ 1 ∷ 0 ∷ 1 ∷ 4 ∷ [] }
  pub last :
      answer three_book (why (day_of greatest_instrument 101 103000 0 0))
      ≡ record { number = 0; figures = 60000 ∷ 120000 ∷ 60000 ∷ 500000000 ∷ 0 ∷ 1 ∷ 1 ∷ 0 ∷ 1 ∷ 4 ∷ [] }
  pub stale : answer three_book (why (day_of 11 300 51000 0 0)) ≡ record { number = 6; figures = replicate 10 0 }
  pub move : answer three_book (why (day_of greatest_instrument 101 200001 0 0)) ≡ record { number = 7; figures = replicate 10 0 }
