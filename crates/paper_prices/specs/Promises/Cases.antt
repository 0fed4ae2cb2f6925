-- The bounds from the prices are real: runs of one day, by computing.
use Rattle.std.specs.Prelude.{ℕ, ◌+◌, ◌*◌, ◌-◌, ◌<◌, ◌≡◌, true, List, [], ◌∷◌}
use Rattle.paper.specs.Row as Row
use Rattle.paper.specs.Row.{word, row_in_range}
use Rattle.paper.specs.Rates.{square, Day, Newer, move_on}
use Rattle.paper.specs.Exact.{exact_weight}
use Rattle.paper.specs.Promises.Worked.{row_after, day_of}
use Rattle.paper.specs.Promises.Drift.{smaller_weight, exact_after, candidate_of}
use Rattle.paper_prices.specs.Days.{RunDay, met, moves_of, RunOver}
use Rattle.paper_prices.specs.Prices.{Fraction, exact_move, exact_move_on, is_root_within_one}
use Rattle.paper_prices.specs.Promises.Prices.{prices_after, prices_under, price_candidate_of}

-- A fraction by its parts.
abbrev pub over : ℕ → ℕ → Fraction
over top bottom = record { top = top; bottom = bottom }

-- A row with these weights, this variance and these kept prices; alpha is 3, h is 10,000. A day of it at a price, and the run of that day.
abbrev pub price_row : ℕ → ℕ → ℕ → ℕ → ℕ → List ℕ
price_row upper lower variance newer older =
    7
    ∷ 3000
    ∷ upper
    ∷ lower
    ∷ 10000
    ∷ 2
    ∷ 2
    ∷ 8
    ∷ 0
    ∷ 0
    ∷ 1000000
    ∷ 0
    ∷ 1000000
    ∷ 1
    ∷ variance
    ∷ 10000
    ∷ 10000
    ∷ 20000
    ∷ 95
    ∷ 100
    ∷ newer
    ∷ older
    ∷ 0
    ∷ []

abbrev pub day_at : ℕ → Day
day_at price = day_of 7 101 price 0 0

abbrev pub one_day : List ℕ → ℕ → List RunDay
one_day row price = met row (day_at price) ∷ []

-- The larger quotient is not told by the price that a day names. Kept 999,999 and 1,000,002, at 1,000,000: both are 2 whole millionths, so the newer is named,
-- and the exact maximum is the older's. Where the quotients themselves are the same it is the newer's.
abbrev pub named_row : List ℕ
named_row = price_row 2000 500 400000000 999999 1000002

pub record NotByName : Type 0 where
  pub named : (move_on named_row (day_at 1000000)).from ≡ Newer
  pub size : (move_on named_row (day_at 1000000)).size ≡ 2
  pub older : exact_move_on named_row (day_at 1000000) ≡ over 2000000 1000002
  pub newer : exact_move 1000002 999999 1000000 ≡ over 2000000 1000002
  pub same : exact_move_on (price_row 2000 500 400000000 300 600) (day_at 400) ≡ over 100000000 300

-- Different weights. Kept 3, at 4, V 111,111,200,000, weights 10,000 and 1: the whole move's square exceeds V and the exact one's does not. 111,111,555,556 is kept
-- where the prices give 10,000,007,999,200,000 over 90,000, which is 111,111,199,991.1; so it is above by more than 10,000 over the smaller weight, and demand 3's
-- own bound does not hold from the prices.
abbrev pub thirds_row : List ℕ
thirds_row = price_row 10000 1 111111200000 3 3

pub record WeightsDiffer : Type 0 where
  pub in_range : row_in_range thirds_row ≡ true
  pub run : RunOver thirds_row (row_after thirds_row (day_at 4)) (one_day thirds_row 4)
  pub moves : moves_of (one_day thirds_row 4) ≡ 333334 ∷ []
  pub exact : exact_move_on thirds_row (day_at 4) ≡ over 1000000 3
  pub whole_weight : exact_weight 10000 1 1 111111200000 333334 ≡ 10000
  pub own_weight : exact_weight 10000 1 1 (111111200000 * square 3) 1000000 ≡ 1
  pub kept : word (row_after thirds_row (day_at 4)) Row.variance ≡ 111111555556
  pub under : prices_under (one_day thirds_row 4) ≡ 90000
  pub own : prices_after thirds_row (one_day thirds_row 4) ≡ 10000007999200000
  pub farther : 10000 * 90000 < (111111555556 * 90000 - 10000007999200000) * smaller_weight thirds_row

-- A step above. Kept 300, at 307: 70,000 over 3 millionths, of which 70,000 is three times the root. 23,334 whole ones ask for 80,000.
abbrev pub step_row : List ℕ
step_row = price_row 10000 500 400000000 300 300

pub record StepFromPrices : Type 0 where
  pub in_range : row_in_range step_row ≡ true
  pub run : RunOver step_row (row_after step_row (day_at 307)) (one_day step_row 307)
  pub exact : exact_move_on step_row (day_at 307) ≡ over 7000000 300
  pub kept : word (row_after step_row (day_at 307)) Row.variance ≡ 544475556
  pub own : 9 * prices_after step_row (one_day step_row 307) ≡ 4900000000 * prices_under (one_day step_row 307)
  pub above : prices_after step_row (one_day step_row 307) < 544475556 * prices_under (one_day step_row 307)
  pub own_candidate : price_candidate_of step_row [] step_row (day_at 307) ≡ 70000
  pub candidate : candidate_of step_row (day_at 307) 544475556 ≡ 80000

-- The bound of the root is nearly met. Kept 999,999, at 1,000,000, V 1: the root is 2 by the whole move and 1.000001 by the exact one. With P, Q and K the three
-- numbers that the bound compares, what P has more than Q + K, squared, is above nine tenths of 4 Q K.
abbrev pub root_row : List ℕ
root_row = price_row 10000 500 1 999999 999999

pub record RootNearlyMet : Type 0 where
  pub in_range : row_in_range root_row ≡ true
  pub run : RunOver root_row (row_after root_row (day_at 1000000)) (one_day root_row 1000000)
  pub moves : moves_of (one_day root_row 1000000) ≡ 2 ∷ []
  pub whole : exact_after root_row (2 ∷ []) ≡ 40000
  pub within : is_root_within_one 10000 40000 (prices_under (one_day root_row 1000000)) (prices_after root_row (one_day root_row 1000000)) ≡ true
  pub nearly :
      let P = 40000 * prices_under (one_day root_row 1000000) in
      let Q = prices_after root_row (one_day root_row 1000000) * 10000 in
      let K = 10000 * prices_under (one_day root_row 1000000) in
      9 * (4 * (Q * K)) < 10 * square (P - (Q + K))
