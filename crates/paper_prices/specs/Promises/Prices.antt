-- Demand 3 from the prices themselves. Over any run of accepted days the kept variance is never below the one carried exactly from the fractions that the
-- prices form, with exact squares deciding the weight; by how little it exceeds that one; and the candidate is within one step of the prices' own.
use Rattle.std.specs.Prelude.{ℕ, ◌+◌, ◌*◌, ◌-◌, ◌≤◌, ◌<◌, ◌≡◌, true, List, [], ◌∷◌, length}
use Rattle.paper.specs.Row as Row
use Rattle.paper.specs.Row.{word, row_in_range}
use Rattle.paper.specs.Rates.{Day, Figures, accepted, day_on}
use Rattle.paper.specs.Exact.{denominator}
use Rattle.paper.specs.Promises.Drift.{smaller_weight, exact_after, candidate_of, IsCovered}
use Rattle.paper_prices.specs.Days.{RunDay, met, moves_of, RunOver}
use Rattle.paper_prices.specs.Prices.{Fraction, exact_move_on, price_denominator, price_variance, price_shock, price_candidate, is_root_within_one, greatest_of}

-- The exact moves of a run's days.
abbrev pub exact_moves_of : List RunDay → List Fraction
exact_moves_of [] = []
exact_moves_of (m ∷ days) = exact_move_on m.row m.day ∷ exact_moves_of days

-- Each day brought a price, so a price above 0. (A day whose price is 0 is refused as Range by every call.)
abbrev pub HavePrices : List RunDay → Type 0
HavePrices [] = Unit {0}
HavePrices (m ∷ days) = (0 < m.day.price) × HavePrices days

-- The numerator of the prices' own variance after a run's days: it starts at the same V and goes over the exact moves. Its denominator is that of these moves.
abbrev pub prices_after : List ℕ → List RunDay → ℕ
prices_after start days =
    price_variance (word start Row.upper_weight) (word start Row.lower_weight) (word start Row.variance) (exact_moves_of days)

abbrev pub prices_under : List RunDay → ℕ
prices_under days = price_denominator (exact_moves_of days)

-- A kept variance V beside the prices' own, x over M, and the one that demand 3 carries from the whole-millionth moves, e over N. W is the smaller weight, D
-- the greatest move of the run.
-- V is not below x / M: x is at most V M. Neither is e / N, and its root is at most one millionth above that of x / M.
-- V exceeds x / M by less than 2 D and 10,000 over W together: (V M - x) W is less than (2 D W + 10,000) M.
pub record IsAbovePrices (W D N e M x v : ℕ) : Type 0 where
  pub positive : 0 < M
  pub not_below : x ≤ v * M
  pub exact_not_below : x * N ≤ e * M
  pub roots : is_root_within_one N e M x ≡ true
  pub near : (v * M - x) * W < (2 * D * W + 10000) * M

-- So a variance that is kept after a run's days from a row is.
abbrev pub KeptAbove : List ℕ → List RunDay → ℕ → Type 0
KeptAbove start days v =
    let moves = moves_of days in
    IsAbovePrices (smaller_weight start) (greatest_of moves) (denominator (length moves)) (exact_after start moves) (prices_under days) (prices_after start days) v

-- Over any run of accepted days from a row in range:
abbrev pub VarianceFromPrices : Type 0
VarianceFromPrices =
    (start row : List ℕ) (days : List RunDay) → row_in_range start ≡ true → HavePrices days → RunOver start row days → KeptAbove start days (word row Row.variance)

-- The candidate that the prices' own variance gives on a day after a run, its own move telling whether it is a shock day.
abbrev pub price_candidate_of : List ℕ → List RunDay → List ℕ → Day → ℕ
price_candidate_of start days row d =
    let exact = exact_move_on row d in
    let now : List RunDay = met row d ∷ days in
    price_candidate (word start Row.step) (word start Row.alpha) (prices_under now) (prices_after start now) exact
    (price_shock (word row Row.margin) d.j exact)

-- The candidate of a day with these figures, on the row that a run's days have come to, is not below the prices' own and at most one step above it, and the
-- preliminary not below the candidate.
abbrev pub CoveredFrom : List ℕ → List RunDay → List ℕ → Day → Figures → Type 0
CoveredFrom start days row d f =
    IsCovered (word start Row.step) (price_candidate_of start days row d) (candidate_of row d f.variance) f.preliminary

-- So it is on each accepted day that follows a run.
abbrev pub CandidateFromPrices : Type 0
CandidateFromPrices =
    (start row next : List ℕ) (days : List RunDay) (d : Day) (f : Figures) → row_in_range start ≡ true → HavePrices days → RunOver start row days
    → day_on row d ≡ accepted f next → CoveredFrom start days row d f
