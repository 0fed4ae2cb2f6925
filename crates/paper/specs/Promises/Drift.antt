-- Demand 3: roundings never add up. Over any run of accepted days the kept variance is never below the exact one
-- and exceeds it by less than 10,000 over the smaller weight;
-- the candidate is never below the exact one's and at most one step above; the preliminary is never below the candidate.
use Rattle.std.specs.Prelude.{ℕ, suc, ◌+◌, ◌*◌, ◌-◌, ◌≤◌, ◌<◌, min, ◌≡◌, Bool, true, List, [], ◌∷◌, length}
use Rattle.paper.specs.Row as Row
use Rattle.paper.specs.Row.{word, parameters_of, row_in_range}
use Rattle.paper.specs.Rates.{Day, Figures, accepted, is_shock, next_variance, candidate_on, state_of, move_on, day_on}
use Rattle.paper.specs.Exact.{denominator, exact_next, exact_variance, covers_exact_need, exact_candidate}
use Rattle.paper.specs.Calls.{day_figures}
use Rattle.paper.specs.Promises.Found.{IsLeastMultiple}
use Rattle.paper.specs.Promises.Worked.{row_after}

-- A run from a row: the row that it has come to, and the moves of its days, the last one first. Each day is accepted, on the row that the day before left.
pub data Run (start : List ℕ) : List ℕ → List ℕ → Type 0 where
  begun : Run start start []
  another : {row next moves : List ℕ} {f : Figures} (d : Day) → Run start row moves → day_on row d ≡ accepted f next → Run start next ((move_on row d).size ∷ moves)

-- The smaller of a row's two weights.
abbrev pub smaller_weight : List ℕ → ℕ
smaller_weight row = min (word row Row.upper_weight) (word row Row.lower_weight)

-- The exact variance's numerator after a run's moves: it starts at the same V and goes over the same whole-millionth moves.
abbrev pub exact_after : List ℕ → List ℕ → ℕ
exact_after start moves = exact_variance (word start Row.upper_weight) (word start Row.lower_weight) (word start Row.variance) moves

-- A kept variance V beside the exact one, e over N. It is not below it: e is at most V N.
-- It exceeds it by less than 10,000 over W: (V N - e) W is less than 10,000 N.
pub record IsNear (W N e v : ℕ) : Type 0 where
  pub not_below : e ≤ v * N
  pub near : (v * N - e) * W < 10000 * N

-- Over any run of accepted days from a row in range the kept variance is near the exact one.
abbrev pub VarianceDrift : Type 0
VarianceDrift =
    (start row moves : List ℕ) → row_in_range start ≡ true → Run start row moves
    → IsNear (smaller_weight start) (denominator (length moves)) (exact_after start moves) (word row Row.variance)

-- A day's candidate, by the day's new variance.
abbrev pub candidate_of : List ℕ → Day → ℕ → ℕ
candidate_of row d v = candidate_on (parameters_of row) (state_of row) d.j (move_on row d).size v

-- The candidate that the exact variance gives on the same day: its shock days are those of the run.
abbrev pub exact_candidate_of : List ℕ → List ℕ → List ℕ → Day → ℕ
exact_candidate_of start moves row d =
    exact_candidate (word start Row.step) (word start Row.alpha) (denominator (suc (length moves)))
    (exact_after start ((move_on row d).size ∷ moves)) (move_on row d).size (is_shock (word row Row.margin) d.j (move_on row d).size)

-- A candidate is not below the exact one and at most one step above it, and the preliminary is not below the candidate.
pub record IsCovered (h exact kept preliminary : ℕ) : Type 0 where
  pub not_below : exact ≤ kept
  pub one_step : kept ≤ exact + h
  pub covered : kept ≤ preliminary

-- So it is on each accepted day that follows a run.
abbrev pub CandidateDrift : Type 0
CandidateDrift =
    (start row next moves : List ℕ) (d : Day) (f : Figures) → row_in_range start ≡ true → Run start row moves
    → day_on row d ≡ accepted f next
    → IsCovered (word start Row.step) (exact_candidate_of start moves row d) (candidate_of row d f.variance) f.preliminary

-- The exact candidate is the least multiple of h not below the exact need: its search is never cut short.
abbrev pub ExactFound : Type 0
ExactFound =
    (h alpha N e D : ℕ) (shock : Bool) → 0 < h → 0 < N
    → IsLeastMultiple h (covers_exact_need alpha N e D shock) (exact_candidate h alpha N e D shock)

-- What these stand on. For one move, the exact variance rises with the variance kept;
abbrev pub VarianceRises : Type 0
VarianceRises =
    (upper lower N D e e' : ℕ) → upper ≤ 10000 → lower ≤ 10000 → e ≤ e' → exact_next upper lower N e D ≤ exact_next upper lower N e' D

-- it multiplies distances by at most 1 less the smaller weight over 10,000, over the denominator 10,000 N;
abbrev pub VarianceNears : Type 0
VarianceNears =
    (upper lower N D e e' : ℕ) → upper ≤ 10000 → lower ≤ 10000 → e ≤ e'
    → exact_next upper lower N e' D ≤ exact_next upper lower N e D + (10000 - min upper lower) * (e' - e)

-- and rounding up adds less than one.
pub record RoundingAddsLess : Type 0 where
  pub not_below : (upper lower N D v : ℕ) → 0 < N → exact_next upper lower N (v * N) D ≤ next_variance upper lower v D * (10000 * N)
  pub less_than_one : (upper lower N D v : ℕ) → 0 < N → next_variance upper lower v D * (10000 * N) < exact_next upper lower N (v * N) D + 10000 * N

-- The bounds are real. A row like the example sheet's, with these values in place of its own:
-- alpha, the variance, and a preliminary and a margin to go with it.
abbrev pub drift_row : ℕ → ℕ → ℕ → List ℕ
drift_row alpha variance rate =
    7
    ∷ alpha
    ∷ 2000
    ∷ 500
    ∷ 10000
    ∷ 2
    ∷ 2
    ∷ 8
    ∷ 0
    ∷ 0
    ∷ 1000000
    ∷ 0
    ∷ 1000000
    ∷ 1
    ∷ variance
    ∷ rate
    ∷ rate
    ∷ rate
    ∷ 5
    ∷ 100
    ∷ 100000
    ∷ 100000
    ∷ 0
    ∷ []

-- A day on which the price stays.
abbrev pub still_day : ℕ → Day
still_day number = record { instrument = 7; day = number; price = 100000; m = 0; j = 0 }

-- A run after which the kept variance is strictly above the exact one: V 1, over two days on which the price stays, is kept at 1,
-- and the exact one is 90,250,000 over 100,000,000.
abbrev pub low_row : List ℕ
low_row = drift_row 2500 1 10000

abbrev pub low_row_after : List ℕ
low_row_after = row_after (row_after low_row (still_day 101)) (still_day 102)

pub record AboveIsReal : Type 0 where
  pub in_range : row_in_range low_row ≡ true
  pub run : Run low_row low_row_after (0 ∷ 0 ∷ [])
  pub kept : word low_row_after Row.variance ≡ 1
  pub exact : exact_after low_row (0 ∷ 0 ∷ []) ≡ 90250000
  pub above : exact_after low_row (0 ∷ 0 ∷ []) < word low_row_after Row.variance * denominator 2

-- A day on which the candidate is one step above the exact one: 544,444,445 is kept for 544,444,444.25,
-- and between them stands the greatest variance whose root, times alpha, 70,000 covers.
abbrev pub near_row : List ℕ
near_row = drift_row 3000 573099415 70000

pub record StepIsReal : Type 0 where
  pub in_range : row_in_range near_row ≡ true
  pub figures : day_figures (day_on near_row (still_day 101)) ≡ 80000 ∷ 160000 ∷ 80000 ∷ 544444445 ∷ 0 ∷ 1 ∷ []
  pub run : Run near_row (row_after near_row (still_day 101)) (0 ∷ [])
  pub exact : exact_after near_row (0 ∷ []) ≡ 5444444442500
  pub candidate_exact : exact_candidate_of near_row [] near_row (still_day 101) ≡ 70000
  pub candidate : candidate_of near_row (still_day 101) 544444445 ≡ 80000
  pub above : candidate_of near_row (still_day 101) 544444445 ≡ exact_candidate_of near_row [] near_row (still_day 101) + word near_row Row.step
