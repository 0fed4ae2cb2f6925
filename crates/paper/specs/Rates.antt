-- The day's rules, items 1 to 7 of the methodology as condensed, and a day on a row. Rates are in millionths.
use Rattle.std.specs.Prelude.{ℕ, ◌+◌, ◌*◌, ◌-◌, ◌/◌, min, max, Bool, cond, not, ◌&&◌, ◌||◌, List, [], ◌∷◌, leb, ltb, eqb}
use Rattle.std.proofs.lemmas.List.Edits.{sets}
use Rattle.paper.specs.Least.{least_multiple}
use Rattle.paper.specs.Refusal.{Refusal}
use Rattle.paper.specs.Row as Row
use Rattle.paper.specs.Row.{◌up_to◌, instruments, day_numbers, prices, are_in, word, parameter, parameters_of}

-- A quotient rounded up.
unfoldable pub ceil_div : ℕ → ℕ → ℕ
ceil_div a b = (a + (b - 1)) / b

abbrev pub square : ℕ → ℕ
square a = a * a

-- The absolute difference: one of the two differences is 0.
abbrev pub distance : ℕ → ℕ → ℕ
distance a b = (a - b) + (b - a)

-- 1. The move (article 17, item 2). Against one kept price: the absolute difference over the kept price, in millionths, rounded up.
unfoldable pub move_from : ℕ → ℕ → ℕ
move_from kept price = ceil_div (distance price kept * 1000000) kept

-- The kept price that gives a move, and the number under which it is handed out.
pub data Price : Type 0 where
  Newer Older : Price

abbrev pub price_number : Price → ℕ
price_number Newer = 1
price_number Older = 2

-- A move: its size D, and the price that gives it.
pub record Move : Type 0 where
  pub size : ℕ
  pub from : Price

-- D is the larger of those against the two kept prices, given by the newer where both are the same whole millionths.
unfoldable pub move : ℕ → ℕ → ℕ → Move
move newer older price =
    let a = move_from newer price in
    let b = move_from older price in
    record { size = max a b; from = cond (ltb a b) Older Newer }

-- The greatest move that a day accepts.
abbrev pub greatest_move : ℕ
greatest_move = 1000000

-- 2. The variance (article 6). The weight is the upper one if D squared exceeds V, else the lower one.
abbrev pub exceeds : ℕ → ℕ → Bool
exceeds D v = ltb v (square D)

unfoldable pub weight : ℕ → ℕ → ℕ → ℕ → ℕ
weight upper lower v D = cond (exceeds D v) upper lower

-- New V is ((10,000 - w) V + w D squared) / 10,000, rounded up.
unfoldable pub next_variance : ℕ → ℕ → ℕ → ℕ → ℕ
next_variance upper lower v D =
    let w = weight upper lower v D in
    ceil_div ((10000 - w) * v + w * square D) 10000

-- 3. The need (article 17, item 4). A shock day has D above the published margin kept from the day before, and j at most 1.
unfoldable pub is_shock : ℕ → ℕ → ℕ → Bool
is_shock margin j D = ltb margin D && leb j 1

-- A rate c is not below the need: alpha times the root of V and, on a shock day, D too. Alpha is in thousandths, so the squares of alpha root V and of 1,000 c are compared.
unfoldable pub covers_need : ℕ → ℕ → ℕ → Bool → ℕ → Bool
covers_need alpha v D shock c = leb (square alpha * v) (square (1000 * c)) && (not shock || leb D c)

-- 4. The candidate (article 18, item 4): the least multiple of h not below the need. V is the new one.
unfoldable pub candidate : ℕ → ℕ → ℕ → ℕ → Bool → ℕ
candidate h alpha v D shock = least_multiple h (covers_need alpha v D shock) (alpha * (v + 1) + D)

-- 5. The preliminary. It rises to a candidate that is at least the old one plus h.
unfoldable pub rises : ℕ → ℕ → ℕ → Bool
rises h old c = leb (old + h) c

-- It falls if the candidate is at most the old one less h and the days since change, today less the day of the last change, reach n.
unfoldable pub falls : ℕ → ℕ → ℕ → ℕ → ℕ → Bool
falls h n old days c = leb (c + h) old && leb n days

-- A rise takes the candidate, a fall the old one less h; else the old one is kept.
unfoldable pub next_preliminary : ℕ → ℕ → ℕ → ℕ → ℕ → ℕ
next_preliminary h n old days c = cond (rises h old c) c (cond (falls h n old days c) (old - h) old)

-- The days since change, once any change has been taken in: a change is of today, so 0; else what they were.
unfoldable pub next_days : ℕ → ℕ → ℕ → ℕ → ℕ → ℕ
next_days h n old days c = cond (rises h old c || falls h n old days c) 0 days

-- The least multiple of h not below a sum, by a test that says which rates are not below it, and not below the least rate.
unfoldable pub rounded_up : ℕ → ℕ → (ℕ → Bool) → ℕ → ℕ
rounded_up h least covers bound = least_multiple h (λ X. covers X && leb least X) (bound + least)

-- What is published of a sum: if M is 1, that multiple, then no more than the greatest rate; if M is 0, the least rate.
unfoldable pub published : ℕ → ℕ → ℕ → ℕ → (ℕ → Bool) → ℕ → ℕ
published M h least greatest covers bound = cond (eqb M 1) (min (rounded_up h least covers bound) greatest) least

-- 6. The published margin (article 18, item 3). X is not below the preliminary times root of (1 + m/T), plus R: X - R is not below the product, and the squares, times T, are compared.
unfoldable pub covers_margin : ℕ → ℕ → ℕ → ℕ → ℕ → Bool
covers_margin preliminary T m R X = leb R X && leb (square preliminary * (T + m)) (square (X - R) * T)

-- Every rate from this number on is not below that sum, so the search need look no further than as many steps.
unfoldable pub margin_bound : ℕ → ℕ → ℕ → ℕ → ℕ
margin_bound preliminary T m R = preliminary * (T + m) + R

unfoldable pub published_margin : ℕ → ℕ → ℕ → ℕ → ℕ → ℕ → ℕ → ℕ → ℕ
published_margin M h T R least greatest preliminary m =
    published M h least greatest (covers_margin preliminary T m R) (margin_bound preliminary T m R)

-- Root A plus root B is at most root Y: A + B is at most Y, and 4AB at most the square of what is left.
unfoldable pub roots_within : ℕ → ℕ → ℕ → Bool
roots_within A B Y = leb (A + B) Y && leb (4 * (A * B)) (square (Y - (A + B)))

-- 7. The published concentration (article 20). X is not below the unrounded sum of item 6, R inside, times root of (L/T). The two parts and X are multiplied by T and squared.
unfoldable pub covers_concentration : ℕ → ℕ → ℕ → ℕ → ℕ → ℕ → Bool
covers_concentration preliminary T m R L X =
    roots_within (square preliminary * (T + m) * L) (square R * L * T) (square X * square T)

unfoldable pub concentration_bound : ℕ → ℕ → ℕ → ℕ → ℕ → ℕ
concentration_bound preliminary T m R L = preliminary * (T + m) * L + R * L * T

unfoldable pub published_concentration : ℕ → ℕ → ℕ → ℕ → ℕ → ℕ → ℕ → ℕ → ℕ → ℕ
published_concentration M h T L R least greatest preliminary m =
    published M h least greatest (covers_concentration preliminary T m R L) (concentration_bound preliminary T m R L)

-- What the rules read of a row beside its parameters and its prices.
pub record State : Type 0 where
  pub variance : ℕ
  pub preliminary : ℕ
  pub margin : ℕ
  pub last_change : ℕ

-- What a day brings: its number, the price, the non-trading days ahead m, and the holidays j between day T-2 and today.
pub record Day : Type 0 where
  pub instrument : ℕ
  pub day : ℕ
  pub price : ℕ
  pub m : ℕ
  pub j : ℕ

-- A day's values are in range.
unfoldable pub day_in_range : Day → Bool
day_in_range d =
    are_in (instruments ∷ day_numbers ∷ prices ∷ (0 up_to 30) ∷ (0 up_to 30) ∷ [])
    (d.instrument ∷ d.day ∷ d.price ∷ d.m ∷ d.j ∷ [])

-- A day's figures.
pub record Figures : Type 0 where
  pub margin : ℕ
  pub concentration : ℕ
  pub preliminary : ℕ
  pub variance : ℕ
  pub days : ℕ
  pub from : Price

-- The figures in the order in which they are handed out.
abbrev pub figure_list : Figures → List ℕ
figure_list f = f.margin ∷ f.concentration ∷ f.preliminary ∷ f.variance ∷ f.days ∷ price_number f.from ∷ []

-- The candidate of a day, from the day's move and new variance.
unfoldable pub candidate_on : List ℕ → State → ℕ → ℕ → ℕ → ℕ
candidate_on ps s j D v = candidate (parameter ps Row.step) (parameter ps Row.alpha) v D (is_shock s.margin j D)

-- The figures of a day with this move: the rules one after the other, by its size D, and the price that gives it.
unfoldable pub figures_on : List ℕ → State → ℕ → ℕ → ℕ → Move → Figures
figures_on ps s today m j moved =
    let D = moved.size in
    let h = parameter ps Row.step in
    let n = parameter ps Row.no_fall in
    let v = next_variance (parameter ps Row.upper_weight) (parameter ps Row.lower_weight) s.variance D in
    let c = candidate_on ps s j D v in
    let days = today - s.last_change in
    let q = next_preliminary h n s.preliminary days c in
    record {
      margin =
          published_margin (parameter ps Row.monitored) h (parameter ps Row.horizon) (parameter ps Row.add_on)
          (parameter ps Row.least_margin) (parameter ps Row.greatest_margin) q m;
      concentration =
          published_concentration (parameter ps Row.monitored) h (parameter ps Row.horizon) (parameter ps Row.long_horizon)
          (parameter ps Row.add_on) (parameter ps Row.least_concentration) (parameter ps Row.greatest_concentration) q m;
      preliminary = q;
      variance = v;
      days = next_days h n s.preliminary days c;
      from = moved.from;
    }

-- The state that a row holds.
unfoldable pub state_of : List ℕ → State
state_of row =
    record {
      variance = word row Row.variance;
      preliminary = word row Row.preliminary;
      margin = word row Row.margin;
      last_change = word row Row.last_change;
    }

-- What a day writes from the variance on: the figures, with the day of the last change in the place of the days since it, today as the last day,
-- and the prices moved down by one.
abbrev pub written_words : List ℕ → Figures → Day → List ℕ
written_words row f d =
    f.variance
    ∷ f.preliminary
    ∷ f.margin
    ∷ f.concentration
    ∷ (d.day - f.days)
    ∷ d.day
    ∷ d.price
    ∷ word row Row.newer
    ∷ []

-- The row after a day. The words before the variance stay.
unfoldable pub next_row : List ℕ → Figures → Day → List ℕ
next_row row f d = sets row Row.variance (written_words row f d)

-- What a day on a row gives: a refusal, or the figures and the next row.
pub data DayAnswer : Type 0 where
  refused : Refusal → DayAnswer
  accepted : Figures → List ℕ → DayAnswer

-- The move of a day on a row.
unfoldable pub move_on : List ℕ → Day → Move
move_on row d = move (word row Row.newer) (word row Row.older) d.price

-- The figures of a day on a row, the move being accepted.
unfoldable pub figures_of : List ℕ → Day → Figures
figures_of row d = figures_on (parameters_of row) (state_of row) d.day d.m d.j (move_on row d)

-- A day on a row. Stale: the day is not later than the last day. Then Move: D is above 1,000,000.
unfoldable pub day_on : List ℕ → Day → DayAnswer
day_on row d =
    let taken = accepted (figures_of row d) (next_row row (figures_of row d) d) in
    cond (leb d.day (word row Row.last_day)) (refused Refusal.Stale)
    (cond (ltb greatest_move (move_on row d).size) (refused Refusal.Move) taken)
