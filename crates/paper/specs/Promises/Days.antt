-- What a day is: the move in whole millionths and the price that gives it, the shock day, when a day is accepted,
-- and each figure and each word of the next row by the name of all that it reads.
use Rattle.std.specs.Prelude.{ℕ, ◌+◌, ◌*◌, ◌-◌, ◌≤◌, ◌<◌, ◌≡◌, true, List, [], ◌∷◌, ◌↔◌}
use Rattle.paper.specs.Refusal.{Refusal}
use Rattle.paper.specs.Rates.{Price, Newer, Older, Move, State, Day, Figures, refused, accepted, move_from, is_shock, next_variance, candidate, next_preliminary, next_days}
use Rattle.paper.specs.Rates.{published_margin, published_concentration, figures_on, move_on, day_on}
use Rattle.paper.specs.Values.{Values, words}

-- A number is the least of which something holds.
pub record IsLeast (P : ℕ → Type 0) (n : ℕ) : Type 0 where
  pub holds : P n
  pub least : (k : ℕ) → P k → n ≤ k

-- D millionths of the kept price reach a price: it is no more than so much above the kept one, and no more than so much below it.
pub record Reaches (kept price D : ℕ) : Type 0 where
  pub above : price * 1000000 ≤ kept * 1000000 + kept * D
  pub below : kept * 1000000 ≤ price * 1000000 + kept * D

-- The move against one kept price is the least number of whole millionths that reaches the price, whether it rose or fell.
abbrev pub MoveMeans : Type 0
MoveMeans = (kept price : ℕ) → 0 < kept → IsLeast (Reaches kept price) (move_from kept price)

-- The move of a day is the least that reaches it from both kept prices, so the larger of the two.
abbrev pub DayMove : Type 0
DayMove =
    (v : Values) (d : Day) → 0 < v.newer → 0 < v.older
    → IsLeast (λ D. Reaches v.newer d.price D × Reaches v.older d.price D) (move_on (words v) d).size

-- The kept price of a name.
abbrev pub price_of : Values → Price → ℕ
price_of v Newer = v.newer
price_of v Older = v.older

-- The price that a day's move names gives it: the move against that price is its size, and neither price's is larger.
-- The older is named exactly where it gives strictly more whole millionths.
pub record DayFrom : Type 0 where
  pub gives : (v : Values) (d : Day) → move_from (price_of v (move_on (words v) d).from) d.price ≡ (move_on (words v) d).size
  pub larger : (v : Values) (d : Day) (price : Price) → move_from (price_of v price) d.price ≤ (move_on (words v) d).size
  pub older : (v : Values) (d : Day) → ((move_on (words v) d).from ≡ Older) ↔ (move_from v.newer d.price < move_from v.older d.price)

-- A shock day has D above the margin, and j at most 1.
abbrev pub ShockDay : Type 0
ShockDay = (margin j D : ℕ) → (is_shock margin j D ≡ true) ↔ ((margin < D) × (j ≤ 1))

-- The candidate of a day whose move is D, by its new variance.
abbrev pub candidate_for : Values → Day → ℕ → ℕ → ℕ
candidate_for v d D variance =
    candidate v.parameters.h v.parameters.alpha variance D (is_shock v.margin d.j D)

-- The figures of a day whose move is D, each by its rule. The published rates are those of the new preliminary.
pub record AreFigures (v : Values) (d : Day) (D : ℕ) (f : Figures) : Type 0 where
  pub variance : f.variance ≡ next_variance v.parameters.upper v.parameters.lower v.variance D
  pub preliminary : f.preliminary ≡ next_preliminary v.parameters.h v.parameters.n v.preliminary (d.day - v.last_change) (candidate_for v d D f.variance)
  pub days : f.days ≡ next_days v.parameters.h v.parameters.n v.preliminary (d.day - v.last_change) (candidate_for v d D f.variance)
  pub margin :
      f.margin
      ≡ published_margin v.parameters.M v.parameters.h v.parameters.T v.parameters.R
      v.parameters.least_margin v.parameters.greatest_margin f.preliminary d.m
  pub concentration :
      f.concentration
      ≡ published_concentration v.parameters.M v.parameters.h v.parameters.T v.parameters.L v.parameters.R
      v.parameters.least_concentration v.parameters.greatest_concentration f.preliminary d.m

-- The rates of a day are those of the move's size alone, whichever price gives it.
abbrev pub rates_of : Figures → List ℕ
rates_of f = f.margin ∷ f.concentration ∷ f.preliminary ∷ f.variance ∷ f.days ∷ []

abbrev pub SizeAlone : Type 0
SizeAlone =
    (ps : List ℕ) (s : State) (today m j : ℕ) (a b : Move) → a.size ≡ b.size
    → rates_of (figures_on ps s today m j a) ≡ rates_of (figures_on ps s today m j b)

-- The values after a day: the instrument, its parameters and whether it is halted stay, the figures are kept, with the day of the last change
-- in the place of the days since it, today is the last day, and the prices move down by one.
abbrev pub values_after : Values → Day → Figures → Values
values_after v d f =
    record {
      instrument = v.instrument;
      parameters = v.parameters;
      variance = f.variance;
      preliminary = f.preliminary;
      margin = f.margin;
      concentration = f.concentration;
      last_change = d.day - f.days;
      last_day = d.day;
      newer = d.price;
      older = v.newer;
      halted = v.halted;
    }

-- A day is taken: it is later than the last day, its move is at most 1,000,000, and it gives these figures and leaves this row.
pub record IsTaken (v : Values) (d : Day) (f : Figures) (next : List ℕ) : Type 0 where
  pub later : v.last_day < d.day
  pub small : (move_on (words v) d).size ≤ 1000000
  pub figures : AreFigures v d (move_on (words v) d).size f
  pub from : f.from ≡ (move_on (words v) d).from
  pub leaves : next ≡ words (values_after v d f)

-- A day is accepted, refused as stale and refused for its move exactly then.
pub record DayMeans : Type 0 where
  pub taken : (v : Values) (d : Day) (f : Figures) (next : List ℕ) → (day_on (words v) d ≡ accepted f next) ↔ IsTaken v d f next
  pub stale : (v : Values) (d : Day) → (day_on (words v) d ≡ refused Refusal.Stale) ↔ (d.day ≤ v.last_day)
  pub moved : (v : Values) (d : Day) → (day_on (words v) d ≡ refused Refusal.Move) ↔ ((v.last_day < d.day) × (1000000 < (move_on (words v) d).size))
