-- The variance carried from the prices themselves: the exact move of a day is a fraction that its prices form, nothing is rounded, and exact squares choose
-- the weight. Rates are in millionths.
-- A move p / q is p whole units, each the q-th part of a millionth. In that unit a rate c is c q, a variance x / M is x q squared / M, and the rules of whole
-- moves hold as they stand: that of the exact variance, of the shock day and of the exact need.
use Rattle.std.specs.Prelude.{ℕ, ◌+◌, ◌*◌, ◌-◌, max, Bool, cond, List, [], ◌∷◌, leb, ltb}
use Rattle.paper.specs.Least.{least_multiple}
use Rattle.paper.specs.Row as Row
use Rattle.paper.specs.Row.{word}
use Rattle.paper.specs.Rates.{square, distance, Day, is_shock}
use Rattle.paper.specs.Exact.{exact_next, covers_exact_need}

-- A fraction: top over bottom.
pub record Fraction : Type 0 where
  pub top : ℕ
  pub bottom : ℕ

-- The move against one kept price (article 17, item 2), nothing rounded: the absolute difference over the kept price, in millionths.
unfoldable pub quotient : ℕ → ℕ → Fraction
quotient kept price = record { top = distance price kept * 1000000; bottom = kept }

-- One fraction is less than another: the cross products are compared.
unfoldable pub is_less : Fraction → Fraction → Bool
is_less a b = ltb (a.top * b.bottom) (b.top * a.bottom)

-- The exact move: the larger of the quotients against the two kept prices, the newer's where both are the same.
unfoldable pub exact_move : ℕ → ℕ → ℕ → Fraction
exact_move newer older price =
    let a = quotient newer price in
    let b = quotient older price in
    cond (is_less a b) b a

-- The exact move of a day on a row.
unfoldable pub exact_move_on : List ℕ → Day → Fraction
exact_move_on row d = exact_move (word row Row.newer) (word row Row.older) d.price

-- One day more, from a variance x / M: the exact variance's own rule (article 6) on the move p, in its unit. The denominator is 10,000 M q squared.
unfoldable pub price_next : ℕ → ℕ → ℕ → ℕ → Fraction → ℕ
price_next upper lower M x move = exact_next upper lower M (x * square move.bottom) move.top

-- The denominator after the exact moves of a run, the last day's first.
unfoldable pub price_denominator : List Fraction → ℕ
price_denominator [] = 1
price_denominator (move ∷ before) = 10000 * (price_denominator before * square move.bottom)

-- The numerator after them, from a variance V.
unfoldable pub price_variance : ℕ → ℕ → ℕ → List Fraction → ℕ
price_variance upper lower v [] = v
price_variance upper lower v (move ∷ before) =
    price_next upper lower (price_denominator before) (price_variance upper lower v before) move

-- A shock day by the exact move: it is above the published margin kept from the day before, and j at most 1.
unfoldable pub price_shock : ℕ → ℕ → Fraction → Bool
price_shock margin j move = is_shock (margin * move.bottom) j move.top

-- A rate c is not below the need: alpha times the root of x / M and, on a shock day, the exact move too.
unfoldable pub covers_price_need : ℕ → ℕ → ℕ → Fraction → Bool → ℕ → Bool
covers_price_need alpha M x move shock c =
    covers_exact_need alpha M (x * square move.bottom) move.top shock (c * move.bottom)

-- The candidate that the exact variance of the prices gives.
unfoldable pub price_candidate : ℕ → ℕ → ℕ → ℕ → Fraction → Bool → ℕ
price_candidate h alpha M x move shock = least_multiple h (covers_price_need alpha M x move shock) (alpha * (x + 1) + move.top)

-- The root of e / N is at most that of x / M plus one millionth: over N M, what e M has more than x N + N M, squared, is at most 4 times x N times N M.
unfoldable pub is_root_within_one : ℕ → ℕ → ℕ → ℕ → Bool
is_root_within_one N e M x = leb (square (e * M - (x * N + N * M))) (4 * (x * N * (N * M)))

-- The greatest of some moves; 0 of none.
abbrev pub greatest_of : List ℕ → ℕ
greatest_of [] = 0
greatest_of (D ∷ moves) = max D (greatest_of moves)
