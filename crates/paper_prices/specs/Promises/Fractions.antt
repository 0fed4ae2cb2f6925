-- What the exact move, the need of the prices and the bound of the root mean, and what the order of the variances stands on.
use Rattle.std.specs.Prelude.{ℕ, ◌+◌, ◌*◌, ◌≤◌, ◌<◌, ◌≡◌, Bool, true, false, List, ◌↔◌}
use Rattle.paper.specs.Each.{Each}
use Rattle.paper.specs.Rates.{square, move, is_shock}
use Rattle.paper.specs.Promises.Found.{IsLeastMultiple}
use Rattle.paper.specs.Promises.Roots.{IsUnder}
use Rattle.paper_prices.specs.Prices.{Fraction, exact_move, price_next, price_shock, covers_price_need, price_candidate, is_root_within_one, greatest_of}

-- D / n millionths of the kept price reach a price: it is no more than so much above the kept one, and no more than so much below it.
pub record ReachesBy (kept price D n : ℕ) : Type 0 where
  pub above : price * 1000000 * n ≤ kept * 1000000 * n + kept * D
  pub below : kept * 1000000 * n ≤ price * 1000000 * n + kept * D

-- The exact move is at most D / n, for any fraction D / n, exactly when D / n millionths of each kept price reach the price.
abbrev pub ExactMoveMeans : Type 0
ExactMoveMeans =
    (newer older price D n : ℕ) → 0 < newer → 0 < older
    → let exact = exact_move newer older price in
    (exact.top * n ≤ D * exact.bottom) ↔ (ReachesBy newer price D n × ReachesBy older price D n)

-- A whole number is a fraction rounded up: not below it, and less than one above it.
pub record IsRoundedUp (exact : Fraction) (D : ℕ) : Type 0 where
  pub positive : 0 < exact.bottom
  pub not_below : exact.top ≤ D * exact.bottom
  pub less_than_one : D * exact.bottom < exact.top + exact.bottom

-- So the move of a day is: the larger of two quotients each rounded up is the larger one rounded up.
abbrev pub MoveIsRoundedUp : Type 0
MoveIsRoundedUp = (newer older price : ℕ) → 0 < newer → 0 < older → IsRoundedUp (exact_move newer older price) (move newer older price).size

-- Against whole rates the two tell the same: at most a rate, and a shock day, exactly when the exact move is.
pub record RatesTellAlike : Type 0 where
  pub at_most : (exact : Fraction) (D c : ℕ) → IsRoundedUp exact D → (D ≤ c) ↔ (exact.top ≤ c * exact.bottom)
  pub shock : (exact : Fraction) (D margin j : ℕ) → IsRoundedUp exact D → price_shock margin j exact ≡ is_shock margin j D

-- What the order stands on. For one move the next variance rises with the variance;
abbrev pub RisesWithVariance : Type 0
RisesWithVariance =
    (upper lower M x x' : ℕ) (exact : Fraction) → upper ≤ 10000 → lower ≤ 10000 → x ≤ x'
    → price_next upper lower M x exact ≤ price_next upper lower M x' exact

-- and for one variance it rises with the move, whichever weights the two moves take, each over its own denominator.
abbrev pub RisesWithMove : Type 0
RisesWithMove =
    (upper lower M x : ℕ) (less more : Fraction) → upper ≤ 10000 → lower ≤ 10000 → 0 < less.bottom → 0 < more.bottom
    → less.top * more.bottom ≤ more.top * less.bottom
    → price_next upper lower M x less * square more.bottom ≤ price_next upper lower M x more * square less.bottom

-- A rate covers the need of the prices exactly when 1,000 c n is not below alpha r for every fraction r/n not above the root of x/M; on a shock day, when it
-- is not below the exact move besides.
pub record PriceNeedMeans : Type 0 where
  pub need :
      (alpha M x : ℕ) (exact : Fraction) (c : ℕ) → 0 < M → 0 < exact.bottom
      → (covers_price_need alpha M x exact false c ≡ true) ↔ ((r n : ℕ) → IsUnder x M r n → alpha * r ≤ 1000 * c * n)
  pub shock :
      (alpha M x : ℕ) (exact : Fraction) (c : ℕ)
      → (covers_price_need alpha M x exact true c ≡ true) ↔ ((covers_price_need alpha M x exact false c ≡ true) × (exact.top ≤ c * exact.bottom))

-- The candidate of the prices is the least multiple of h not below their need: its search is never cut short.
abbrev pub PriceFound : Type 0
PriceFound =
    (h alpha M x : ℕ) (exact : Fraction) (shock : Bool) → 0 < h → 0 < M → 0 < exact.bottom
    → IsLeastMultiple h (covers_price_need alpha M x exact shock) (price_candidate h alpha M x exact shock)

-- The greatest of some moves is at most a number exactly when each of them is.
abbrev pub GreatestMeans : Type 0
GreatestMeans = (moves : List ℕ) (n : ℕ) → (greatest_of moves ≤ n) ↔ Each (λ D. D ≤ n) moves

-- s/n is a fraction not below the root of S/T.
pub record IsOver (S T s n : ℕ) : Type 0 where
  pub positive : 0 < n
  pub over : S * square n ≤ square s * T

-- The root of e/N is at most that of x/M plus one exactly when no fraction not above the first is more than one above a fraction not below the second.
abbrev pub RootMeans : Type 0
RootMeans =
    (N e M x : ℕ) → 0 < N → 0 < M
    → (is_root_within_one N e M x ≡ true) ↔ ((r s n : ℕ) → IsUnder e N r n → IsOver x M s n → r ≤ s + n)
