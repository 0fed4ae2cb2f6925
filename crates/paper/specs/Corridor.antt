-- The corridor of a share: the exact bounds, in whole numbers with sign and with nothing divided, and the ticks within. A bond's has the same bounds
-- in it, and is searched in the same way.
use Rattle.std.specs.Prelude.{ℕ, ◌+◌, ◌*◌, ◌/◌, Bool, cond, not, ◌&&◌, ◌||◌, List, [], ◌∷◌, ltb, eqb, ℤ, pos, neg_ℤ, ◌+ℤ◌, ◌-ℤ◌, ◌*ℤ◌}
use Rattle.std.specs.Int.Signed.{le_z}
use Rattle.paper.specs.Least.{least, greatest}
use Rattle.paper.specs.Row.{Interval, ◌up_to◌, millionths, are_in}

-- What a corridor is asked with: k days, the repo rates in hundredths of a percent a year, Shift and x in thousandths, the greatest rise and fall in millionths, and the tick.
pub record Terms : Type 0 where
  pub k : ℕ
  pub lower : ℤ
  pub upper : ℤ
  pub shift : ℕ
  pub x : ℕ
  pub rise : ℕ
  pub fall : ℕ
  pub tick : ℕ

-- A repo rate is in range.
unfoldable pub is_repo : ℤ → Bool
is_repo r = le_z (neg_ℤ (pos 10000)) r && le_z r (pos 50000)

-- The repo rates are in range, the lower not above the upper.
unfoldable pub repos_in_range : ℤ → ℤ → Bool
repos_in_range lower upper = is_repo lower && is_repo upper && le_z lower upper

-- The ranges of k, Shift, x, the rise, the fall and the tick.
abbrev pub term_ranges : List Interval
term_ranges = (0 up_to 365) ∷ (0 up_to 1000) ∷ (1 up_to 10000) ∷ millionths ∷ millionths ∷ (1 up_to 1000000) ∷ []

-- The terms are in range.
unfoldable pub terms_in_range : Terms → Bool
terms_in_range t =
    are_in term_ranges (t.k ∷ t.shift ∷ t.x ∷ t.rise ∷ t.fall ∷ t.tick ∷ [])
    && repos_in_range t.lower t.upper

-- A whole, in millionths, and a year in the repo rate's unit: 365 days of 10,000.
abbrev pub whole : ℕ
whole = 1000000

abbrev pub year : ℕ
year = 3650000

-- s is 2 Shift MR / x. Over the denominator x times a whole, 1 + s and 1 - s are these.
unfoldable pub spread_up : ℕ → Terms → ℤ
spread_up margin t = pos (t.x * whole) +ℤ pos (2 * t.shift * margin)

unfoldable pub spread_down : ℕ → Terms → ℤ
spread_down margin t = pos (t.x * whole) -ℤ pos (2 * t.shift * margin)

-- The factor of a repo rate r is 1 + r k / 3,650,000; over the denominator of a year it is this.
unfoldable pub factor : ℤ → ℕ → ℤ
factor r k = pos year +ℤ r *ℤ pos k

-- A price q times the denominators of both: what P (1 + s) times the factor is compared with.
unfoldable pub scaled : Terms → ℕ → ℤ
scaled t q = pos (q * (t.x * whole * year))

-- P (1 + rise) and P (1 - fall), times a whole.
abbrev pub risen : ℕ → Terms → ℤ
risen P t = pos P *ℤ (pos whole +ℤ pos t.rise)

abbrev pub fallen : ℕ → Terms → ℤ
fallen P t = pos P *ℤ (pos whole -ℤ pos t.fall)

-- P (1 + s) (upper factor) and P (1 - s) (lower factor), times the denominators of both.
abbrev pub spread_above : ℕ → ℕ → Terms → ℤ
spread_above P margin t = pos P *ℤ (spread_up margin t *ℤ factor t.upper t.k)

abbrev pub spread_below : ℕ → ℕ → Terms → ℤ
spread_below P margin t = pos P *ℤ (spread_down margin t *ℤ factor t.lower t.k)

-- q is not above P (1 + rise), and not below P (1 - fall).
unfoldable pub under_rise : ℕ → Terms → ℕ → Bool
under_rise P t q = le_z (pos (q * whole)) (risen P t)

unfoldable pub over_fall : ℕ → Terms → ℕ → Bool
over_fall P t q = le_z (fallen P t) (pos (q * whole))

-- q is not above P (1 + s) (upper factor), and not below P (1 - s) (lower factor).
unfoldable pub under_spread : ℕ → ℕ → Terms → ℕ → Bool
under_spread P margin t q = le_z (scaled t q) (spread_above P margin t)

unfoldable pub over_spread : ℕ → ℕ → Terms → ℕ → Bool
over_spread P margin t q = le_z (spread_below P margin t) (scaled t q)

-- A price q, which is never below 0, is within the exact corridor, ends counted. Not monitored, the rise and the fall alone bound it; monitored, the spread does too.
unfoldable pub is_within : ℕ → ℕ → ℕ → Terms → ℕ → Bool
is_within P margin M t q =
    under_rise P t q
    && over_fall P t q
    && (not (eqb M 1) || (under_spread P margin t q && over_spread P margin t q))

-- The last multiple of the tick that is not above P (1 + rise): none further can be within.
unfoldable pub reach : ℕ → Terms → ℕ
reach P t = P * (whole + t.rise) / whole / t.tick

pub data Ticks : Type 0 where
  empty : Ticks
  between : ℕ → ℕ → Ticks

-- The positive multiple of the tick that has this number is within, by a test of a price.
unfoldable pub is_tick_within : (ℕ → Bool) → ℕ → ℕ → Bool
is_tick_within within tick i = ltb 0 i && within (tick * i)

-- The least and the greatest positive multiple of the tick within, or empty. None within has a number past the last.
unfoldable pub ticks_within : (ℕ → Bool) → ℕ → ℕ → Ticks
ticks_within within tick last =
    let lowest = least (is_tick_within within tick) last in
    let highest = greatest (is_tick_within within tick) last in
    cond (is_tick_within within tick lowest) (between (tick * lowest) (tick * highest)) empty

-- The answer: the ticks within the exact corridor.
unfoldable pub corridor_on : ℕ → ℕ → ℕ → Terms → Ticks
corridor_on P margin M t = ticks_within (is_within P margin M t) t.tick (reach P t)
