-- The corridor of a bond, in percent of its face value: the share's exact bounds, from which carry and accrued interest are taken where they come of the
-- spread, over the face value, and the ticks within.
use Rattle.std.specs.Prelude.{ℕ, ◌+◌, ◌*◌, ◌/◌, Bool, not, ◌&&◌, ◌||◌, List, [], ◌∷◌, eqb, pos, ◌-ℤ◌, ◌*ℤ◌}
use Rattle.std.specs.Int.Signed.{le_z}
use Rattle.paper.specs.Row.{Interval, ◌up_to◌, are_in}
use Rattle.paper.specs.Corridor.{Terms, Ticks, whole, scaled, risen, fallen, spread_above, spread_below, ticks_within}

-- What a bond's corridor is asked with beside the terms: the face value, the carry and the accrued interest, in P's unit.
pub record Bond : Type 0 where
  pub face : ℕ
  pub carry : ℕ
  pub accrued : ℕ

-- Their ranges.
abbrev pub bond_ranges : List Interval
bond_ranges = (1 up_to 1000000000) ∷ (0 up_to 1000000000) ∷ (0 up_to 1000000000) ∷ []

unfoldable pub bond_in_range : Bond → Bool
bond_in_range b = are_in bond_ranges (b.face ∷ b.carry ∷ b.accrued ∷ [])

-- A bond's price is in ten-thousandths of a percent point: so many are the face value, and the price q is q face over so many in P's unit.
abbrev pub parts : ℕ
parts = 1000000

-- q is not above P (1 + rise) over face, and not below P (1 - fall) over face.
unfoldable pub bond_under_rise : ℕ → Terms → Bond → ℕ → Bool
bond_under_rise P t b q = le_z (pos (q * b.face * whole)) (pos parts *ℤ risen P t)

unfoldable pub bond_over_fall : ℕ → Terms → Bond → ℕ → Bool
bond_over_fall P t b q = le_z (pos parts *ℤ fallen P t) (pos (q * b.face * whole))

-- q is not above P (1 + s) (upper factor) less carry less accrued interest, over face, and not below P (1 - s) (lower factor) less both, over face.
unfoldable pub bond_under_spread : ℕ → ℕ → Terms → Bond → ℕ → Bool
bond_under_spread P margin t b q = le_z (scaled t (q * b.face)) (pos parts *ℤ (spread_above P margin t -ℤ scaled t b.carry -ℤ scaled t b.accrued))

unfoldable pub bond_over_spread : ℕ → ℕ → Terms → Bond → ℕ → Bool
bond_over_spread P margin t b q = le_z (pos parts *ℤ (spread_below P margin t -ℤ scaled t b.carry -ℤ scaled t b.accrued)) (scaled t (q * b.face))

-- A price q, which is never below 0, is within the exact corridor, ends counted. Not monitored, the rise and the fall alone bound it; monitored, the spread does too.
unfoldable pub is_bond_within : ℕ → ℕ → ℕ → Terms → Bond → ℕ → Bool
is_bond_within P margin M t b q =
    bond_under_rise P t b q
    && bond_over_fall P t b q
    && (not (eqb M 1) || (bond_under_spread P margin t b q && bond_over_spread P margin t b q))

-- The last multiple of the tick that is not above P (1 + rise) over face: none further can be within. A whole is as many as the parts.
unfoldable pub bond_reach : ℕ → Terms → Bond → ℕ
bond_reach P t b = P * (whole + t.rise) / b.face / t.tick

-- The answer: the ticks within the exact corridor.
unfoldable pub bond_on : ℕ → ℕ → ℕ → Terms → Bond → Ticks
bond_on P margin M t b = ticks_within (is_bond_within P margin M t b) t.tick (bond_reach P t b)
