-- The exact bounds of a corridor with no sign and nothing divided: each product that is taken away stands on the other side.
-- r is a repo rate as some number less 10,000.
use Rattle.std.specs.Prelude.{ℕ, ◌+◌, ◌*◌, ◌-◌, ◌≤◌, ◌≡◌, true, ◌↔◌}
use Rattle.paper.specs.Corridor.{Terms, is_within}
use Rattle.paper.specs.Promises.Ranges.{AreTerms}

-- The factor 1 + r k / 3,650,000 of a repo rate, times 3,650,000. It is never below 0: k is at most 365.
abbrev pub factor_of : ℕ → ℕ → ℕ
factor_of above k = 3650000 + above * k - 10000 * k

-- A price q is within: not above P (1 + rise) and not below P (1 - fall);
-- monitored, also not above P (1 + s) times the upper factor and not below P (1 - s) times the lower one.
-- s is 2 Shift MR / x, Shift and x in thousandths and the rest in millionths.
pub record IsInside (P margin M : ℕ) (t : Terms) (r : AreTerms t) (q : ℕ) : Type 0 where
  pub below_rise : q * 1000000 ≤ P * (1000000 + t.rise)
  pub above_fall : P * 1000000 ≤ q * 1000000 + P * t.fall
  pub below_spread : M ≡ 1 → q * (t.x * 1000000 * 3650000) ≤ P * ((t.x * 1000000 + 2 * t.shift * margin) * factor_of r.high t.k)
  pub above_spread :
      M ≡ 1 → P * (t.x * 1000000 * factor_of r.low t.k)
      ≤ q * (t.x * 1000000 * 3650000) + P * (2 * t.shift * margin * factor_of r.low t.k)

abbrev pub WithinMeans : Type 0
WithinMeans =
    (P margin M : ℕ) (t : Terms) (r : AreTerms t) (q : ℕ) → (is_within P margin M t q ≡ true) ↔ IsInside P margin M t r q
