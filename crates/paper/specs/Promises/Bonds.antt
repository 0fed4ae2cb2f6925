-- What is claimed of a bond's corridor: its exact bounds with no sign and nothing divided, the ticks that are found, that a share's is one of them, and
-- the cases worked by hand, by exact fractions.
use Rattle.std.specs.Prelude.{ℕ, ◌+◌, ◌*◌, ◌≤◌, ◌<◌, ◌≡◌, true, List, [], ◌∷◌, ◌↔◌, ℤ, pos, neg_ℤ, replicate}
use Rattle.paper.specs.Corridor.{Terms, Ticks, empty, between, corridor_on}
use Rattle.paper.specs.Bond.{Bond, is_bond_within, bond_on}
use Rattle.paper.specs.Calls.{corridor, bond, answer}
use Rattle.paper.specs.Promises.Ranges.{AreTerms}
use Rattle.paper.specs.Promises.Bounds.{factor_of}
use Rattle.paper.specs.Promises.Found.{AreTicks}
use Rattle.paper.specs.Promises.Worked.{terms_at}
use Rattle.paper.specs.Promises.Alive.{greatest_instrument, three_book}

-- A price q with carry and accrued interest, in millionths of P's unit: 1,000,000 parts of a price are the face value.
abbrev pub with_taken : Bond → ℕ → ℕ
with_taken b q = q * b.face + (b.carry + b.accrued) * 1000000

-- A price q is within: by itself not above P (1 + rise) and not below P (1 - fall);
-- monitored, with both put back also not above P (1 + s) times the upper factor and not below P (1 - s) times the lower one.
pub record IsBondInside (P margin M : ℕ) (t : Terms) (r : AreTerms t) (b : Bond) (q : ℕ) : Type 0 where
  pub below_rise : q * b.face ≤ P * (1000000 + t.rise)
  pub above_fall : P * 1000000 ≤ q * b.face + P * t.fall
  pub below_spread : M ≡ 1 → with_taken b q * (t.x * 3650000) ≤ P * ((t.x * 1000000 + 2 * t.shift * margin) * factor_of r.high t.k)
  pub above_spread :
      M ≡ 1 → P * (t.x * 1000000 * factor_of r.low t.k)
      ≤ with_taken b q * (t.x * 3650000) + P * (2 * t.shift * margin * factor_of r.low t.k)

abbrev pub BondMeans : Type 0
BondMeans =
    (P margin M : ℕ) (t : Terms) (r : AreTerms t) (b : Bond) (q : ℕ)
    → (is_bond_within P margin M t b q ≡ true) ↔ IsBondInside P margin M t r b q

-- The answer is the least and the greatest positive multiple of the tick within the exact corridor, or empty.
abbrev pub BondFound : Type 0
BondFound =
    (P margin M : ℕ) (t : Terms) (b : Bond) → 0 < t.tick → 0 < b.face
    → AreTicks (is_bond_within P margin M t b) t.tick (bond_on P margin M t b)

-- A bond by its face value, its carry and its accrued interest.
abbrev pub bond_of : ℕ → ℕ → ℕ → Bond
bond_of face carry accrued = record { face = face; carry = carry; accrued = accrued }

-- With a face value of 1,000,000 and nothing taken it is the share's, by the rule and of any book.
pub record ShareIsBond : Type 0 where
  pub rule : (P margin M : ℕ) (t : Terms) → bond_on P margin M t (bond_of 1000000 0 0) ≡ corridor_on P margin M t
  pub call : (book : List ℕ) (i : ℕ) (t : Terms) → answer book (bond i t (bond_of 1000000 0 0)) ≡ answer book (corridor i t)

-- Cases worked by hand. Shift 500 over x 2,000 and a margin of 60,000 are s 0.03. Here the spread decides at 1,000,000, and here the rise and the fall.
abbrev pub spread_decides : Bond → Ticks
spread_decides b = bond_on 1000000 60000 1 (terms_at 0 (pos 0) (pos 0) 100000 100000 20000) b

abbrev pub limits_decide : ℕ → ℕ → Bond → Ticks
limits_decide rise fall b = bond_on 1000000 60000 0 (terms_at 0 (pos 0) (pos 0) rise fall 20000) b

-- And here the spread at a price of 100, of which a percent is 1.
abbrev pub hundred : Bond → Ticks
hundred b = bond_on 100 60000 1 (terms_at 0 (pos 0) (pos 0) 1000000 1000000 5000) b

pub record BondWorked : Type 0 where
  -- A bond of 1,000 at 1,035 with a carry of 10 and 15 accrued. 1,035 times 1.03 less 25 is 1,041.05, which is 104.105 percent, below 1,086.75;
  -- 1,035 times 0.98 is 1,014.3, which is 101.43 percent, above 1,035 times 0.97 less 25.
  pub coupon : bond_on 1035 60000 1 (terms_at 0 (pos 0) (pos 0) 50000 20000 1000) (bond_of 1000 10 15) ≡ between 1015000 1041000
  -- Not monitored it is 101.43 to 108.675 percent, whatever the margin, k, the repo rates, the carry and the accrued interest.
  pub unmonitored :
      (margin k carry accrued : ℕ) (lower upper : ℤ)
      → bond_on 1035 margin 0 (terms_at k lower upper 50000 20000 10000) (bond_of 1000 carry accrued) ≡ between 1020000 1080000
  -- Carry and accrued interest are taken after the factors: 100,000 times 0.97 times 0.9 less 1,300, and times 1.03 times 1.1 less 1,300.
  pub repo_decides :
      bond_on 100000 60000 1 (terms_at 365 (neg_ℤ (pos 1000)) (pos 1000) 1000000 1000000 20000) (bond_of 100000 300 1000) ≡ between 860000 1120000
  -- Both ends are ticks: 970,000 and 1,030,000 less 30,000, of 1,000,000. With one unit more taken the upper end is one outside, with one less the lower.
  pub spread_met : spread_decides (bond_of 1000000 20000 10000) ≡ between 940000 1000000
  pub more_accrued : spread_decides (bond_of 1000000 20000 10001) ≡ between 940000 980000
  pub less_accrued : spread_decides (bond_of 1000000 20000 9999) ≡ between 960000 1000000
  pub more_carry : spread_decides (bond_of 1000000 20001 10000) ≡ between 940000 980000
  pub less_carry : spread_decides (bond_of 1000000 19999 10000) ≡ between 960000 1000000
  -- The same of the fall and the rise, 960,000 and 1,060,000, and of the face value.
  pub limits_met : limits_decide 60000 40000 (bond_of 1000000 20000 10000) ≡ between 960000 1060000
  pub less_rise : limits_decide 59999 40000 (bond_of 1000000 20000 10000) ≡ between 960000 1040000
  pub less_fall : limits_decide 60000 39999 (bond_of 1000000 20000 10000) ≡ between 980000 1060000
  pub more_face : limits_decide 60000 40000 (bond_of 1000001 20000 10000) ≡ between 960000 1040000
  pub less_face : limits_decide 60000 40000 (bond_of 999999 20000 10000) ≡ between 980000 1060000
  -- 100 times 1.03 is 103. Less 104 it is negative, and less 103 it is 0: no positive tick. Less 102 it is 1, which is one percent; 97 less 102 is
  -- negative and bounds nothing, so the least positive tick is the lowest.
  pub upper_negative : hundred (bond_of 100 60 44) ≡ empty
  pub upper_zero : hundred (bond_of 100 60 43) ≡ empty
  pub lower_negative : hundred (bond_of 100 60 42) ≡ between 5000 10000
  -- The greatest price over the least face value is 1,000,000,000 times 1,000,000. The highest of all is twice that: s is 2,000 and the factors are 6, so
  -- the upper product is far above it, and the lower one, whatever is taken, far below 0.
  pub least_face :
      (margin k carry accrued : ℕ) (lower upper : ℤ)
      → bond_on 1000000000 margin 0 (terms_at k lower upper 0 0 1000000) (bond_of 1 carry accrued) ≡ between 1000000000000000 1000000000000000
  pub widest :
      bond_on 1000000000 1000000 1
      (record { k = 365; lower = pos 50000; upper = pos 50000; shift = 1000; x = 1; rise = 1000000; fall = 1000000; tick = 1000000 })
      (bond_of 1 1000000000 1000000000)
      ≡ between 1000000 2000000000000000
  -- The least price is less than a part of the greatest face value, whatever else is asked; a price of 1,000 is one part.
  pub greatest_face :
      (margin M k fall carry accrued : ℕ) (lower upper : ℤ)
      → bond_on 1 margin M (terms_at k lower upper 1000000 fall 1) (bond_of 1000000000 carry accrued) ≡ empty
  pub one_part :
      (margin k carry accrued : ℕ) (lower upper : ℤ)
      → bond_on 1000 margin 0 (terms_at k lower upper 0 0 1) (bond_of 1000000000 carry accrued) ≡ between 1 1

-- Asked of a book, with these terms: in its middle and in its last row, of what these keep, and refused, with zeros.
abbrev pub book_terms : ℕ → Terms
book_terms tick = terms_at 0 (pos 0) (pos 0) 100000 100000 tick

pub record BondOfBook : Type 0 where
  -- 50,000 times 0.94 and 1.06 less 1,500, of 50,000; and 100,000 times 0.975 and 1.025 less 500, of 100,000.
  pub middle : answer three_book (bond 11 (book_terms 10000) (bond_of 50000 500 1000)) ≡ record { number = 0; figures = 910000 ∷ 1030000 ∷ [] }
  pub last : answer three_book (bond greatest_instrument (book_terms 10000) (bond_of 100000 0 500)) ≡ record { number = 0; figures = 970000 ∷ 1020000 ∷ [] }
  -- 53,000 less 53,000 is no positive tick.
  pub no_tick : answer three_book (bond 11 (book_terms 10000) (bond_of 50000 50000 3000)) ≡ record { number = 8; figures = replicate 2 0 }
  -- Each new value one past an end of its range, and the last in it; a tick of 0; an instrument that is not open; a book that is not sound.
  pub no_face : answer three_book (bond 11 (book_terms 10000) (bond_of 0 500 1000)) ≡ record { number = 2; figures = replicate 2 0 }
  pub past_face : (answer three_book (bond 11 (book_terms 10000) (bond_of 1000000001 500 1000))).number ≡ 2
  pub past_carry : (answer three_book (bond 11 (book_terms 10000) (bond_of 50000 1000000001 1000))).number ≡ 2
  pub past_accrued : (answer three_book (bond 11 (book_terms 10000) (bond_of 50000 500 1000000001))).number ≡ 2
  pub greatest_values : (answer three_book (bond 11 (book_terms 10000) (bond_of 1000000000 1000000000 1000000000))).number ≡ 8
  pub no_tick_at_all : (answer three_book (bond 11 (book_terms 0) (bond_of 50000 500 1000))).number ≡ 2
  pub no_instrument : (answer three_book (bond 0 (book_terms 10000) (bond_of 50000 500 1000))).number ≡ 2
  pub unknown : (answer three_book (bond 8 (book_terms 10000) (bond_of 50000 500 1000))).number ≡ 5
  pub unsound : (answer [] (bond 0 (book_terms 0) (bond_of 0 500 1000))).number ≡ 1
