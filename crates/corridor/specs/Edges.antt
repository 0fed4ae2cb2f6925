-- The code's structs and its answer as the paper's, and what a price costs.
use Rattle.std.specs.Prelude.{ℕ, ◌+◌, ◌*◌, ℤ, pos, negsuc, Option, None, Some}
use Rattle.paper.specs.Corridor as Paper
use Rattle.paper.specs.Bond as Bonds
use Rattle.corridor.specs.declared.Terms.{Terms}
use Rattle.corridor.specs.declared.Bond.{Bond}
use Rattle.corridor.specs.declared.Costs.{Costs}
use Rattle.corridor.specs.declared.Prices.{Prices}

abbrev pub paper_terms : Terms → Paper.Terms
paper_terms t =
    record {
      k = t.k;
      lower = t.lower;
      upper = t.upper;
      shift = t.shift;
      x = t.x;
      rise = t.rise;
      fall = t.fall;
      tick = t.tick;
    }

abbrev pub paper_bond : Bond → Bonds.Bond
paper_bond b = record { face = b.face; carry = b.carry; accrued = b.accrued }

-- The answer: the lowest and the highest, or empty.
abbrev pub paper_ticks : Option Prices → Paper.Ticks
paper_ticks (Some p) = Paper.between p.lowest p.highest
paper_ticks None = Paper.empty

-- A number with sign, or 0 where it is below 0.
abbrev pub at_least_zero : ℤ → ℕ
at_least_zero (pos n) = n
at_least_zero (negsuc n) = 0

-- What a price costs at an edge of the spread: its amount, with what is taken put back, times the scale.
abbrev pub cost_of : Costs → ℕ → ℕ
cost_of costs q = (q * costs.face + costs.taken) * costs.scale
