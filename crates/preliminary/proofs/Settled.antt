-- A move is had back from the paper's. Assumes nothing.
use mathlib.Core.Path.{◌≡◌, refl, ap}
use native.Mathlib.Omega.{arith}
use Rattle.paper.specs.Rates as Rules
use Rattle.paper.specs.Rates.{price_number}
use Rattle.preliminary.specs.declared.Price.{Price}
use Rattle.preliminary.specs.declared.Price.TheVariants.{Newer, Older}
use Rattle.preliminary.specs.Moves.{paper_price}
use Rattle.preliminary.specs.Settled.{MovesSettled}

-- A price by its number.
pub price_one : (a b : Price) → price_number (paper_price a) ≡ price_number (paper_price b) → a ≡ b
price_one Newer Newer e = refl
price_one Newer Older e = absurd (omega (arith, e))
price_one Older Newer e = absurd (omega (arith, e))
price_one Older Older e = refl

pub moves_settled : MovesSettled
moves_settled a b e = λ i.
    record {
      size = ap (λ (m : Rules.Move). m.size) e i;
      from = price_one a.from b.from (ap (λ (m : Rules.Move). price_number m.from) e) i;
    }
