-- A corridor's answer is had back from the paper's. Assumes nothing.
use Rattle.std.specs.Prelude.{Option, None, Some}
use mathlib.Core.Path.{◌≡◌, refl, sym, ap, ◌∙◌}
use Rattle.paper.specs.Corridor as Paper
use Rattle.corridor.specs.declared.Prices.{Prices}
use Rattle.corridor.specs.Edges.{paper_ticks}
use Rattle.corridor.specs.Settled.{TicksSettled}

prices_of : Paper.Ticks → Option Prices
prices_of Paper.empty = None
prices_of (Paper.between lowest highest) = Some (record { lowest = lowest; highest = highest })

had_back : (t : Option Prices) → prices_of (paper_ticks t) ≡ t
unfolding prices_of
had_back (Some p) = refl
had_back None = refl

pub ticks_settled : TicksSettled
ticks_settled a b e = sym (had_back a) ∙ ap prices_of e ∙ had_back b
