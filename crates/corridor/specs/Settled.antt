-- One outcome: the reading of a corridor's answer is one-to-one.
use Rattle.std.specs.Prelude.{◌≡◌, Option}
use Rattle.corridor.specs.declared.Prices.{Prices}
use Rattle.corridor.specs.Edges.{paper_ticks}

abbrev pub TicksSettled : Type 0
TicksSettled = (a b : Option Prices) → paper_ticks a ≡ paper_ticks b → a ≡ b
