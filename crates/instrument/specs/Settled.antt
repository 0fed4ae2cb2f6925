-- One outcome: the reading of a corridor's answer is one-to-one, and a day has one move or one refusal on a row.
use Rattle.std.specs.Prelude.{◌≡◌, List, ℕ, Result}
use Rattle.paper.specs.Rates.{Day}
use Rattle.row.specs.declared.Refusal.{Refusal}
use Rattle.preliminary.specs.declared.Move.{Move}
use Rattle.corridor.specs.declared.Prices.{Prices}
use Rattle.instrument.specs.Answers.{corridor_answer_of, MovedFor}

abbrev pub CorridorsSettled : Type 0
CorridorsSettled = (a b : Result Prices Refusal) → corridor_answer_of a ≡ corridor_answer_of b → a ≡ b

abbrev pub MovesAreOne : Type 0
MovesAreOne = (row : List ℕ) (d : Day) (a b : Result Move Refusal) → MovedFor row d a → MovedFor row d b → a ≡ b
