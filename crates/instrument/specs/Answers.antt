-- The number and the figures of a corridor's answer, and what a day, given or asked about, and a corridor answer of the one row.
use Rattle.std.specs.Prelude.{ℕ, ◌≤◌, ◌<◌, ◌≡◌, List, [], ◌∷◌, Result, Ok, Err}
use Rattle.paper.specs.Row as Row
use Rattle.paper.specs.Row.{word}
use Rattle.paper.specs.Rates as Rules
use Rattle.paper.specs.Corridor.{Terms, Ticks}
use Rattle.paper.specs.Bond.{Bond, bond_on}
use Rattle.paper.specs.Rates.{move_on, day_on}
use Rattle.paper.specs.Calls.{Answer, day_number, day_figures, why_figures, ticks_in, ticks_number, ticks_figures}
use Rattle.row.specs.declared.Refusal.{Refusal}
use Rattle.row.specs.Refusals.{refusal_number}
use Rattle.row.specs.Answers.{answer_of}
use Rattle.preliminary.specs.declared.Move.{Move}
use Rattle.preliminary.specs.Moves.{paper_move}
use Rattle.corridor.specs.declared.Prices.{Prices}

-- A corridor's answer: 0 with its two prices, or the refusal's number with two zeros.
abbrev pub corridor_answer_of : Result Prices Refusal → Answer
corridor_answer_of = answer_of (λ p. p.lowest ∷ p.highest ∷ []) 2

-- What a day on a row answers, given, and asked about.
abbrev pub day_answer_for : Rules.DayAnswer → Answer
day_answer_for d = record { number = day_number d; figures = day_figures d }

abbrev pub why_answer_for : List ℕ → Rules.Day → Rules.DayAnswer → Answer
why_answer_for row d a = record { number = day_number a; figures = why_figures row d a }

-- The move of a day that its row takes: the day is later than the last, and the move not above the greatest.
pub record MovesBy (row : List ℕ) (d : Rules.Day) (moved : Move) : Type 0 where
  pub later : word row Row.last_day < d.day
  pub small : moved.size ≤ 1000000
  pub moves : paper_move moved ≡ move_on row d

abbrev pub MovedFor : List ℕ → Rules.Day → Result Move Refusal → Type 0
MovedFor row d (Ok moved) = MovesBy row d moved
MovedFor row d (Err r) = day_number (day_on row d) ≡ refusal_number r

-- What ticks answer.
abbrev pub ticks_answer_for : Ticks → Answer
ticks_answer_for t = record { number = ticks_number t; figures = ticks_figures t }

-- The corridor of a bond in a row.
abbrev pub bond_in : List ℕ → Terms → Bond → Ticks
bond_in row t b = ticks_in row (λ P margin M. bond_on P margin M t b)
