-- One outcome: the reading of a day's answer is one-to-one, so a promise of the paper's fixes the code's.
use Rattle.std.specs.Prelude.{◌≡◌, Result}
use Rattle.row.specs.declared.Refusal.{Refusal}
use Rattle.figures.specs.declared.Figures.{Figures}
use Rattle.figures.specs.Answers.{day_answer_of}

abbrev pub DaysSettled : Type 0
DaysSettled = (a b : Result Figures Refusal) → day_answer_of a ≡ day_answer_of b → a ≡ b
