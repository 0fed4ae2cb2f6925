-- The code's structs as the paper's: a state, figures, and the number and the figures of a day's answer.
use Rattle.std.specs.Prelude.{◌≤◌, Result}
use Rattle.paper.specs.Rates as Rules
use Rattle.paper.specs.Rates.{figure_list}
use Rattle.paper.specs.Calls.{Answer}
use Rattle.row.specs.declared.Refusal.{Refusal}
use Rattle.row.specs.Answers.{answer_of}
use Rattle.preliminary.specs.Moves.{paper_price}
use Rattle.figures.specs.declared.State.{State}
use Rattle.figures.specs.declared.Figures.{Figures}

abbrev pub paper_state : State → Rules.State
paper_state s =
    record {
      variance = s.variance;
      preliminary = s.preliminary;
      margin = s.margin;
      last_change = s.last_change;
    }

-- A state that a row in range holds.
pub record StateFits (s : State) : Type 0 where
  pub variance : s.variance ≤ 1000000000000
  pub preliminary : s.preliminary ≤ 4100000

abbrev pub paper_figures : Figures → Rules.Figures
paper_figures f =
    record {
      margin = f.margin;
      concentration = f.concentration;
      preliminary = f.preliminary;
      variance = f.variance;
      days = f.days;
      from = paper_price f.from;
    }

-- A day's answer: 0 with its figures, or the refusal's number with six zeros.
abbrev pub day_answer_of : Result Figures Refusal → Answer
day_answer_of = answer_of (λ f. figure_list (paper_figures f)) 6
