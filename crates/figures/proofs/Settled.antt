-- A day's answer is had back from its number and figures. Assumes nothing.
use Prim.Native.Nat.{ℕ}
use mathlib.Core.Path.{◌≡◌, ap}
use mathlib.Core.List.{List}
use lib.ListN.{get_or}
use Rattle.paper.specs.Rates.{figure_list}
use Rattle.row.proofs.Settled.{answer_one}
use Rattle.preliminary.proofs.Settled.{price_one}
use Rattle.figures.specs.declared.Figures.{Figures}
use Rattle.figures.specs.Answers.{paper_figures}
use Rattle.figures.specs.Settled.{DaysSettled}

-- The six figures are a day's.
pub figures_one : (f g : Figures) → figure_list (paper_figures f) ≡ figure_list (paper_figures g) → f ≡ g
figures_one f g e = λ i.
    record {
      margin = at 0 i;
      concentration = at 1 i;
      preliminary = at 2 i;
      variance = at 3 i;
      days = at 4 i;
      from = price_one f.from g.from (at 5) i;
    }
  where
    at : (k : ℕ) → get_or (figure_list (paper_figures f)) k 0 ≡ get_or (figure_list (paper_figures g)) k 0
    at k = ap (λ (l : List ℕ). get_or l k 0) e

pub days_settled : DaysSettled
days_settled = answer_one _ 6 figures_one
