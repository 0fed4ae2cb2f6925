-- The code's enums as the paper's: the reasons, and the number and the figures of an answer with reasons.
use Rattle.std.specs.Prelude.{◌++◌, List, ℕ, Result}
use Rattle.paper.specs.Rates.{figure_list}
use Rattle.paper.specs.Reasons as Paper
use Rattle.paper.specs.Reasons.{reason_list}
use Rattle.paper.specs.Calls.{Answer}
use Rattle.row.specs.declared.Refusal.{Refusal}
use Rattle.row.specs.Answers.{answer_of}
use Rattle.figures.specs.declared.Figures.{Figures}
use Rattle.figures.specs.Answers.{paper_figures}
use Rattle.reasons.specs.declared.Weight.{Weight}
use Rattle.reasons.specs.declared.Weight.TheVariants as Weights
use Rattle.reasons.specs.declared.Branch.{Branch}
use Rattle.reasons.specs.declared.Branch.TheVariants as Branches
use Rattle.reasons.specs.declared.SetBy.{SetBy}
use Rattle.reasons.specs.declared.SetBy.TheVariants as Setters
use Rattle.reasons.specs.declared.Reasons.{Reasons}

abbrev pub paper_weight : Weight → Paper.Weight
paper_weight Weights.Upper = Paper.Upper
paper_weight Weights.Lower = Paper.Lower

abbrev pub paper_branch : Branch → Paper.Branch
paper_branch Branches.Rise = Paper.Rise
paper_branch Branches.Fall = Paper.Fall
paper_branch Branches.Kept = Paper.Kept

abbrev pub paper_set_by : SetBy → Paper.SetBy
paper_set_by Setters.NotMonitored = Paper.NotMonitored
paper_set_by Setters.Greatest = Paper.Greatest
paper_set_by Setters.Least = Paper.Least
paper_set_by Setters.Preliminary = Paper.Preliminary

abbrev pub paper_reasons : Reasons → Paper.Reasons
paper_reasons r =
    record {
      weight = paper_weight r.weight;
      shock = r.shock;
      branch = paper_branch r.branch;
      margin = paper_set_by r.margin;
    }

-- An answer with reasons: 0 with the figures and the reasons, or the refusal's number with ten zeros.
abbrev pub why_list : Figures × Reasons → List ℕ
why_list (f, r) = figure_list (paper_figures f) ++ reason_list (paper_reasons r)

abbrev pub why_answer_of : Result (Figures × Reasons) Refusal → Answer
why_answer_of = answer_of why_list 10
