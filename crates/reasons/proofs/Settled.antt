-- The reasons are had back from the paper's by their numbers, and an answer with reasons from its number and figures. Assumes nothing.
use Prim.Native.Nat.{ℕ}
use mathlib.Core.Path.{◌≡◌, refl, sym, ap, ◌∙◌}
use mathlib.Core.Bool.{Bool, true, false, cond}
use mathlib.Core.List.{List}
use lib.Dec.{eqb}
use lib.ListN.{get_or, take, drop}
use Rattle.paper.specs.Reasons.{weight_number, shock_number, branch_number, set_by_number, reason_list}
use Rattle.row.proofs.Settled.{answer_one}
use Rattle.figures.specs.declared.Figures.{Figures}
use Rattle.figures.proofs.Settled.{figures_one}
use Rattle.reasons.specs.declared.Weight.{Weight}
use Rattle.reasons.specs.declared.Weight.TheVariants as Weights
use Rattle.reasons.specs.declared.Branch.{Branch}
use Rattle.reasons.specs.declared.Branch.TheVariants as Branches
use Rattle.reasons.specs.declared.SetBy.{SetBy}
use Rattle.reasons.specs.declared.SetBy.TheVariants as Setters
use Rattle.reasons.specs.declared.Reasons.{Reasons}
use Rattle.reasons.specs.Answers.{paper_weight, paper_branch, paper_set_by, paper_reasons, why_list}
use Rattle.reasons.specs.Settled.{WhysSettled}

-- Each reason by its number.
weight_at : ℕ → Weight
weight_at n = cond (eqb n 1) Weights.Upper Weights.Lower

branch_at : ℕ → Branch
branch_at n = cond (eqb n 1) Branches.Rise (cond (eqb n 2) Branches.Fall Branches.Kept)

setter_at : ℕ → SetBy
setter_at n = cond (eqb n 1) Setters.NotMonitored (cond (eqb n 2) Setters.Greatest (cond (eqb n 3) Setters.Least Setters.Preliminary))

weight_back : (w : Weight) → weight_at (weight_number (paper_weight w)) ≡ w
unfolding weight_at
weight_back Weights.Upper = refl
weight_back Weights.Lower = refl

shock_back : (s : Bool) → eqb (shock_number s) 1 ≡ s
shock_back true = refl
shock_back false = refl

branch_back : (b : Branch) → branch_at (branch_number (paper_branch b)) ≡ b
unfolding branch_at
branch_back Branches.Rise = refl
branch_back Branches.Fall = refl
branch_back Branches.Kept = refl

setter_back : (s : SetBy) → setter_at (set_by_number (paper_set_by s)) ≡ s
unfolding setter_at
setter_back Setters.NotMonitored = refl
setter_back Setters.Greatest = refl
setter_back Setters.Least = refl
setter_back Setters.Preliminary = refl

-- The four together, of the list in which they are handed out.
reasons_at : List ℕ → Reasons
reasons_at ns = record { weight = weight_at (get_or ns 0 0); shock = eqb (get_or ns 1 0) 1; branch = branch_at (get_or ns 2 0); margin = setter_at (get_or ns 3 0) }

reasons_back : (r : Reasons) → reasons_at (reason_list (paper_reasons r)) ≡ r
unfolding reasons_at
reasons_back r = λ i. record { weight = weight_back r.weight i; shock = shock_back r.shock i; branch = branch_back r.branch i; margin = setter_back r.margin i }

reasons_one : (a b : Reasons) → reason_list (paper_reasons a) ≡ reason_list (paper_reasons b) → a ≡ b
reasons_one a b e = sym (reasons_back a) ∙ ap reasons_at e ∙ reasons_back b

why_one : (a b : Figures × Reasons) → why_list a ≡ why_list b → a ≡ b
why_one (f, r) (g, s) e = λ i. (
  figures_one f g (ap (λ (l : List ℕ). take 6 l) e) i,
  reasons_one r s (ap (λ (l : List ℕ). drop 6 l) e) i,
)

pub whys_settled : WhysSettled
whys_settled = record { reasons = λ a b e. reasons_one a b (ap reason_list e); answers = answer_one why_list 10 why_one }
