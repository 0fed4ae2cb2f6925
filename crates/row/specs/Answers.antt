-- The answer of a call as the paper's.
use Rattle.std.specs.Prelude.{ℕ, List, [], replicate, Result, Ok, Err}
use Rattle.paper.specs.Calls.{Answer}
use Rattle.row.specs.Refusals.{refusal_number}
use Rattle.row.specs.declared.Refusal.{Refusal}

-- 0, or the refusal's number.
abbrev pub number_of : {T : Type 0} → Result T Refusal → ℕ
number_of (Ok x) = 0
number_of (Err r) = refusal_number r

-- The figures, or as many zeros.
abbrev pub figures_or : {T : Type 0} → (T → List ℕ) → ℕ → Result T Refusal → List ℕ
figures_or figures count (Ok x) = figures x
figures_or figures count (Err r) = replicate count 0

abbrev pub answer_of : {T : Type 0} → (T → List ℕ) → ℕ → Result T Refusal → Answer
answer_of figures count a = record { number = number_of a; figures = figures_or figures count a }

-- An answer that has no figures.
abbrev pub call_answer_of : Result Unit Refusal → Answer
call_answer_of = answer_of (λ done. []) 0
