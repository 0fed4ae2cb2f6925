-- One outcome: the reading of an answer with reasons is one-to-one, and so is that of the reasons.
use Rattle.std.specs.Prelude.{◌≡◌, Result}
use Rattle.row.specs.declared.Refusal.{Refusal}
use Rattle.figures.specs.declared.Figures.{Figures}
use Rattle.reasons.specs.declared.Reasons.{Reasons}
use Rattle.reasons.specs.Answers.{paper_reasons, why_answer_of}

pub record WhysSettled : Type 0 where
  pub reasons : (a b : Reasons) → paper_reasons a ≡ paper_reasons b → a ≡ b
  pub answers : (a b : Result (Figures × Reasons) Refusal) → why_answer_of a ≡ why_answer_of b → a ≡ b
