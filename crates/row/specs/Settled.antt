-- One outcome: no two refusals have one number, and no two answers without figures.
use Rattle.std.specs.Prelude.{◌≡◌, Result}
use Rattle.row.specs.declared.Refusal.{Refusal}
use Rattle.row.specs.Refusals.{refusal_number}
use Rattle.row.specs.Answers.{call_answer_of}

abbrev pub RefusalsSettled : Type 0
RefusalsSettled = (r s : Refusal) → refusal_number r ≡ refusal_number s → r ≡ s

abbrev pub AnswersSettled : Type 0
AnswersSettled = (a b : Result Unit Refusal) → (call_answer_of a).number ≡ (call_answer_of b).number → a ≡ b
