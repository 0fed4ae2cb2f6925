-- One outcome: two outcomes of a call that its promise allows are equal, the answer as the code gives it and each word of the book.
use Rattle.std.specs.Prelude.{◌≡◌, List, ℕ, Result}
use Rattle.paper.specs.Calls.{Call, Kept}
use Rattle.row.specs.declared.Refusal.{Refusal}
use Rattle.figures.specs.declared.Figures.{Figures}
use Rattle.figures.specs.Answers.{day_answer_of}
use Rattle.reasons.specs.declared.Reasons.{Reasons}
use Rattle.reasons.specs.Answers.{why_answer_of}
use Rattle.corridor.specs.declared.Prices.{Prices}
use Rattle.row.specs.Answers.{call_answer_of}
use Rattle.instrument.specs.Answers.{corridor_answer_of}

pub record CallsSettled : Type 0 where
  pub calls :
      (book : List ℕ) (call : Call) (a b : Result Unit Refusal) (l m : List ℕ)
      → Kept book call (call_answer_of a) l → Kept book call (call_answer_of b) m → (a ≡ b) × (l ≡ m)
  pub days :
      (book : List ℕ) (call : Call) (a b : Result Figures Refusal) (l m : List ℕ)
      → Kept book call (day_answer_of a) l → Kept book call (day_answer_of b) m → (a ≡ b) × (l ≡ m)
  pub whys :
      (book : List ℕ) (call : Call) (a b : Result (Figures × Reasons) Refusal) (l m : List ℕ)
      → Kept book call (why_answer_of a) l → Kept book call (why_answer_of b) m → (a ≡ b) × (l ≡ m)
  pub corridors :
      (book : List ℕ) (call : Call) (a b : Result Prices Refusal) (l m : List ℕ)
      → Kept book call (corridor_answer_of a) l → Kept book call (corridor_answer_of b) m → (a ≡ b) × (l ≡ m)
