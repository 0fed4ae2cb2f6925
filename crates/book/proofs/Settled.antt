-- Each answer of a call is had back from its number and figures, and so two that its promise allows are equal. Assumes nothing.
use mathlib.Core.Path.{◌≡◌, ap}
use mathlib.Core.List.{List}
use Prim.Native.Nat.{ℕ}
use Rattle.paper.specs.Calls.{Call, Answer, Kept}
use Rattle.paper.proofs.Ends.{one_outcome}
use Rattle.figures.specs.Answers.{day_answer_of}
use Rattle.figures.proofs.Settled.{days_settled}
use Rattle.reasons.specs.Answers.{why_answer_of}
use Rattle.reasons.proofs.Settled.{whys_settled}
use Rattle.row.specs.Answers.{call_answer_of}
use Rattle.instrument.specs.Answers.{corridor_answer_of}
use Rattle.instrument.proofs.Settled.{corridors_settled}
use Rattle.row.proofs.Settled.{answers_settled}
use Rattle.book.specs.Settled.{CallsSettled}

-- By any reading that is one-to-one.
settled : {A : Type 0} (reading : A → Answer) → ((a b : A) → reading a ≡ reading b → a ≡ b) → (book : List ℕ) (call : Call) (a b : A) (l m : List ℕ) → Kept book call (reading a) l → Kept book call (reading b) m → (a ≡ b) × (l ≡ m)
settled reading one book call a b l m k n =
    let both = one_outcome book call (reading a) (reading b) l m k n in
    (one a b both.0, both.1)

pub calls_settled : CallsSettled
calls_settled =
    record {
      calls = settled call_answer_of (λ a b e. answers_settled a b (ap (λ (a : Answer). a.number) e));
      days = settled day_answer_of days_settled;
      whys = settled why_answer_of whys_settled.answers;
      corridors = settled corridor_answer_of corridors_settled;
    }
