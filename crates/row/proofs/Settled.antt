-- Each refusal is had back from its number, which is not 0; an answer from its number and figures, and one without figures from its number. Assumes nothing.
use Prim.Native.Nat.{ℕ, ◌≤◌}
use mathlib.Core.Path.{◌≡◌, refl, sym, ap, ◌∙◌}
use mathlib.Core.Bool.{cond}
use native.Mathlib.Omega.{arith}
use lib.Dec.{eqb, lit≤}
use Rattle.row.specs.declared.Refusal.{Refusal}
use Rattle.row.specs.declared.Refusal.TheVariants.{Book, Range, Known, Full, Unknown, Stale, Move, Empty, Line, Step, Room, Halted}
use Rattle.std.specs.Prelude.{List, Result, Ok, Err}
use Rattle.paper.specs.Calls.{Answer}
use Rattle.row.specs.Refusals.{refusal_number}
use Rattle.row.specs.Answers.{answer_of}
use Rattle.row.specs.Settled.{RefusalsSettled, AnswersSettled}

refusal_of : ℕ → Refusal
refusal_of n =
    cond (eqb n 1) Book
    (cond (eqb n 2) Range
    (cond (eqb n 3) Known
    (cond (eqb n 4) Full
    (cond (eqb n 5) Unknown
    (cond (eqb n 6) Stale
    (cond (eqb n 7) Move
    (cond (eqb n 8) Empty
    (cond (eqb n 9) Line
    (cond (eqb n 10) Step
    (cond (eqb n 11) Room Halted))))))))))

-- A refusal's number gives it back, and is not 0.
had_back : (r : Refusal) → (refusal_of (refusal_number r) ≡ r) × (1 ≤ refusal_number r)
unfolding refusal_of
had_back Book = (refl, lit≤ tt)
had_back Range = (refl, lit≤ tt)
had_back Known = (refl, lit≤ tt)
had_back Full = (refl, lit≤ tt)
had_back Unknown = (refl, lit≤ tt)
had_back Stale = (refl, lit≤ tt)
had_back Move = (refl, lit≤ tt)
had_back Empty = (refl, lit≤ tt)
had_back Line = (refl, lit≤ tt)
had_back Step = (refl, lit≤ tt)
had_back Room = (refl, lit≤ tt)
had_back Halted = (refl, lit≤ tt)

pub refusal_some : (r : Refusal) → refusal_number r ≡ 0 → ⊥
refusal_some r e = omega (arith, (had_back r).1)

pub refusals_settled : RefusalsSettled
refusals_settled r s e = sym (had_back r).0 ∙ ap refusal_of e ∙ (had_back s).0

-- An answer is had back from the paper's, where its figures give back what they are of.
pub answer_one : {T : Type 0} (figures : T → List ℕ) (count : ℕ) → ((x y : T) → figures x ≡ figures y → x ≡ y) → (a b : Result T Refusal) → answer_of figures count a ≡ answer_of figures count b → a ≡ b
answer_one figures count one (Ok x) (Ok y) e = ap Ok (one x y (ap (λ (a : Answer). a.figures) e))
answer_one figures count one (Ok x) (Err s) e = absurd (refusal_some s (sym (ap (λ (a : Answer). a.number) e)))
answer_one figures count one (Err r) (Ok y) e = absurd (refusal_some r (ap (λ (a : Answer). a.number) e))
answer_one figures count one (Err r) (Err s) e = ap Err (refusals_settled r s (ap (λ (a : Answer). a.number) e))

pub answers_settled : AnswersSettled
answers_settled (Ok x) (Ok y) e = refl
answers_settled (Ok x) (Err s) e = absurd (refusal_some s (sym e))
answers_settled (Err r) (Ok y) e = absurd (refusal_some r e)
answers_settled (Err r) (Err s) e = ap Err (refusals_settled r s e)
