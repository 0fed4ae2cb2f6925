-- A refused call: zeros as many as it has figures, the book as it was; and that a promise leaves one outcome. Assumes nothing.
use mathlib.Core.Path.{◌≡◌, refl, sym, ◌∙◌}
use borrow.Author.Tests.{ne_eqb}
use lib.ListN.{replicate}
use Rattle.paper.specs.Calls.{Call, opening, closing, parameters, halt, day, why, corridor, bond, figure_count, number_of, answer}
use Rattle.paper.specs.Promises.Ends.{zeros_for, RefusesWithZeros, RefusesUntouched, Numbered, PromiseMet, OneOutcome}
use Rattle.paper.proofs.Accepted.{after_refused}

zeros_counted : (call : Call) → replicate (figure_count call) 0 ≡ zeros_for call
zeros_counted (opening row) = refl
zeros_counted (closing i) = refl
zeros_counted (parameters i ps) = refl
zeros_counted (halt i value) = refl
zeros_counted (day d) = refl
zeros_counted (why d) = refl
zeros_counted (corridor i t) = refl
zeros_counted (bond i t b) = refl

pub refuses_with_zeros : RefusesWithZeros
unfolding answer
refuses_with_zeros =
    record {
      calls = λ book call n. rw (ne_eqb (number_of book call) 0 n) (zeros_counted call);
      days = λ refusal. refl;
      askings = λ row d refusal. refl;
      corridors = refl;
    }

pub refuses_untouched : RefusesUntouched
unfolding answer
refuses_untouched book call n = after_refused book call n

pub numbered : Numbered
numbered = refl

pub promise_met : PromiseMet
promise_met book call = record { answers = refl; leaves = refl }

pub one_outcome : OneOutcome
one_outcome book call a a' l l' k k' = (k.answers ∙ sym k'.answers, k.leaves ∙ sym k'.leaves)
