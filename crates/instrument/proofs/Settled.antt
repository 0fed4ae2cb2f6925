-- A corridor's answer is had back from its number and figures; two moves of one day are the paper's, and no refusal is numbered as a day that is taken. Assumes nothing.
use mathlib.Core.Path.{sym, ap, ◌∙◌}
use mathlib.Core.List.{List}
use Prim.Native.Nat.{ℕ}
use lib.ListN.{get_or}
use Rattle.std.specs.Prelude.{Ok, Err}
use Rattle.paper.specs.Calls.{day_number}
use Rattle.row.proofs.Settled.{refusal_some, refusals_settled, answer_one}
use Rattle.preliminary.proofs.Settled.{moves_settled}
use Rattle.instrument.specs.Settled.{CorridorsSettled, MovesAreOne}
use Rattle.instrument.proofs.Taken.{taken_of}

pub corridors_settled : CorridorsSettled
corridors_settled = answer_one _ 2 (λ p q e i. record { lowest = ap (λ (l : List ℕ). get_or l 0 0) e i; highest = ap (λ (l : List ℕ). get_or l 1 0) e i })

pub moves_are_one : MovesAreOne
moves_are_one row d (Ok m) (Ok n) p q = ap Ok (moves_settled m n (p.moves ∙ sym q.moves))
moves_are_one row d (Ok m) (Err s) p q = absurd (refusal_some s (sym q ∙ ap day_number (taken_of row d m p)))
moves_are_one row d (Err r) (Ok n) p q = absurd (refusal_some r (sym p ∙ ap day_number (taken_of row d n q)))
moves_are_one row d (Err r) (Err s) p q = ap Err (refusals_settled r s (sym p ∙ q))
