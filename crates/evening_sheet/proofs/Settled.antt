-- Two outcomes of the evening sheet's call are equal: a refusal is had back from its number, and how many bytes are written stands in the others. Assumes nothing.
use Prim.Native.Nat.{ℕ}
use mathlib.Core.Path.{◌≡◌, sym, ap, ◌∙◌}
use Rattle.std.specs.Prelude.{Result, Ok, Err}
use Rattle.row.specs.declared.Refusal.{Refusal}
use Rattle.row.specs.Answers.{number_of}
use Rattle.row.proofs.Settled.{refusal_some, refusals_settled}
use Rattle.lines.proofs.Settled.{writes_one}
use Rattle.evening_sheet.specs.Evenings.{written_of}
use Rattle.evening_sheet.specs.Settled.{EveningSettled}

answer_one : (r s : Result ℕ Refusal) → number_of r ≡ number_of s → written_of r ≡ written_of s → r ≡ s
answer_one (Ok x) (Ok y) e w = ap Ok w
answer_one (Ok x) (Err s) e w = absurd (refusal_some s (sym e))
answer_one (Err r) (Ok y) e w = absurd (refusal_some r e)
answer_one (Err r) (Err s) e w = ap Err (refusals_settled r s e)

pub evening_settled : EveningSettled
evening_settled book before after after' r s p q =
    let written = writes_one p.writes q.writes in
    (written.0, answer_one r s (p.answers ∙ sym q.answers) written.1)
