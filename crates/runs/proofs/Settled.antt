-- Two outcomes of a run are equal: its answer is had back from its finding. Assumes nothing.
use Prim.Native.Nat.{ℕ}
use mathlib.Core.Path.{◌≡◌, sym, ap, ◌∙◌}
use mathlib.Core.List.{List}
use Rattle.std.specs.Prelude.{Result, Ok, Err}
use Rattle.paper_sheets.specs.Sheet.{Finding}
use Rattle.row.proofs.Settled.{refusal_some, refusals_settled}
use Rattle.lines.proofs.Settled.{writes_one}
use Rattle.runs.specs.declared.Stopped.{Stopped}
use Rattle.runs.specs.Runs.{finding_in, written_in, Ran}
use Rattle.runs.specs.Settled.{RunsSettled}

run_one : (r s : Result ℕ Stopped) → finding_in r ≡ finding_in s → written_in r ≡ written_in s → r ≡ s
run_one (Ok x) (Ok y) e w = ap Ok w
run_one (Ok x) (Err why) e w = absurd (refusal_some why.refusal (sym (ap (λ (f : Finding). f.number) e)))
run_one (Err why) (Ok y) e w = absurd (refusal_some why.refusal (ap (λ (f : Finding). f.number) e))
run_one (Err why) (Err other) e w = (λ i.
    Err (record {
      refusal = refusals_settled why.refusal other.refusal (ap (λ (f : Finding). f.number) e) i;
      line = (e i).line;
      start = (e i).start;
      length = (e i).length;
      written = w i;
    }))

ran_one : (book left left' sheet before after after' : List ℕ) (r s : Result ℕ Stopped) → Ran book left sheet before after r → Ran book left' sheet before after' s → (left ≡ left') × (after ≡ after') × (r ≡ s)
ran_one book left left' sheet before after after' r s p q =
    let written = writes_one p.writes q.writes in
    (p.leaves ∙ sym q.leaves, written.0, run_one r s (p.finds ∙ sym q.finds) written.1)

pub runs_settled : RunsSettled
runs_settled =
    record {
      findings = run_one;
      runs = ran_one;
    }
