-- One outcome: what the evening sheet's call answers and leaves in the buffer, by its promise.
use Rattle.std.specs.Prelude.{ℕ, ◌≡◌, List, Result}
use Rattle.row.specs.declared.Refusal.{Refusal}
use Rattle.evening_sheet.specs.Evenings.{Evened}

abbrev pub EveningSettled : Type 0
EveningSettled =
    (book before after after' : List ℕ) (r s : Result ℕ Refusal) → Evened book before after r → Evened book before after' s
    → (after ≡ after') × (r ≡ s)
