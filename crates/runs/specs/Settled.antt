-- One outcome: what a run of a sheet leaves and writes, and its own answer, by its promise.
use Rattle.std.specs.Prelude.{ℕ, ◌≡◌, List, Result}
use Rattle.runs.specs.declared.Stopped.{Stopped}
use Rattle.runs.specs.Runs.{finding_in, written_in, Ran}

pub record RunsSettled : Type 0 where
  pub findings : (r s : Result ℕ Stopped) → finding_in r ≡ finding_in s → written_in r ≡ written_in s → r ≡ s
  pub runs :
      (book left left' sheet before after after' : List ℕ) (r s : Result ℕ Stopped)
      → Ran book left sheet before after r → Ran book left' sheet before after' s → (left ≡ left') × (after ≡ after') × (r ≡ s)
