-- One outcome: what is written, by its promise.
use Rattle.std.specs.Prelude.{ℕ, ◌≡◌, List}
use Rattle.lines.specs.Writes.{Writes}

abbrev pub WritesSettled : Type 0
WritesSettled =
    (before after after' text : List ℕ) (at end end' : ℕ) → Writes before after at end text → Writes before after' at end' text
    → (after ≡ after') × (end ≡ end')
