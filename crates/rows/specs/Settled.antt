-- One outcome: what rows that act leave and write, by their promise.
use Rattle.std.specs.Prelude.{ℕ, ◌≡◌, List}
use Rattle.paper.specs.Calls.{Call}
use Rattle.rows.specs.Acts.{Acts}

abbrev pub ActsSettled : Type 0
ActsSettled =
    (book left left' before after after' : List ℕ) (at end end' : ℕ) (calls : List Call)
    → Acts book left before after at end calls → Acts book left' before after' at end' calls
    → (left ≡ left') × (after ≡ after') × (end ≡ end')
