-- One outcome: what a search answers is fixed by where it ends, and by its being a row's number where it found one.
use Rattle.std.specs.Prelude.{ℕ, ◌≡◌, ◌<◌, Option, IfSome}
use Rattle.paper.specs.Book.{rows}
use Rattle.soundness.specs.Found.{place_in}

abbrev pub PlacesSettled : Type 0
PlacesSettled = (a b : Option ℕ) → IfSome a (λ k. k < rows) → IfSome b (λ k. k < rows) → place_in a ≡ place_in b → a ≡ b
