-- What the test of a book says of it.
use Rattle.std.specs.Prelude.{ℕ, ◌≡◌, true, false, List, Result, Ok, Err}
use Rattle.paper.specs.Book.{is_sound}
use Rattle.row.specs.declared.Refusal.{Refusal}
use Rattle.row.specs.declared.Refusal.TheVariants.{Book}

abbrev pub Tests : List ℕ → Result Unit Refusal → Type 0
Tests book (Ok passed) = is_sound book ≡ true
Tests book (Err r) = (r ≡ Book) × (is_sound book ≡ false)
