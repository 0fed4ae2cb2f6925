-- Where a search for an instrument ends: at the row that it found, or past the last where there is none.
use Rattle.std.specs.Prelude.{ℕ, Option, None, Some}
use Rattle.paper.specs.Book.{rows}

abbrev pub place_in : Option ℕ → ℕ
place_in (Some k) = k
place_in None = rows
