-- What the functions that write say: the text at a place of the output and within it, and every other byte as it was.
use Rattle.std.specs.Prelude.{ℕ, ◌+◌, ◌≤◌, ◌≡◌, List, [], ◌∷◌, ◌++◌, length}
use Rattle.std.proofs.lemmas.List.Edits.{sets}
use Rattle.paper_sheets.specs.Sheet.{blank, decimal}

-- A text written into an output from a place on, up to an end.
pub record Writes (before after : List ℕ) (at end : ℕ) (text : List ℕ) : Type 0 where
  pub holds : after ≡ sets before at text
  pub ends : end ≡ at + length text
  pub within : end ≤ length before

-- Numbers as they are written, with a space before each.
unfoldable pub spaced : List ℕ → List ℕ
spaced [] = []
spaced (n ∷ ns) = blank ∷ decimal n ++ spaced ns
