-- What the evening sheet written into a buffer says: what is answered, and the sheet at the start of the buffer, within it, whose other bytes stay.
use Rattle.std.specs.Prelude.{ℕ, ◌≡◌, List, Result, Ok, Err}
use Rattle.io.specs.Counts.{IsPrefixLen}
use Rattle.paper_sheets.specs.Evening.{evening_number, evening_text}
use Rattle.row.specs.declared.Refusal.{Refusal}
use Rattle.row.specs.Answers.{number_of}
use Rattle.lines.specs.Writes.{Writes}

-- How many bytes an answer says are written: none where it is a refusal.
abbrev pub written_of : Result ℕ Refusal → ℕ
written_of (Ok written) = written
written_of (Err refusal) = 0

pub record Evened (book before after : List ℕ) (r : Result ℕ Refusal) : Type 0 where
  pub answers : number_of r ≡ evening_number book before
  pub writes : Writes before after 0 (written_of r) (evening_text book before)
  pub counts : IsPrefixLen (written_of r) after
