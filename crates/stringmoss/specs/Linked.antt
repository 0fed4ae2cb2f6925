-- A sheet run into an output of any length, and the evening sheet written into one, what is written lying within it.
use Rattle.std.specs.Prelude.{ℕ, ◌≡◌, List, Result}
use Rattle.paper_sheets.specs.Output.{finding_into, text_into, left_into}
use Rattle.paper_sheets.specs.Evening.{evening_number, evening_text}
use Rattle.runs.specs.declared.Stopped.{Stopped}
use Rattle.runs.specs.Runs.{finding_in, written_in}
use Rattle.lines.specs.Writes.{Writes}

-- An output that is too short for any text is refused, after an unsound book and before the sheet is looked at.
pub record RanInto (book left sheet before after : List ℕ) (number line start length written : ℕ) : Type 0 where
  pub finds : record { number = number; line = line; start = start; length = length } ≡ finding_into book sheet before
  pub leaves : left ≡ left_into book sheet before
  pub writes : Writes before after 0 written (text_into book sheet before)

abbrev pub RunsInto : List ℕ → List ℕ → List ℕ → List ℕ → List ℕ → Result ℕ Stopped → Type 0
RunsInto book left sheet before after r =
    let found = finding_in r in
    RanInto book left sheet before after found.number found.line found.start found.length (written_in r)

-- One that is shorter than the evening sheet of the book is refused, after an unsound book.
pub record EvenedInto (book before after : List ℕ) (number written : ℕ) : Type 0 where
  pub answers : number ≡ evening_number book before
  pub writes : Writes before after 0 written (evening_text book before)
