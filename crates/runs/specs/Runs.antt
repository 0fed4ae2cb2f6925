-- What a run of a sheet on a book says: what it found, the book that it leaves, and the text in the output, within it, whose other bytes stay.
use Rattle.std.specs.Prelude.{◌≡◌, List, ℕ, Result, Ok, Err}
use Rattle.io.specs.Counts.{IsPrefixLen}
use Rattle.paper_sheets.specs.Sheet.{Finding, nowhere, sheet_finding, morning_text, book_after}
use Rattle.row.specs.Refusals.{refusal_number}
use Rattle.runs.specs.declared.Stopped.{Stopped}
use Rattle.lines.specs.Writes.{Writes}

-- The paper's finding for each case of a run's answer, and how many bytes it says are written.
abbrev pub finding_in : Result ℕ Stopped → Finding
finding_in (Ok written) = nowhere 0
finding_in (Err why) =
    record {
      number = refusal_number why.refusal;
      line = why.line;
      start = why.start;
      length = why.length;
    }

abbrev pub written_in : Result ℕ Stopped → ℕ
written_in (Ok written) = written
written_in (Err why) = why.written

pub record Ran (book left sheet before after : List ℕ) (r : Result ℕ Stopped) : Type 0 where
  pub finds : finding_in r ≡ sheet_finding book sheet
  pub leaves : left ≡ book_after book sheet
  pub writes : Writes before after 0 (written_in r) (morning_text book sheet)
  pub counts : IsPrefixLen (written_in r) after
