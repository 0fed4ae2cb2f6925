-- What a check of a sheet says of the paper's finding.
use Rattle.std.specs.Prelude.{ℕ, ◌≡◌, List, [], length, take, drop, Result, Ok, Err}
use Rattle.paper.specs.Refusal.{Refusal, number as refusal_number}
use Rattle.paper_sheets.specs.Sheet.{Finding, nowhere, finding}
use Rattle.sheet.specs.declared.BadLine.{BadLine}

-- The paper's finding for each case of a check's answer, and the part that is handed back with it.
abbrev pub check_finding : Result (Unit {0}) BadLine → Finding
check_finding (Ok done) = nowhere 0
check_finding (Err bad) =
    record {
      number = refusal_number Refusal.Line;
      line = bad.line;
      start = bad.start;
      length = length bad.part.now;
    }

abbrev pub check_part : Result (Unit {0}) BadLine → List ℕ
check_part (Ok done) = []
check_part (Err bad) = bad.part.now

-- A sheet's finding, with the part of the sheet that it names.
pub record HandsOut (sheet : List ℕ) (f : Finding) (part : List ℕ) : Type 0 where
  pub finds : finding sheet ≡ f
  pub hands : part ≡ take f.length (drop f.start sheet)

-- What a check of a sheet hands back.
abbrev pub HandsBack : List ℕ → Result (Unit {0}) BadLine → Type 0
HandsBack sheet found = HandsOut sheet (check_finding found) (check_part found)
