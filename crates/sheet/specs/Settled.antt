-- One outcome: what a check of a sheet hands back, also in numbers, and the numbers that it keeps of an accepted one, by their promises.
use Rattle.std.specs.Prelude.{ℕ, ◌≡◌, List, length, take, Result}
use Rattle.paper_sheets.specs.Sheet.{Finding, read_sheet}
use Rattle.sheet.specs.declared.BadLine.{BadLine}
use Rattle.sheet.specs.Numbers.{numbers_read, KeepsNumbers}
use Rattle.sheet.specs.Checked.{check_finding, check_part, HandsOut, HandsBack}

pub record SheetSettled : Type 0 where
  pub hands_out :
      (sheet : List ℕ) (f f' : Finding) (part part' : List ℕ)
      → HandsOut sheet f part → HandsOut sheet f' part'
      → (f ≡ f') × (part ≡ part')
  pub hands_back :
      (sheet : List ℕ) (found found' : Result (Unit {0}) BadLine)
      → HandsBack sheet found → HandsBack sheet found'
      → (check_finding found ≡ check_finding found') × (check_part found ≡ check_part found')
  pub keeps :
      (sheet numbers numbers' : List ℕ) → KeepsNumbers sheet numbers → KeepsNumbers sheet numbers'
      → let count = length (numbers_read (read_sheet sheet)) in
      take count numbers ≡ take count numbers'
