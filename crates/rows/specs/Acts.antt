-- What the rows that act ask and say: room for their lines, the lines in the output, and the book that their calls leave.
use Rattle.std.specs.Prelude.{ℕ, ◌+◌, ◌≤◌, ◌≡◌, true, List, length}
use Rattle.paper.specs.Book.{is_sound}
use Rattle.paper.specs.Calls.{Call, after_all}
use Rattle.paper_sheets.specs.Sheet.{text_of}
use Rattle.lines.specs.Writes.{Writes}

-- An output holds the lines of calls on a book from a place on.
pub record HasRoom (book out : List ℕ) (at : ℕ) (calls : List Call) : Type 0 where
  pub holds : at + length (text_of book calls) ≤ length out

-- Calls made on a book, and their lines written.
pub record Acts (book left before after : List ℕ) (at end : ℕ) (calls : List Call) : Type 0 where
  pub writes : Writes before after at end (text_of book calls)
  pub leaves : left ≡ after_all book calls
  pub sound : is_sound left ≡ true
