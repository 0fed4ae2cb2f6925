-- The evening sheet of a book, a morning sheet from which the desk starts tomorrow where it stopped; the book with its gaps closed;
-- and the call that writes the sheet into a lent buffer.
use Rattle.std.specs.Prelude.{ℕ, zero, suc, cond, List, [], ◌∷◌, ◌++◌, leb, eqb, length, replicate}
use Rattle.paper.specs.Refusal.{Refusal}
use Rattle.paper.specs.Book.{rows, size, row_at, with_row, is_zeros, is_sound}
use Rattle.paper.specs.Calls.{unless}
use Rattle.paper_sheets.specs.Written.{Rows, sheet_of}

-- The used rows among the first so many, in row order.
unfoldable pub used_rows : List ℕ → ℕ → List (List ℕ)
used_rows book zero = []
used_rows book (suc k) = used_rows book k ++ cond (is_zeros (row_at book k)) [] (row_at book k ∷ [])

-- The rows of the sheet: an opening for each used row, no days and no corridors.
abbrev pub evening_rows : List ℕ → Rows
evening_rows book = record { openings = used_rows book rows; days = []; corridors = [] }

unfoldable pub evening_sheet : List ℕ → List ℕ
evening_sheet book = sheet_of (evening_rows book)

-- The book with rows written one after the other, from this number on.
unfoldable pub with_rows : List ℕ → ℕ → List (List ℕ) → List ℕ
with_rows book k [] = book
with_rows book k (row ∷ more) = with_rows (with_row book k row) (suc k) more

-- The book with its gaps closed: its used rows, written one after the other into an empty book.
unfoldable pub gaps_closed : List ℕ → List ℕ
gaps_closed book = with_rows (replicate size 0) 0 (used_rows book rows)

-- What the call answers: Book, then Room where the buffer is shorter than the sheet; else 0.
unfoldable pub evening_number : List ℕ → List ℕ → ℕ
evening_number book buffer =
    unless (is_sound book) Refusal.Book
    (unless (leb (length (evening_sheet book)) (length buffer)) Refusal.Room 0)

-- What it writes, from the start of the buffer on: the sheet, and nothing where it is refused.
unfoldable pub evening_text : List ℕ → List ℕ → List ℕ
evening_text book buffer = cond (eqb (evening_number book buffer) 0) (evening_sheet book) []
