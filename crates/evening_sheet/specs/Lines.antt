-- The lines of the rows of a book in its evening sheet.
use Rattle.std.specs.Prelude.{ℕ, cond, List, []}
use Rattle.paper.specs.Book.{row_at, is_zeros}
use Rattle.paper_sheets.specs.Sheet.{opening_form}
use Rattle.paper_sheets.specs.Written.{written, written_rows}
use Rattle.paper_sheets.specs.Evening.{used_rows}

-- The line of a row; none where it is free.
unfoldable pub line_at : List ℕ → ℕ → List ℕ
line_at book k = cond (is_zeros (row_at book k)) [] (written opening_form (row_at book k))

-- The lines of the used rows among the first so many.
unfoldable pub lines_below : List ℕ → ℕ → List ℕ
lines_below book k = written_rows opening_form (used_rows book k)
