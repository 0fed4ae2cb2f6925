-- The calls of a section's rows, by the numbers of all its rows.
use Rattle.std.specs.Prelude.{ℕ, ◌/◌, List, map, length}
use Rattle.paper.specs.Calls.{Call}
use Rattle.paper_sheets.specs.Sheet.{Section, width_of, cut}

abbrev pub calls_in : Section → List ℕ → List Call
calls_in s rows = map s.call (cut (width_of s) (length rows / width_of s) rows)
