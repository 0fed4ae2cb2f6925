-- `evening_sheet::used_rows` meets its contract. The loop's invariant: the used rows among those passed are counted. Assumes nothing.
use mathlib.Core.Path.{◌≡◌}
use lib.ListN.{length}
use Rattle.paper_sheets.specs.Evening.{used_rows}
use Rattle.evening_sheet.proofs.used_rows.Given as goal

abbrev pub invariant-loop-k : goal.invariant-loop-k
invariant-loop-k l = l.count ≡ length (used_rows l.book l.k)
