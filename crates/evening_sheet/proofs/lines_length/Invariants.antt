-- `evening_sheet::lines_length` meets its contract. The loop's invariant: the lines of the rows passed are measured. Assumes nothing.
use mathlib.Core.Path.{◌≡◌}
use lib.ListN.{length}
use Rattle.evening_sheet.specs.Lines.{lines_below}
use Rattle.evening_sheet.proofs.lines_length.Given as goal

abbrev pub invariant-loop-k : goal.invariant-loop-k
invariant-loop-k l = l.bytes ≡ length (lines_below l.book l.k)
