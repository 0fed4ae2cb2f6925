-- `evening_sheet::put_lines` meets its contract. The loop's invariant: the lines of the rows passed are written. Assumes nothing.
use Rattle.lines.specs.Puts.{Puts}
use Rattle.evening_sheet.specs.Lines.{lines_below}
use Rattle.evening_sheet.proofs.put_lines.Given as goal

abbrev pub invariant-loop-k : goal.invariant-loop-k
invariant-loop-k l = Puts l.initial.text l.text (lines_below l.book l.k)
