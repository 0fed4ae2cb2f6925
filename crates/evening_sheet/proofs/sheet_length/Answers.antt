-- `evening_sheet::sheet_length` meets its contract: the parts of the sheet are measured, and none is longer than the longest sheet. Assumes nothing.
use native.Mathlib.Omega.{arith}
use Rattle.paper_sheets.proofs.Evening.{evening_fits}
use Rattle.evening_sheet.proofs.Lines.{sheet_long}
use Rattle.evening_sheet.proofs.sheet_length.Goals as goal

pub overflow_add-result : goal.overflow_add-result
overflow_add-result c = omega (arith, sheet_long c.args.book.now c.used_rows.result c.used_rows.ensures, c.digits_of.ensures, c.lines_length.ensures, evening_fits _ c.requires)

pub overflow_add-result-2 : goal.overflow_add-result-2
overflow_add-result-2 c = omega (arith, sheet_long c.args.book.now c.used_rows.result c.used_rows.ensures, c.digits_of.ensures, c.lines_length.ensures, evening_fits _ c.requires)

pub returns : goal.returns
returns c = omega (arith, sheet_long c.args.book.now c.used_rows.result c.used_rows.ensures, c.digits_of.ensures, c.lines_length.ensures)
