use mathlib.Core.Path.{refl}
use native.Mathlib.Numerals.{add-one}
use native.Mathlib.Omega.{arith}
use Rattle.paper_sheets.specs.Evening.{used_rows}
use Rattle.evening_sheet.specs.Lines.{lines_below}
use Rattle.evening_sheet.proofs.Lines.{lines_long, lines_room, lines_fit}
use Rattle.evening_sheet.proofs.lines_length.Goals as goal

pub loop-k-init : goal.loop-k-init
unfolding used_rows lines_below
loop-k-init c = refl

pub overflow_add-bytes : goal.overflow_add-bytes
overflow_add-bytes c =
    let book = c.args.book.now in
    omega (arith, c.line_length-bytes.ensures, lines_room book c.loop-k.k 64 (omega arith), lines_fit book c.requires)

pub loop-k-preserved : goal.loop-k-preserved
loop-k-preserved c =
    rw add-one (omega (arith, c.line_length-bytes.ensures, lines_long c.args.book.now c.loop-k.k))
