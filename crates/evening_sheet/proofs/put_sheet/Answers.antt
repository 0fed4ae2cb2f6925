-- `evening_sheet::put_sheet` meets its contract: its parts are written one after the other. Assumes nothing.
use mathlib.Core.Path.{refl, sym}
use mathlib.Core.List.{[], ◌∷◌, ◌++◌}
use Rattle.std.proofs.Common.{rules}
use Rattle.paper.specs.Book.{rows}
use Rattle.paper_sheets.specs.Sheet.{count_form}
use Rattle.paper_sheets.specs.Written.{written}
use Rattle.lines.proofs.Texts.{puts_then, puts_as, holds_first, holds_next}
use Rattle.evening_sheet.specs.Lines.{lines_below}
use Rattle.evening_sheet.proofs.Lines.{none, rest, sheet_parts, sheet_room}
use Rattle.evening_sheet.proofs.put_sheet.Goals as goal

pub put_row-requires : goal.put_row-requires
put_row-requires c =
    holds_first (written count_form (c.used_rows.result ∷ [])) (rest c.args.book.now)
    (sheet_room c.args.book.now c.used_rows.result c.used_rows.ensures refl c.requires.room)

pub put_lines-requires-clause-room : goal.put_lines-requires-clause-room
put_lines-requires-clause-room c =
    holds_first (lines_below c.args.book.now rows) (none ++ none) (holds_next (rest c.args.book.now) c.put_row.ensures (sheet_room c.args.book.now c.used_rows.result c.used_rows.ensures refl c.requires.room))

pub put_row-requires-2 : goal.put_row-requires-2
put_row-requires-2 c =
    holds_first none none (holds_next (none ++ none) c.put_lines.ensures (holds_next (rest c.args.book.now) c.put_row.ensures (sheet_room c.args.book.now c.used_rows.result c.used_rows.ensures refl c.requires.room)))

pub put_row-requires-3 : goal.put_row-requires-3
put_row-requires-3 c =
    holds_next none c.put_row-2.ensures (holds_next (none ++ none) c.put_lines.ensures (holds_next (rest c.args.book.now) c.put_row.ensures (sheet_room c.args.book.now c.used_rows.result c.used_rows.ensures refl c.requires.room)))

pub returns : goal.returns
returns c =
    let puts = puts_as (sym (sheet_parts c.args.book.now c.used_rows.result c.used_rows.ensures)) (puts_then c.put_row.ensures (puts_then c.put_lines.ensures (puts_then c.put_row-2.ensures c.put_row-3.ensures))) in
    let writes = puts.writes in
    let same = puts.same in
    search (rules, writes, same)
