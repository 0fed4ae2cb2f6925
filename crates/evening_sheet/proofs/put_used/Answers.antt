-- `evening_sheet::put_used` meets its contract: a free row has no line, and that of another is its first word and the others. Assumes nothing.
use mathlib.Core.Path.{sym, ◌∙◌}
use native.Mathlib.Omega.{arith}
use Rattle.paper.proofs.Sound.{sound_long}
use Rattle.lines.proofs.Texts.{puts_none, puts_as, holds_as}
use Rattle.evening_sheet.proofs.Lines.{lent_long, line_free, line_lent}
use Rattle.evening_sheet.proofs.put_used.Goals as goal

pub returns-then-is_free : goal.returns-then-is_free
returns-then-is_free c =
    let free = sym c.is_free.ensures ∙ c.if-is_free.true in
    puts_as (sym (line_free c.args.book.now c.args.k free)) (puts_none (holds_as (line_free c.args.book.now c.args.k free) c.requires.room))

pub row_of-row-requires : goal.row_of-row-requires
row_of-row-requires c = (sound_long _ c.requires.sound, c.requires.row)

pub bounds-row-0 : goal.bounds-row-0
bounds-row-0 c = omega (arith, lent_long c.args.book.now c.requires.sound c.requires.row c.row_of-row.ensures)

pub slice_bounds-put_row-count : goal.slice_bounds-put_row-count
slice_bounds-put_row-count c = omega (arith, lent_long c.args.book.now c.requires.sound c.requires.row c.row_of-row.ensures)

pub slice_bounds-put_row-start : goal.slice_bounds-put_row-start
slice_bounds-put_row-start c = omega (arith, lent_long c.args.book.now c.requires.sound c.requires.row c.row_of-row.ensures)

pub put_row-requires : goal.put_row-requires
put_row-requires c =
    let used = sym c.is_free.ensures ∙ c.if-is_free.false in
    holds_as (line_lent c.args.book.now c.requires.sound c.requires.row c.row_of-row.ensures used) c.requires.room

pub returns : goal.returns
returns c =
    let used = sym c.is_free.ensures ∙ c.if-is_free.false in
    puts_as (sym (line_lent c.args.book.now c.requires.sound c.requires.row c.row_of-row.ensures used)) c.put_row.ensures
