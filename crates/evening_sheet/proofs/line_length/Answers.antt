-- `evening_sheet::line_length` meets its contract: a free row has no line, and that of another has the words of the row. Assumes nothing.
use mathlib.Core.Path.{sym, ap, ◌∙◌}
use mathlib.Core.List.{List}
use Prim.Native.Nat.{ℕ}
use lib.ListN.{length}
use Rattle.paper_sheets.specs.Sheet.{opening_form}
use Rattle.paper_sheets.specs.Written.{written}
use Rattle.paper.proofs.Sound.{sound_long}
use Rattle.evening_sheet.proofs.Lines.{lent_long, line_free, line_used}
use Rattle.evening_sheet.proofs.line_length.Goals as goal

pub returns-then-is_free : goal.returns-then-is_free
returns-then-is_free c =
    sym (ap length (line_free c.args.book.now c.args.k (sym c.is_free.ensures ∙ c.if-is_free.true)))

pub row_of-requires : goal.row_of-requires
row_of-requires c = (sound_long _ c.requires.sound, c.requires.row)

pub row_length-requires : goal.row_length-requires
row_length-requires c = lent_long c.args.book.now c.requires.sound c.requires.row c.row_of.ensures

pub returns : goal.returns
returns c =
    let used = line_used c.args.book.now c.args.k (sym c.is_free.ensures ∙ c.if-is_free.false) in
    c.row_length.ensures ∙ ap (λ (row : List ℕ). length (written opening_form row)) c.row_of.ensures ∙ sym (ap length used)
