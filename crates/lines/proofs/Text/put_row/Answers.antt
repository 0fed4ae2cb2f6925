-- `lines::Text::put_row` meets its contract: the first number is written, then what ends the line. Assumes nothing.
use mathlib.Core.Path.{sym}
use Rattle.paper_sheets.specs.Sheet.{fields_text}
use Rattle.lines.proofs.Texts.{puts_then, puts_as, holds_as, holds_first, holds_next, row_parts}
use Rattle.lines.proofs.Text.put_row.Goals as goal

pub put_number-requires : goal.put_number-requires
put_number-requires c = holds_first _ (fields_text c.args.others.now) (holds_as (row_parts c.args.first c.args.others.now) c.requires)

pub put_rest-requires : goal.put_rest-requires
put_rest-requires c = holds_next (fields_text c.args.others.now) c.put_number.ensures (holds_as (row_parts c.args.first c.args.others.now) c.requires)

pub returns : goal.returns
returns c = puts_as (sym (row_parts c.args.first c.args.others.now)) (puts_then c.put_number.ensures c.put_rest.ensures)
