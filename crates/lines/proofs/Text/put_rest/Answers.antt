-- `lines::Text::put_rest` meets its contract: the numbers are written, then LF. Assumes nothing.
use mathlib.Core.Path.{sym}
use mathlib.Core.List.{[], ◌∷◌}
use Rattle.paper_sheets.specs.Sheet.{line_feed}
use Rattle.lines.proofs.Texts.{puts_then, puts_as, holds_as, holds_first, holds_next, fields_spaced}
use Rattle.lines.proofs.Text.put_rest.Goals as goal

pub put_fields-requires : goal.put_fields-requires
put_fields-requires c = holds_first _ (line_feed ∷ []) (holds_as (fields_spaced c.args.fields.now) c.requires)

pub put_byte-requires : goal.put_byte-requires
put_byte-requires c = holds_next (line_feed ∷ []) c.put_fields.ensures (holds_as (fields_spaced c.args.fields.now) c.requires)

pub returns : goal.returns
returns c = puts_as (sym (fields_spaced c.args.fields.now)) (puts_then c.put_fields.ensures c.put_byte.ensures)
