-- `lines::Text::put_line` meets its contract: its parts are written one after the other. Assumes nothing.
use mathlib.Core.Path.{sym}
use mathlib.Core.List.{[], ◌∷◌, ◌++◌}
use Rattle.paper_sheets.specs.Sheet.{fields_text}
use Rattle.lines.specs.Writes.{spaced}
use Rattle.lines.proofs.Texts.{puts_then, puts_as, holds_as, holds_first, holds_next, line_parts}
use Rattle.lines.proofs.Text.put_line.Goals as goal

pub put_byte-requires : goal.put_byte-requires
put_byte-requires c =
    holds_first (c.args.letter ∷ []) (spaced c.args.names.now ++ fields_text c.args.fields.now) (holds_as (line_parts c.args.letter c.args.names.now c.args.fields.now) c.requires)

pub put_fields-requires : goal.put_fields-requires
put_fields-requires c =
    holds_first (spaced c.args.names.now) (fields_text c.args.fields.now)
    (holds_next (spaced c.args.names.now ++ fields_text c.args.fields.now) c.put_byte.ensures (holds_as (line_parts c.args.letter c.args.names.now c.args.fields.now) c.requires))

pub put_rest-requires : goal.put_rest-requires
put_rest-requires c =
    holds_next (fields_text c.args.fields.now) c.put_fields.ensures
    (holds_next (spaced c.args.names.now ++ fields_text c.args.fields.now) c.put_byte.ensures (holds_as (line_parts c.args.letter c.args.names.now c.args.fields.now) c.requires))

pub returns : goal.returns
returns c =
    puts_as (sym (line_parts c.args.letter c.args.names.now c.args.fields.now))
    (puts_then c.put_byte.ensures (puts_then c.put_fields.ensures c.put_rest.ensures))
