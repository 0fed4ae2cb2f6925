-- `lines::Text::put_fields` meets its contract. The loop's invariant: the numbers passed are written. Assumes nothing.
use lib.ListN.{take}
use Rattle.lines.specs.Puts.{Puts}
use Rattle.lines.specs.Writes.{spaced}
use Rattle.lines.proofs.Text.put_fields.Given as goal

abbrev pub invariant-loop-field : goal.invariant-loop-field
invariant-loop-field l = Puts l.initial.self l.self (spaced (take l.field-index l.fields))
