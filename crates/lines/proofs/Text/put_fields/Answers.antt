use mathlib.Core.Path.{sym}
use mathlib.Core.List.{[], ◌∷◌}
use native.Mathlib.Omega.{arith}
use lib.ListN.{get_or}
use Rattle.paper_sheets.specs.Sheet.{decimal, blank}
use Rattle.lines.specs.Writes.{spaced}
use Rattle.lines.proofs.Texts.{puts_none, puts_then, puts_as, holds_first, holds_next, holds_field, spaced_next}
use Rattle.lines.proofs.Text.put_fields.Goals as goal

pub loop-field-init : goal.loop-field-init
unfolding spaced
loop-field-init c = puts_none (record { holds = omega (arith, c.requires.holds) })

pub put_byte-requires : goal.put_byte-requires
put_byte-requires c =
    holds_first (blank ∷ []) (decimal (get_or c.args.fields.now c.loop-field.field-index 0))
    (holds_field c.args.fields.now c.loop-field.field-index c.loop-field-test.true c.loop-field.invariant c.requires)

pub put_number-requires : goal.put_number-requires
put_number-requires c =
    holds_next (decimal (get_or c.args.fields.now c.loop-field.field-index 0)) c.put_byte.ensures
    (holds_field c.args.fields.now c.loop-field.field-index c.loop-field-test.true c.loop-field.invariant c.requires)

pub loop-field-preserved : goal.loop-field-preserved
loop-field-preserved c =
    puts_as (sym (spaced_next c.args.fields.now c.loop-field.field-index c.loop-field-test.true))
    (puts_then c.loop-field.invariant (puts_then c.put_byte.ensures c.put_number.ensures))
