-- `forms::read_space` meets its contract, with a space at the start and without one. Assumes nothing.
use Rattle.std.proofs.Common.{◌≡◌, true, false, refl, sym, ◌∙◌, arith}
use Rattle.paper_sheets.specs.Sheet.{starts_with, read_byte, read_item}
use Rattle.forms.proofs.Items.{in_line_here, in_line_past}
use Rattle.forms.proofs.read_space.Goals as goal

pub returns-then-not-stands : goal.returns-then-not-stands
unfolding read_item read_byte
returns-then-not-stands c =
    let none : starts_with 32 c.args.text.now ≡ false = sym c.stands.ensures ∙ c.if-not-stands.true in
    record { in_line = in_line_here _ 0 (omega arith); reads = λ ns. rw none; keeps = tt }

pub returns : goal.returns
unfolding read_item read_byte
returns c =
    let one : starts_with 32 c.args.text.now ≡ true = sym c.stands.ensures ∙ c.if-not-stands.false in
    record { in_line = in_line_past 32 _ 0 one (λ e. omega arith); reads = λ ns. rw one; keeps = refl }
