-- `forms::read_sign` meets its contract: with no minus at the start, with one before 0, and with one before anything else. Assumes nothing.
use Rattle.std.proofs.Common.{◌≡◌, true, false, drop, refl, sym, ◌∙◌, arith}
use Rattle.paper_sheets.specs.Sheet.{starts_with, read_item}
use Rattle.forms.proofs.Items.{rest_all, starts_some, in_line_here, in_line_past}
use Rattle.forms.proofs.read_sign.Goals as goal

pub returns-then-not-stands : goal.returns-then-not-stands
unfolding read_item
returns-then-not-stands c =
    let none : starts_with 45 c.args.text.now ≡ false = sym c.stands.ensures ∙ c.if-not-stands.true in
    record { in_line = in_line_here _ 0 (omega arith); reads = λ ns. rw none; keeps = refl }

pub slice_bounds-stands-count : goal.slice_bounds-stands-count
slice_bounds-stands-count c = starts_some 45 _ (sym c.stands.ensures ∙ c.if-not-stands.false)

pub slice_bounds-stands-start : goal.slice_bounds-stands-start
slice_bounds-stands-start c = omega (arith, starts_some 45 _ (sym c.stands.ensures ∙ c.if-not-stands.false))

pub returns-then-stands : goal.returns-then-stands
unfolding read_item
returns-then-stands c =
    let one : starts_with 45 c.args.text.now ≡ true = sym c.stands.ensures ∙ c.if-not-stands.false in
    let zero : starts_with 48 (drop 1 c.args.text.now) ≡ true = rw rest_all at (sym c.stands-2.ensures ∙ c.if-stands.true) in
    record { in_line = in_line_here _ 0 (omega arith); reads = λ ns. rw (one, zero); keeps = tt }

pub returns : goal.returns
unfolding read_item
returns c =
    let one : starts_with 45 c.args.text.now ≡ true = sym c.stands.ensures ∙ c.if-not-stands.false in
    let other : starts_with 48 (drop 1 c.args.text.now) ≡ false = rw rest_all at (sym c.stands-2.ensures ∙ c.if-stands.false) in
    record { in_line = in_line_past 45 _ 0 one (λ e. omega arith); reads = λ ns. rw (one, other); keeps = refl }
