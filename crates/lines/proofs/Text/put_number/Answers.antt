-- `lines::Text::put_number` meets its contract: the digits that `io` writes are the number's text. Assumes nothing.
use mathlib.Core.Path.{refl, ◌∙◌}
use native.Mathlib.Omega.{arith}
use Rattle.lines.proofs.Texts.{writes_part, decimal_io, decimal_long}
use Rattle.lines.proofs.Text.put_number.Goals as goal

pub slice_bounds-copy_from_slice-end : goal.slice_bounds-copy_from_slice-end
slice_bounds-copy_from_slice-end c = omega (arith, c.requires.holds, decimal_long c.args.n c.decimal-count.result c.decimal-count.ensures.len)

pub returns : goal.returns
returns c =
    let call = c.decimal-count in
    let long = decimal_long c.args.n call.result call.ensures.len in
    let text = c.copy_from_slice.ensures.after ∙ call.ensures.digits ∙ decimal_io c.args.n call.result call.ensures.len in
    record { same = refl; writes = writes_part _ _ _ _ _ text (omega (arith, long)) (omega (arith, c.requires.holds, long)) }
