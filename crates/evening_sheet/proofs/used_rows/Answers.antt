use mathlib.Core.Path.{refl, sym, ◌∙◌}
use native.Mathlib.Numerals.{add-one}
use native.Mathlib.Omega.{arith}
use lib.ListN.{length-append}
use Rattle.paper_sheets.specs.Evening.{used_rows}
use Rattle.paper_sheets.proofs.Evening.{used_free, used_next, used_few}
use Rattle.evening_sheet.proofs.used_rows.Goals as goal
use Rattle.evening_sheet.proofs.used_rows.Goals.{then-not-is_free, else-not-is_free}

pub loop-k-init : goal.loop-k-init
unfolding used_rows
loop-k-init c = refl

pub overflow_add-count : goal.overflow_add-count
overflow_add-count c = omega (arith, used_few c.args.book.now c.loop-k.k)

pub loop-k-preserved : goal.loop-k-preserved
loop-k-preserved c =
    let book = c.args.book.now in
    let k = c.loop-k.k in
    let free = sym c.is_free.ensures in
    rw add-one
    (elim c.if-not-is_free.branch [
      | then-not-is_free w ↦ rw (used_next book k (free ∙ w.if-not-is_free.true), length-append) (omega (arith, w.count-is))
      | else-not-is_free w ↦ rw (used_free book k (free ∙ w.if-not-is_free.false)) (omega (arith, w.count-is))
    ])
