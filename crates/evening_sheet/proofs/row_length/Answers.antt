-- `evening_sheet::row_length` meets its contract: a row has few words, so the sum of what is measured fits, and it is the length of the row's line. Assumes nothing.
use mathlib.Core.Path.{◌≡◌, sym, ◌∙◌}
use Rattle.std.proofs.Common.{rules, arith, ◌+◌, length}
use Rattle.std.specs.Prelude.{sum_by}
use Rattle.std.proofs.iter.runs.Made.{chains}
use Rattle.std.proofs.lemmas.Iterator.{YieldsList-from_slice}
use Rattle.std.proofs.lemmas.Iterator.Adapters.{fits_from_length, at_most_from_yields_List}
use borrow.Author.Tests.{tests}
use Rattle.paper_sheets.specs.Sheet.{decimal}
use Rattle.evening_sheet.proofs.Lines.{spaced_sum, row_long}
use Rattle.evening_sheet.proofs.row_length.Goals as goal

pub sum-requires-clause-fits : goal.sum-requires-clause-fits
sum-requires-clause-fits c =
    fits_from_length _ _ 23 _ (at_most_from_yields_List (YieldsList-from_slice c.args.row.now cc) (omega arith)) c.map.ensures.closure (omega arith) (λ x r q k. search (rules, tests))

pub returns : goal.returns
returns c =
    let measured : c.sum.result ≡ sum_by (λ w. length (decimal w) + 1) c.args.row.now = search (rules, chains) in
    measured ∙ sym (row_long c.args.row.now c.requires ∙ spaced_sum c.args.row.now)
