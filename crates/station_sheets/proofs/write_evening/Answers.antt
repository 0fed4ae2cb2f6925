-- `station_sheets::write_evening` meets its contract: a book that is not sound is refused, and the rest is the work of `evening_sheet`. Assumes nothing.
use Rattle.row.proofs.Handed.{handed_up}
use Rattle.evening_sheet.proofs.Evenings.{evened_unsound}
use Rattle.station_sheets.proofs.write_evening.Goals as goal

pub returns-in_err-test : goal.returns-in_err-test
returns-in_err-test c =
    rw (handed_up c.from_residual.result _ _ c.in_err-test.ensures.0 c.from_residual.ensures.1) (evened_unsound _ _ c.in_err-test.ensures.1)
