-- `evening_sheet::has_room` meets its contract: no sheet is longer than the longest, and a shorter buffer is compared with this one. Assumes nothing.
use mathlib.Core.Path.{sym}
use native.Mathlib.Nat.{le_trans}
use native.Mathlib.Omega.{arith}
use borrow.Author.Tests.{le-leb}
use Rattle.paper_sheets.proofs.Evening.{evening_fits}
use Rattle.evening_sheet.proofs.has_room.Goals as goal

pub returns-then-bytes-ge-EVENING : goal.returns-then-bytes-ge-EVENING
returns-then-bytes-ge-EVENING c = sym (le-leb _ _ (le_trans (evening_fits _ c.requires) (omega arith)))
