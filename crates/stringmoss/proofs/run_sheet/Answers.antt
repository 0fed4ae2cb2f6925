-- `stringmoss::run_sheet` meets its contract: a book that is not sound and an output that is too short are refused, and the rest is the work of `runs`. Assumes nothing.
use mathlib.Core.Path.{ap}
use native.Mathlib.Nat.{le_trans}
use native.Mathlib.Omega.{arith}
use Rattle.paper_sheets.proofs.Output.{text_fits}
use Rattle.row.proofs.Handed.{handed_up}
use Rattle.runs.specs.Before.{stopped_before}
use Rattle.stringmoss.proofs.Links.{ran_into, unsound_into, short_into}
use Rattle.stringmoss.proofs.run_sheet.Goals as goal

pub returns-in_err-test : goal.returns-in_err-test
returns-in_err-test c =
    rw (handed_up c.from_residual.result _ _ (ap stopped_before c.in_err-test.ensures.0) c.from_residual.ensures.1) (unsound_into c.in_err-test.ensures.1)

pub returns-then-out-lt-TEXT : goal.returns-then-out-lt-TEXT
returns-then-out-lt-TEXT c = rw c.into.ensures (short_into c.in_ok-test.ensures c.if-out-lt-TEXT.true)

pub run_sheet-requires-clause-room : goal.run_sheet-requires-clause-room
run_sheet-requires-clause-room c = le_trans (text_fits _ _) (omega arith)

pub returns : goal.returns
returns c = ran_into c.run_sheet.result c.if-out-lt-TEXT.false c.run_sheet.ensures
