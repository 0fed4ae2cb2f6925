-- `sheet::check` meets its contract: nothing is found in a sheet that is read to its end, whose numbers are kept, and else the part from the start of the bad line to its end. Assumes nothing.
use Rattle.std.proofs.Common.{◌≡◌, ℕ, ◌+◌, ◌≤◌, length, drop, refl, ap, ◌∙◌, arith}
use Rattle.paper_sheets.specs.Sheet.{line_length}
use Rattle.forms.proofs.Items.{rest_all}
use Rattle.sheet.proofs.Complete.{end_within, finds_long, finds_none, keeps_all, finds_bad}
use Rattle.sheet.proofs.check.Goals as goal
use Rattle.sheet.proofs.check.Goals.{After-line_length}

-- Where the bad line ends.
line_ends : (c : After-line_length) → c.line_length.result ≡ line_length (drop c.in-Err.bad.at c.args.sheet.now)
line_ends c = c.line_length.ensures ∙ ap line_length (rest_all c.args.sheet.now c.in-Err.bad.at)

end_in : (c : After-line_length) → c.in-Err.bad.at + c.line_length.result ≤ length c.args.sheet.now
end_in c = rw (line_ends c) (end_within c.args.sheet.now c.in-Err.bad.at c.in-Err.ensures.stands.within)

pub overflow_add-end : goal.overflow_add-end
overflow_add-end c = omega (arith, end_in (goal.at.overflow_add-end c).After-line_length)

pub slice_bounds-result-end-in-Err : goal.slice_bounds-result-end-in-Err
slice_bounds-result-end-in-Err c = omega (arith, end_in (goal.at.slice_bounds-result-end-in-Err c).After-line_length)

pub returns-then-sheet-gt-MOST_BYTES-clause-found : goal.returns-then-sheet-gt-MOST_BYTES-clause-found
returns-then-sheet-gt-MOST_BYTES-clause-found c = finds_long _ c.if-sheet-gt-MOST_BYTES.true

pub returns-in-Ok-clause-found : goal.returns-in-Ok-clause-found
returns-in-Ok-clause-found c = finds_none c.if-sheet-gt-MOST_BYTES.false c.in-Ok.ensures

pub returns-in-Ok-clause-kept : goal.returns-in-Ok-clause-kept
returns-in-Ok-clause-kept c = keeps_all c.if-sheet-gt-MOST_BYTES.false c.in-Ok.ensures

pub returns-in-Err-clause-found : goal.returns-in-Err-clause-found
returns-in-Err-clause-found c = finds_bad c.if-sheet-gt-MOST_BYTES.false c.in-Err.ensures (c.in-Err.bad.at + c.line_length.result) (ap (λ (n : ℕ). c.in-Err.bad.at + n) (line_ends (goal.at.returns-in-Err-clause-found c).After-line_length)) _ refl
