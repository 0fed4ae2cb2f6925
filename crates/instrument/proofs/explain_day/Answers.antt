-- `instrument::explain_day` meets its contract: the figures of the day, and its reasons by the size of its move. Assumes nothing.
use mathlib.Core.Path.{sym, ap, ◌∙◌}
use mathlib.Core.List.{List, ◌++◌}
use Prim.Native.Nat.{ℕ}
use Rattle.paper.specs.Rates as Rules
use Rattle.paper.specs.Rates.{figure_list}
use Rattle.paper.specs.Reasons as Paper
use Rattle.paper.specs.Reasons.{reason_list, reasons_on}
use Rattle.paper.specs.Calls.{Answer}
use Rattle.figures.specs.Answers.{paper_figures}
use Rattle.stores.specs.Stored.{paper_day}
use Rattle.instrument.specs.Answers.{why_answer_for}
use Rattle.instrument.proofs.Taken.{taken}
use Rattle.instrument.proofs.explain_day.Goals as goal

pub returns : goal.returns
returns c =
    let row : List ℕ = c.args.row.now in
    let d = paper_day c.args.d in
    let by = c.requires.taken in
    let f = paper_figures c.work_day-figures.result in
    let answered : Paper.Reasons → Answer = λ r. record { number = 0; figures = figure_list f ++ reason_list r } in
    let size = ap (λ (m : Rules.Move). m.size) by.moves in
    ap answered (c.reasons_of-reasons.ensures ∙ ap (λ (D : ℕ). reasons_on row d.j D f) size) ∙ sym (ap (why_answer_for row d) (taken row d _ by f c.work_day-figures.ensures))
