-- `rows::Openings`'s `act` meets its contract: the answer's number is all that the line says of it, for an opening has no figures. Assumes nothing.
use mathlib.Core.Path.{refl, ap}
use mathlib.Core.List.{[], ◌∷◌}
use Rattle.paper.specs.Calls.{Answer}
use Rattle.paper_sheets.specs.Sheet.{answer_line}
use Rattle.answers.proofs.Fields.{bare_is}
use Rattle.rows.proofs.Acting.{acts_one, line_fits}
use Rattle.rows.proofs.OpeningsRows.act.Goals as goal

pub put_line-requires : goal.put_line-requires
unfolding answer_line
put_line-requires c =
    let opened = c.open-answer in
    record { holds = line_fits opened.ensures.kept 79 (_ ∷ []) _ (λ a. refl) (ap (λ (a : Answer). a.number ∷ a.figures) (bare_is opened.result c.call_number.ensures)) c.requires.room }

pub returns : goal.returns
unfolding answer_line
returns c =
    let opened = c.open-answer in
    record { same = c.put_line.ensures.same; acts = acts_one opened.ensures.kept 79 (_ ∷ []) _ (λ a. refl) (ap (λ (a : Answer). a.number ∷ a.figures) (bare_is opened.result c.call_number.ensures)) opened.ensures.sound c.put_line.ensures.writes }
