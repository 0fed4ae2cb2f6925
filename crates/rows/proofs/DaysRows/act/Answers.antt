-- `rows::Days`'s `act` meets its contract: the line names the instrument and the day, and its other fields are the answer's. Assumes nothing.
use mathlib.Core.Path.{refl}
use mathlib.Core.List.{[], ◌∷◌}
use Rattle.paper_sheets.specs.Sheet.{answer_line}
use Rattle.rows.proofs.Acting.{acts_one, line_fits}
use Rattle.rows.proofs.DaysRows.act.Goals as goal

pub put_line-requires : goal.put_line-requires
unfolding answer_line
put_line-requires c =
    record { holds = line_fits c.give_day.ensures.kept 68 (_ ∷ _ ∷ []) _ (λ a. refl) c.day_fields-fields.ensures c.requires.room }

pub returns : goal.returns
unfolding answer_line
returns c =
    let given = c.give_day in
    record { same = c.put_line.ensures.same; acts = acts_one given.ensures.kept 68 (_ ∷ _ ∷ []) _ (λ a. refl) c.day_fields-fields.ensures given.ensures.sound c.put_line.ensures.writes }
