-- `rows::Corridors`'s `act` meets its contract: the line names the instrument and k, and its other fields are the answer's. Assumes nothing.
use mathlib.Core.Path.{refl, sym, ap}
use mathlib.Core.List.{[], ◌∷◌}
use Rattle.paper.specs.Calls.{Call}
use Rattle.paper_sheets.specs.Sheet.{answer_line}
use Rattle.rows.proofs.Acting.{acts_as, acts_one, line_fits, room_as}
use Rattle.rows.proofs.CorridorsRows.act.Goals as goal

pub put_line-requires : goal.put_line-requires
unfolding answer_line
put_line-requires c =
    let room = room_as (ap (λ (call : Call). call ∷ []) (sym c.terms_of-terms.ensures)) c.requires.room in
    record { holds = line_fits c.corridor_of.ensures.kept 67 (_ ∷ _ ∷ []) _ (λ a. refl) c.corridor_fields-fields.ensures room }

pub returns : goal.returns
unfolding answer_line
returns c =
    record {
      same = c.put_line.ensures.same;
      acts = acts_as (ap (λ (call : Call). call ∷ []) c.terms_of-terms.ensures)
          (acts_one c.corridor_of.ensures.kept 67 (_ ∷ _ ∷ []) _ (λ a. refl) c.corridor_fields-fields.ensures c.requires.sound c.put_line.ensures.writes);
    }
