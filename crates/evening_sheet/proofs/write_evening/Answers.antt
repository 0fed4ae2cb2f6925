-- `evening_sheet::write_evening` meets its contract: a buffer that is too short is refused, and the sheet is written into any other. Assumes nothing.
use mathlib.Core.Path.{sym, ◌∙◌}
use Rattle.evening_sheet.proofs.Evenings.{evened_room, evened_done}
use Rattle.evening_sheet.proofs.write_evening.Goals as goal

pub returns-then-not-has_room : goal.returns-then-not-has_room
returns-then-not-has_room c = evened_room _ _ c.requires (sym c.has_room.ensures ∙ c.if-not-has_room.true)

pub returns : goal.returns
returns c =
    evened_done c.requires (sym c.has_room.ensures ∙ c.if-not-has_room.false) c.put_sheet.ensures
