-- `rows::act` meets its contract: the counts of the three sections are no more than the sheet's, so the numbers reach for every row; the output has room for the rows of a section once those before it have acted. Assumes nothing.
use mathlib.Core.Path.{◌∙◌}
use mathlib.Core.List.{[], ◌∷◌}
use Rattle.std.proofs.Common.{rules}
use Rattle.rows.specs.Acts.{Acts}
use Prim.Native.Nat.{◌+◌}
use native.Mathlib.Omega.{arith}
use lib.Dec.{lit<}
use Rattle.paper_sheets.specs.Sheet.{openings, days, corridors, sections, calls_of}
use Rattle.sheet.specs.Numbers.{days_at, corridors_at, end_at}
use Rattle.rows.proofs.Acting.{acts_none, acts_within, acts_section, room_section, room_others, short_part}
use Rattle.rows.proofs.act.Goals as goal

pub act_rows-requires-clause-short : goal.act_rows-requires-clause-short
act_rows-requires-clause-short c =
    let ns = c.args.numbers.now in
    short_part (end_at ns) 1 _ ns (omega arith) c.requires.numbers.1.short

pub act_rows-requires-clause-room : goal.act_rows-requires-clause-room
act_rows-requires-clause-room c =
    room_section openings (days ∷ corridors ∷ []) c.args.numbers.now 0 (lit< tt) (omega arith) c.requires.room

pub act_rows-requires-2-clause-short : goal.act_rows-requires-2-clause-short
act_rows-requires-2-clause-short c =
    let ns = c.args.numbers.now in
    short_part (end_at ns) (days_at ns + 1) _ ns (omega arith) c.requires.numbers.1.short

pub act_rows-requires-2-clause-room : goal.act_rows-requires-2-clause-room
act_rows-requires-2-clause-room c =
    let ns = c.args.numbers.now in
    let room = room_others openings (days ∷ corridors ∷ []) ns 0 (lit< tt) (omega arith) c.act_rows.ensures.acts c.requires.room in
    room_section days (corridors ∷ []) ns (days_at ns) (lit< tt) (omega arith) room

pub act_rows-requires-3-clause-short : goal.act_rows-requires-3-clause-short
act_rows-requires-3-clause-short c =
    let ns = c.args.numbers.now in
    short_part (end_at ns) (corridors_at ns + 1) _ ns (omega arith) c.requires.numbers.1.short

pub act_rows-requires-3-clause-room : goal.act_rows-requires-3-clause-room
act_rows-requires-3-clause-room c =
    let ns = c.args.numbers.now in
    let after = room_others openings (days ∷ corridors ∷ []) ns 0 (lit< tt) (omega arith) c.act_rows.ensures.acts c.requires.room in
    let room = room_others days (corridors ∷ []) ns (days_at ns) (lit< tt) (omega arith) c.act_rows-2.ensures.acts after in
    room_section corridors [] ns (corridors_at ns) (lit< tt) (omega arith) room

pub returns : goal.returns
unfolding calls_of
returns c =
    let ns = c.args.numbers.now in
    let asked = c.act_rows-3.ensures.acts in
    let acts : Acts c.args.book.now c.act_rows-3.new.book c.args.out.now c.act_rows-3.new.text.out.now 0 c.act_rows-3.new.text.at (calls_of sections ns) =
    acts_section openings (days ∷ corridors ∷ []) ns 0 (lit< tt) (omega arith) c.act_rows.ensures.acts
    (acts_section days (corridors ∷ []) ns (days_at ns) (lit< tt) (omega arith) c.act_rows-2.ensures.acts
    (acts_section corridors [] ns (corridors_at ns) (lit< tt) (omega arith) asked (acts_none _ _ _ asked.sound (acts_within asked)))) in
    let same = c.act_rows-3.ensures.same ∙ c.act_rows-2.ensures.same ∙ c.act_rows.ensures.same in
    search (rules, acts, same)
