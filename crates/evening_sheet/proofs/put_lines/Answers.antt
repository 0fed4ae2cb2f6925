use native.Mathlib.Numerals.{add-one}
use native.Mathlib.Omega.{arith}
use Rattle.paper_sheets.specs.Evening.{used_rows}
use Rattle.lines.proofs.Texts.{writes_kept, puts_none, puts_then}
use Rattle.evening_sheet.specs.Lines.{lines_below}
use Rattle.evening_sheet.proofs.Lines.{lines_next, lines_room}
use Rattle.evening_sheet.proofs.put_lines.Goals as goal

pub loop-k-init : goal.loop-k-init
unfolding used_rows lines_below
loop-k-init c = puts_none (record { holds = omega (arith, c.requires.room.holds) })

pub loop-k-preserved : goal.loop-k-preserved
loop-k-preserved c =
    let turn = c.loop-k in
    let next = lines_next c.args.book.now turn.k in
    rw (add-one, next) (puts_then turn.invariant c.put_used.ensures)

pub put_used-requires-clause-room : goal.put_used-requires-clause-room
put_used-requires-clause-room c =
    let turn = c.loop-k in
    let room = lines_room c.args.book.now turn.k 64 (omega arith) in
    record { holds = omega (arith, room, c.requires.room.holds, turn.invariant.writes.ends, writes_kept turn.invariant.writes) }
