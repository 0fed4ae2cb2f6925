-- `runs::run_sheet` meets its contract: what the check of the sheet found says whether its bad line is written or its rows act. Assumes nothing.
use Rattle.std.proofs.Common.{arith, rules}
use Rattle.runs.proofs.Runs.{line_long, calls_fit, ran_refused, ran_done}
use Rattle.runs.proofs.run_sheet.Goals as goal

pub put_line-requires : goal.put_line-requires
put_line-requires c =
    record { holds = omega (arith, c.requires.room, line_long c.args.book.now c.requires.sound c.in-Err.ensures.found) }

pub returns-in-Err : goal.returns-in-Err
returns-in-Err c =
    let same = c.put_line.ensures.same in
    let refused = ran_refused c.args.book.now c.requires.sound c.in-Err.ensures.found c.put_line.ensures.writes in
    search (rules, refused, same)

pub act-requires : goal.act-requires
act-requires c =
    let check = c.in_default.ensures in
    record {
      sound = c.requires.sound;
      numbers = (c.check.array_long, check.kept.form);
      room = calls_fit c.args.book.now c.args.sheet.now c.requires.sound check.found.finds check.kept.calls c.requires.room;
    }

pub returns : goal.returns
returns c =
    let check = c.in_default.ensures in
    ran_done c.args.book.now c.args.sheet.now c.requires.sound check.found.finds check.kept.calls c.act.ensures
