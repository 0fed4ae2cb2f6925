-- `evening_sheet::is_free` meets its contract: the word that is read is the row's instrument. Assumes nothing.
use mathlib.Core.Path.{sym}
use native.Mathlib.Omega.{arith}
use Rattle.paper.proofs.Sound.{sound_long}
use Rattle.evening_sheet.proofs.Lines.{free_start}
use Rattle.evening_sheet.proofs.is_free.Goals as goal

pub bounds-book-k : goal.bounds-book-k
bounds-book-k c = omega (arith, sound_long _ c.requires.sound)

pub returns : goal.returns
returns c =
    sym (free_start c.args.book.now c.args.k c.requires.sound c.requires.row)
