-- `book::is_halted` meets its contract: the word that is read is the row's last. Assumes nothing.
use mathlib.Core.Path.{refl}
use Rattle.paper.specs.Row.{is_halted}
use Rattle.book.proofs.is_halted.Goals as goal

pub returns : goal.returns
unfolding is_halted
returns c = refl
