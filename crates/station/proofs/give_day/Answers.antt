-- `station::give_day` meets its contract: a book that is not sound is refused, and the rest is the work of `book`. Assumes nothing.
use mathlib.Core.Path.{refl}
use Rattle.paper.specs.Calls.{day}
use Rattle.stores.specs.Stored.{paper_day}
use Rattle.book.proofs.Kept.{unsound_up}
use Rattle.station.proofs.give_day.Goals as goal

pub returns-in_err-test : goal.returns-in_err-test
returns-in_err-test c = unsound_up _ 6 _ (day (paper_day c.args.d)) _ _ refl c.in_err-test.ensures c.from_residual.ensures.1
