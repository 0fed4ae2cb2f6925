-- `station::set_parameters` meets its contract: a book that is not sound is refused, and the rest is the work of `book`. Assumes nothing.
use mathlib.Core.Path.{refl}
use Rattle.paper.specs.Calls.{parameters}
use Rattle.book.proofs.Kept.{unsound_up}
use Rattle.station.proofs.set_parameters.Goals as goal

pub returns-in_err-test : goal.returns-in_err-test
returns-in_err-test c = unsound_up _ 0 _ (parameters c.args.instrument c.args.params) _ _ refl c.in_err-test.ensures c.from_residual.ensures.1
