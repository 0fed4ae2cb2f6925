-- `preliminary::move_on` meets its contract: the larger of the two moves, and the price that gives it. Assumes nothing.
use borrow.Author.Rules.{rules}
use Rattle.paper.specs.Rates.{move}
use Rattle.preliminary.proofs.move_on.Goals as goal

pub returns-then-by_newer-by_older : goal.returns-then-by_newer-by_older
unfolding move
returns-then-by_newer-by_older c = search rules

pub returns-else-by_newer-by_older : goal.returns-else-by_newer-by_older
unfolding move
returns-else-by_newer-by_older c = search rules
