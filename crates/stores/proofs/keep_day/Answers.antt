-- `stores::keep_day` meets its contract: its stores are those of `sets`, one after the other. Assumes nothing.
use Rattle.paper.specs.Rates.{next_row}
use borrow.Author.Rules.{rules}
use Rattle.stores.proofs.keep_day.Goals as goal

pub returns : goal.returns
unfolding next_row
returns c = search rules
