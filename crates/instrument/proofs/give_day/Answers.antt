-- `instrument::give_day` meets its contract: the days since change are no more than today's number. Assumes nothing.
use Rattle.paper.proofs.Days.{day_accepted}
use Rattle.stores.specs.Stored.{paper_day}
use Rattle.instrument.proofs.Taken.{taken}
use Rattle.instrument.proofs.give_day.Goals as goal

pub keep_day-requires-clause-since : goal.keep_day-requires-clause-since
keep_day-requires-clause-since c =
    (day_accepted _ _ _ _ (taken _ (paper_day c.args.d) _ c.requires.taken _ c.work_day-figures.ensures)).since
