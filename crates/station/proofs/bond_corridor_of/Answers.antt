-- `station::bond_corridor_of` meets its contract: a book that is not sound is refused, and the rest is the work of `book`. Assumes nothing.
use mathlib.Core.Path.{refl}
use Rattle.paper.specs.Calls.{bond}
use Rattle.corridor.specs.Edges.{paper_terms, paper_bond}
use Rattle.book.proofs.Kept.{unsound_up}
use Rattle.station.proofs.bond_corridor_of.Goals as goal

pub returns-in_err-test : goal.returns-in_err-test
returns-in_err-test c = unsound_up _ 2 _ (bond c.args.instrument (paper_terms c.args.t) (paper_bond c.args.b)) _ _ refl c.in_err-test.ensures c.from_residual.ensures.1
