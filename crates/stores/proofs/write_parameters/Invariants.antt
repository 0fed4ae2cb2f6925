-- `stores::write_parameters` meets its contract. The loop's invariant: the row is what it was with the parameters passed put over its own. Assumes nothing.
use mathlib.Core.Path.{◌≡◌}
use lib.ListN.{length}
use lib.Seq.{paste}
use Rattle.stores.proofs.write_parameters.Given as goal

abbrev pub invariant-loop-i : goal.invariant-loop-i
invariant-loop-i l = (length l.row ≡ length l.initial.row) × (l.row ≡ paste l.initial.row 1 l.params l.i)
