-- `stores::open` meets its contract. The loop's invariant: the row has the words passed, and as many words as before. Assumes nothing.
use mathlib.Core.Path.{◌≡◌}
use lib.ListN.{length, take}
use Rattle.stores.proofs.open.Given as goal

abbrev pub invariant-loop-i : goal.invariant-loop-i
invariant-loop-i l = (length l.row ≡ length l.initial.row) × (take l.i l.row ≡ take l.i l.words)
