-- `row::words_in_range` meets its contract. The loop's invariant: each word passed is in its range. Assumes nothing.
use mathlib.Core.Path.{◌≡◌}
use mathlib.Core.Bool.{true}
use Prim.Native.Nat.{ℕ, ◌+◌, ◌<◌}
use lib.ListN.{get_or}
use Rattle.paper.specs.Row.{range_at, is_in}
use Rattle.row.proofs.words_in_range.Given as goal

abbrev pub invariant-loop-i : goal.invariant-loop-i
invariant-loop-i l = (k : ℕ) → k < l.i → is_in (range_at (l.from + k)) (get_or l.words k 0) ≡ true
