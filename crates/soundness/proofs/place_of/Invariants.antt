-- `soundness::place_of` meets its contract. The loop's invariant: no row passed holds the instrument. Assumes nothing.
use mathlib.Core.Path.{◌≡◌}
use Prim.Native.Nat.{ℕ, ◌*◌, ◌<◌}
use lib.ListN.{get_or}
use Rattle.paper.specs.Row.{width}
use Rattle.soundness.proofs.place_of.Given as goal

abbrev pub invariant-loop-k : goal.invariant-loop-k
invariant-loop-k l = (j : ℕ) → j < l.k → get_or l.book (j * width) 0 ≡ l.instrument → ⊥
