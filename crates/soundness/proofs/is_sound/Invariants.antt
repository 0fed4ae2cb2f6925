-- `soundness::is_sound` meets its contract. The loop's invariant: each row passed is sound. Assumes nothing.
use mathlib.Core.Path.{◌≡◌}
use mathlib.Core.Bool.{true}
use Prim.Native.Nat.{ℕ, ◌<◌}
use lib.ListN.{length}
use Rattle.paper.specs.Book.{is_row_sound, size}
use Rattle.soundness.proofs.is_sound.Given as goal

abbrev pub invariant-loop-row : goal.invariant-loop-row
invariant-loop-row l = (length l.book ≡ size) × ((j : ℕ) → j < l.row → is_row_sound l.book j ≡ true)
