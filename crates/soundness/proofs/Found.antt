-- A place that a search found is a row's, where it is that of the row. Assumes nothing.
use mathlib.Core.Path.{◌≡◌, refl, sym}
use Prim.Native.Nat.{ℕ, ◌<◌}
use native.Mathlib.Omega.{arith}
use borrow.Author.Tests.{ne_eqb}
use lib.Dec.{eqb}
use Rattle.std.specs.Prelude.{Option, None, Some}
use Rattle.std.specs.Option.{option_eq}
use Rattle.paper.specs.Book.{rows}
use Rattle.soundness.specs.Found.{place_in}

-- What is found is a row's number exactly where its place is.
pub found_at : (found : Option ℕ) (k : ℕ) → k < rows → option_eq eqb found (Some k) ≡ eqb (place_in found) k
found_at (Some j) k l = refl
found_at None k l = sym (ne_eqb rows k (λ e. omega arith))
