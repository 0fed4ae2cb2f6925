-- `sheet::opening_form` meets its contract. The loop's invariant: of the even places the first so many name a number, and every other place a space. Assumes nothing.
use mathlib.Core.Path.{◌≡◌}
use mathlib.Core.List.{List, [], ◌∷◌}
use Prim.Native.Nat.{ℕ, zero, suc, ◌*◌, ◌-◌}
use lib.ListN.{replicate}
use Rattle.paper.specs.Row.{width}
use Rattle.sheet.proofs.opening_form.Given as goal

-- So many bytes, of which the first so many at even places are n, and the others spaces.
unfoldable pub evens : ℕ → ℕ → List ℕ
evens zero n = replicate n 32
evens (suc k) zero = []
evens (suc k) (suc zero) = 110 ∷ []
evens (suc k) (suc (suc n)) = 110 ∷ 32 ∷ evens k n

abbrev pub invariant-loop-i : goal.invariant-loop-i
invariant-loop-i l = l.form ≡ evens l.i (2 * width - 1)
