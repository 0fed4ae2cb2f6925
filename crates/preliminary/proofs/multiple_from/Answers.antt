-- `preliminary::multiple_from` meets its contract: of the multiples, one alone is not below the rate and less than one step above it. Assumes nothing.
use mathlib.Core.Path.{◌≡◌, ap, ◌∙◌}
use Prim.Native.Nat.{ℕ, ◌*◌, ◌/◌}
use borrow.Author.Rules.{rules}
use native.Mathlib.Nat.{mul_comm}
use native.Mathlib.Omega.{arith}
use Rattle.paper.proofs.Rates.{ceil_unique}
use Rattle.preliminary.proofs.multiple_from.Goals as goal

pub returns : goal.returns
returns c =
    let a = c.args in
    let m = c.next_multiple_of in
    let n = m.result / a.h in
    let whole : m.result ≡ a.h * n = omega arith in
    whole ∙ ap (λ (k : ℕ). a.h * k) (ceil_unique a.rate a.h (search rules) n (omega (arith, mul_comm n a.h)) (omega (arith, mul_comm n a.h)))
