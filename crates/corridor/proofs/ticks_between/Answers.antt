-- `corridor::ticks_between` meets its contract: the least and the greatest multiple, where the one is not above the other. Assumes nothing.
use mathlib.Core.Path.{ap}
use Prim.Native.Nat.{ℕ, ◌*◌, ◌/◌}
use borrow.Author.Rules.{rules}
use Rattle.corridor.proofs.Multiples.{inside, low, high, ticks_found}
use Rattle.corridor.proofs.ticks_between.Goals as goal

pub returns : goal.returns
unfolding inside low high
returns c =
    let a = c.args in
    let above = c.in_ok-last.ensures in
    rw c.then_some.ensures
    (ticks_found a.first a.above a.tick (search rules) above.0 _ _ c.tick_from-lowest.ensures (ap (λ (n : ℕ). a.tick * (n / a.tick)) above.1))
