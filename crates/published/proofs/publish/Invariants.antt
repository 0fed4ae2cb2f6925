-- `published::publish` meets its contract. The loop's invariant: it stands at a multiple of h not below the least rate, and every multiple before it fails.
-- The measure is what is left to the greatest rate. Assumes nothing.
use Prim.Native.Nat.{◌-◌, ◌≤◌}
use Rattle.preliminary.proofs.Stepping.{Stepping}
use Rattle.published.proofs.Published.{rate_test}
use Rattle.published.proofs.publish.Given as goal

abbrev pub invariant-loop-x : goal.invariant-loop-x
invariant-loop-x g l = Stepping l.h (rate_test (g.S.Sum.covers l.sum) l.least) l.x × (l.least ≤ l.x) × (l.x ≤ 1100000)

abbrev pub decreases-loop-x : goal.decreases-loop-x
decreases-loop-x g l = l.greatest - l.x
