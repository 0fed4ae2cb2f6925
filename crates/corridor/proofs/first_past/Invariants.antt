-- `corridor::first_past` meets its contract. The loop's invariant: every price from the first up to `low` fails the test, and every one from `high` up to the end passes it.
-- The measure is the gap between the two. Assumes nothing.
use mathlib.Core.Path.{◌≡◌}
use mathlib.Core.Bool.{Bool, true, false}
use Prim.Native.Nat.{ℕ, ◌-◌, ◌≤◌, ◌<◌}
use Rattle.corridor.proofs.first_past.Given as goal

abbrev pub invariant-loop-low : goal.invariant-loop-low
invariant-loop-low g l = record {
  first : l.from ≤ l.low;
  order : l.low ≤ l.high;
  last : l.high ≤ l.end;
  below : (q : ℕ) (b : Bool) → l.from ≤ q → q < l.low → goal.F-post g l.is_past q b → b ≡ false;
  past : (q : ℕ) (b : Bool) → l.high ≤ q → q < l.end → goal.F-post g l.is_past q b → b ≡ true;
}

abbrev pub decreases-loop-low : goal.decreases-loop-low
decreases-loop-low g l = l.high - l.low
