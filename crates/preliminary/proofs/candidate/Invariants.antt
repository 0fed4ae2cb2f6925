-- `preliminary::candidate` meets its contract. The loop's invariant: it stands at a multiple of h not below the floor and not above 4,100,000, and every multiple before it does not cover the need.
-- The measure is what is left to 4,100,000. Assumes nothing.
use mathlib.Core.Bool.{cond}
use Prim.Native.Nat.{◌-◌, ◌≤◌}
use Rattle.paper.specs.Rates.{covers_need}
use Rattle.preliminary.proofs.Stepping.{Stepping}
use Rattle.preliminary.proofs.candidate.Given as goal

abbrev pub invariant-loop-c : goal.invariant-loop-c
invariant-loop-c l = Stepping l.h (covers_need l.alpha l.v l.d l.shock) l.c × (cond l.shock l.d 0 ≤ l.c) × (l.c ≤ 4100000)

abbrev pub decreases-loop-c : goal.decreases-loop-c
decreases-loop-c l = 4100000 - l.c
