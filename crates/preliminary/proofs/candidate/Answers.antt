use mathlib.Core.Path.{◌≡◌, ap, subst⁻¹, ◌∙◌}
use mathlib.Core.Bool.{cond}
use Prim.Native.Nat.{ℕ, ◌*◌}
use borrow.Author.Rules.{rules}
use native.Mathlib.Omega.{arith}
use Rattle.paper.specs.Rates.{ceil_div, covers_need}
use Rattle.paper.proofs.Rates.{need_covered, need_above, need_shock, need_limit}
use Rattle.paper.proofs.Found.{found_same, candidate_found}
use Rattle.paper.proofs.Limits.{cond_le}
use Rattle.preliminary.proofs.Stepping.{Stepping, start, next, ends, start_near}
use Rattle.preliminary.proofs.candidate.Goals as goal

pub loop-c-init : goal.loop-c-init
loop-c-init c =
    let a = c.args in
    let e : c.multiple_from-c.result ≡ a.h * ceil_div (cond a.shock a.d 0) a.h
    = c.multiple_from-c.ensures ∙ ap (λ (n : ℕ). a.h * ceil_div n a.h) c.floor_of.ensures in
    let near = start_near a.h (cond a.shock a.d 0) (search rules) in
    let small = cond_le a.shock a.d 0 1000000 (search rules) (omega arith) in (
      subst⁻¹ (Stepping a.h (covers_need a.alpha a.v a.d a.shock)) e
          (start a.h (covers_need a.alpha a.v a.d a.shock) (cond a.shock a.d 0) (search rules)
          (λ X l. need_shock a.alpha a.v a.d X a.shock l)),
      omega arith,
      omega arith,
    )

pub loop-c-preserved : goal.loop-c-preserved
loop-c-preserved c =
    let a = c.args in
    let at = c.loop-c.c in
    let low = need_limit a.alpha a.v at (search rules) (search rules) c.loop-c-test.true in (
      next a.h (covers_need a.alpha a.v a.d a.shock) at c.loop-c.invariant.0
          (need_above a.alpha a.v a.d at a.shock c.loop-c-test.true),
      omega arith,
      omega arith,
    )

pub returns : goal.returns
returns c =
    let a = c.args in
    let at = c.loop-c.c in
    found_same a.h (covers_need a.alpha a.v a.d a.shock) _ _
    (ends a.h (covers_need a.alpha a.v a.d a.shock) at c.loop-c.invariant.0
    (need_covered a.alpha a.v a.d at a.shock c.loop-c-test.false c.loop-c.invariant.1))
    (candidate_found a.h a.alpha a.v a.d a.shock (search rules))
