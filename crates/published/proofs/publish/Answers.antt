use mathlib.Core.Path.{sym, subst⁻¹, ◌∙◌}
use borrow.Author.Rules.{rules}
use native.Mathlib.Omega.{arith}
use Rattle.preliminary.proofs.Stepping.{Stepping, start, next, start_near}
use Rattle.published.proofs.Published.{rate_test, below_least, uncovered, unmonitored, ends_below, ends_at_greatest}
use Rattle.published.proofs.publish.Goals as goal

pub returns-then-monitored-ne1 : goal.returns-then-monitored-ne1
returns-then-monitored-ne1 g c =
    let a = c.args in
    unmonitored a.monitored a.h a.least a.greatest (g.S.Sum.covers a.sum.now) c.if-monitored-ne1.true

pub loop-x-init : goal.loop-x-init
loop-x-init g c =
    let a = c.args in
    let near = start_near a.h a.least (search rules) in (
      subst⁻¹ (Stepping a.h (rate_test (g.S.Sum.covers a.sum.now) a.least)) c.multiple_from-x.ensures
          (start a.h (rate_test (g.S.Sum.covers a.sum.now) a.least) a.least (search rules) (below_least (g.S.Sum.covers a.sum.now) a.least)),
      omega arith,
      omega arith,
    )

pub returns-then-covers : goal.returns-then-covers
returns-then-covers g c =
    let a = c.args in
    let at = c.loop-x in
    ends_below a.monitored a.h a.least a.greatest (g.S.Sum.covers a.sum.now) c.if-monitored-ne1.false
    (search rules) at.x at.invariant.0 (sym c.covers.ensures ∙ c.if-covers.true) at.invariant.1 c.loop-x-test.true

pub loop-x-preserved : goal.loop-x-preserved
loop-x-preserved g c =
    let a = c.args in
    let at = c.loop-x in (
      next a.h (rate_test (g.S.Sum.covers a.sum.now) a.least) at.x at.invariant.0
          (uncovered (g.S.Sum.covers a.sum.now) a.least at.x (sym c.covers.ensures ∙ c.if-covers.false)),
      omega arith,
      omega arith,
    )

pub returns : goal.returns
returns g c =
    let a = c.args in
    let at = c.loop-x in
    ends_at_greatest a.monitored a.h a.least a.greatest (g.S.Sum.covers a.sum.now) c.if-monitored-ne1.false
    (search rules) at.x at.invariant.0 c.loop-x-test.false
