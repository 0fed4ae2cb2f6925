-- `published::published_margin` meets its contract: what is published of its sum, looking no further than the greatest. Assumes nothing.
use mathlib.Core.Path.{sym, ap, ◌∙◌}
use mathlib.Core.Bool.{Bool}
use Prim.Native.Nat.{ℕ}
use Rattle.paper.specs.Rates.{published}
use Rattle.paper.proofs.Found.{margin_capped}
use Rattle.published.proofs.Sums.{margin_sum}
use borrow.Author.Rules.{rules}
use Rattle.published.proofs.published_margin.Goals as goal

pub returns : goal.returns
returns c =
    let a = c.args in
    c.publish.ensures
    ∙ ap (λ (covers : ℕ → Bool). published a.monitored a.h a.least a.greatest covers a.greatest)
    (margin_sum a.preliminary a.horizon a.m a.add_on _ c.square_times-need.ensures.value)
    ∙ sym (margin_capped a.monitored a.h a.horizon a.add_on a.least a.greatest a.preliminary a.m (search rules) (search rules))
