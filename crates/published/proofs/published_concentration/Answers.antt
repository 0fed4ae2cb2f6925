-- `published::published_concentration` meets its contract: what is published of its sum, looking no further than the greatest. Assumes nothing.
use mathlib.Core.Path.{sym, ap, ◌∙◌}
use mathlib.Core.Bool.{Bool}
use Prim.Native.Nat.{ℕ}
use Rattle.paper.specs.Rates.{published}
use Rattle.paper.proofs.Found.{concentration_capped}
use Rattle.published.proofs.Sums.{concentration_sum}
use borrow.Author.Rules.{rules}
use Rattle.published.proofs.published_concentration.Goals as goal

pub returns : goal.returns
returns c =
    let a = c.args in
    c.publish.ensures
    ∙ ap (λ (covers : ℕ → Bool). published a.monitored a.h a.least a.greatest covers a.greatest)
    (concentration_sum a.preliminary a.horizon a.m a.add_on a.long _ _ _ c.square_times-a.ensures.value
    c.square_times-b.ensures.value c.product-cross.ensures)
    ∙ sym (concentration_capped a.monitored a.h a.horizon a.add_on a.least a.greatest a.preliminary a.m (search rules) (search rules) a.long)
