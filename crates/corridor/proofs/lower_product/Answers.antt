-- `corridor::lower_product` meets its contract: the signed product fits, and is then clamped. Assumes nothing.
use mathlib.Core.Path.{◌≡◌, ap, ap₂, subst⁻¹, ◌∙◌}
use lib.Dec.{lit<}
use lib.IntN.{ℤ, ◌*ℤ◌}
use mir.Facts.{to_z-of_z}
use mir.Syntax.{w64}
use mir.Val.{SFits, to_z, of_z}
use Rattle.paper.specs.Corridor.{is_repo, spread_down, factor}
use Rattle.corridor.specs.Edges.{paper_terms, at_least_zero}
use Rattle.std.proofs.lemmas.Int.{fits_signed_mul}
use Rattle.corridor.proofs.Ranged.{terms_fit, factor_size, down_size}
use borrow.Author.Rules.{rules}
use Rattle.corridor.proofs.lower_product.Goals as goal

-- The two numbers that are multiplied, and the size of their product.
product_is : (c : goal.After-factor-f) → to_z w64 (of_z w64 c.spread_down-down.result) *ℤ to_z w64 (of_z w64 c.factor-f.result) ≡ spread_down c.args.margin (paper_terms c.args.t) *ℤ factor c.args.t.lower c.args.t.k
unfolding spread_down
product_is c =
    let t = c.args.t in
    let down = c.spread_down-down in
    let back : to_z w64 (of_z w64 t.lower) ≡ t.lower = search rules in
    let here : to_z w64 (of_z w64 down.result) ≡ down.result = search rules in
    let there : to_z w64 (of_z w64 c.factor-f.result) ≡ c.factor-f.result = search rules in
    ap₂ ◌*ℤ◌ (here ∙ down.ensures) (there ∙ c.factor-f.ensures ∙ ap (λ (z : ℤ). factor z t.k) back)

product_fits : (c : goal.After-factor-f) → SFits w64 (spread_down c.args.margin (paper_terms c.args.t) *ℤ factor c.args.t.lower c.args.t.k)
product_fits c =
    let t = paper_terms c.args.t in
    let margin = c.args.margin in
    let p = terms_fit t c.requires.0 in
    fits_signed_mul w64 (spread_down margin t) (factor t.lower t.k) 12000000000 21900000
    (down_size t margin p c.requires.1) (factor_size t.k p.k t.lower p.lower) (lit< tt)

pub spread_down-down-requires : goal.spread_down-down-requires
spread_down-down-requires c =
    let p = terms_fit (paper_terms c.args.t) c.requires.0 in
    (p.x, p.shift, c.requires.1)

pub factor-f-requires : goal.factor-f-requires
factor-f-requires c =
    let t = c.args.t in
    let p = terms_fit (paper_terms t) c.requires.0 in
    let back : to_z w64 (of_z w64 t.lower) ≡ t.lower = search rules in
    (ap is_repo back ∙ p.lower, p.k)

pub overflow_mul-down : goal.overflow_mul-down
overflow_mul-down c = subst⁻¹ (SFits w64) (product_is c) (product_fits c)

pub returns : goal.returns
returns c =
    c.at_least_zero.ensures
    ∙ ap (λ (z : ℤ). at_least_zero (to_z w64 (of_z w64 z))) (product_is c.before) ∙ ap at_least_zero (to_z-of_z (product_fits c.before))
