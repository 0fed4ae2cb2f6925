-- `corridor::upper_product` meets its contract: both factors are without sign, so their product is the signed one. Assumes nothing.
use mathlib.Core.Path.{◌≡◌, ap, subst⁻¹, ◌∙◌}
use Prim.Native.Nat.{ℕ, ◌+◌, ◌*◌, ◌≤◌}
use native.Mathlib.Nat.{le_trans, lt_of_le_of_lt, mul-le-mul}
use native.Mathlib.Omega.{arith}
use lib.Dec.{lit<}
use lib.IntN.{ℤ, pos, ◌*ℤ◌}
use mir.Syntax.{w64}
use mir.Val.{to_z, of_z}
use Rattle.paper.specs.Corridor.{is_repo, spread_up, factor}
use Rattle.corridor.specs.Edges.{paper_terms, at_least_zero}
use Rattle.corridor.proofs.Ranged.{terms_fit, shift_small, clamp_le, factor_size, factor_clamped}
use borrow.Author.Rules.{rules}
use Rattle.corridor.proofs.upper_product.Goals as goal

-- What is multiplied by is the factor, which is small.
factor_is : (c : goal.After-at_least_zero) → c.at_least_zero.result ≡ at_least_zero (factor c.args.t.upper c.args.t.k)
factor_is c =
    let t = c.args.t in
    let back : to_z w64 (of_z w64 t.upper) ≡ t.upper = search rules in
    let there : to_z w64 (of_z w64 c.factor.result) ≡ c.factor.result = search rules in
    c.at_least_zero.ensures ∙ ap at_least_zero (there ∙ c.factor.ensures ∙ ap (λ (z : ℤ). factor z t.k) back)

product_small : (c : goal.After-at_least_zero) → (c.args.t.x * 1000000 + 2 * c.args.t.shift * c.args.margin) * c.at_least_zero.result ≤ 262800000000000000
product_small c =
    let t = paper_terms c.args.t in
    let p = terms_fit t c.requires.0 in
    mul-le-mul {n₂ = 12000000000} {m₂ = 21900000}
    (omega (arith, p.x, shift_small t _ p c.requires.1))
    (subst⁻¹ (λ (n : ℕ). n ≤ 21900000) (factor_is c) (le_trans (clamp_le (factor t.upper t.k)) (factor_size t.k p.k t.upper p.upper)))

pub overflow_mul-up : goal.overflow_mul-up
overflow_mul-up c = record { fits = omega (arith, (terms_fit (paper_terms c.args.t) c.requires.0).x) }

pub overflow_mul-up-2 : goal.overflow_mul-up-2
overflow_mul-up-2 c = record { fits = omega (arith, (terms_fit (paper_terms c.args.t) c.requires.0).shift) }

pub overflow_mul-up-3 : goal.overflow_mul-up-3
overflow_mul-up-3 c = record { fits = omega (arith, shift_small (paper_terms c.args.t) c.args.margin (terms_fit (paper_terms c.args.t) c.requires.0) c.requires.1) }

pub overflow_add-up : goal.overflow_add-up
overflow_add-up c = record { fits = omega (arith, shift_small (paper_terms c.args.t) c.args.margin (terms_fit (paper_terms c.args.t) c.requires.0) c.requires.1, (terms_fit (paper_terms c.args.t) c.requires.0).x) }

pub factor-requires : goal.factor-requires
factor-requires c =
    let t = c.args.t in
    let p = terms_fit (paper_terms c.args.t) c.requires.0 in
    let back : to_z w64 (of_z w64 t.upper) ≡ t.upper = search rules in
    (ap is_repo back ∙ p.upper, p.k)

pub overflow_mul-result : goal.overflow_mul-result
overflow_mul-result c = record { fits = lt_of_le_of_lt (product_small c) (lit< tt) }

pub returns-clause-result_value : goal.returns-clause-result_value
unfolding spread_up
returns-clause-result_value c =
    let t = paper_terms c.args.t in
    let p = terms_fit t c.requires.0 in
    ap (λ (n : ℕ). spread_up c.args.margin t *ℤ pos n) (factor_is c)
    ∙ ap (λ (z : ℤ). spread_up c.args.margin t *ℤ z) (factor_clamped t.k p.k t.upper p.upper)

pub returns-clause-small : goal.returns-clause-small
returns-clause-small c = product_small c
