-- `wide::product` meets its contract: its columns, put together by the law over the width, at halves of 32 bits. Assumes nothing.
use Rattle.std.proofs.Common.{ℕ, ◌+◌, ◌*◌, ◌%◌, ◌^◌, ap, mod-eq_of_lt, ◌∙◌, rules}
use Rattle.wide.specs.Value.{word}
use Rattle.wide.proofs.Columns.{product_columns, upper_fits}
use Rattle.wide.proofs.product.Goals as goal

pub returns : goal.returns
returns c =
    let cross = c.add_words-cross in
    let low = c.add_words-low in
    let fits = upper_fits (2 ^ 32) _ _ _ _ _ _ cross.ensures low.ensures (search rules) (search rules) in
    let upper = ap (λ (n : ℕ). (n + (cross.result.over * 2 ^ 32 + low.result.over)) % word) (mod-eq_of_lt fits.0) in
    ap (λ (n : ℕ). n * word + low.result.word) (upper ∙ mod-eq_of_lt fits.3)
    ∙ product_columns (2 ^ 32) _ _ _ _ _ _ cross.ensures low.ensures
