-- The sums that the code makes of a preliminary are those of the definitions. Assumes nothing.
use mathlib.Core.Path.{◌≡◌, sym, ap, fun_ext, ◌∙◌}
use Prim.Native.Nat.{ℕ, ◌+◌, ◌*◌}
use native.Mathlib.Nat.{mul_assoc}
use Rattle.paper.specs.Rates.{square, covers_margin, roots_within, covers_concentration}
use Rattle.published.specs.Sums.{covers_margin_sum, covers_concentration_sum}

pub margin_sum : (P T m R need : ℕ) → need ≡ square P * (T + m) → covers_margin_sum need R T ≡ covers_margin P T m R
unfolding covers_margin
margin_sum P T m R need e = ap (λ (n : ℕ). covers_margin_sum n R T) e

pub concentration_sum : (P T m R L a b cross : ℕ) → a ≡ square P * ((T + m) * L) → b ≡ square R * (L * T) → cross ≡ 4 * a * b → covers_concentration_sum (a + b) cross (T * T) ≡ covers_concentration P T m R L
unfolding covers_concentration roots_within
concentration_sum P T m R L a b cross p q r =
    let A : square P * (T + m) * L ≡ a = mul_assoc (square P) (T + m) L ∙ sym p in
    let B : square R * L * T ≡ b = mul_assoc (square R) L T ∙ sym q in
    let C : cross ≡ 4 * (a * b) = r ∙ mul_assoc 4 a b in
    fun_ext (λ X. cc)
