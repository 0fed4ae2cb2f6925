-- One move of two variances at once, over one denominator: a goes with the square s₁ and b with s. Where both choose one weight each is the same mean of its two parts, and where they choose different ones the first is at most the larger of its two and the second not below its part beside that one. So a bound that the variances and the squares keep, the next variances keep. Assumes nothing.
use mathlib.Core.Path.{◌≡◌, refl, ap, ◌∙◌}
use mathlib.Core.Bool.{Bool, true, false, cond}
use Prim.Native.Nat.{ℕ, ◌+◌, ◌*◌, ◌-◌, ◌≤◌, ◌<◌}
use native.Mathlib.Nat.{le_trans, mul-le-mul_left, mul-le-mul_right, mul-lt-mul_of_pos_right, add-sub_of_le, le_of_lt}
use native.Mathlib.Decide.{dec_le}
use native.Mathlib.Omega.{arith}
use borrow.Author.Tests.{ltb-true, ltb-false, lt-ltb, le-ltb}
use lib.Dec.{ltb}
use Rattle.paper.specs.Rates.{square}
use Rattle.paper.proofs.Rates.{shares, mean_le, square_mono}

-- The weighted sum of a variance e and a square s.
unfoldable pub blend : ℕ → ℕ → ℕ → ℕ → ℕ
blend upper lower s e = (10000 - cond (ltb e s) upper lower) * e + cond (ltb e s) upper lower * s

-- It rises with the variance: below the square by one weight, from there on by the other, and at the square the two agree.
pub blend_rises : (u l s e e' : ℕ) → u ≤ 10000 → l ≤ 10000 → e ≤ e' → blend u l s e ≤ blend u l s e'
unfolding blend
blend_rises u l s e e' hu hl h = go (ltb e s) (ltb e' s) refl refl
  where
    go : (t t' : Bool) → ltb e s ≡ t → ltb e' s ≡ t'
        → (10000 - cond t u l) * e + cond t u l * s ≤ (10000 - cond t' u l) * e' + cond t' u l * s
    go true true p q = omega (arith, mul-le-mul_left (10000 - u) h)
    go true false p q =
        omega (
          arith,
          mul-le-mul_left (10000 - u) (le_of_lt (ltb-true e s p)),
          mul-le-mul_left (10000 - l) (ltb-false e' s q),
          shares u s hu,
          shares l s hl,
        )
    go false true p q = absurd (omega (arith, ltb-false e s p, ltb-true e' s q))
    go false false p q = omega (arith, mul-le-mul_left (10000 - l) h)

-- A mean is not below what neither of its parts is below.
mean_ge : (w v s m : ℕ) → w ≤ 10000 → m ≤ v → m ≤ s → 10000 * m ≤ (10000 - w) * v + w * s
mean_ge w v s m h p q = omega (arith, mul-le-mul_left (10000 - w) p, mul-le-mul_left w q, shares w m h)

-- The next variance rises with the square: up to the variance it is at most the variance, and from there on not below it.
pub blend_rises_square : (u l s s' e : ℕ) → u ≤ 10000 → l ≤ 10000 → s ≤ s' → blend u l s e ≤ blend u l s' e
unfolding blend
blend_rises_square u l s s' e hu hl h = go (ltb e s) (ltb e s') refl refl
  where
    go : (t t' : Bool) → ltb e s ≡ t → ltb e s' ≡ t'
        → (10000 - cond t u l) * e + cond t u l * s ≤ (10000 - cond t' u l) * e + cond t' u l * s'
    go true true p q = omega (arith, mul-le-mul_left u h)
    go true false p q = absurd (omega (arith, ltb-true e s p, ltb-false e s' q))
    go false true p q =
        le_trans (mean_le l e s e hl (omega arith) (ltb-false e s p)) (mean_ge u e s' e hu (omega arith) (le_of_lt (ltb-true e s' q)))
    go false false p q = omega (arith, mul-le-mul_left l h)

-- Over a finer denominator it is the same.
pub blend_scaled : (u l s e c : ℕ) → 0 < c → blend u l (s * c) (e * c) ≡ blend u l s e * c
unfolding blend
blend_scaled u l s e c positive =
    ap (λ (t : Bool). (10000 - cond t u l) * (e * c) + cond t u l * (s * c)) (same (ltb e s) refl)
    ∙ spread (10000 - cond (ltb e s) u l) (cond (ltb e s) u l)
  where
    same : (t : Bool) → ltb e s ≡ t → ltb (e * c) (s * c) ≡ t
    same true p = lt-ltb (e * c) (s * c) (mul-lt-mul_of_pos_right (ltb-true e s p) positive)
    same false p = le-ltb (e * c) (s * c) (mul-le-mul_right c (ltb-false e s p))

    spread : (a w : ℕ) → a * (e * c) + w * (s * c) ≡ (a * e + w * s) * c
    spread a w = omega arith

-- By the weights that the two choose.
pub both_carried : (u l a s₁ b s : ℕ) (P : ℕ → ℕ → Type 0) → u ≤ 10000 → l ≤ 10000
    → ((w : ℕ) → w ≤ 10000 → P ((10000 - w) * a + w * s₁) ((10000 - w) * b + w * s))
    → ((A B : ℕ) → A ≤ 10000 * s₁ → 10000 * s ≤ B → P A B)
    → ((A B : ℕ) → A ≤ 10000 * a → 10000 * b ≤ B → P A B)
    → P (blend u l s₁ a) (blend u l s b)
unfolding blend
both_carried u l a s₁ b s P hu hl one by-square by-variance = go (ltb a s₁) (ltb b s) refl refl
  where
    go : (t t' : Bool) → ltb a s₁ ≡ t → ltb b s ≡ t'
        → P ((10000 - cond t u l) * a + cond t u l * s₁) ((10000 - cond t' u l) * b + cond t' u l * s)
    go true true p q = one u hu
    go true false p q =
        by-square _ _ (mean_le u a s₁ s₁ hu (le_of_lt (ltb-true a s₁ p)) (omega arith)) (mean_ge l b s s hl (ltb-false b s q) (omega arith))
    go false true p q =
        by-variance _ _ (mean_le l a s₁ a hl (omega arith) (ltb-false a s₁ p)) (mean_ge u b s b hu (omega arith) (le_of_lt (ltb-true b s q)))
    go false false p q = one l hl

-- A gap that neither the variances nor the squares exceed.
pub gap_carried : (u l a s₁ b s g : ℕ) → u ≤ 10000 → l ≤ 10000 → a ≤ b + g → s₁ ≤ s + g → blend u l s₁ a ≤ blend u l s b + 10000 * g
gap_carried u l a s₁ b s g hu hl p q =
    both_carried u l a s₁ b s (λ A B. A ≤ B + 10000 * g) hu hl
    (λ w h. omega (arith, mul-le-mul_left (10000 - w) p, mul-le-mul_left w q, shares w g h))
    (λ A B c d. omega arith)
    (λ A B c d. omega arith)

-- The root of a is at most that of b plus that of K.
abbrev pub Apart : ℕ → ℕ → ℕ → Type 0
Apart K a b = square (a - (b + K)) ≤ 4 * (b * K)

-- Twice a product is at most the sum of the squares.
twice_product : (X Y : ℕ) → 2 * (X * Y) ≤ square X + square Y
twice_product X Y = go (dec_le X Y)
  where
    less : (A k : ℕ) → 2 * (A * (A + k)) ≤ square A + square (A + k)
    less A k = omega arith

    go : Dec (X ≤ Y) → 2 * (X * Y) ≤ square X + square Y
    go (yes p) = rw (add-sub_of_le p) at (less X (Y - X))
    go (no p) =
        let l : Y ≤ X = omega arith in
        let other : 2 * (Y * X) ≤ square Y + square X = rw (add-sub_of_le l) at (less Y (X - Y)) in
        omega arith

-- The square of a weighted sum is at most the weighted sum of the squares.
mean_square : (v w X Y : ℕ) → square (v * X + w * Y) ≤ (v + w) * (v * square X + w * square Y)
mean_square v w X Y = omega (arith, mul-le-mul_left (v * w) (twice_product X Y))

-- Where a sum is not above another and c times a bound, so is its root.
pub far_apart : (c K a b A B : ℕ) → A ≤ c * a → c * b ≤ B → Apart K a b → Apart (c * K) A B
far_apart c K a b A B p q h =
    let X = a - (b + K) in
    let most : a ≤ b + K + X = omega arith in
    let rest : A - (B + c * K) ≤ c * X = omega (arith, mul-le-mul_left c most) in
    le_trans (square_mono rest)
    (omega (arith, mul-le-mul_left (c * c) h, mul-le-mul_right (c * K) q))

-- A mean with one weight.
mean_apart : (v w K a s₁ b s : ℕ) → Apart K a b → Apart K s₁ s → Apart ((v + w) * K) (v * a + w * s₁) (v * b + w * s)
mean_apart v w K a s₁ b s h k =
    let X = a - (b + K) in
    let Y = s₁ - (s + K) in
    let most : a ≤ b + K + X = omega arith in
    let most' : s₁ ≤ s + K + Y = omega arith in
    let rest : v * a + w * s₁ - (v * b + w * s + (v + w) * K) ≤ v * X + w * Y
    = omega (arith, mul-le-mul_left v most, mul-le-mul_left w most') in
    let parts : v * square X + w * square Y ≤ 4 * ((v * b + w * s) * K)
    = omega (arith, mul-le-mul_left v h, mul-le-mul_left w k) in
    le_trans (square_mono rest) (le_trans (mean_square v w X Y) (omega (arith, mul-le-mul_left (v + w) parts)))

pub apart_carried : (u l K a s₁ b s : ℕ) → u ≤ 10000 → l ≤ 10000 → Apart K a b → Apart K s₁ s → Apart (10000 * K) (blend u l s₁ a) (blend u l s b)
apart_carried u l K a s₁ b s hu hl h k =
    both_carried u l a s₁ b s (Apart (10000 * K)) hu hl
    (λ w l.
    let whole : 10000 - w + w ≡ 10000 = omega arith in
    rw whole at (mean_apart (10000 - w) w K a s₁ b s h k))
    (λ A B p q. far_apart 10000 K s₁ s A B p q k)
    (λ A B p q. far_apart 10000 K a b A B p q h)
