-- What holds of columns and limbs at any width: W is how many numbers a limb has, h how many half of it has. Assumes nothing.
use Rattle.std.proofs.Common.{◌≡◌, ℕ, zero, suc, ◌+◌, ◌*◌, ◌/◌, ◌%◌, ◌^◌, ◌<◌, eqb, leb, sym, ap, ◌∙◌, ap₂, lt_of_le_of_lt, le_of_lt, mul-le-mul_right, zero-lt-suc, lt_of_mul-lt-mul_right, mul-le-mul_left, mul-lt-mul_of_pos_right, div-add-mod', arith, ne_eqb, le-leb}
use native.Mathlib.Nat.{le_intro}
use borrow.Author.Tests.{lt-leb}

-- A product of two halves is a limb.
pub halves_fit : (h x y : ℕ) → x < h → y < h → x * y < h * h
halves_fit h x y p q = lt_of_le_of_lt (mul-le-mul_left x (le_of_lt q)) (mul-lt-mul_of_pos_right p (omega arith))

-- The product of two numbers of two halves each, from the four products of halves: the cross products in one column, their lower half in the column below, the rest above.
columns : (h a₁ a₀ b₁ b₀ cross carry low over : ℕ) → carry * (h * h) + cross ≡ a₁ * b₀ + a₀ * b₁ → over * (h * h) + low ≡ a₀ * b₀ + cross % h * h → (a₁ * b₁ + cross / h + (carry * h + over)) * (h * h) + low ≡ (a₁ * h + a₀) * (b₁ * h + b₀)
columns h a₁ a₀ b₁ b₀ cross carry low over p q =
    omega (arith, ap (λ (n : ℕ). n * h) p, q, ap (λ (n : ℕ). n * h) (div-add-mod' cross h))

module _ (h a b cross carry low over : ℕ)
    (across : carry * (h * h) + cross ≡ a / h * (b % h) + a % h * (b / h))
    (below : over * (h * h) + low ≡ a % h * (b % h) + cross % h * h) where
  -- The product of two limbs, so made of their halves.
  pub product_columns : (a / h * (b / h) + cross / h + (carry * h + over)) * (h * h) + low ≡ a * b
  product_columns =
      columns h (a / h) (a % h) (b / h) (b % h) cross carry low over across below
      ∙ ap₂ (λ (m n : ℕ). m * n) (div-add-mod' a h) (div-add-mod' b h)

  -- Its upper limb is a limb, and so is each part of the sums that make it.
  pub upper_fits : a < h * h → b < h * h → (a / h * (b / h) + cross / h < h * h) × (carry * h < h * h) × (carry * h + over < h * h) × (a / h * (b / h) + cross / h + (carry * h + over) < h * h)
  upper_fits p q =
      let all : a / h * (b / h) + cross / h + (carry * h + over) < h * h
      = lt_of_mul-lt-mul_right (h * h) (lt_of_le_of_lt (le_intro _ low product_columns) (halves_fit (h * h) a b p q)) in
      (omega arith, omega arith, omega arith, all)

-- The difference of two numbers of two limbs each, from its three columns.
pub difference_columns : (W ah al bh bl high upper low o₁ o₂ o₃ : ℕ) → low + bl ≡ al + o₁ * W → upper + bh ≡ ah + o₂ * W → high + o₁ ≡ upper + o₃ * W → high * W + low + (bh * W + bl) ≡ ah * W + al + (o₂ + o₃) * (W * W)
difference_columns W ah al bh bl high upper low o₁ o₂ o₃ p q r =
    omega (arith, p, ap (λ (n : ℕ). n * W) q, ap (λ (n : ℕ). n * W) r)

-- A column of a difference borrows at most once.
pub borrows_once : (W x y a o : ℕ) → x + y ≡ a + o * W → x < W → y < W → o < 2
borrows_once W x y a o e p q = lt_of_mul-lt-mul_right W (omega arith)

-- Two borrows of a column are far below a limb.
pub borrows_fit : {o₂ o₃ : ℕ} → o₂ < 2 → o₃ < 2 → o₂ + o₃ < 2 ^ 64
borrows_fit p q = omega arith

-- A difference below N that borrows N where it must borrows nothing exactly where the number taken away is at most the other.
pub borrow_tells : (N v a b o : ℕ) → v + a ≡ b + o * N → v < N → eqb o 0 ≡ leb a b
borrow_tells N v a b zero e p = sym (le-leb a b (omega arith))
borrow_tells N v a b (suc o) e p = ne_eqb (suc o) 0 (λ z. omega arith) ∙ sym (lt-leb a b (omega (arith, mul-le-mul_right N (zero-lt-suc o))))
