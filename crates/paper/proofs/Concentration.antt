-- The squared comparison of the concentration says what it means. One way by the law of two roots; the other by the law of one root, twice, and by fractions ever nearer the inner root. Assumes nothing.
use mathlib.Core.Path.{◌≡◌, sym, ap, ◌∙◌}
use mathlib.Core.Bool.{true, ◌&&◌}
use Prim.Native.Nat.{ℕ, suc, ◌+◌, ◌*◌, ◌-◌, ◌≤◌, ◌<◌}
use native.Mathlib.Nat.{le_trans, lt_of_not-le, not-le_of_lt, le_of_lt, mul-le-mul, mul-le-mul_left, mul-le-mul_right, one-le-mul, le_of_mul-le-mul_right, le-mul_of_pos_right, add-mul, sub-add_cancel}
use native.Mathlib.Decide.{dec_le}
use native.Mathlib.Omega.{arith}
use borrow.Author.Tests.{le-leb}
use lib.Dec.{leb}
use Rattle.paper.specs.Rates.{square, roots_within, covers_concentration}
use Rattle.paper.specs.Promises.Roots.{IsUnder, ConcentrationMeans}
use Rattle.paper.proofs.Tests.{and_both}
use Rattle.paper.proofs.Rates.{square_mono, le_square}
use Rattle.paper.proofs.Roots.{root_mono, IsNext, nearest, root_needs, roots_mean}

-- If c + 1 times x is at most c + 1 times y, but for c, x is at most y.
le_of_near : (x y c : ℕ) → x * suc c ≤ y * suc c + c → x ≤ y
le_of_near x y c h = go (dec_le x y)
  where
    go : Dec (x ≤ y) → x ≤ y
    go (yes p) = p
    go (no p) = absurd (omega (arith, mul-le-mul_right (suc c) (lt_of_not-le p)))

-- No fraction of the denominator that is not above the root is above the nearest.
nearest_most : (S T n r a : ℕ) → IsNext S T n r → square a * T ≤ S * square n → a ≤ r
nearest_most S T n r a next h = go (dec_le a r)
  where
    go : Dec (a ≤ r) → a ≤ r
    go (yes p) = p
    go (no p) = absurd (not-le_of_lt next.above (le_trans (mul-le-mul_right T (square_mono (lt_of_not-le p))) h))

-- A fraction not above the root of S/T is at most S.
under_small : (S T n r : ℕ) → 0 < T → square r * T ≤ S * square n → r ≤ S * n
under_small S T n r positive h =
    root_mono r (S * n)
    (le_trans (le-mul_of_pos_right (square r) positive) (le_trans h (omega (arith, mul-le-mul_right (square n) (le_square S)))))

-- If C x² + E x + B is at most Y for every fraction x not above the root of S/T, it is so for the root, whose C x² is A.
module _ (A B C E Y S T : ℕ) (positive : 0 < T) (same : A * T ≡ C * S) (all : (r n : ℕ) → IsUnder S T r n → C * square r + E * (r * n) + B * square n ≤ Y * square n) where
  -- What the nearest fraction of any denominator can miss.
  slack : ℕ
  slack = C * (2 * S + 1)

  near_line : (n r : ℕ) → 0 < n → IsNext S T n r → (A + B) * n + E * r ≤ Y * n + slack
  unfolding slack
  near_line n r some next =
      let whole : A * square n ≤ C * square (suc r)
      = le_of_mul-le-mul_right {k = T} (omega (arith, ap (λ (x : ℕ). x * square n) same, mul-le-mul_left C (le_of_lt next.above))) positive in
      let step : C * (2 * r + 1) ≤ slack * n = omega (arith, mul-le-mul_left C (under_small S T n r positive next.under), mul-le-mul_left C some) in
      le_of_mul-le-mul_right {k = n} (omega (arith, all r n (record { positive = some; under = next.under }))) some

  sum_fits : A + B ≤ Y
  sum_fits =
      let near = nearest S T (suc slack) positive in
      le_of_near (A + B) Y slack (omega (arith, near_line (suc slack) near.0 (omega arith) near.1))

  -- A fraction r/n under the root is one of every multiple of n too, and the nearest of that is not below it.
  line : (r n : ℕ) → IsUnder S T r n → E * r ≤ (Y - (A + B)) * n
  line r n u =
      let t = suc slack in
      let rest = Y - (A + B) in
      let near = nearest S T (n * t) positive in
      let most : r * t ≤ near.0 = nearest_most S T (n * t) near.0 (r * t) near.1 (omega (arith, mul-le-mul_right (square t) u.under)) in
      let whole : rest * (n * t) + (A + B) * (n * t) ≡ Y * (n * t) = sym (add-mul rest (A + B) (n * t)) ∙ ap (λ (k : ℕ). k * (n * t)) (sub-add_cancel sum_fits) in
      le_of_near (E * r) (rest * n) slack
      (omega (arith, near_line (n * t) near.0 (one-le-mul u.positive (omega arith)) near.1, mul-le-mul_left E most))

  product_fits : square E * S ≤ square (Y - (A + B)) * T
  product_fits = root_needs E S T (Y - (A + B)) positive line

pub concentration_means : ConcentrationMeans
unfolding covers_concentration roots_within
concentration_means q T m R L X positive = (forth, back)
  where
    A : ℕ
    A = square q * (T + m) * L

    B : ℕ
    B = square R * L * T

    Y : ℕ
    Y = square X * square T

    forth : roots_within A B Y ≡ true → (r n s k : ℕ) → IsUnder (T + m) T r n → IsUnder L T s k → (q * r + R * n) * s ≤ X * n * k
    forth e r n s k u w =
        let some : 0 < n * k = one-le-mul u.positive w.positive in
        let first : IsUnder A 1 (q * r * s * T) (n * k)
        = record { positive = some; under = omega (arith, mul-le-mul_left (square q) (mul-le-mul u.under w.under)) } in
        let second : IsUnder B 1 (R * n * s * T) (n * k)
        = record { positive = some; under = omega (arith, mul-le-mul_left (square R * square n * T) w.under) } in
        le_of_mul-le-mul_right {k = T}
        (root_mono ((q * r + R * n) * s * T) (X * n * k * T)
        (omega (arith, (roots_mean A B Y).0 e (q * r * s * T) (R * n * s * T) (n * k) first second)))
        positive

    back : ((r n s k : ℕ) → IsUnder (T + m) T r n → IsUnder L T s k → (q * r + R * n) * s ≤ X * n * k) → leb (A + B) Y && leb (4 * (A * B)) (square (Y - (A + B))) ≡ true
    back all = and_both _ _ (le-leb (A + B) Y sum) (le-leb (4 * (A * B)) (square (Y - (A + B))) product)
      where
        outer : (r n : ℕ) → IsUnder (T + m) T r n → square (q * r + R * n) * L ≤ square (X * n) * T
        outer r n u = root_needs (q * r + R * n) L T (X * n) positive (λ s k. all r n s k u)

        C : ℕ
        C = square q * L * T

        E : ℕ
        E = 2 * q * R * L * T

        inner : (r n : ℕ) → IsUnder (T + m) T r n → C * square r + E * (r * n) + B * square n ≤ Y * square n
        inner r n u = le_trans (omega arith) (le_trans (mul-le-mul_right T (outer r n u)) (omega arith))

        same : A * T ≡ C * (T + m)
        same = omega arith

        sum : A + B ≤ Y
        sum = sum_fits A B C E Y (T + m) T positive same inner

        product : 4 * (A * B) ≤ square (Y - (A + B))
        product = le_of_mul-le-mul_right {k = T} (omega (arith, product_fits A B C E Y (T + m) T positive same inner)) positive
