-- The bound of the root says what it means. One way by squaring; the other by two fractions so near the roots that what fails for the roots fails for them. Assumes nothing.
use mathlib.Core.Path.{◌≡◌, refl, ap}
use mathlib.Core.Bool.{true}
use Prim.Native.Nat.{ℕ, suc, ◌+◌, ◌*◌, ◌-◌, ◌≤◌, ◌<◌}
use native.Mathlib.Nat.{le_trans, le_of_lt, lt_of_not-le, not-le_of_lt, mul-le-mul_left, mul-le-mul_right, mul-lt-mul_of_pos_right, le_of_mul-le-mul_right, mul-pos, le-mul_of_pos_right}
use native.Mathlib.Decide.{dec_le}
use native.Mathlib.Omega.{arith}
use borrow.Author.Tests.{leb-true, le-leb}
use Rattle.paper.specs.Rates.{square}
use Rattle.paper.specs.Promises.Roots.{IsUnder}
use lib.Dec.{leb}
use Rattle.paper_prices.specs.Prices.{is_root_within_one}
use Rattle.paper_prices.specs.Promises.Fractions.{IsOver, RootMeans}
use Rattle.paper.proofs.Rates.{square_mono, le_square}
use Rattle.paper.proofs.Roots.{root_mono, nearest}
use Rattle.paper_prices.proofs.Carry.{Apart}

-- What is left of P once Q and K are taken, times a number.
subtracted : (P Q K c : ℕ) → P * c ≤ Q * c + K * c + (P - (Q + K)) * c
subtracted P Q K c =
    let most : P ≤ Q + K + (P - (Q + K)) = omega arith in
    omega (arith, mul-le-mul_right c most)

-- With P, Q and K for e M, x N and N M: fractions r/n and s/n of the roots of P/K and Q/K.
module _ (K P Q : ℕ) where
  -- If the bound holds, r is at most s + n.
  bound_says : 0 < K → Apart K P Q → (r s n : ℕ) → 0 < n → square r * K ≤ P * square n → Q * square n ≤ square s * K → r ≤ s + n
  bound_says positive h r s n some under over = go (dec_le r (s + n))
    where
      go : Dec (r ≤ s + n) → r ≤ s + n
      go (yes p) = p
      go (no p) =
          let X = P - (Q + K) in
          let far : square (suc (s + n)) ≤ square r = square_mono (lt_of_not-le p) in
          let more : 2 * s * n * K < X * square n
          = omega (arith, mul-le-mul_right K far, subtracted P Q K (square n)) in
          let less : X * square n ≤ 2 * s * n * K
          = root_mono (X * square n) (2 * s * n * K)
          (omega (arith, mul-le-mul_right (square (square n)) h, mul-le-mul_right (4 * K * square n) over)) in
          absurd (not-le_of_lt more less)

-- If it fails, fractions of this denominator show it: r/n is the greatest not above the first root, and t/n the greatest not above the second, so the next
-- after t is over it.
too_near : (K P Q X G n r t : ℕ) → 0 < K → G ≡ (4 * Q + 8) * K → n ≡ 2 * X * G + G + 1 → P ≡ Q + K + X → 4 * (Q * K) < square X → P * square n < square (suc r) * K → square t * K ≤ Q * square n → r ≤ suc t + n → ⊥
too_near K P Q X G n r t positive g e p above next under within =
    let z = 2 * t * n * K in
    let some : 0 < n = omega arith in
    let small : t ≤ Q * n
    = root_mono t (Q * n) (le_trans (le-mul_of_pos_right (square t) positive) (le_trans under (omega (arith, mul-le-mul_right (square n) (le_square Q))))) in
    let rest : (4 * t + 4 * n + 4) * K ≤ G * n = omega (arith, mul-le-mul_right K small, ap (λ (m : ℕ). m * n) g, mul-le-mul_right K some) in
    let step : suc r ≤ t + n + 2 = omega arith in
    let near : X * square n ≤ z + G * n
    = omega (arith, next, mul-le-mul_right K (square_mono step), ap (λ (m : ℕ). m * square n) p, under, rest) in
    let low : square z ≤ 4 * (Q * K) * square (square n) = omega (arith, mul-le-mul_right (4 * K * square n) under) in
    let high : 4 * (Q * K) * square (square n) + square (square n) ≤ square (X * square n) = omega (arith, mul-le-mul_right (square (square n)) above) in
    let less : z ≤ X * square n = root_mono z (X * square n) (omega (arith, low, high)) in
    let most : square (square n) ≤ 2 * (X * square n * (G * n)) + G * n * (G * n)
    = sums (square (square n)) z (G * n) (X * square n) (4 * (Q * K) * square (square n)) low high (square_mono near) (mul-le-mul_right (G * n) less) in
    let short : square n ≤ 2 * X * G * n + G * G = le_of_mul-le-mul_right {k = square n} (omega (arith, most)) (mul-pos some some) in
    let wide : G ≤ n = omega arith in
    let long : 2 * X * G * n + G * G < square n = omega (arith, ap (λ (m : ℕ). m * n) e, mul-le-mul_left G wide) in
    not-le_of_lt long short
  where
    sums : (f z c y q : ℕ) → square z ≤ q → q + f ≤ square y → square y ≤ square (z + c) → z * c ≤ y * c → f ≤ 2 * (y * c) + c * c
    sums f z c y q a b d k = omega arith

-- Over the denominator N M.
next_over : (e N M r n : ℕ) → 0 < M → e * square n < square (suc r) * N → e * M * square n < square (suc r) * (N * M)
next_over e N M r n positive h = omega (arith, mul-lt-mul_of_pos_right h positive)

under_over : (x N M t n : ℕ) → square t * M ≤ x * square n → square t * (N * M) ≤ x * N * square n
under_over x N M t n h = omega (arith, mul-le-mul_right N h)

pub root_means : RootMeans
unfolding is_root_within_one
root_means N e M x p q = (forth, back)
  where
    K : ℕ
    K = N * M

    P : ℕ
    P = e * M

    Q : ℕ
    Q = x * N

    X : ℕ
    X = P - (Q + K)

    G : ℕ
    G = (4 * Q + 8) * K

    fine : ℕ
    fine = 2 * X * G + G + 1

    forth : leb (square X) (4 * (Q * K)) ≡ true → (r s n : ℕ) → IsUnder e N r n → IsOver x M s n → r ≤ s + n
    forth h r s n under over =
        bound_says K P Q (mul-pos p q) (leb-true _ _ h) r s n under.positive (omega (arith, mul-le-mul_right M under.under))
        (omega (arith, mul-le-mul_right N over.over))

    back : ((r s n : ℕ) → IsUnder e N r n → IsOver x M s n → r ≤ s + n) → leb (square X) (4 * (Q * K)) ≡ true
    back all = le-leb _ _ (go (dec_le (square X) (4 * (Q * K))) (dec_le (Q + K) P))
      where
        go : Dec (square X ≤ 4 * (Q * K)) → Dec (Q + K ≤ P) → square X ≤ 4 * (Q * K)
        go (yes h) l = h
        go (no h) (no l) =
            let none : X ≡ 0 = omega arith in
            omega (arith, ap square none)
        go (no h) (yes l) =
            let r = nearest e N fine p in
            let t = nearest x M fine q in
            let some : 0 < fine = omega arith in
            absurd (too_near K P Q X G fine r.0 t.0 (mul-pos p q) refl refl (omega arith) (lt_of_not-le h)
            (next_over e N M r.0 fine q r.1.above) (under_over x N M t.0 fine t.1.under)
            (all r.0 (suc t.0) fine (record { positive = some; under = r.1.under }) (record { positive = some; over = le_of_lt t.1.above })))
