-- The squared comparisons say what they mean. One way by squaring; the other by a fraction so near the root that what fails for the root fails for it. Assumes nothing.
use mathlib.Core.Path.{◌≡◌, refl, sym, ap, ◌∙◌}
use mathlib.Core.Bool.{Bool, true, false, ◌&&◌}
use Prim.Native.Nat.{ℕ, suc, ◌+◌, ◌*◌, ◌-◌, ◌≤◌, ◌<◌}
use native.Mathlib.Nat.{le_trans, lt_of_lt_of_le, lt_of_not-le, not-le_of_lt, le_of_lt, mul-le-mul, mul-le-mul_left, mul-le-mul_right, mul-lt-mul_of_pos_right, le_of_mul-le-mul_right, le-mul_of_pos_right, add-mul, sub-add_cancel}
use native.Mathlib.Decide.{dec_le}
use native.Mathlib.Omega.{arith}
use borrow.Author.Tests.{leb-true, le-leb}
use lib.Dec.{leb, lit<}
use Rattle.paper.specs.Least.{greatest}
use Rattle.paper.specs.Rates.{square, covers_margin, roots_within}
use Rattle.paper.specs.Promises.Roots.{IsUnder, NeedMeans, ShockMeans, ExactNeedMeans, MarginMeans, RootsMean}
use Rattle.paper.proofs.Tests.{and_left, and_right, and_both}
use Rattle.paper.proofs.Least.{greatest_passes, greatest_greatest}
use Rattle.paper.proofs.Rates.{square_mono, le_square, need_covered, need_says}
use Rattle.paper.proofs.Exact.{exact_covered, exact_says}

-- A number whose square is at most another's is at most the other.
pub root_mono : (a b : ℕ) → square a ≤ square b → a ≤ b
root_mono a b h =
    omega (arith, lt_of_not-le {n = suc b} (λ (l : b < a). not-le_of_lt (lt_of_lt_of_le (square_less b) (square_mono l)) h))
  where
    square_less : (n : ℕ) → square n < square (suc n)
    square_less n = omega arith

-- The greatest fraction of a denominator that is not above a root, and that the next one is.
pub record IsNext (S T n r : ℕ) : Type 0 where
  pub under : square r * T ≤ S * square n
  pub above : S * square n < square (suc r) * T

pub nearest : (S T n : ℕ) → 0 < T → (r : ℕ) × IsNext S T n r
nearest S T n positive = (
  greatest test bound,
  record {
    under = leb-true _ _ (greatest_passes test bound 0 (omega arith) (le-leb (square 0 * T) (S * square n) (omega arith)));
    above = lt_of_not-le (λ (h : square (suc (greatest test bound)) * T ≤ S * square n).
        not-le_of_lt (omega arith) (greatest_greatest test bound (suc (greatest test bound)) (within (suc (greatest test bound)) h) (le-leb _ _ h)));
  },
)
  where
    test : ℕ → Bool
    test r = leb (square r * T) (S * square n)

    bound : ℕ
    bound = S * square n

    within : (r : ℕ) → square r * T ≤ S * square n → r ≤ S * square n
    within r h = le_trans (le_square r) (le_trans (le-mul_of_pos_right (square r) positive) h)

-- A fraction whose denominator is this fine shows where q times a root is above K: its own product and the next one's are too near.
too_fine : (q S T K n r : ℕ) → 0 < T → n ≡ 2 * K * q * T + q * T + 1 → square K * T < square q * S → S * square n < square (suc r) * T → q * r ≤ K * n → ⊥
too_fine q S T K n r positive e above next below =
    let step : q * suc r ≤ K * n + q = omega arith in
    let wide : q ≤ n = omega (arith, le-mul_of_pos_right q positive) in
    let less : 2 * K * q * T * n + square q * T < square n = omega (arith, ap (λ (x : ℕ). x * n) e, mul-le-mul_left (q * T) wide) in
    let more : square n ≤ 2 * K * q * T * n + square q * T
    = omega (arith, mul-le-mul_left (square q) (le_of_lt next), mul-le-mul_right (square n) above, mul-le-mul_right T (square_mono step)) in
    not-le_of_lt less more

-- One root: q times the root of S/T is at most K exactly when the squares, times T, say so.
module _ (q S T K : ℕ) (positive : 0 < T) where
  root_says : square q * S ≤ square K * T → (r n : ℕ) → IsUnder S T r n → q * r ≤ K * n
  root_says h r n u =
      root_mono (q * r) (K * n)
      (le_of_mul-le-mul_right {k = T} (omega (arith, mul-le-mul_left (square q) u.under, mul-le-mul_right (square n) h)) positive)

  pub root_needs : ((r n : ℕ) → IsUnder S T r n → q * r ≤ K * n) → square q * S ≤ square K * T
  root_needs all = go (dec_le (square q * S) (square K * T))
    where
      fine : ℕ
      fine = 2 * K * q * T + q * T + 1

      near : (r : ℕ) × IsNext S T fine r
      near = nearest S T fine positive

      go : Dec (square q * S ≤ square K * T) → square q * S ≤ square K * T
      go (yes p) = p
      go (no p) =
          absurd (too_fine q S T K fine near.0 positive refl (lt_of_not-le p) near.1.above
          (all near.0 fine (record { positive = omega arith; under = near.1.under })))

pub need_means : NeedMeans
need_means alpha v D c = (
  λ e. root_says alpha v 1 (1000 * c) (lit< tt) (omega (arith, (need_says alpha v D c false e).0)),
  λ all. need_covered alpha v D c false (omega (arith, root_needs alpha v 1 (1000 * c) (lit< tt) all)) (omega arith),
)

pub shock_means : ShockMeans
shock_means alpha v D c = (
  λ e.
      let says = need_says alpha v D c true e in
      (need_covered alpha v D c false says.0 (omega arith), says.1),
  λ both. need_covered alpha v D c true (need_says alpha v D c false both.0).0 both.1,
)

pub exact_need_means : ExactNeedMeans
exact_need_means =
    record {
      need = λ alpha N e D c positive. (
        λ h. root_says alpha e N (1000 * c) positive (exact_says alpha N e D c false h).0,
        λ all. exact_covered alpha N e D c false (root_needs alpha e N (1000 * c) positive all) (omega arith),
      );
      shock = λ alpha N e D c. (
        λ h.
            let says = exact_says alpha N e D c true h in
            (exact_covered alpha N e D c false says.0 (omega arith), says.1),
        λ both. exact_covered alpha N e D c true (exact_says alpha N e D c false both.0).0 both.1,
      );
    }

pub margin_means : MarginMeans
unfolding covers_margin
margin_means P T m R X positive = (forth, back)
  where
    forth : leb R X && leb (square P * (T + m)) (square (X - R) * T) ≡ true → (r n : ℕ) → IsUnder (T + m) T r n → P * r + R * n ≤ X * n
    forth e r n u =
        let low : R ≤ X = leb-true R X (and_left (leb R X) _ e) in
        let high = leb-true (square P * (T + m)) (square (X - R) * T) (and_right (leb R X) _ e) in
        let whole : (X - R) * n + R * n ≡ X * n = sym (add-mul (X - R) R n) ∙ ap (λ (k : ℕ). k * n) (sub-add_cancel low) in
        omega (arith, root_says P (T + m) T (X - R) positive high r n u)

    back : ((r n : ℕ) → IsUnder (T + m) T r n → P * r + R * n ≤ X * n) → leb R X && leb (square P * (T + m)) (square (X - R) * T) ≡ true
    back all =
        let low : R ≤ X = omega (arith, all 0 1 (record { positive = lit< tt; under = omega arith })) in
        and_both _ _ (le-leb R X low)
        (le-leb (square P * (T + m)) (square (X - R) * T)
        (root_needs P (T + m) T (X - R) positive
        (λ r n u.
        let whole : (X - R) * n + R * n ≡ X * n = sym (add-mul (X - R) R n) ∙ ap (λ (k : ℕ). k * n) (sub-add_cancel low) in
        omega (arith, all r n u))))

-- Two roots. If the tests hold, twice the product of two fractions not above the roots is at most what Y has left.
module _ (A B Y : ℕ) where
  roots_say : A + B ≤ Y → 4 * (A * B) ≤ square (Y - (A + B)) → (a b n : ℕ) → IsUnder A 1 a n → IsUnder B 1 b n → square (a + b) ≤ Y * square n
  roots_say p q a b n u w =
      let rest = Y - (A + B) in
      let cross : 2 * (a * b) ≤ rest * square n
      = root_mono (2 * (a * b)) (rest * square n)
      (omega (arith, mul-le-mul u.under w.under, mul-le-mul_right (square n * square n) q)) in
      let whole : rest * square n + (A + B) * square n ≡ Y * square n = sym (add-mul rest (A + B) (square n)) ∙ ap (λ (k : ℕ). k * square n) (sub-add_cancel p) in
      omega (arith, u.under, w.under)

-- The sum of two fractions whose square is at most Y n² is at most (Y + 1) n.
sum_small : (Y s n : ℕ) → square s ≤ Y * square n → s ≤ (Y + 1) * n
sum_small Y s n h = root_mono s ((Y + 1) * n) (le_trans h (omega (arith, mul-le-mul_right (square n) (le_square (Y + 1)))))

-- If A + B is above Y, fractions of this denominator show it.
sum_too_fine : (A B Y n a b : ℕ) → n ≡ 2 * (Y + 1) + 2 → Y < A + B → A * square n < square (suc a) → B * square n < square (suc b) → square (a + b) ≤ Y * square n → ⊥
sum_too_fine A B Y n a b e above p q h =
    not-le_of_lt
    (lessen e)
    (omega (arith, mul-le-mul_right (square n) above, sum_small Y (a + b) n h))
  where
    lessen : n ≡ 2 * (Y + 1) + 2 → 2 * ((Y + 1) * n) + 2 < square n + 1
    lessen e = omega (arith, ap (λ (x : ℕ). x * n) e)

-- If A + B and D are Y, and 4AB is above the square of D, fractions of this denominator show it.
product_too_fine : (A B Y D G n a b : ℕ) → G ≡ 4 * (Y + 1) + 4 → n ≡ 2 * D * G + G + 1 → A + B + D ≡ Y → square D < 4 * (A * B) → A * square n < square (suc a) → B * square n < square (suc b) → square (a + b) ≤ Y * square n → ⊥
product_too_fine A B Y D G n a b g e y above p q h =
    let small : 4 * (a + b) + 4 ≤ G * n = omega (arith, sum_small Y (a + b) n h, ap (λ (x : ℕ). x * n) g) in
    let parts : A * square n + B * square n + D * square n ≡ Y * square n = omega (arith, ap (λ (x : ℕ). x * square n) y) in
    let half : 2 * (suc a * suc b) ≤ D * square n + G * n = omega arith in
    let most : square D * square (square n) + square (square n) ≤ square (D * square n + G * n)
    = le_trans (omega (arith, mul-le-mul_right (square (square n)) above, mul-le-mul (le_of_lt p) (le_of_lt q))) (square_mono half) in
    let far : G ≤ n = omega arith in
    let less : 2 * D * G * n + G * G < square n = omega (arith, ap (λ (x : ℕ). x * n) e, mul-le-mul_left G far) in
    not-le_of_lt (mul-lt-mul_of_pos_right {k = square n} less (omega (arith, mul-le-mul {n₁ = 1} {m₁ = 1} {n₂ = n} {m₂ = n} (omega arith) (omega arith)))) (omega arith)

pub roots_mean : RootsMean
unfolding roots_within
roots_mean A B Y = (
  λ e.
      roots_say A B Y (leb-true (A + B) Y (and_left (leb (A + B) Y) _ e))
      (leb-true (4 * (A * B)) (square (Y - (A + B))) (and_right (leb (A + B) Y) _ e)),
  back,
)
  where
    sums : Dec (A + B ≤ Y) → ((a b n : ℕ) → IsUnder A 1 a n → IsUnder B 1 b n → square (a + b) ≤ Y * square n) → A + B ≤ Y
    sums (yes p) all = p
    sums (no p) all =
        let n = 2 * (Y + 1) + 2 in
        let a = nearest A 1 n (lit< tt) in
        let b = nearest B 1 n (lit< tt) in
        absurd (sum_too_fine A B Y n a.0 b.0 refl (lt_of_not-le p) (omega (arith, a.1.above)) (omega (arith, b.1.above))
        (all a.0 b.0 n (record { positive = omega arith; under = a.1.under }) (record { positive = omega arith; under = b.1.under })))

    products : A + B ≤ Y → Dec (4 * (A * B) ≤ square (Y - (A + B))) → ((a b n : ℕ) → IsUnder A 1 a n → IsUnder B 1 b n → square (a + b) ≤ Y * square n) → 4 * (A * B) ≤ square (Y - (A + B))
    products l (yes p) all = p
    products l (no p) all =
        let D = Y - (A + B) in
        let G = 4 * (Y + 1) + 4 in
        let n = 2 * D * G + G + 1 in
        let a = nearest A 1 n (lit< tt) in
        let b = nearest B 1 n (lit< tt) in
        absurd (product_too_fine A B Y D G n a.0 b.0 refl refl (omega arith) (lt_of_not-le p) (omega (arith, a.1.above)) (omega (arith, b.1.above))
        (all a.0 b.0 n (record { positive = omega arith; under = a.1.under }) (record { positive = omega arith; under = b.1.under })))

    back : ((a b n : ℕ) → IsUnder A 1 a n → IsUnder B 1 b n → square (a + b) ≤ Y * square n) → leb (A + B) Y && leb (4 * (A * B)) (square (Y - (A + B))) ≡ true
    back all =
        let l = sums (dec_le (A + B) Y) all in
        and_both _ _ (le-leb (A + B) Y l)
        (le-leb (4 * (A * B)) (square (Y - (A + B))) (products l (dec_le (4 * (A * B)) (square (Y - (A + B)))) all))
