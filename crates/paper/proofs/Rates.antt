-- Laws of the day's rules: a quotient rounded up, and that each search of a least multiple has one to find. Assumes nothing.
use mathlib.Core.Path.{◌≡◌, refl, sym, ap, subst, ◌∙◌}
use mathlib.Core.Bool.{Bool, true, false, cond, not, ◌&&◌, ◌||◌}
use Prim.Native.Nat.{ℕ, zero, suc, ◌+◌, ◌*◌, ◌-◌, ◌/◌, ◌%◌, min, ◌≤◌, ◌<◌}
use native.Mathlib.Nat.{not-suc-le-zero, lt_of_not-le, not-le_of_lt, add-mul, sub-add_cancel, le_trans, le-mul_of_pos_right, mul-le-mul, mul-le-mul_left, mul_comm, div-add-mod', mod-lt, div-lt_iff_lt-mul, lt_of_mul-lt-mul_right}
use native.Mathlib.Omega.{arith}
use borrow.Author.Tests.{leb-true, le-leb, lt-leb}
use lib.Dec.{leb, lit<}
use Rattle.std.proofs.lemmas.Grind.{div_ceil_times}
use Rattle.paper.specs.Rates.{ceil_div, square, weight, next_variance, covers_need, covers_margin, margin_bound, roots_within, covers_concentration, concentration_bound}
use Rattle.paper.proofs.Tests.{and_left, and_right, and_both, and_fails, or_right}

-- A quotient rounded up: times the divisor it is not below the number, and less than one divisor above it.
module _ (a b : ℕ) (positive : 0 < b) where
  pub ceil_covers : a ≤ ceil_div a b * b
  unfolding ceil_div
  ceil_covers = omega (arith, div-add-mod' (a + (b - 1)) b, mod-lt (a + (b - 1)) positive)

  pub ceil_tight : ceil_div a b * b < a + b
  unfolding ceil_div
  ceil_tight = omega (arith, div-add-mod' (a + (b - 1)) b)

  -- It is the least number that covers.
  pub ceil_least : (q : ℕ) → a ≤ q * b → ceil_div a b ≤ q
  unfolding ceil_div
  ceil_least q h =
      let below : (a + (b - 1)) / b < suc q = (div-lt_iff_lt-mul positive).1 (omega arith) in
      omega arith

  -- It is the only number that, times the divisor, lies there; so it is also the whole quotient, and one more where there is a rest.
  pub ceil_unique : (q : ℕ) → a ≤ q * b → q * b < a + b → q ≡ ceil_div a b
  ceil_unique q covers tight =
      let above : q < suc (ceil_div a b) = lt_of_mul-lt-mul_right b (omega (arith, ceil_covers)) in
      omega (arith, ceil_least q covers)

  pub ceil_of_rest : a / b + min 1 (a % b) ≡ ceil_div a b
  ceil_of_rest = let near = div_ceil_times a b positive in ceil_unique _ near.0 near.1

-- A number's two shares by a weight are the number, times 10,000.
pub shares : (w s : ℕ) → w ≤ 10000 → (10000 - w) * s + w * s ≡ 10000 * s
shares w s h = sym (add-mul (10000 - w) w s) ∙ ap (λ (n : ℕ). n * s) (sub-add_cancel h)

-- A weighted mean of two numbers up to M, times 10,000, is at most M times 10,000.
pub mean_le : (w v s M : ℕ) → w ≤ 10000 → v ≤ M → s ≤ M → (10000 - w) * v + w * s ≤ 10000 * M
mean_le w v s M h p q = omega (arith, mul-le-mul_left (10000 - w) p, mul-le-mul_left w q, shares w M h)

-- The new variance, times 10,000, is not below the weighted sum, and less than 10,000 above it.
module _ (upper lower v D : ℕ) where
  unfoldable pub weighted : ℕ
  weighted = (10000 - weight upper lower v D) * v + weight upper lower v D * square D

  pub variance_covers : weighted ≤ next_variance upper lower v D * 10000
  unfolding next_variance weighted
  variance_covers = ceil_covers weighted 10000 (lit< tt)

  pub variance_tight : next_variance upper lower v D * 10000 < weighted + 10000
  unfolding next_variance weighted
  variance_tight = ceil_tight weighted 10000 (lit< tt)

-- Squares keep the order; a number is at most a positive multiple of itself.
pub square_mono : {a b : ℕ} → a ≤ b → square a ≤ square b
square_mono h = mul-le-mul h h

pub le_times : (h k : ℕ) → 0 < h → k ≤ h * k
le_times h k p = subst (λ (n : ℕ). k ≤ n) (mul_comm k h) (le-mul_of_pos_right k p)

pub le_square : (n : ℕ) → n ≤ square n
le_square zero = omega arith
le_square (suc n) = le-mul_of_pos_right (suc n) (omega arith)

-- A square times a number is at most the square of the number times as much.
pub square_times : (a n : ℕ) → square a * n ≤ square (a * n)
square_times a n = omega (arith, mul-le-mul_left (a * a) (le_square n))

-- A rate covers the need where its square does and, on a shock day, the move; it does not where either fails.
module _ (alpha v D c : ℕ) where
  pub need_covered : (shock : Bool) → square alpha * v ≤ square (1000 * c) → cond shock D 0 ≤ c → covers_need alpha v D shock c ≡ true
  unfolding covers_need
  need_covered true p q = and_both _ _ (le-leb (square alpha * v) (square (1000 * c)) p) (le-leb D c q)
  need_covered false p q = and_both _ _ (le-leb (square alpha * v) (square (1000 * c)) p) refl

  pub need_says : (shock : Bool) → covers_need alpha v D shock c ≡ true → (square alpha * v ≤ square (1000 * c)) × (cond shock D 0 ≤ c)
  unfolding covers_need
  need_says true e =
      (leb-true (square alpha * v) (square (1000 * c)) (and_left _ (leb D c) e), leb-true D c (and_right (leb (square alpha * v) (square (1000 * c))) _ e))
  need_says false e = (leb-true (square alpha * v) (square (1000 * c)) (and_left _ true e), omega arith)

  pub need_above : (shock : Bool) → square (1000 * c) < square alpha * v → covers_need alpha v D shock c ≡ false
  unfolding covers_need
  need_above shock p = ap (λ (b : Bool). b && (not shock || leb D c)) (lt-leb (square alpha * v) (square (1000 * c)) p)

  pub need_shock : (shock : Bool) → c < cond shock D 0 → covers_need alpha v D shock c ≡ false
  unfolding covers_need
  need_shock true p = and_fails (leb (square alpha * v) (square (1000 * c))) (leb D c) (lt-leb D c p)
  need_shock false p = absurd (not-suc-le-zero p)

-- In range, a rate below the need is below 4,000,000.
pub need_limit : (alpha v c : ℕ) → alpha ≤ 4000 → v ≤ 1000000000000 → square (1000 * c) < square alpha * v → c < 4000000
need_limit alpha v c p q l =
    lt_of_not-le (λ (h : 4000000 ≤ c). not-le_of_lt l
    (le_trans (mul-le-mul {n₂ = 16000000} (mul-le-mul p p) q) (mul-le-mul {n₁ = 4000000000} {m₁ = 4000000000} (omega arith) (omega arith))))

-- Any rate from the bound of its search on covers the need, the margin's sum and the concentration's.
pub need_bound : (alpha v D : ℕ) (shock : Bool) (c : ℕ) → alpha * (v + 1) + D ≤ c → covers_need alpha v D shock c ≡ true
unfolding covers_need
need_bound alpha v D shock c h =
    and_both (leb (square alpha * v) (square (1000 * c))) (not shock || leb D c)
    (le-leb (square alpha * v) (square (1000 * c)) (le_trans (square_times alpha v) (square_mono (omega arith))))
    (or_right (not shock) (leb D c) (le-leb D c (omega arith)))

pub margin_bound_lem : (preliminary T m R X : ℕ) → 0 < T → margin_bound preliminary T m R ≤ X → covers_margin preliminary T m R X ≡ true
unfolding margin_bound covers_margin
margin_bound_lem q T m R X p h =
    and_both (leb R X) (leb (square q * (T + m)) (square (X - R) * T)) (le-leb R X (omega arith))
    (le-leb (square q * (T + m)) (square (X - R) * T)
    (le_trans (square_times q (T + m)) (le_trans (square_mono (omega arith)) (le-mul_of_pos_right (square (X - R)) p))))

-- Root A plus root B is at most root Y where a and b are not below the roots and the square of their sum is not above Y.
pub roots_within_lem : (A B Y a b : ℕ) → A ≤ square a → B ≤ square b → square (a + b) ≤ Y → roots_within A B Y ≡ true
unfolding roots_within
roots_within_lem A B Y a b p q r =
    let rest : 2 * (a * b) ≤ Y - (A + B) = omega arith in
    and_both (leb (A + B) Y) (leb (4 * (A * B)) (square (Y - (A + B)))) (le-leb (A + B) Y (omega arith))
    (le-leb (4 * (A * B)) (square (Y - (A + B)))
    (le_trans (omega (arith, mul-le-mul p q)) (square_mono rest)))

pub concentration_bound_lem : (preliminary T m R L X : ℕ) → 0 < T → concentration_bound preliminary T m R L ≤ X → covers_concentration preliminary T m R L X ≡ true
unfolding concentration_bound covers_concentration
concentration_bound_lem q T m R L X p h =
    roots_within_lem (square q * (T + m) * L) (square R * L * T) (square X * square T) (q * (T + m) * L) (R * L * T)
    (omega (arith, square_times q ((T + m) * L))) (omega (arith, square_times R (L * T)))
    (le_trans (square_mono (le_trans h (le-mul_of_pos_right X p))) (omega arith))
