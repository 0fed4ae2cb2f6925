-- One move of the exact variance, as a function of the variance: it rises, and brings two variances nearer by the smaller weight. Below the move's square it is drawn up by the upper weight, from there on down by the lower one, and at the square the two agree. And what covers the exact need. Assumes nothing.
use mathlib.Core.Path.{◌≡◌, refl, ap, ◌∙◌}
use mathlib.Core.Bool.{Bool, true, false, cond}
use Prim.Native.Nat.{ℕ, ◌+◌, ◌*◌, ◌-◌, ◌≤◌, ◌<◌, min}
use native.Mathlib.Nat.{add-mul, mul-le-mul_left, mul-le-mul_right, mul-lt-mul_of_pos_right, le_of_lt, mul-sub}
use native.Mathlib.Omega.{arith}
use borrow.Author.Tests.{leb-true, le-leb, ltb-true, ltb-false, lt-ltb, le-ltb}
use lib.Dec.{leb, ltb}
use Rattle.paper.specs.Rates.{square, weight, next_variance}
use Rattle.paper.specs.Exact.{exact_weight, exact_next, covers_exact_need}
use Rattle.paper.specs.Promises.Drift.{VarianceRises, VarianceNears, RoundingAddsLess}
use Rattle.paper.proofs.Tests.{and_left, and_right, and_both}
use Rattle.paper.proofs.Rates.{shares, weighted, variance_covers, variance_tight}

-- The weighted sum of a variance e and a square s.
blend : ℕ → ℕ → ℕ → ℕ → ℕ
blend upper lower s e = (10000 - cond (ltb e s) upper lower) * e + cond (ltb e s) upper lower * s

module _ (u l s e e' : ℕ) (hu : u ≤ 10000) (hl : l ≤ 10000) (h : e ≤ e') where
  -- By the two tests: both below the square, on both sides of it, or both not below.
  by_tests : (P : ℕ → ℕ → Type 0)
      → (e' < s → P u u) → (e < s → s ≤ e' → P u l) → (s ≤ e → P l l)
      → P (cond (ltb e s) u l) (cond (ltb e' s) u l)
  by_tests P both apart neither = go (ltb e s) (ltb e' s) refl refl
    where
      go : (b b' : Bool) → ltb e s ≡ b → ltb e' s ≡ b' → P (cond b u l) (cond b' u l)
      go true true p q = both (ltb-true e' s q)
      go true false p q = apart (ltb-true e s p) (ltb-false e' s q)
      go false true p q = absurd (omega (arith, ltb-false e s p, ltb-true e' s q))
      go false false p q = neither (ltb-false e s p)

  blend_rises : blend u l s e ≤ blend u l s e'
  unfolding blend
  blend_rises =
      by_tests (λ w w'. (10000 - w) * e + w * s ≤ (10000 - w') * e' + w' * s)
      (λ b. omega (arith, mul-le-mul_left (10000 - u) h))
      (λ b p. omega (arith, mul-le-mul_left (10000 - u) (le_of_lt b), mul-le-mul_left (10000 - l) p, shares u s hu, shares l s hl))
      (λ b. omega (arith, mul-le-mul_left (10000 - l) h))

  -- With A what the smaller weight leaves of 10,000: each share is at most A, and what it lacks of A it has of the weight.
  blend_nears : blend u l s e' + (10000 - min u l) * e ≤ blend u l s e + (10000 - min u l) * e'
  unfolding blend
  blend_nears =
      by_tests (λ w w'. (10000 - w') * e' + w' * s + A * e ≤ (10000 - w) * e + w * s + A * e')
      (λ b. omega (arith, split_u e, split_u e', mul-le-mul_left p h))
      (λ b c.
      omega (arith, split_u e, split_l e', shares u s hu, shares l s hl, split_u s, split_l s, mul-le-mul_left p (le_of_lt b), mul-le-mul_left q c))
      (λ b. omega (arith, split_l e, split_l e', mul-le-mul_left q h))
    where
      A : ℕ
      A = 10000 - min u l

      p : ℕ
      p = u - min u l

      q : ℕ
      q = l - min u l

      split_u : (n : ℕ) → A * n ≡ (10000 - u) * n + p * n
      split_u n = ap (λ (k : ℕ). k * n) {y = (10000 - u) + p} (omega arith) ∙ add-mul (10000 - u) p n

      split_l : (n : ℕ) → A * n ≡ (10000 - l) * n + q * n
      split_l n = ap (λ (k : ℕ). k * n) {y = (10000 - l) + q} (omega arith) ∙ add-mul (10000 - l) q n

pub variance_rises : VarianceRises
unfolding exact_next exact_weight blend
variance_rises upper lower N D e e' hu hl h = blend_rises upper lower (square D * N) e e' hu hl h

moved : (x x' a b c : ℕ) → x' + a ≤ x + b → a ≤ b → c ≡ b - a → x' ≤ x + c
moved x x' a b c p q r = omega arith

spread : (a v w s N : ℕ) → a * (v * N) + w * (s * N) ≡ (a * v + w * s) * N
spread a v w s N = omega arith

pub variance_nears : VarianceNears
unfolding exact_next exact_weight blend
variance_nears upper lower N D e e' hu hl h =
    moved _ _ _ _ _ (blend_nears upper lower (square D * N) e e' hu hl h) (mul-le-mul_left (10000 - min upper lower) h)
    (mul-sub (10000 - min upper lower) e' e)

-- Over a denominator N, what is kept has the weight that it has by itself, and one move of it is N times its weighted sum.
module _ (upper lower N D v : ℕ) (positive : 0 < N) where
  same_test : (b : Bool) → ltb v (square D) ≡ b → ltb (v * N) (square D * N) ≡ b
  same_test true e = lt-ltb (v * N) (square D * N) (mul-lt-mul_of_pos_right (ltb-true v (square D) e) positive)
  same_test false e = le-ltb (v * N) (square D * N) (mul-le-mul_right N (ltb-false v (square D) e))

  same_weight : exact_weight upper lower N (v * N) D ≡ weight upper lower v D
  unfolding exact_weight weight
  same_weight = ap (λ (b : Bool). cond b upper lower) (same_test (ltb v (square D)) refl)

  scaled_next : exact_next upper lower N (v * N) D ≡ weighted upper lower v D * N
  unfolding exact_next weighted
  scaled_next =
      ap (λ (w : ℕ). (10000 - w) * (v * N) + w * (square D * N)) same_weight
      ∙ spread (10000 - weight upper lower v D) v (weight upper lower v D) (square D) N

  rounds_up : exact_next upper lower N (v * N) D ≤ next_variance upper lower v D * (10000 * N)
  rounds_up = omega (arith, scaled_next, mul-le-mul_right N (variance_covers upper lower v D))

  adds_less : next_variance upper lower v D * (10000 * N) < exact_next upper lower N (v * N) D + 10000 * N
  adds_less = omega (arith, scaled_next, mul-lt-mul_of_pos_right (variance_tight upper lower v D) positive)

pub rounding_adds_less : RoundingAddsLess
rounding_adds_less =
    record {
      not_below = λ upper lower N D v. rounds_up upper lower N D v;
      less_than_one = λ upper lower N D v. adds_less upper lower N D v;
    }

-- A rate covers the exact need where its square, times N, does and, on a shock day, the move.
module _ (alpha N e D c : ℕ) where
  pub exact_covered : (shock : Bool) → square alpha * e ≤ square (1000 * c) * N → cond shock D 0 ≤ c → covers_exact_need alpha N e D shock c ≡ true
  unfolding covers_exact_need
  exact_covered true p q = and_both _ _ (le-leb (square alpha * e) (square (1000 * c) * N) p) (le-leb D c q)
  exact_covered false p q = and_both _ _ (le-leb (square alpha * e) (square (1000 * c) * N) p) refl

  pub exact_says : (shock : Bool) → covers_exact_need alpha N e D shock c ≡ true → (square alpha * e ≤ square (1000 * c) * N) × (cond shock D 0 ≤ c)
  unfolding covers_exact_need
  exact_says true p =
      (leb-true (square alpha * e) (square (1000 * c) * N) (and_left _ (leb D c) p), leb-true D c (and_right (leb (square alpha * e) (square (1000 * c) * N)) _ p))
  exact_says false p = (leb-true (square alpha * e) (square (1000 * c) * N) (and_left _ true p), omega arith)
