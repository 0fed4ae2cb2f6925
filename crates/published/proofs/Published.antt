-- What a search by steps publishes: the rate at which it ends, or the greatest where it came that far. Assumes nothing.
use mathlib.Core.Path.{◌≡◌, refl, sym, ap, subst, ◌∙◌}
use mathlib.Core.Bool.{Bool, true, false, cond, ◌&&◌}
use Prim.Native.Nat.{ℕ, suc, ◌+◌, ◌*◌, ◌≤◌, ◌<◌, min}
use native.Mathlib.Nat.{min-eq_left, min-eq_right, le_of_lt, mul-le-mul_left, lt_of_not-le}
use native.Mathlib.Omega.{arith}
use borrow.Author.Tests.{le-leb, lt-leb, eq-eqb, ne_eqb}
use lib.Dec.{leb}
use Rattle.paper.specs.Least.{least_multiple}
use Rattle.paper.specs.Rates.{rounded_up, published}
use Rattle.paper.proofs.Tests.{clash, and_both, and_fails}
use Rattle.paper.proofs.Least.{multiple_of, multiple_unique, multiple_fails}
use Rattle.paper.proofs.Rates.{le_times}
use Rattle.preliminary.proofs.Stepping.{Stepping}

-- The test of a rate: it covers the sum and is not below the least rate.
abbrev pub rate_test : (ℕ → Bool) → ℕ → ℕ → Bool
rate_test covers least X = covers X && leb least X

pub below_least : (covers : ℕ → Bool) (least X : ℕ) → X < least → rate_test covers least X ≡ false
below_least covers least X l = and_fails (covers X) (leb least X) (lt-leb least X l)

pub uncovered : (covers : ℕ → Bool) (least X : ℕ) → covers X ≡ false → rate_test covers least X ≡ false
uncovered covers least X e = ap (λ (b : Bool). b && leb least X) e

module _ (M h least greatest : ℕ) (covers : ℕ → Bool) where
  pub unmonitored : (M ≡ 1 → ⊥) → least ≡ published M h least greatest covers greatest
  unfolding published
  unmonitored other = simp (ne_eqb M 1 other)

  module _ (monitored : M ≡ 1) (positive : 0 < h) (x : ℕ) (s : Stepping h (rate_test covers least) x) where
    is_min : published M h least greatest covers greatest ≡ min (least_multiple h (rate_test covers least) (greatest + least)) greatest
    unfolding published rounded_up
    is_min = ap (λ (b : Bool). cond b (min (least_multiple h (rate_test covers least) (greatest + least)) greatest) least) (eq-eqb M 1 monitored)

    pub ends_below : covers x ≡ true → least ≤ x → x < greatest → x ≡ published M h least greatest covers greatest
    ends_below e low high =
        let near : s.count ≤ h * s.count = le_times h s.count positive in
        let found : least_multiple h (rate_test covers least) (greatest + least) ≡ x
        = multiple_unique h (rate_test covers least) (greatest + least) s.count (omega (arith, s.multiple))
        (subst (λ (n : ℕ). rate_test covers least n ≡ true) s.multiple (and_both (covers x) (leb least x) e (le-leb least x low)))
        s.before ∙ sym s.multiple in
        sym (is_min ∙ ap (λ (n : ℕ). min n greatest) found ∙ min-eq_left (le_of_lt high))

    -- What the search would find lies at or past the place that it came to, or at its bound.
    beyond : (b : Bool) → rate_test covers least (least_multiple h (rate_test covers least) (greatest + least)) ≡ b → greatest ≤ x → greatest ≤ least_multiple h (rate_test covers least) (greatest + least)
    beyond true e past =
        let found = multiple_of h (rate_test covers least) (greatest + least) in
        let later : s.count ≤ found.0
        = omega (
          arith,
          lt_of_not-le {n = suc found.0} (λ (l : found.0 < s.count).
              clash _ (subst (λ (n : ℕ). rate_test covers least n ≡ true) found.1 e) (s.before found.0 l)),
        ) in
        omega (arith, found.1, s.multiple, mul-le-mul_left h later)
    beyond false e past =
        omega (arith, multiple_fails h (rate_test covers least) (greatest + least) e, le_times h (greatest + least) positive)

    pub ends_at_greatest : greatest ≤ x → greatest ≡ published M h least greatest covers greatest
    ends_at_greatest past = sym (is_min ∙ min-eq_right (beyond _ refl past))
