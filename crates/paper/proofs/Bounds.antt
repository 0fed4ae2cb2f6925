-- The exact bounds of a corridor with no sign: a factor is never below 0, and where 1 - s is, what it bounds is no bound. Assumes nothing.
use mathlib.Core.Path.{◌≡◌, refl, sym, ap, ap₂, ◌∙◌}
use mathlib.Core.Bool.{Bool, true, cond, not, ◌&&◌, ◌||◌}
use mathlib.Core.Logic.{◌↔◌}
use Prim.Native.Nat.{ℕ, zero, suc, ◌+◌, ◌*◌, ◌-◌, ◌≤◌, ◌<◌}
use native.Mathlib.Nat.{add-mul, sub-add_cancel, mul-le-mul_left, mul-le-mul_right, mul-add}
use native.Mathlib.Decide.{dec_le, ℕ_discrete}
use native.Mathlib.Omega.{arith}
use borrow.Author.Tests.{leb-true, le-leb, le-ltb, lt-ltb, eq-eqb, ne_eqb}
use lib.Dec.{leb, eqb}
use lib.IntN.{ℤ, pos, negsuc, neg_ℤ, ◌+ℤ◌, ◌-ℤ◌, ◌*ℤ◌}
use lib.Signed.{le_z}
use Rattle.paper.specs.Corridor.{Terms, whole, year, spread_up, spread_down, factor, scaled, risen, fallen, spread_above, spread_below, under_rise, over_fall, under_spread, over_spread, is_within}
use Rattle.paper.specs.Promises.Ranges.{AreTerms}
use Rattle.paper.specs.Promises.Bounds.{factor_of, WithinMeans}
use Rattle.paper.proofs.Tests.{both_say}

-- A difference of which the first is not smaller has no sign; of which it is smaller, it has.
pub sub_pos : (a b : ℕ) → b ≤ a → pos a -ℤ pos b ≡ pos (a - b)
sub_pos a zero h = ap pos (omega arith)
sub_pos a (suc b) h = ap (λ (t : Bool). cond t (negsuc (suc b - suc a)) (pos (a - suc b))) (le-ltb a (suc b) h)

pub sub_neg : (a b : ℕ) → a < b → pos a -ℤ pos b ≡ negsuc (b - suc a)
sub_neg a zero h = absurd (omega arith)
sub_neg a (suc b) h = ap (λ (t : Bool). cond t (negsuc (suc b - suc a)) (pos (a - suc b))) (lt-ltb a (suc b) h)

-- A factor, from k of at most 365 days.
factor_is : (above k : ℕ) → k ≤ 365 → factor (pos above -ℤ pos 10000) k ≡ pos (factor_of above k)
unfolding factor
factor_is above k few = go (dec_le 10000 above)
  where
    go : Dec (10000 ≤ above) → pos year +ℤ (pos above -ℤ pos 10000) *ℤ pos k ≡ pos (factor_of above k)
    go (yes l) =
        ap (λ (r : ℤ). pos year +ℤ r *ℤ pos k) (sub_pos above 10000 l)
        ∙ ap pos (omega (arith, add-mul (above - 10000) 10000 k, ap (λ (n : ℕ). n * k) (sub-add_cancel l)))
    go (no n) =
        let l : above < 10000 = omega (arith, n) in
        let lost = suc (10000 - suc above) in
        let parts : lost * k + above * k ≡ 10000 * k = sym (add-mul lost above k) ∙ ap (λ (n : ℕ). n * k) (omega arith) in
        ap (λ (r : ℤ). pos year +ℤ r *ℤ pos k) (sub_neg above 10000 l)
        ∙ sub_pos year (lost * k) (omega arith)
        ∙ ap pos (omega arith)

-- A number below 0 is not above one that is not, and so is a multiple of it.
pub below_zero : (n Q : ℕ) → le_z (neg_ℤ (pos n)) (pos Q) ≡ true
below_zero zero Q = le-leb 0 Q (omega arith)
below_zero (suc n) Q = refl

times_below_zero : (P n Q : ℕ) → le_z (pos P *ℤ neg_ℤ (pos n)) (pos Q) ≡ true
times_below_zero P zero Q = le-leb (P * 0) Q (omega arith)
times_below_zero P (suc n) Q = below_zero (P * suc n) Q

-- An amount, n of it times a whole and m of it times the denominators of a product, against the four bounds. A price of a share is one, and so is that
-- of a bond.
abbrev pub is_inside : ℕ → ℕ → ℕ → Terms → ℕ → ℕ → Bool
is_inside P margin M t n m =
    le_z (pos n) (risen P t)
    && le_z (fallen P t) (pos n)
    && (not (eqb M 1) || (le_z (pos m) (spread_above P margin t) && le_z (spread_below P margin t) (pos m)))

module _ (P margin : ℕ) (t : Terms) (r : AreTerms t) (n m : ℕ) where
  rise_says : (le_z (pos n) (risen P t) ≡ true) ↔ (n ≤ P * (1000000 + t.rise))
  rise_says = (leb-true n (P * (1000000 + t.rise)), le-leb n (P * (1000000 + t.rise)))

  fall_is : le_z (fallen P t) (pos n) ≡ leb (P * (1000000 - t.fall)) n
  fall_is = ap (λ (z : ℤ). le_z (pos P *ℤ z) (pos n)) (sub_pos whole t.fall r.fall.not_above)

  fall_says : (le_z (fallen P t) (pos n) ≡ true) ↔ (P * 1000000 ≤ n + P * t.fall)
  fall_says =
      let parts : P * (1000000 - t.fall) + P * t.fall ≡ P * 1000000 = sym (mul-add P (1000000 - t.fall) t.fall) ∙ ap (λ (n : ℕ). P * n) (sub-add_cancel r.fall.not_above) in (
        λ e. omega (arith, leb-true (P * (1000000 - t.fall)) n (sym fall_is ∙ e)),
        λ l. fall_is ∙ le-leb (P * (1000000 - t.fall)) n (omega arith),
      )

  upper_is : le_z (pos m) (spread_above P margin t) ≡ leb m (P * ((t.x * 1000000 + 2 * t.shift * margin) * factor_of r.high t.k))
  unfolding spread_up
  upper_is =
      ap (λ (z : ℤ). le_z (pos m) (pos P *ℤ (spread_up margin t *ℤ z)))
      (ap (λ (z : ℤ). factor z t.k) r.upper ∙ factor_is r.high t.k r.k.not_above)

  upper_says : (le_z (pos m) (spread_above P margin t) ≡ true) ↔ (m ≤ P * ((t.x * 1000000 + 2 * t.shift * margin) * factor_of r.high t.k))
  upper_says = (λ e. leb-true _ _ (sym upper_is ∙ e), λ l. upper_is ∙ le-leb _ _ l)

  -- The lower bound: where s is above 1 it is below 0, and bounds nothing.
  abbrev X : ℕ
  X = t.x * 1000000

  abbrev s : ℕ
  s = 2 * t.shift * margin

  abbrev F : ℕ
  F = factor_of r.low t.k

  lower_is : (z : ℤ) → spread_down margin t ≡ z → le_z (spread_below P margin t) (pos m) ≡ le_z (pos P *ℤ (z *ℤ pos F)) (pos m)
  lower_is z e =
      ap₂ (λ (a b : ℤ). le_z (pos P *ℤ (a *ℤ b)) (pos m)) e
      (ap (λ (z : ℤ). factor z t.k) r.lower ∙ factor_is r.low t.k r.k.not_above)

  lower_says : (le_z (spread_below P margin t) (pos m) ≡ true) ↔ (P * (X * F) ≤ m + P * (s * F))
  unfolding spread_down
  lower_says = go (dec_le s X)
    where
      go : Dec (s ≤ X) → (le_z (spread_below P margin t) (pos m) ≡ true) ↔ (P * (X * F) ≤ m + P * (s * F))
      go (yes l) =
          let is = lower_is (pos (X - s)) (sub_pos X s l) in
          let parts : P * ((X - s) * F) + P * (s * F) ≡ P * (X * F) = sym (mul-add P ((X - s) * F) (s * F)) ∙ ap (λ (n : ℕ). P * n) (sym (add-mul (X - s) s F) ∙ ap (λ (n : ℕ). n * F) (sub-add_cancel l)) in (
            λ e. omega (arith, leb-true (P * ((X - s) * F)) m (sym is ∙ e), parts),
            λ h. is ∙ le-leb (P * ((X - s) * F)) m (omega (arith, parts)),
          )
      go (no n) =
          let is = lower_is (negsuc (s - suc X)) (sub_neg X s (omega (arith, n))) in
          let small : X ≤ s = omega (arith, n) in (
            λ e. omega (arith, mul-le-mul_left P (mul-le-mul_right F small)),
            λ h. is ∙ times_below_zero P (suc (s - suc X) * F) m,
          )

-- Tests that count only where M is 1.
monitored_say : (M : ℕ) (b : Bool) (A : Type 0) → (b ≡ true) ↔ A → (not (eqb M 1) || b ≡ true) ↔ (M ≡ 1 → A)
monitored_say M b A says = go (ℕ_discrete M 1)
  where
    go : Dec (M ≡ 1) → (not (eqb M 1) || b ≡ true) ↔ (M ≡ 1 → A)
    go (yes e) =
        let is : not (eqb M 1) || b ≡ b = ap (λ (m : Bool). not m || b) (eq-eqb M 1 e) in
        (λ h one. says.0 (sym is ∙ h), λ h. is ∙ says.1 (h e))
    go (no n) = (λ h one. absurd (n one), λ h. ap (λ (m : Bool). not m || b) (ne_eqb M 1 n))

-- What the four tests say together.
pub inside_says : (P margin M : ℕ) (t : Terms) (r : AreTerms t) (n m : ℕ) → (is_inside P margin M t n m ≡ true) ↔
    ((n ≤ P * (1000000 + t.rise)) × (P * 1000000 ≤ n + P * t.fall)) × (M ≡ 1 → (m ≤ P * ((t.x * 1000000 + 2 * t.shift * margin) * factor_of r.high t.k)) × (P * (t.x * 1000000 * factor_of r.low t.k) ≤ m + P * (2 * t.shift * margin * factor_of r.low t.k)))
inside_says P margin M t r n m =
    both_say _ _ _ _ (both_say _ _ _ _ (rise_says P margin t r n m) (fall_says P margin t r n m))
    (monitored_say M _ _ (both_say _ _ _ _ (upper_says P margin t r n m) (lower_says P margin t r n m)))

pub within_means : WithinMeans
unfolding is_within under_rise over_fall under_spread over_spread scaled
within_means P margin M t r q =
    let says = inside_says P margin M t r (q * 1000000) (q * (t.x * 1000000 * 3650000)) in (
      λ e.
          let all = says.0 e in
          record {
            below_rise = all.0.0;
            above_fall = all.0.1;
            below_spread = λ one. (all.1 one).0;
            above_spread = λ one. (all.1 one).1;
          },
      λ i. says.1 ((i.below_rise, i.above_fall), λ one. (i.below_spread one, i.above_spread one)),
    )
