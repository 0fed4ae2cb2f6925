-- What the range check of the terms says, and that a repo rate's factor is never below 0. Assumes nothing.
use mathlib.Core.Path.{◌≡◌, refl, sym, ap, subst⁻¹, ◌∙◌}
use mathlib.Core.Bool.{true}
use Prim.Native.Nat.{ℕ, suc, ◌*◌, ◌≤◌, ◌<◌}
use native.Mathlib.Nat.{mul-le-mul}
use native.Mathlib.Omega.{arith}
use borrow.Author.Tests.{leb-true}
use lib.IntN.{ℤ, pos, negsuc, nat_abs, ◌*ℤ◌}
use lib.Signed.{le_z}
use Rattle.paper.specs.Row.{is_in, are_in}
use Rattle.paper.specs.Corridor.{Terms, is_repo, repos_in_range, terms_in_range, spread_down, factor}
use Rattle.paper.proofs.Tests.{and_left}
use Rattle.paper.proofs.Bounds.{sub_pos}
use Rattle.corridor.specs.Edges.{at_least_zero}
use Rattle.std.proofs.lemmas.Int.{ints, unsigned_abs-mul}
use Rattle.std.proofs.lemmas.Grind.{common_steps}

pub record TermsFit (t : Terms) : Type 0 where
  pub k : t.k ≤ 365
  pub shift : t.shift ≤ 1000
  pub x : t.x ≤ 10000
  pub rise : t.rise ≤ 1000000
  pub fall : t.fall ≤ 1000000
  pub ticks : 0 < t.tick
  pub tick : t.tick ≤ 1000000
  pub lower : is_repo t.lower ≡ true
  pub upper : is_repo t.upper ≡ true

pub terms_fit : (t : Terms) → terms_in_range t ≡ true → TermsFit t
unfolding terms_in_range repos_in_range are_in is_in
terms_fit t sound =
    record {
      k = grind (arith, common_steps);
      shift = grind (arith, common_steps);
      x = grind (arith, common_steps);
      rise = grind (arith, common_steps);
      fall = grind (arith, common_steps);
      ticks = grind (arith, common_steps);
      tick = grind (arith, common_steps);
      lower = grind (arith, common_steps);
      upper = grind (arith, common_steps);
    }

-- A repo rate in range is at most 50,000 in size; a clamped number is at most its size.
repo_small : (r : ℤ) → is_repo r ≡ true → nat_abs r ≤ 50000
unfolding is_repo
repo_small r e = grind (arith, ints)

pub clamp_le : (z : ℤ) → at_least_zero z ≤ nat_abs z
clamp_le (pos n) = omega arith
clamp_le (negsuc n) = omega arith

module _ (k : ℕ) (short : k ≤ 365) where
  -- The size of a factor, and that it has no sign.
  pub factor_size : (r : ℤ) → is_repo r ≡ true → nat_abs (factor r k) ≤ 21900000
  unfolding factor
  factor_size r e =
      let product : nat_abs (r *ℤ pos k) ≤ 18250000
      = subst⁻¹ (λ (n : ℕ). n ≤ 18250000) (unsigned_abs-mul r (pos k)) (mul-le-mul {n₂ = 50000} {m₂ = 365} (repo_small r e) short) in
      omega (arith, ints)

  pub factor_clamped : (r : ℤ) → is_repo r ≡ true → pos (at_least_zero (factor r k)) ≡ factor r k
  unfolding factor is_repo
  factor_clamped (pos n) e = refl
  factor_clamped (negsuc n) e =
      let low : n ≤ 9999 = leb-true n 9999 (and_left (le_z (negsuc 9999) (negsuc n)) (le_z (negsuc n) (pos 50000)) e) in
      let whole = sub_pos 3650000 (suc n * k) (mul-le-mul {n₂ = 10000} {m₂ = 365} (omega arith) short) in
      ap (λ (z : ℤ). pos (at_least_zero z)) whole ∙ sym whole

-- Twice Shift times the margin, and the sizes of the spreads.
module _ (t : Terms) (margin : ℕ) (fits : TermsFit t) (small : margin ≤ 1000000) where
  pub shift_small : 2 * t.shift * margin ≤ 2000000000
  shift_small = mul-le-mul {n₂ = 2000} {m₂ = 1000000} (omega (arith, fits.shift)) small

  pub down_size : nat_abs (spread_down margin t) ≤ 12000000000
  unfolding spread_down
  down_size =
      omega (arith, ints, shift_small, fits.x)
