-- How the preliminary moves: by the two tests that decide a rise and a fall. Assumes nothing.
use mathlib.Core.Path.{◌≡◌, refl}
use mathlib.Core.Bool.{Bool, true, false, cond, ◌||◌}
use Prim.Native.Nat.{ℕ, ◌+◌, ◌-◌, ◌≤◌, ◌<◌}
use native.Mathlib.Omega.{arith}
use borrow.Author.Tests.{leb-true, leb-false, le-leb}
use lib.Dec.{leb}
use Rattle.paper.specs.Rates.{rises, falls, next_preliminary, next_days}
use Rattle.paper.specs.Promises.Steps.{Becomes, RisesAtOnce, FallsOneStep, FallWaits, NearIsKept, NeverTwoSteps}
use Rattle.paper.proofs.Tests.{clash, and_left, and_right, and_both}

module _ (h n old days c : ℕ) where
  -- A rise reaches at least h above the old one.
  pub rise_high : rises h old c ≡ true → old + h ≤ c
  unfolding rises
  rise_high e = leb-true (old + h) c e

  pub rise_low : rises h old c ≡ false → c < old + h
  unfolding rises
  rise_low e = leb-false (old + h) c e

  -- A fall starts at least h above the candidate, and has waited.
  pub fall_low : falls h n old days c ≡ true → c + h ≤ old
  unfolding falls
  fall_low e = leb-true (c + h) old (and_left (leb (c + h) old) _ e)

  pub fall_waited : falls h n old days c ≡ true → n ≤ days
  unfolding falls
  fall_waited e = leb-true n days (and_right (leb (c + h) old) _ e)

  pub fall_denied : falls h n old days c ≡ false → c + h ≤ old → n ≤ days → ⊥
  unfolding falls
  fall_denied e low waited = clash _ (and_both (leb (c + h) old) _ (le-leb (c + h) old low) (le-leb n days waited)) e

  -- The three branches: a statement about the preliminary and the days holds where it holds in each.
  pub branches : (P : ℕ → ℕ → Type 0)
      → (rises h old c ≡ true → P c 0)
      → (rises h old c ≡ false → falls h n old days c ≡ true → P (old - h) 0)
      → (rises h old c ≡ false → falls h n old days c ≡ false → P old days)
      → P (next_preliminary h n old days c) (next_days h n old days c)
  unfolding next_preliminary next_days
  branches P up down same = go (rises h old c) (falls h n old days c) refl refl
    where
      go : (r f : Bool) → rises h old c ≡ r → falls h n old days c ≡ f → P (cond r c (cond f (old - h) old)) (cond (r || f) 0 days)
      go true f p q = up p
      go false true p q = down p q
      go false false p q = same p q

-- The two together, from each branch.
becomes : (h n old days c q since : ℕ) → (rises h old c ≡ true → (c ≡ q) × (0 ≡ since)) → (rises h old c ≡ false → falls h n old days c ≡ true → (old - h ≡ q) × (0 ≡ since)) → (rises h old c ≡ false → falls h n old days c ≡ false → (old ≡ q) × (days ≡ since)) → Becomes h n old days c q since
becomes h n old days c q since up down same =
    let both = branches h n old days c (λ q' since'. (q' ≡ q) × (since' ≡ since)) up down same in
    record { rate = both.0; count = both.1 }

pub never_two_steps : NeverTwoSteps
never_two_steps h n old days c =
    branches h n old days c (λ q d. old ≤ q + h) (λ r. omega (arith, rise_high h n old days c r)) (λ r f. omega arith)
    (λ r f. omega arith)

pub rises_at_once : RisesAtOnce
rises_at_once h n old days c high =
    becomes h n old days c c 0 (λ r. (refl, refl)) (λ r f. absurd (omega (arith, rise_low h n old days c r)))
    (λ r f. absurd (omega (arith, rise_low h n old days c r)))

pub falls_one_step : FallsOneStep
falls_one_step h n old days c positive low waited =
    becomes h n old days c (old - h) 0 (λ r. absurd (omega (arith, rise_high h n old days c r))) (λ r f. (refl, refl))
    (λ r f. absurd (fall_denied h n old days c f low waited))

pub fall_waits : FallWaits
fall_waits h n old days c positive low early =
    becomes h n old days c old days (λ r. absurd (omega (arith, rise_high h n old days c r)))
    (λ r f. absurd (omega (arith, fall_waited h n old days c f))) (λ r f. (refl, refl))

pub near_is_kept : NearIsKept
near_is_kept h n old days c below above =
    becomes h n old days c old days (λ r. absurd (omega (arith, rise_high h n old days c r)))
    (λ r f. absurd (omega (arith, fall_low h n old days c f))) (λ r f. (refl, refl))
