-- What the searches find: a number that passes, the least or the greatest that does, and no other.
-- Each is by induction on how far the search may look. Assumes nothing.
use mathlib.Core.Path.{◌≡◌, refl, ap, subst}
use mathlib.Core.Bool.{Bool, true, false}
use mathlib.Core.Logic.{⊎_elim}
use Prim.Native.Nat.{ℕ, zero, suc, ◌+◌, ◌*◌, ◌-◌, ◌≤◌, ◌<◌}
use native.Mathlib.Nat.{le_antisymm, eq-or-lt_of_le, lt_of_not-le, lt_of_mul-lt-mul_left, mul-le-mul_left}
use native.Mathlib.Omega.{arith}
use Rattle.paper.specs.Least.{least_from, least, greatest, least_multiple}
use Rattle.paper.proofs.Tests.{clash}

module _ (p : ℕ → Bool) where
  step_passes : (k more : ℕ) → p k ≡ true → least_from p k (suc more) ≡ k
  unfolding least_from
  step_passes k more e = rw (e, least_from)

  step_fails : (k more : ℕ) → p k ≡ false → least_from p k (suc more) ≡ least_from p (suc k) more
  unfolding least_from
  step_fails k more e = rw (e, least_from)

  from_start : (more k : ℕ) → k ≤ least_from p k more
  unfolding least_from
  from_start zero k = omega arith
  from_start (suc more) k = go (p k) refl (from_start more (suc k))
    where
      go : (b : Bool) → p k ≡ b → suc k ≤ least_from p (suc k) more → k ≤ least_from p k (suc more)
      go true e ih = rw (step_passes k more e) (omega arith)
      go false e ih = rw (step_fails k more e) (omega arith)

  from_end : (more k : ℕ) → least_from p k more ≤ k + more
  unfolding least_from
  from_end zero k = omega arith
  from_end (suc more) k = go (p k) refl (from_end more (suc k))
    where
      go : (b : Bool) → p k ≡ b → least_from p (suc k) more ≤ suc k + more → least_from p k (suc more) ≤ k + suc more
      go true e ih = rw (step_passes k more e) (omega arith)
      go false e ih = rw (step_fails k more e) (omega arith)

  from_below : (more k i : ℕ) → k ≤ i → i < least_from p k more → p i ≡ false
  unfolding least_from
  from_below zero k i s h = absurd (omega arith)
  from_below (suc more) k i s h = go (p k) refl (λ s' h'. from_below more (suc k) i s' h')
    where
      go : (b : Bool) → p k ≡ b → (suc k ≤ i → i < least_from p (suc k) more → p i ≡ false) → p i ≡ false
      go true e ih = absurd (omega (arith, rw (step_passes k more e) at h))
      go false e ih =
          ⊎_elim (λ same. rw (← same) e) (λ later. ih later (rw (step_fails k more e) at h)) (eq-or-lt_of_le s)

  from_passes : (more k i : ℕ) → k ≤ i → i ≤ k + more → p i ≡ true → p (least_from p k more) ≡ true
  unfolding least_from
  from_passes zero k i s t e = subst (λ (n : ℕ). p n ≡ true) (omega arith) e
  from_passes (suc more) k i s t e = go (p k) refl (λ s'. from_passes more (suc k) i s' (omega arith) e)
    where
      go : (b : Bool) → p k ≡ b → (suc k ≤ i → p (least_from p (suc k) more) ≡ true) → p (least_from p k (suc more)) ≡ true
      go true f ih = rw (step_passes k more f) f
      go false f ih =
          rw (step_fails k more f)
          (⊎_elim (λ same. absurd (clash (p i) e (rw (← same) f))) (λ later. ih later) (eq-or-lt_of_le s))

  from_fails : (more k : ℕ) → p (least_from p k more) ≡ false → least_from p k more ≡ k + more
  unfolding least_from
  from_fails zero k e = omega arith
  from_fails (suc more) k e = go (p k) refl (from_fails more (suc k))
    where
      go : (b : Bool) → p k ≡ b → (p (least_from p (suc k) more) ≡ false → least_from p (suc k) more ≡ suc k + more) → least_from p k (suc more) ≡ k + suc more
      go true f ih = absurd (clash (p k) f (rw (step_passes k more f) at e))
      go false f ih = rw (step_fails k more f) (omega (arith, ih (rw (step_fails k more f) at e)))

  module _ (bound : ℕ) where
    -- Where the found one fails, the search came to its bound.
    pub least_fails : p (least p bound) ≡ false → least p bound ≡ bound
    unfolding least
    least_fails e = omega (arith, from_fails bound 0 e)

    -- The search ends at the bound at the latest.
    pub least_bound : least p bound ≤ bound
    unfolding least
    least_bound = omega (arith, from_end bound 0)

    -- Where any number up to the bound passes, the found one does.
    pub least_passes : (k : ℕ) → k ≤ bound → p k ≡ true → p (least p bound) ≡ true
    unfolding least
    least_passes k h e = from_passes bound 0 k (omega arith) (omega arith) e

    -- None below the found one passes.
    pub least_below : (k : ℕ) → k < least p bound → p k ≡ false
    unfolding least
    least_below k h = from_below bound 0 k (omega arith) h

    -- What passes is not below the found one.
    pub least_least : (k : ℕ) → p k ≡ true → least p bound ≤ k
    least_least k e = omega (arith, lt_of_not-le (λ (h : k < least p bound). clash (p k) e (least_below k h)))

    -- It is the only one that passes with none below it passing.
    pub least_unique : (n : ℕ) → n ≤ bound → p n ≡ true → ((k : ℕ) → k < n → p k ≡ false) → least p bound ≡ n
    least_unique n h e below =
        le_antisymm (least_least n e)
        (omega (arith, lt_of_not-le (λ (l : least p bound < n). clash (p (least p bound)) (least_passes n h e) (below (least p bound) l))))

module _ (p : ℕ → Bool) (bound : ℕ) where
  down : ℕ → Bool
  down i = p (bound - i)

  pub greatest_bound : greatest p bound ≤ bound
  unfolding greatest
  greatest_bound = omega arith

  pub greatest_passes : (k : ℕ) → k ≤ bound → p k ≡ true → p (greatest p bound) ≡ true
  unfolding greatest down
  greatest_passes k h e =
      least_passes down bound (bound - k) (omega arith) (subst (λ (n : ℕ). p n ≡ true) (omega arith) e)

  -- Where the found one fails, the search came down to 0.
  pub greatest_fails : p (greatest p bound) ≡ false → greatest p bound ≡ 0
  unfolding greatest down
  greatest_fails e = omega (arith, least_fails down bound e)

  -- None above the found one, up to the bound, passes.
  pub greatest_greatest : (k : ℕ) → k ≤ bound → p k ≡ true → k ≤ greatest p bound
  unfolding greatest down
  greatest_greatest k h e =
      let found : least down bound ≤ bound - k
      = least_least down bound (bound - k) (subst (λ (n : ℕ). p n ≡ true) (omega arith) e) in
      omega arith

  pub greatest_unique : (n : ℕ) → n ≤ bound → p n ≡ true → ((k : ℕ) → n < k → k ≤ bound → p k ≡ false) → greatest p bound ≡ n
  greatest_unique n h e above =
      le_antisymm
      (omega (
        arith,
        lt_of_not-le (λ (l : n < greatest p bound).
            clash (p (greatest p bound)) (greatest_passes n h e) (above (greatest p bound) l greatest_bound)),
      ))
      (greatest_greatest n h e)

module _ (h : ℕ) (p : ℕ → Bool) (bound : ℕ) where
  times : ℕ → Bool
  times k = p (h * k)

  -- The found one is a multiple of h.
  pub multiple_of : (k : ℕ) × (least_multiple h p bound ≡ h * k)
  unfolding least_multiple
  multiple_of = (least (λ k. p (h * k)) bound, refl)

  -- Where any multiple up to the bound passes, the found one does.
  pub multiple_passes : (k : ℕ) → k ≤ bound → p (h * k) ≡ true → p (least_multiple h p bound) ≡ true
  unfolding least_multiple times
  multiple_passes k l e = least_passes times bound k l e

  -- None below the found one passes.
  pub multiple_below : (k : ℕ) → h * k < least_multiple h p bound → p (h * k) ≡ false
  unfolding least_multiple times
  multiple_below k l = least_below times bound k (lt_of_mul-lt-mul_left h l)

  -- Where the found one fails, the search came to its bound.
  pub multiple_fails : p (least_multiple h p bound) ≡ false → least_multiple h p bound ≡ h * bound
  unfolding least_multiple times
  multiple_fails e = ap (λ (k : ℕ). h * k) (least_fails times bound e)

  -- What passes is not below the found one.
  pub multiple_least : (k : ℕ) → p (h * k) ≡ true → least_multiple h p bound ≤ h * k
  unfolding least_multiple times
  multiple_least k e = mul-le-mul_left h (least_least times bound k e)

  -- It is the only multiple that passes with none below it passing.
  pub multiple_unique : (n : ℕ) → n ≤ bound → p (h * n) ≡ true → ((k : ℕ) → k < n → p (h * k) ≡ false) → least_multiple h p bound ≡ h * n
  unfolding least_multiple times
  multiple_unique n l e below = ap (λ (k : ℕ). h * k) (least_unique times bound n l e below)
