-- A search by steps of h: it stands at a multiple, and every multiple before it has failed. Assumes nothing.
use mathlib.Core.Path.{◌≡◌, refl, sym, ap, subst, subst⁻¹, ◌∙◌}
use mathlib.Core.Bool.{Bool, true, false}
use mathlib.Core.Logic.{⊎_elim}
use Prim.Native.Nat.{ℕ, suc, ◌+◌, ◌*◌, ◌≤◌, ◌<◌}
use native.Mathlib.Nat.{mul-suc, mul_comm, eq-or-lt_of_le, lt_of_not-le, not-le_of_lt}
use native.Mathlib.Omega.{arith}
use Rattle.paper.specs.Rates.{ceil_div}
use Rattle.paper.specs.Promises.Found.{IsLeastMultiple}
use Rattle.paper.proofs.Found.{stepped}
use Rattle.paper.proofs.Rates.{ceil_covers, ceil_tight, ceil_least}

pub record Stepping (h : ℕ) (covers : ℕ → Bool) (at : ℕ) : Type 0 where
  pub count : ℕ
  pub multiple : at ≡ h * count
  pub before : (i : ℕ) → i < count → covers (h * i) ≡ false

module _ (h : ℕ) (covers : ℕ → Bool) where
  -- It may start at the first multiple not below a rate below which nothing passes.
  pub start : (rate : ℕ) → 0 < h → ((X : ℕ) → X < rate → covers X ≡ false) → Stepping h covers (h * ceil_div rate h)
  start rate positive fails =
      record {
        count = ceil_div rate h;
        multiple = refl;
        before =
            λ i l.
            fails (h * i)
            (lt_of_not-le (λ (p : rate ≤ h * i).
            not-le_of_lt l (ceil_least rate h positive i (subst (λ (n : ℕ). rate ≤ n) (mul_comm h i) p))));
      }

  -- Where the multiple fails, it goes on to the next.
  pub next : (at : ℕ) → Stepping h covers at → covers at ≡ false → Stepping h covers (at + h)
  next at s fails =
      record {
        count = suc s.count;
        multiple = ap (λ (n : ℕ). n + h) s.multiple ∙ sym (mul-suc h s.count);
        before =
            λ i l.
            ⊎_elim (λ e. subst (λ (n : ℕ). covers n ≡ false) (s.multiple ∙ ap (λ (n : ℕ). h * n) (sym e)) fails) (s.before i)
            (eq-or-lt_of_le {n = i} {m = s.count} (omega arith));
      }

  -- Where the multiple passes, it is the least.
  pub ends : (at : ℕ) → Stepping h covers at → covers at ≡ true → IsLeastMultiple h covers at
  ends at s passes =
      subst⁻¹ (IsLeastMultiple h covers) s.multiple
      (stepped h covers s.count (subst (λ (n : ℕ). covers n ≡ true) s.multiple passes) s.before)

-- The first multiple not below a rate is less than one step above it.
pub start_near : (h rate : ℕ) → 0 < h → (rate ≤ h * ceil_div rate h) × (h * ceil_div rate h < rate + h)
start_near h rate positive = (
  omega (arith, ceil_covers rate h positive, mul_comm h (ceil_div rate h)),
  omega (arith, ceil_tight rate h positive, mul_comm h (ceil_div rate h)),
)
