-- The multiples of a tick from one price on and below another: the least, the greatest, or none. Assumes nothing.
use mathlib.Core.Path.{◌≡◌, refl, subst}
use mathlib.Core.Bool.{Bool, true, false, ◌&&◌}
use Prim.Native.Nat.{ℕ, ◌*◌, ◌-◌, ◌/◌, ◌≤◌, ◌<◌, max}
use native.Mathlib.Nat.{le_trans, le-max_left, le-max_right, max-le, mul_comm, mul-le-mul_left, mul-div-le, le-div_iff_mul-le, le_of_mul-le-mul_left, lt_of_mul-lt-mul_left}
use native.Mathlib.Omega.{arith}
use borrow.Author.Tests.{leb-true, leb-false, le-leb, ltb-true, lt-ltb}
use lib.Dec.{leb, ltb}
use Rattle.std.specs.Bool.{then_some}
use Rattle.paper.specs.Rates.{ceil_div}
use Rattle.paper.specs.Corridor.{empty, between}
use Rattle.paper.specs.Promises.Found.{IsTick, AreTicks}
use Rattle.paper.proofs.Tests.{and_left, and_right, and_both}
use Rattle.paper.proofs.Rates.{ceil_covers, ceil_least}
use Rattle.corridor.specs.Edges.{paper_ticks}

module _ (first above tick : ℕ) (ticks : 0 < tick) (some : 0 < above) where
  unfoldable pub inside : ℕ → Bool
  inside q = leb first q && ltb q above

  unfoldable pub low : ℕ
  low = max (ceil_div first tick) 1

  unfoldable pub high : ℕ
  high = (above - 1) / tick

  low_first : first ≤ tick * low
  unfolding low
  low_first =
      le_trans (ceil_covers first tick ticks)
      (omega (arith, mul_comm (ceil_div first tick) tick, mul-le-mul_left tick (le-max_left (ceil_div first tick) 1)))

  high_below : tick * high < above
  unfolding high
  high_below = omega (arith, mul-div-le (above - 1) tick)

  -- A multiple inside stands between the two numbers, and one that does is inside.
  from_low : (i : ℕ) → 0 < i → inside (tick * i) ≡ true → low ≤ i
  unfolding inside low
  from_low i p e =
      max-le
      (ceil_least first tick ticks i (subst (λ (n : ℕ). first ≤ n) (mul_comm tick i) (leb-true first (tick * i) (and_left (leb first (tick * i)) _ e)))) p

  to_high : (i : ℕ) → inside (tick * i) ≡ true → i ≤ high
  unfolding inside high
  to_high i e =
      (le-div_iff_mul-le ticks).1
      (omega (arith, mul_comm i tick, ltb-true (tick * i) above (and_right (leb first (tick * i)) _ e)))

  is_inside_lem : (i : ℕ) → low ≤ i → i ≤ high → inside (tick * i) ≡ true
  unfolding inside
  is_inside_lem i p q =
      and_both _ _ (le-leb first (tick * i) (le_trans low_first (mul-le-mul_left tick p)))
      (lt-ltb (tick * i) above (omega (arith, high_below, mul-le-mul_left tick q)))

  tick_at : (i : ℕ) → low ≤ i → i ≤ high → IsTick inside tick (tick * i)
  unfolding low
  tick_at i p q = record { count = i; positive = le_trans (le-max_right (ceil_div first tick) 1) p; multiple = refl; inside = is_inside_lem i p q }

  ticks_some : low ≤ high → AreTicks inside tick (between (tick * low) (tick * high))
  ticks_some h = (
    tick_at low (omega arith) h,
    tick_at high h (omega arith),
    λ i p e. (mul-le-mul_left tick (from_low i p e), mul-le-mul_left tick (to_high i e)),
  )

  ticks_none : high < low → AreTicks inside tick empty
  ticks_none h = λ i p. go i p (inside (tick * i)) refl
    where
      go : (i : ℕ) → 0 < i → (b : Bool) → inside (tick * i) ≡ b → b ≡ false
      go i p false e = refl
      go i p true e = absurd (omega (arith, from_low i p e, to_high i e))

  -- So the one and the other are the answer, where the one is not above the other.
  pub ticks_found : (a b : ℕ) → a ≡ tick * low → b ≡ tick * high → AreTicks inside tick (paper_ticks (then_some (leb a b) (record { lowest = a; highest = b })))
  ticks_found a b p q = go (leb a b) refl
    where
      go : (t : Bool) → leb a b ≡ t → AreTicks inside tick (paper_ticks (then_some t (record { lowest = a; highest = b })))
      go true e = rw (p, q) (ticks_some (le_of_mul-le-mul_left (omega (arith, p, q, leb-true a b e)) ticks))
      go false e = ticks_none (lt_of_mul-lt-mul_left tick (omega (arith, p, q, leb-false a b e)))
