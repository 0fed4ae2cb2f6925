-- The move is the least number of millionths that reaches a price, for one kept price by the quotient rounded up, for both by the larger; which price gives it, by the test of the two; and what a shock day is. Assumes nothing.
use mathlib.Core.Path.{◌≡◌, refl, sym, ap}
use mathlib.Core.Bool.{Bool, true, false, cond}
use Prim.Native.Nat.{ℕ, ◌*◌, ◌≤◌, ◌<◌, max}
use native.Mathlib.Nat.{mul-le-mul_left, le-max_left, le-max_right, max-le, max-eq_left, max-eq_right, le_of_lt}
use native.Mathlib.Omega.{arith}
use borrow.Author.Tests.{leb-true, le-leb, ltb-true, ltb-false, lt-ltb}
use lib.Dec.{leb, ltb}
use Rattle.paper.specs.Rates.{distance, move_from, Price, Newer, Older, price_number, move, figures_on, Day, move_on, is_shock}
use Rattle.paper.specs.Promises.Days.{Reaches, MoveMeans, DayMove, price_of, DayFrom, rates_of, SizeAlone, ShockDay}
use Rattle.paper.specs.Values.{Values}
use Rattle.paper.proofs.Tests.{and_left, and_right, and_both}
use Rattle.paper.proofs.Rates.{ceil_covers, ceil_least}

pub move_means : MoveMeans
unfolding move_from
move_means kept price positive =
    let far = distance price kept * 1000000 in
    record {
      holds = omega (arith, ceil_covers far kept positive);
      least = λ D r. ceil_least far kept positive D (omega arith);
    }

-- More millionths reach as far.
reaches_more : (kept price D E : ℕ) → D ≤ E → Reaches kept price D → Reaches kept price E
reaches_more kept price D E h r = omega (arith, mul-le-mul_left kept h)

pub day_move : DayMove
unfolding move_on move
day_move v d n o =
    let newer = move_means v.newer d.price n in
    let older = move_means v.older d.price o in
    record {
      holds = (
        reaches_more v.newer d.price _ _ (le-max_left _ _) newer.holds,
        reaches_more v.older d.price _ _ (le-max_right _ _) older.holds,
      );
      least = λ D r. max-le (newer.least D r.0) (older.least D r.1);
    }

-- By the test of the two: the price named gives the larger, and it is the older exactly where the test passes.
module _ (v : Values) (d : Day) where
  abbrev newer : ℕ
  newer = move_from v.newer d.price

  abbrev older : ℕ
  older = move_from v.older d.price

  gives : (t : Bool) → ltb newer older ≡ t → move_from (price_of v (cond t Older Newer)) d.price ≡ max newer older
  gives true e = sym (max-eq_right (le_of_lt (ltb-true newer older e)))
  gives false e = sym (max-eq_left (ltb-false newer older e))

  larger : (price : Price) → move_from (price_of v price) d.price ≤ max newer older
  larger Newer = le-max_left _ _
  larger Older = le-max_right _ _

  named : (t : Bool) → ltb newer older ≡ t → cond t Older Newer ≡ Older → newer < older
  named true e p = ltb-true newer older e
  named false e p = absurd (omega (arith, ap price_number p))

pub day_from : DayFrom
unfolding move_on move
day_from =
    record {
      gives = λ v d. gives v d _ refl;
      larger = larger;
      older = λ v d. (named v d _ refl, λ l. ap (λ (t : Bool). cond t Older Newer) (lt-ltb _ _ l));
    }

pub size_alone : SizeAlone
unfolding figures_on
size_alone ps s today m j a b e = ap (λ (D : ℕ). rates_of (figures_on ps s today m j (record { size = D; from = Newer }))) e

pub shock_day : ShockDay
unfolding is_shock
shock_day margin j D = (
  λ e. (ltb-true margin D (and_left (ltb margin D) (leb j 1) e), leb-true j 1 (and_right (ltb margin D) (leb j 1) e)),
  λ s. and_both (ltb margin D) (leb j 1) (lt-ltb margin D s.0) (le-leb j 1 s.1),
)
