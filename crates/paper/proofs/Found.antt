-- What the searches of the definitions find. Each bound is one at which the test passes, or past which it never does. Assumes nothing.
use mathlib.Core.Path.{◌≡◌, refl, sym, ap, ap₂, subst, subst⁻¹, ◌∙◌}
use mathlib.Core.Bool.{Bool, true, false, cond, not, ◌&&◌, ◌||◌}
use Prim.Native.Nat.{ℕ, suc, ◌+◌, ◌*◌, ◌/◌, ◌≤◌, ◌<◌, min}
use native.Mathlib.Nat.{le_refl, min-eq_right, le_antisymm, lt_of_not-le, not-le_of_lt, lt_of_mul-lt-mul_left, mul-le-mul_left, mul_comm, le-div_iff_mul-le}
use native.Mathlib.Omega.{arith}
use borrow.Author.Tests.{leb-true, le-leb, ltb-true, lt-ltb}
use lib.Dec.{leb, ltb, eqb, lit<}
use Rattle.paper.specs.Least.{least, greatest, least_multiple}
use Rattle.paper.specs.Rates.{covers_need, candidate, covers_margin, margin_bound, covers_concentration, concentration_bound, rounded_up, published, published_margin, published_concentration}
use Rattle.paper.specs.Corridor.{Ticks, empty, between, whole, under_rise, over_fall, under_spread, over_spread, is_within, reach, is_tick_within, ticks_within, corridor_on}
use Rattle.paper.specs.Promises.Found.{IsFirst, SearchesFind, IsLeastMultiple, IsTick, AreTicks, CandidateFound, MarginFound, ConcentrationFound, PublishedRates, TicksFound, CorridorFound}
use Rattle.paper.proofs.Tests.{clash, and_left, and_right, and_both}
use Rattle.paper.proofs.Least.{least_passes, least_bound, least_below, least_fails, least_least, greatest_bound, greatest_passes, greatest_fails, greatest_greatest, multiple_of, multiple_passes, multiple_below, multiple_least, multiple_fails}
use Rattle.paper.proofs.Rates.{le_times, need_bound, margin_bound_lem, concentration_bound_lem}

-- A search finds the first number at which something holds, where its test says so.
pub first : (passes : ℕ → Bool) (P : ℕ → Type 0) (end : ℕ) → ((k : ℕ) → passes k ≡ true → P k) → ((k : ℕ) → P k → passes k ≡ true) → IsFirst end P (least passes end)
first passes P end says tells =
    record {
      not_past = least_bound passes end;
      holds = λ l. says (least passes end) (passed_below (passes (least passes end)) refl l);
      none_before = λ j l p. clash (passes j) (tells j p) (least_below passes end j l);
    }
  where
    passed_below : (b : Bool) → passes (least passes end) ≡ b → least passes end < end → b ≡ true
    passed_below true e l = refl
    passed_below false e l = absurd (omega (arith, least_fails passes end e))

-- It is not past a number at which that holds, and there is only one.
pub first_least : (end : ℕ) (P : ℕ → Type 0) (j k : ℕ) → IsFirst end P k → P j → k ≤ j
first_least end P j k f p = omega (arith, lt_of_not-le {n = suc j} (λ (l : j < k). f.none_before j l p))

pub first_same : (end : ℕ) (P : ℕ → Type 0) (j k : ℕ) → IsFirst end P j → IsFirst end P k → j ≡ k
first_same end P j k p q = le_antisymm (not_past j k p q) (not_past k j q p)
  where
    not_past : (a b : ℕ) → IsFirst end P a → IsFirst end P b → a ≤ b
    not_past a b f g = omega (arith, lt_of_not-le {n = suc b} (λ (l : b < a). f.none_before b l (g.holds (omega (arith, f.not_past)))))

pub searches_find : SearchesFind
searches_find =
    record {
      first = λ passes end. first passes (λ k. passes k ≡ true) end (λ k e. e) (λ k e. e);
      last = λ passes end.
          record {
            not_past = greatest_bound passes end;
            holds = λ some. above_passes passes end some (passes (greatest passes end)) refl;
            none_after = λ j l m e. not-le_of_lt l (greatest_greatest passes end j m e);
          };
    }
  where
    above_passes : (passes : ℕ → Bool) (end : ℕ) → 0 < greatest passes end → (b : Bool) → passes (greatest passes end) ≡ b → b ≡ true
    above_passes passes end some true e = refl
    above_passes passes end some false e = absurd (omega (arith, greatest_fails passes end e))

-- A search whose last multiple passes finds the least.
pub found : (h : ℕ) (covers : ℕ → Bool) (bound : ℕ) → covers (h * bound) ≡ true → IsLeastMultiple h covers (least_multiple h covers bound)
found h covers bound e =
    record {
      count = (multiple_of h covers bound).0;
      multiple = (multiple_of h covers bound).1;
      covered = multiple_passes h covers bound bound (le_refl bound) e;
      none_below = multiple_below h covers bound;
    }

-- There is only one least multiple.
pub found_same : (h : ℕ) (covers : ℕ → Bool) (a b : ℕ) → IsLeastMultiple h covers a → IsLeastMultiple h covers b → a ≡ b
found_same h covers a b p q = le_antisymm (not_above a b p q) (not_above b a q p)
  where
    not_above : (x y : ℕ) → IsLeastMultiple h covers x → IsLeastMultiple h covers y → x ≤ y
    not_above x y f g =
        omega (
          arith,
          lt_of_not-le (λ (l : y < x). clash (covers y) g.covered
              (subst (λ (n : ℕ). covers n ≡ false) (sym g.multiple) (f.none_below g.count (subst (λ (n : ℕ). n < x) g.multiple l)))),
        )

-- What a search by steps of h ends with: a multiple that passes, all before it failing.
pub stepped : (h : ℕ) (covers : ℕ → Bool) (k : ℕ) → covers (h * k) ≡ true → ((i : ℕ) → i < k → covers (h * i) ≡ false) → IsLeastMultiple h covers (h * k)
stepped h covers k e below =
    record { count = k; multiple = refl; covered = e; none_below = λ i l. below i (lt_of_mul-lt-mul_left h l) }

pub candidate_found : CandidateFound
unfolding candidate
candidate_found h alpha v D shock positive =
    found h (covers_need alpha v D shock) (alpha * (v + 1) + D)
    (need_bound alpha v D shock _ (le_times h (alpha * (v + 1) + D) positive))

-- The same with a least rate beside the test, where every rate from a bound on passes.
rounded_found : (h least : ℕ) (covers : ℕ → Bool) (bound : ℕ) → 0 < h → ((X : ℕ) → bound ≤ X → covers X ≡ true) → IsLeastMultiple h (λ X. covers X && leb least X) (rounded_up h least covers bound)
unfolding rounded_up
rounded_found h least covers bound positive from =
    let far : bound + least ≤ h * (bound + least) = le_times h (bound + least) positive in
    found h (λ X. covers X && leb least X) (bound + least)
    (and_both (covers (h * (bound + least))) (leb least (h * (bound + least))) (from (h * (bound + least)) (omega arith))
    (le-leb least (h * (bound + least)) (omega arith)))

pub margin_found : MarginFound
margin_found h T m R q least positive t =
    rounded_found h least (covers_margin q T m R) (margin_bound q T m R) positive (λ X. margin_bound_lem q T m R X t)

pub concentration_found : ConcentrationFound
concentration_found h T L m R q least positive t =
    rounded_found h least (covers_concentration q T m R L) (concentration_bound q T m R L) positive
    (λ X. concentration_bound_lem q T m R L X t)

pub published_rates : PublishedRates
unfolding published published_margin published_concentration
published_rates =
    record {
      margin = λ h T R least greatest q m. refl;
      concentration = λ h T L R least greatest q m. refl;
      margin_unmonitored = λ h T R least greatest q m. refl;
      concentration_unmonitored = λ h T L R least greatest q m. refl;
    }

-- A search that looks no further than the greatest rate publishes the same: where it finds nothing, what there is to find is not below the greatest.
module _ (M h least greatest : ℕ) (covers : ℕ → Bool) (bound : ℕ) (positive : 0 < h) (from : (X : ℕ) → bound ≤ X → covers X ≡ true) where
  test_rate : ℕ → Bool
  test_rate X = covers X && leb least X

  same_least : (b : Bool) → test_rate (rounded_up h least covers greatest) ≡ b → min (rounded_up h least covers bound) greatest ≡ min (rounded_up h least covers greatest) greatest
  unfolding rounded_up test_rate
  same_least true e =
      ap (λ (n : ℕ). min n greatest)
      (found_same h test_rate _ _ (rounded_found h least covers bound positive from)
      (record {
        count = (multiple_of h test_rate (greatest + least)).0;
        multiple = (multiple_of h test_rate (greatest + least)).1;
        covered = e;
        none_below = multiple_below h test_rate (greatest + least);
      }))
  same_least false e =
      let far : least_multiple h test_rate (greatest + least) ≡ h * (greatest + least) = multiple_fails h test_rate (greatest + least) e in
      let past : greatest + least ≤ h * (greatest + least) = le_times h (greatest + least) positive in
      let real = rounded_found h least covers bound positive from in
      let beyond : least_multiple h test_rate (greatest + least) ≤ least_multiple h test_rate (bound + least)
      = subst⁻¹ (λ (n : ℕ). least_multiple h test_rate (greatest + least) ≤ n) real.multiple
      (multiple_least h test_rate (greatest + least) real.count (subst (λ (n : ℕ). test_rate n ≡ true) real.multiple real.covered)) in
      min-eq_right {n = greatest} {m = least_multiple h test_rate (bound + least)} (omega arith)
      ∙ sym (min-eq_right {n = greatest} {m = least_multiple h test_rate (greatest + least)} (omega arith))

  pub published_same : published M h least greatest covers bound ≡ published M h least greatest covers greatest
  unfolding published
  published_same = ap (λ (n : ℕ). cond (eqb M 1) n least) (same_least (test_rate (rounded_up h least covers greatest)) refl)

module _ (M h T R least greatest preliminary m : ℕ) (positive : 0 < h) (some : 0 < T) where
  pub margin_capped : published_margin M h T R least greatest preliminary m ≡ published M h least greatest (covers_margin preliminary T m R) greatest
  unfolding published_margin
  margin_capped =
      published_same M h least greatest (covers_margin preliminary T m R) (margin_bound preliminary T m R) positive
      (λ X. margin_bound_lem preliminary T m R X some)

  pub concentration_capped : (L : ℕ) → published_concentration M h T L R least greatest preliminary m ≡ published M h least greatest (covers_concentration preliminary T m R L) greatest
  unfolding published_concentration
  concentration_capped L =
      published_same M h least greatest (covers_concentration preliminary T m R L) (concentration_bound preliminary T m R L) positive
      (λ X. concentration_bound_lem preliminary T m R L X some)

-- The search for ticks, by any test of a price.
module _ (within : ℕ → Bool) (tick last : ℕ) (bounded : (i : ℕ) → within (tick * i) ≡ true → i ≤ last) where
  test : ℕ → Bool
  test = is_tick_within within tick

  test_within : (i : ℕ) → test i ≡ true → within (tick * i) ≡ true
  unfolding test is_tick_within
  test_within i e = and_right (ltb 0 i) (within (tick * i)) e

  test_positive : (i : ℕ) → test i ≡ true → 0 < i
  unfolding test is_tick_within
  test_positive i e = ltb-true 0 i (and_left (ltb 0 i) (within (tick * i)) e)

  tested : (i : ℕ) → 0 < i → within (tick * i) ≡ true → test i ≡ true
  unfolding test is_tick_within
  tested i p e = and_both (ltb 0 i) (within (tick * i)) (lt-ltb 0 i p) e

  tick_at : (i : ℕ) → test i ≡ true → IsTick within tick (tick * i)
  tick_at i e = record { count = i; positive = test_positive i e; multiple = refl; inside = test_within i e }

  -- Where the found one fails, no tick is within.
  none : (i : ℕ) → 0 < i → (w : Bool) → within (tick * i) ≡ w → test (least test last) ≡ false → w ≡ false
  none i p false f e = refl
  none i p true f e = absurd (clash (test (least test last)) (least_passes test last i (bounded i f) (tested i p f)) e)

  ticks : AreTicks within tick (ticks_within within tick last)
  unfolding ticks_within test
  ticks = go (test (least test last)) refl
    where
      go : (b : Bool) → test (least test last) ≡ b → AreTicks within tick (cond b (between (tick * least test last) (tick * greatest test last)) empty)
      go true e = (
        tick_at (least test last) e,
        tick_at (greatest test last) (greatest_passes test last (least test last) (least_bound test last) e),
        λ i p w. (
          mul-le-mul_left tick (least_least test last i (tested i p w)),
          mul-le-mul_left tick (greatest_greatest test last i (bounded i w) (tested i p w)),
        ),
      )
      go false e = λ i p. none i p (within (tick * i)) refl e

pub ticks_found : TicksFound
ticks_found = ticks

-- What is not above a bound, a unit of which a price has so many, has no number past the bound's.
pub in_reach : (bound unit tick i : ℕ) → 0 < unit → 0 < tick → tick * i * unit ≤ bound → i ≤ bound / unit / tick
in_reach bound unit tick i some positive l = (le-div_iff_mul-le positive).1 ((le-div_iff_mul-le some).1 (omega (arith, ap (λ (n : ℕ). n * unit) (mul_comm i tick))))

pub corridor_found : CorridorFound
unfolding corridor_on is_within under_rise reach
corridor_found P margin M t positive =
    ticks_found (is_within P margin M t) t.tick (reach P t) (λ i e.
    let q = t.tick * i in
    in_reach (P * (whole + t.rise)) whole t.tick i (lit< tt) positive
    (leb-true (q * whole) (P * (whole + t.rise)) (and_left (under_rise P t q) (over_fall P t q)
    (and_left (under_rise P t q && over_fall P t q) (not (eqb M 1) || (under_spread P margin t q && over_spread P margin t q)) e))))

apart : (within : ℕ → Bool) (tick price : ℕ) → IsTick within tick price → ((i : ℕ) → 0 < i → within (tick * i) ≡ false) → ⊥
apart within tick price t none =
    clash _ (subst (λ (q : ℕ). within q ≡ true) t.multiple t.inside) (none t.count t.positive)

at : (within : ℕ → Bool) (tick lowest highest : ℕ) → AreTicks within tick (between lowest highest) → {price : ℕ} → IsTick within tick price → (lowest ≤ price) × (price ≤ highest)
at within tick lowest highest a {price} t =
    subst⁻¹ (λ (q : ℕ). (lowest ≤ q) × (q ≤ highest)) t.multiple
    (a.2 t.count t.positive (subst (λ (q : ℕ). within q ≡ true) t.multiple t.inside))

-- There is only one such answer.
pub ticks_same : (within : ℕ → Bool) (tick : ℕ) (a b : Ticks) → AreTicks within tick a → AreTicks within tick b → a ≡ b
ticks_same within tick empty empty p q = refl
ticks_same within tick empty (between lowest highest) p q = absurd (apart within tick lowest q.0 p)
ticks_same within tick (between lowest highest) empty p q = absurd (apart within tick lowest p.0 q)
ticks_same within tick (between l₁ h₁) (between l₂ h₂) p q =
    ap₂ between
    (le_antisymm (at within tick l₁ h₁ p q.0).0 (at within tick l₂ h₂ q p.0).0)
    (le_antisymm (at within tick l₂ h₂ q p.1).1 (at within tick l₁ h₁ p q.1).1)
