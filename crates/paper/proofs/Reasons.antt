-- The reasons are true of the rules: of each, some condition holds, and the one that holds names it. What set the margin by the least rate and the sum, each rounded up, of which the rule takes the larger. The asking by the day; the worked cases by computing. Assumes nothing.
use mathlib.Core.Path.{◌≡◌, refl, sym, ap, subst, ◌∙◌}
use mathlib.Core.Bool.{Bool, true, false, cond, ◌&&◌}
use mathlib.Core.List.{List, [], ◌∷◌, ◌++◌}
use mathlib.Core.Logic.{◌↔◌}
use Prim.Native.Nat.{ℕ, ◌+◌, ◌*◌, ◌-◌, ◌≤◌, ◌<◌, max, min}
use native.Mathlib.Nat.{le_trans, le_of_lt, lt_of_not-le, not-le_of_lt, lt_of_mul-lt-mul_left, mul-le-mul_right, mul_comm, max-eq_left, max-eq_right, min-eq_left, min-eq_right}
use native.Mathlib.Decide.{dec_le}
use native.Mathlib.Omega.{arith}
use borrow.Author.Tests.{leb-true, le-leb, lt-leb, lt-ltb, le-ltb, eq-eqb, ne_eqb}
use lib.Dec.{leb, ltb, eqb, lit<}
use lib.ListN.{replicate, take}
use Rattle.paper.specs.Least.{least_multiple}
use Rattle.paper.specs.Rates.{ceil_div, square, exceeds, weight, next_variance, is_shock, candidate, next_preliminary, covers_margin, margin_bound, rounded_up, published, published_margin, Day, figure_list, DayAnswer, refused, accepted, move_on, day_on}
use Rattle.paper.specs.Reasons.{Weight, Upper, Lower, Branch, Rise, Fall, Kept, SetBy, NotMonitored, Greatest, Least, Preliminary, reason_list, weight_for, branch_of, set_by, reasons_on, reasons_of}
use Rattle.paper.specs.Book.{row_for}
use Rattle.paper.specs.Calls.{day, why, day_figures, why_figures, number_of, figures_for, answer}
use Rattle.paper.specs.Values.{Parameters, Values, words}
use Rattle.paper.specs.Promises.Ranges.{AreParameters}
use Rattle.paper.specs.Promises.Found.{IsLeastMultiple}
use Rattle.paper.specs.Promises.Worked.{day_of}
use Rattle.paper.specs.Promises.Alive.{greatest_instrument, three_book}
use Rattle.paper.specs.Promises.Calendar.{IsNext}
use Rattle.paper.specs.Promises.Reasons.{TakesWeight, weight_of, IsShockDay, TakesBranch, preliminary_by, SetsMargin, margin_by, ReasonsMean, WhyIsTrue, WhyIsDay, WhyWorked, WhyOfBook}
use Rattle.paper.proofs.Tests.{and_left, and_right, and_both, and_fails}
use Rattle.paper.proofs.Rates.{ceil_covers, ceil_least, square_mono, le_times, margin_bound_lem}
use Rattle.paper.proofs.Found.{found, found_same, margin_found}
use Rattle.paper.proofs.Steps.{rises_at_once, falls_one_step, fall_waits, near_is_kept}
use Rattle.paper.proofs.Taken.{day_means}
use Rattle.paper.proofs.Rows.{row_of_open}
use Rattle.paper.proofs.Accepted.{accept_why}
use Rattle.paper.proofs.Calls.{call_hands_out}
use Rattle.paper.proofs.Standing.{number_by, figures_by, answer_by, answer_by_lem, why_leaves}
use Rattle.paper.proofs.Alive.{last_row, middle_row, three_keeps, last_stands}
use Rattle.paper.proofs.Computing.{computing}

-- A reason is given exactly when its condition holds, where some condition does and the one that does names what is given.
exactly : {A : Type 0} (P : A → Type 0) (given : A) → (a : A) × P a → ((a : A) → P a → given ≡ a) → (a : A) → (given ≡ a) ↔ P a
exactly P given some names a = (λ e. subst P (sym (names some.0 some.1) ∙ e) some.1, names a)

-- Rule 2: the weight, and that it is the one which the rule takes.
module _ (v : Values) (D : ℕ) where
  some_weight : (w : Weight) × TakesWeight v D w
  some_weight = go (dec_le (square D) v.variance)
    where
      go : Dec (square D ≤ v.variance) → (w : Weight) × TakesWeight v D w
      go (yes l) = (Lower, l)
      go (no n) = (Upper, lt_of_not-le n)

  names_weight : (w : Weight) → TakesWeight v D w → weight_for v.variance D ≡ w
  unfolding weight_for
  names_weight Upper l = rw (lt-ltb v.variance (square D) l)
  names_weight Lower l = rw (le-ltb v.variance (square D) l)

  weight_taken : weight v.parameters.upper v.parameters.lower v.variance D ≡ weight_of v (weight_for v.variance D)
  unfolding weight weight_for
  weight_taken = go (exceeds D v.variance)
    where
      go : (b : Bool) → cond b v.parameters.upper v.parameters.lower ≡ weight_of v (cond b Upper Lower)
      go true = refl
      go false = refl

-- Rule 3: the shock day.
module _ (v : Values) (d : Day) (D : ℕ) where
  some_shock : (s : Bool) × IsShockDay v d D s
  some_shock = go (dec_le D v.margin) (dec_le d.j 1)
    where
      go : Dec (D ≤ v.margin) → Dec (d.j ≤ 1) → (s : Bool) × IsShockDay v d D s
      go (yes l) few = (false, λ above. absurd (omega arith))
      go (no n) (yes l) = (true, (lt_of_not-le n, l))
      go (no n) (no many) = (false, λ above. lt_of_not-le many)

  names_shock : (s : Bool) → IsShockDay v d D s → is_shock v.margin d.j D ≡ s
  unfolding is_shock
  names_shock true both = and_both _ _ (lt-ltb v.margin D both.0) (le-leb d.j 1 both.1)
  names_shock false many = go (dec_le D v.margin)
    where
      go : Dec (D ≤ v.margin) → is_shock v.margin d.j D ≡ false
      go (yes l) = rw (le-ltb v.margin D l)
      go (no n) = and_fails (ltb v.margin D) (leb d.j 1) (lt-leb d.j 1 (many (lt_of_not-le n)))

-- Rule 5: the branch, and what it gives.
module _ (v : Values) (d : Day) (c : ℕ) (positive : 0 < v.parameters.h) (since : v.last_change ≤ d.day) where
  abbrev h : ℕ
  h = v.parameters.h

  abbrev days : ℕ
  days = d.day - v.last_change

  abbrev next : ℕ
  next = next_preliminary h v.parameters.n v.preliminary days c

  some_branch : (b : Branch) × TakesBranch v d c b
  some_branch = go (dec_le (v.preliminary + h) c) (dec_le (c + h) v.preliminary) (dec_le (v.last_change + v.parameters.n) d.day)
    where
      go : Dec (v.preliminary + h ≤ c) → Dec (c + h ≤ v.preliminary) → Dec (v.last_change + v.parameters.n ≤ d.day) → (b : Branch) × TakesBranch v d c b
      go (yes up) low waited = (Rise, up)
      go (no n) (yes low) (yes waited) = (Fall, (low, waited))
      go (no n) (yes low) (no early) = (Kept, (lt_of_not-le n, λ l. lt_of_not-le early))
      go (no n) (no near) waited = (Kept, (lt_of_not-le n, λ l. absurd (near l)))

  -- The rate by the branch, and the branch by the rate.
  gives_branch : (b : Branch) → TakesBranch v d c b → next ≡ preliminary_by v c b
  gives_branch Rise up = (rises_at_once h v.parameters.n v.preliminary days c up).rate
  gives_branch Fall both = (falls_one_step h v.parameters.n v.preliminary days c positive both.0 (let w = both.1 in omega arith)).rate
  gives_branch Kept both = go (dec_le (c + h) v.preliminary)
    where
      go : Dec (c + h ≤ v.preliminary) → next ≡ v.preliminary
      go (yes low) = (fall_waits h v.parameters.n v.preliminary days c positive low (let w = both.1 low in omega arith)).rate
      go (no n) = (near_is_kept h v.parameters.n v.preliminary days c both.0 (lt_of_not-le n)).rate

  tells_branch : (b : Branch) → TakesBranch v d c b → branch_of v.preliminary (preliminary_by v c b) ≡ b
  unfolding branch_of
  tells_branch Rise up = rw (lt-ltb v.preliminary c (omega arith))
  tells_branch Fall both =
      let low = both.0 in
      rw (le-ltb v.preliminary (v.preliminary - h) (omega arith), lt-ltb (v.preliminary - h) v.preliminary (omega arith))
  tells_branch Kept both = rw (le-ltb v.preliminary v.preliminary (omega arith))

  names_branch : (b : Branch) → TakesBranch v d c b → branch_of v.preliminary next ≡ b
  names_branch b t = ap (branch_of v.preliminary) (gives_branch b t) ∙ tells_branch b t

-- A rate not below the sum is so with any rate above it.
sum_rises : (q T m R X Y : ℕ) → X ≤ Y → covers_margin q T m R X ≡ true → covers_margin q T m R Y ≡ true
unfolding covers_margin
sum_rises q T m R X Y l e =
    let over = leb-true R X (and_left (leb R X) _ e) in
    let under = leb-true (square q * (T + m)) (square (X - R) * T) (and_right (leb R X) _ e) in
    and_both _ _ (le-leb R Y (omega arith)) (le-leb (square q * (T + m)) (square (Y - R) * T) (le_trans under (mul-le-mul_right T (square_mono {a = X - R} (omega arith)))))

-- A rate rounded up to a multiple of h.
rounded : (h least : ℕ) → 0 < h → IsLeastMultiple h (leb least) (h * ceil_div least h)
rounded h least positive =
    record {
      count = ceil_div least h;
      multiple = refl;
      covered = le-leb least (h * ceil_div least h) (omega (arith, ceil_covers least h positive, mul_comm h (ceil_div least h)));
      none_below = λ k l. lt-leb least (h * k) (lt_of_not-le (λ (m : least ≤ h * k).
          not-le_of_lt (lt_of_mul-lt-mul_left h l) (ceil_least least h positive k (omega (arith, mul_comm h k)))));
    }

-- Rule 6: what sets the margin, and what it then is. The rule's multiple, not below the sum and not below the least rate, is the larger of the two rounded up.
module _ (v : Values) (q m : ℕ) (r : AreParameters v.parameters) where
  abbrev p : Parameters
  p = v.parameters

  step : 0 < p.h
  step = let l = r.h.not_below in omega arith

  abbrev least_up : ℕ
  least_up = p.h * ceil_div p.least_margin p.h

  is_least : IsLeastMultiple p.h (leb p.least_margin) least_up
  is_least = rounded p.h p.least_margin step

  abbrev covers : ℕ → Bool
  covers = covers_margin q p.T m p.R

  abbrev sum_up : ℕ
  sum_up = least_multiple p.h covers (margin_bound q p.T m p.R)

  is_sum : IsLeastMultiple p.h covers sum_up
  is_sum = found p.h covers (margin_bound q p.T m p.R) (margin_bound_lem q p.T m p.R _ r.T.not_below (le_times p.h _ step))

  abbrev taken : ℕ
  taken = rounded_up p.h p.least_margin covers (margin_bound q p.T m p.R)

  is_larger : (n : ℕ) → IsLeastMultiple p.h (λ X. covers X && leb p.least_margin X) n → taken ≡ n
  is_larger n i = found_same p.h _ taken n (margin_found p.h p.T m p.R q p.least_margin step r.T.not_below) i

  larger : taken ≡ max least_up sum_up
  larger = go (dec_le sum_up least_up)
    where
      go : Dec (sum_up ≤ least_up) → taken ≡ max least_up sum_up
      go (yes l) =
          is_larger least_up (record {
            count = is_least.count;
            multiple = is_least.multiple;
            covered = and_both (covers least_up) _ (sum_rises q p.T m p.R sum_up least_up l is_sum.covered) is_least.covered;
            none_below = λ k below. and_fails (covers (p.h * k)) _ (is_least.none_below k below);
          }) ∙ sym (max-eq_left l)
      go (no n) =
          let l : least_up ≤ sum_up = le_of_lt (lt_of_not-le n) in
          is_larger sum_up (record {
            count = is_sum.count;
            multiple = is_sum.multiple;
            covered = and_both (covers sum_up) _ is_sum.covered (le-leb p.least_margin sum_up (le_trans (leb-true p.least_margin least_up is_least.covered) l));
            none_below = λ k below. ap (λ (b : Bool). b && leb p.least_margin (p.h * k)) (is_sum.none_below k below);
          }) ∙ sym (max-eq_right l)

  abbrev greatest : ℕ
  greatest = p.greatest_margin

  abbrev figure : ℕ
  figure = published_margin p.M p.h p.T p.R p.least_margin greatest q m

  monitored : p.M ≡ 1 → figure ≡ min (max least_up sum_up) greatest
  unfolding published_margin published
  monitored one = rw (eq-eqb p.M 1 one) (ap (λ (n : ℕ). min n greatest) larger)

  unmonitored : p.M ≡ 0 → figure ≡ p.least_margin
  unfolding published_margin published
  unmonitored none = rw (ne_eqb p.M 1 (λ one. omega arith))

  some_setter : (s : SetBy) × SetsMargin v least_up sum_up s
  some_setter = go (dec_le p.M 0) (dec_le greatest (max least_up sum_up)) (dec_le sum_up least_up)
    where
      one : ¬ (p.M ≤ 0) → p.M ≡ 1
      one n = let l = r.M.not_above in omega (arith, n)

      go : Dec (p.M ≤ 0) → Dec (greatest ≤ max least_up sum_up) → Dec (sum_up ≤ least_up) → (s : SetBy) × SetsMargin v least_up sum_up s
      go (yes none) cut high = (NotMonitored, omega arith)
      go (no n) (yes cut) high = (Greatest, (one n, cut))
      go (no n) (no under) (yes l) = (Least, (one n, l, subst (λ (k : ℕ). k < greatest) (max-eq_left l) (lt_of_not-le under)))
      go (no n) (no under) (no high) =
          let l = lt_of_not-le high in
          (Preliminary, (one n, l, subst (λ (k : ℕ). k < greatest) (max-eq_right (le_of_lt l)) (lt_of_not-le under)))

  -- The figure by what set it, and what set it by the figure.
  gives_setter : (s : SetBy) → SetsMargin v least_up sum_up s → figure ≡ margin_by v least_up sum_up s
  gives_setter NotMonitored none = unmonitored none
  gives_setter Greatest t = monitored t.0 ∙ min-eq_right t.1
  gives_setter Least t = monitored t.0 ∙ ap (λ (n : ℕ). min n greatest) (max-eq_left t.1) ∙ min-eq_left (le_of_lt t.2)
  gives_setter Preliminary t = monitored t.0 ∙ ap (λ (n : ℕ). min n greatest) (max-eq_right (le_of_lt t.1)) ∙ min-eq_left (le_of_lt t.2)

  tells_setter : (s : SetBy) → SetsMargin v least_up sum_up s → set_by p.M p.h p.least_margin greatest (margin_by v least_up sum_up s) ≡ s
  unfolding set_by
  tells_setter NotMonitored none = rw (ne_eqb p.M 1 (λ one. omega arith))
  tells_setter Greatest t = rw (eq-eqb p.M 1 t.0, eq-eqb greatest greatest refl)
  tells_setter Least t = rw (eq-eqb p.M 1 t.0, ne_eqb least_up greatest (λ e. let l = t.2 in omega arith), eq-eqb least_up least_up refl)
  tells_setter Preliminary t =
      rw (eq-eqb p.M 1 t.0, ne_eqb sum_up greatest (λ e. let l = t.2 in omega arith), ne_eqb sum_up least_up (λ e. let l = t.1 in omega arith))

  names_setter : (s : SetBy) → SetsMargin v least_up sum_up s → set_by p.M p.h p.least_margin greatest figure ≡ s
  names_setter s t = ap (set_by p.M p.h p.least_margin greatest) (gives_setter s t) ∙ tells_setter s t

pub reasons_mean : ReasonsMean
unfolding reasons_on next_variance
reasons_mean v d f next i =
    let t = (day_means.taken v d f next).0 i.taken in
    let g = t.figures in
    let D = (move_on (words v) d).size in
    let c = candidate v.parameters.h v.parameters.alpha f.variance D (is_shock v.margin d.j D) in
    let r = i.in_range.parameters in
    let positive = step v f.preliminary d.m r in
    let since : v.last_change ≤ d.day = let a = i.in_range.change in let b = t.later in omega arith in
    let branch = some_branch v d c positive since in
    let named = names_branch v d c positive since in
    let setter = some_setter v f.preliminary d.m r in
    record {
      weight = exactly (TakesWeight v D) _ (some_weight v D) (names_weight v D);
      variance = g.variance ∙ ap (λ (w : ℕ). ceil_div ((10000 - w) * v.variance + w * square D) 10000) (weight_taken v D);
      shock = exactly (IsShockDay v d D) _ (some_shock v d D) (names_shock v d D);
      branch = exactly (TakesBranch v d c) _ branch (λ b l. ap (branch_of v.preliminary) g.preliminary ∙ named b l);
      preliminary =
          g.preliminary ∙ gives_branch v d c positive since branch.0 branch.1
          ∙ ap (preliminary_by v c) (sym (ap (branch_of v.preliminary) g.preliminary ∙ named branch.0 branch.1));
      least = least_up v f.preliminary d.m r;
      is_least = is_least v f.preliminary d.m r;
      sum = sum_up v f.preliminary d.m r;
      is_sum = is_sum v f.preliminary d.m r;
      margin =
          exactly (SetsMargin v (least_up v f.preliminary d.m r) (sum_up v f.preliminary d.m r)) _ setter
          (λ s l. ap (set_by _ _ _ _) g.margin ∙ names_setter v f.preliminary d.m r s l);
      published =
          g.margin ∙ gives_setter v f.preliminary d.m r setter.0 setter.1
          ∙ ap (margin_by v (least_up v f.preliminary d.m r) (sum_up v f.preliminary d.m r))
          (sym (ap (set_by _ _ _ _) g.margin ∙ names_setter v f.preliminary d.m r setter.0 setter.1));
    }

pub why_is_true : WhyIsTrue
unfolding answer
why_is_true book d e =
    let a = accept_why book d e in
    let m = a.0 in
    let handed = call_hands_out book (why d) e in
    let f = handed.0 in
    let row = row_of_open book d.instrument m.sound m.positive m.opened in
    let v = row.values in
    let next : IsNext v d f handed.1 = record { in_range = row.in_range; taken = ap (λ (row : List ℕ). day_on row d) (sym row.keeps) ∙ handed.2 } in (
      v,
      f,
      handed.1,
      reasons_of (words v) d f,
      row.keeps,
      next,
      reasons_mean v d f handed.1 next,
      handed.3 ∙ ap (λ (row : List ℕ). figure_list f ++ reason_list (reasons_of row d f)) row.keeps,
    )

-- The first six of what an asking hands out, accepted or refused.
first_six_lem : (row : List ℕ) (d : Day) (taken : Bool) (a : DayAnswer) → take 6 (cond taken (why_figures row d a) (replicate 10 0)) ≡ cond taken (day_figures a) (replicate 6 0)
first_six_lem row d true (refused r) = refl
first_six_lem row d true (accepted f next) = refl
first_six_lem row d false a = refl

pub why_is_day : WhyIsDay
unfolding answer number_of figures_for
why_is_day =
    record {
      number = λ book d. ap (λ (left : List ℕ). number_of left (day d)) (sym (why_leaves book d));
      figures = λ book d.
          first_six_lem (row_for book d.instrument) d (eqb (number_of book (day d)) 0) (day_on (row_for book d.instrument) d)
          ∙ ap (λ (left : List ℕ). (answer left (day d)).figures) (sym (why_leaves book d));
      untouched = why_leaves;
    }

pub why_worked : WhyWorked
unfolding computing
why_worked =
    record {
      day101 = refl;
      p5 = refl;
      p6 = refl;
      p8_shock = refl;
      p8_calm = refl;
      square_equal = refl;
      square_exceeds = refl;
      margin_met = refl;
      margin_passed = refl;
      two_holidays = refl;
      step_above = refl;
      no_step = refl;
      step_below = refl;
      step_waits = refl;
      unmonitored = refl;
      unmonitored_equal = refl;
      cut = refl;
      just_greatest = refl;
      below_greatest = refl;
      both_equal = refl;
      least_equal = refl;
      least_rounded_equal = refl;
      least_below = refl;
      least_rounded = refl;
      least_cut = refl;
      least_cut_equal = refl;
    }

-- What a book is asked, by the rows that are met.
on_rows :
    (answer_by middle_row (why (day_of 11 301 51000 2 1)) ≡ record { number = 0; figures = 145000 ∷ 220000 ∷ 100000 ∷ 1350937500 ∷ 0 ∷ 2 ∷ 1 ∷ 0 ∷ 1 ∷ 4 ∷ [] })
    × (answer_by last_row (why (day_of greatest_instrument 101 103000 0 0)) ≡ record { number = 0; figures = 60000 ∷ 120000 ∷ 60000 ∷ 500000000 ∷ 0 ∷ 1 ∷ 1 ∷ 0 ∷ 1 ∷ 4 ∷ [] })
    × (answer_by middle_row (why (day_of 11 300 51000 0 0)) ≡ record { number = 6; figures = replicate 10 0 })
    × (answer_by last_row (why (day_of greatest_instrument 101 200001 0 0)) ≡ record { number = 7; figures = replicate 10 0 })
unfolding computing number_by figures_by answer_by
on_rows = (refl, refl, refl, refl)

pub why_of_book : WhyOfBook
why_of_book =
    record {
      middle = answer_by_lem three_book middle_row (lit< tt) (why (day_of 11 301 51000 2 1)) tt three_keeps.1 ∙ on_rows.0;
      last = answer_by_lem three_book last_row (lit< tt) (why (day_of greatest_instrument 101 103000 0 0)) tt last_stands ∙ on_rows.1;
      stale = answer_by_lem three_book middle_row (lit< tt) (why (day_of 11 300 51000 0 0)) tt three_keeps.1 ∙ on_rows.2;
      move = answer_by_lem three_book last_row (lit< tt) (why (day_of greatest_instrument 101 200001 0 0)) tt last_stands ∙ on_rows.3;
    }
