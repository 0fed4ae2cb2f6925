-- The no-fall period in calendar days: by the three branches of the preliminary, of which two are a change; the worked cases by computing. Assumes nothing.
use mathlib.Core.Path.{◌≡◌, refl, sym, ap, ◌∙◌}
use mathlib.Core.Bool.{true, false}
use mathlib.Core.List.{List}
use mathlib.Core.Logic.{◌↔◌, ◌≢◌}
use Prim.Native.Nat.{ℕ, ◌+◌, ◌-◌, ◌≤◌, ◌<◌}
use native.Mathlib.Omega.{arith}
use lib.Dec.{lit<}
use lib.ListN.{set}
use lib.Seq.{sets}
use Rattle.paper.specs.Row as Row
use Rattle.paper.specs.Row.{word, parameters_of, row_in_range}
use Rattle.paper.specs.Rates.{Day, Figures, next_preliminary, next_days, move_on, day_on}
use Rattle.paper.specs.Calls.{opening, parameters, day_figures, number_of, answer, after}
use Rattle.paper.specs.Values.{Values, words}
use Rattle.paper.specs.Promises.Days.{candidate_for, IsTaken}
use Rattle.paper.specs.Promises.Worked.{day_of, distinct_row}
use Rattle.paper.specs.Promises.Alive.{empty_book}
use Rattle.paper.specs.Promises.Calendar.{IsNext, WouldFall, Falls, WaitsExactly, NeverWaits, ChangeIsToday, with_period, CalendarDays}
use Rattle.paper.proofs.Steps.{rise_high, fall_low, fall_waited, fall_denied, branches}
use Rattle.paper.proofs.Taken.{day_means}
use Rattle.paper.proofs.Standing.{number_by, parameters_stand, opened_stands}
use Rattle.paper.proofs.Computing.{computing}
use Rattle.paper.proofs.Alive.{empty_sound, empty_opens}

module _ (h n old days c : ℕ) (positive : 0 < h) where
  -- Where the candidate is a step below, the preliminary falls exactly once the days reach n.
  falls_once : c + h ≤ old → (next_preliminary h n old days c + h ≡ old) ↔ (n ≤ days)
  falls_once low =
      branches h n old days c (λ q since. (q + h ≡ old) ↔ (n ≤ days)) (λ r. absurd (omega (arith, rise_high h n old days c r)))
      (λ r f. (λ e. fall_waited h n old days c f, λ w. omega arith))
      (λ r f. (λ e. absurd (omega arith), λ w. absurd (fall_denied h n old days c f low w)))

  -- No days since a change, and else those that there were.
  since_change : (next_preliminary h n old days c ≢ old → next_days h n old days c ≡ 0) × (next_preliminary h n old days c ≡ old → next_days h n old days c ≡ days)
  since_change =
      branches h n old days c (λ q since. (q ≢ old → since ≡ 0) × (q ≡ old → since ≡ days))
      (λ r. (λ e. refl, λ e. absurd (omega (arith, rise_high h n old days c r))))
      (λ r f. (λ e. refl, λ e. absurd (omega (arith, fall_low h n old days c f))))
      (λ r f. (λ e. absurd (e refl), λ e. refl))

module _ (v : Values) (d : Day) (f : Figures) (next : List ℕ) (i : IsNext v d f next) where
  taken : IsTaken v d f next
  taken = (day_means.taken v d f next).0 i.taken

  abbrev c : ℕ
  c = candidate_for v d (move_on (words v) d).size f.variance

  positive : 0 < v.parameters.h
  positive = let r = i.in_range.parameters.h.not_below in omega arith

  falls_from : WouldFall v d f → Falls v f ↔ (v.last_change + v.parameters.n ≤ d.day)
  falls_from low =
      let t = taken in
      let r = i.in_range.change in
      let falls = falls_once v.parameters.h v.parameters.n v.preliminary (d.day - v.last_change) c positive low in
      let same = t.figures.preliminary in (
        λ e. let w = falls.0 (ap (λ (q : ℕ). q + v.parameters.h) (sym same) ∙ e) in omega (arith, t.later),
        λ w. ap (λ (q : ℕ). q + v.parameters.h) same ∙ falls.1 (omega (arith, t.later)),
      )

  word_left : word next Row.last_change ≡ d.day - f.days
  word_left = ap (λ (row : List ℕ). word row Row.last_change) taken.leaves

  since : (f.preliminary ≢ v.preliminary → f.days ≡ 0) × (f.preliminary ≡ v.preliminary → f.days ≡ d.day - v.last_change)
  since =
      let t = taken in
      let s = since_change v.parameters.h v.parameters.n v.preliminary (d.day - v.last_change) c positive in (
        λ e. t.figures.days ∙ s.0 (λ q. e (t.figures.preliminary ∙ q)),
        λ e. t.figures.days ∙ s.1 (sym t.figures.preliminary ∙ e),
      )

pub waits_exactly : WaitsExactly
waits_exactly = falls_from

pub never_waits : NeverWaits
never_waits v d f next i low few =
    (falls_from v d f next i low).1 (omega (arith, i.in_range.change, (taken v d f next i).later))

pub change_is_today : ChangeIsToday
change_is_today =
    record {
      changed = λ v d f next i e.
          let none = (since v d f next i).0 e in
          (word_left v d f next i ∙ omega arith, none);
      kept = λ v d f next i e.
          let some = (since v d f next i).1 e in
          let r = i.in_range.change in
          let l = (taken v d f next i).later in
          (word_left v d f next i ∙ omega arith, omega arith);
    }

-- The row that new parameters are given, and the rows that are opened and refused: in range and out of it.
abbrev waiting_row : List ℕ
waiting_row = distinct_row 1 1 150000 298

rows_tested : (row_in_range waiting_row ≡ true) × (row_in_range (distinct_row 1 1 150000 300) ≡ true) × (row_in_range (distinct_row 1 1 150000 0) ≡ true) × (row_in_range (distinct_row 1 1 150000 301) ≡ false)
unfolding computing
rows_tested = (refl, refl, refl, refl)

pub opened : (row : List ℕ) → row_in_range row ≡ true → 0 < word row Row.instrument → (answer empty_book (opening row)).number ≡ 0
opened row sound positive = ap (λ a. a.number) (empty_opens row sound positive)

pub refused : (row : List ℕ) → row_in_range row ≡ false → (answer empty_book (opening row)).number ≡ 2
unfolding answer number_of
refused row out = rw (empty_sound, out)

-- New parameters are written over the row's own.
with_period_lem : (n : ℕ) → number_by waiting_row (parameters 11 (set (parameters_of waiting_row) 4 n)) ≡ 0 → with_period waiting_row n ≡ sets waiting_row Row.alpha (set (parameters_of waiting_row) 4 n)
with_period_lem n e =
    (parameters_stand (after empty_book (opening waiting_row)) waiting_row (lit< tt) 11 (set (parameters_of waiting_row) 4 n)
    (opened_stands empty_book waiting_row empty_sound (opened waiting_row rows_tested.0 (lit< tt))) e).is_row

pub calendar_days : CalendarDays
unfolding computing number_by
calendar_days =
    record {
      holiday = refl;
      holiday_kept = refl;
      fourth_day = refl;
      third_day = refl;
      shorter = ap (λ (row : List ℕ). day_figures (day_on row (day_of 11 301 50000 2 1))) (with_period_lem 3 refl) ∙ refl;
      longer = ap (λ (row : List ℕ). day_figures (day_on row (day_of 11 302 50000 2 1))) (with_period_lem 5 refl) ∙ refl;
      far = refl;
      far_kept = refl;
      far_falls = refl;
      far_changed = refl;
      on_last_day = opened (distinct_row 1 1 150000 300) rows_tested.1 (lit< tt);
      long_before = opened (distinct_row 1 1 150000 0) rows_tested.2 (lit< tt);
      day_after = refused (distinct_row 1 1 150000 301) rows_tested.3;
    }
