-- What a day on a row's values is: its two tests decide whether it is taken, stale or refused for its move, its figures and next row compute to the rules by name, and the values after it are in range. Assumes nothing.
use mathlib.Core.Path.{◌≡◌, refl, sym, ap, subst, ◌∙◌}
use mathlib.Core.Bool.{Bool, true, false, cond}
use mathlib.Core.List.{List}
use Prim.Native.Nat.{ℕ, ◌-◌, ◌≤◌, ◌<◌}
use native.Mathlib.Nat.{mul-le-mul}
use native.Mathlib.Omega.{arith}
use borrow.Author.Tests.{leb-true, leb-false, ltb-true, ltb-false}
use lib.Dec.{leb, ltb}
use Rattle.paper.specs.Refusal.{Refusal}
use Rattle.paper.specs.Row.{parameters_of}
use Rattle.paper.specs.Rates.{Day, Figures, DayAnswer, refused, accepted, greatest_move, move_on, candidate_on, figures_on, state_of, figures_of, next_row, day_on, is_shock, published_margin, published_concentration}
use Rattle.paper.specs.Values.{Values, words}
use Rattle.paper.specs.Promises.Ranges.{AreValues, IsDay}
use Rattle.paper.specs.Promises.Days.{candidate_for, AreFigures, values_after, IsTaken, DayMeans}
use Rattle.paper.proofs.Found.{candidate_found}
use Rattle.paper.proofs.Limits.{variance_limit, candidate_limit, preliminary_limit, published_limit}
use Rattle.paper.proofs.Drift.{preliminary_multiple}

-- No two answers are the same.
apart : {r : Refusal} {f : Figures} {next : List ℕ} → refused r ≡ accepted f next → ⊥
apart e = let z : ◌≡◌ {A = ℕ} 0 1 = cc in omega arith

differ : refused Refusal.Stale ≡ refused Refusal.Move → ⊥
differ e = let z : ◌≡◌ {A = ℕ} 0 1 = cc in omega arith

module _ (v : Values) (d : Day) where
  -- The rules and the price leave only one list of figures.
  pub figures_same : (D : ℕ) (f g : Figures) → AreFigures v d D f → AreFigures v d D g → f.from ≡ g.from → f ≡ g
  figures_same D f g a b from =
      let variance : f.variance ≡ g.variance = cc in
      let preliminary : f.preliminary ≡ g.preliminary = cc in
      let days : f.days ≡ g.days = cc in
      let margin : f.margin ≡ g.margin = cc in
      let concentration : f.concentration ≡ g.concentration = cc in
      λ i. record { margin = margin i; concentration = concentration i; preliminary = preliminary i; variance = variance i; days = days i; from = from i }

  -- They are the definition's figures.
  pub figures_are : AreFigures v d (move_on (words v) d).size (figures_of (words v) d)
  unfolding figures_of figures_on state_of parameters_of candidate_on
  figures_are = record { variance = refl; preliminary = refl; days = refl; margin = refl; concentration = refl }

  figures_from : (figures_of (words v) d).from ≡ (move_on (words v) d).from
  unfolding figures_of figures_on
  figures_from = refl

  -- The three answers: a statement about the answer holds where it holds of each, by what the two tests say.
  pub answers : (P : DayAnswer → Type 0)
      → (d.day ≤ v.last_day → P (refused Refusal.Stale))
      → (v.last_day < d.day → greatest_move < (move_on (words v) d).size → P (refused Refusal.Move))
      → (v.last_day < d.day → (move_on (words v) d).size ≤ greatest_move → P (accepted (figures_of (words v) d) (words (values_after v d (figures_of (words v) d)))))
      → P (day_on (words v) d)
  unfolding day_on next_row
  answers P old far taken = go (leb d.day v.last_day) (ltb greatest_move (move_on (words v) d).size) refl refl
    where
      go : (stale moved : Bool) → leb d.day v.last_day ≡ stale → ltb greatest_move (move_on (words v) d).size ≡ moved
          → P (cond stale (refused Refusal.Stale) (cond moved (refused Refusal.Move) (accepted (figures_of (words v) d) (next_row (words v) (figures_of (words v) d) d))))
      go true moved p q = old (leb-true d.day v.last_day p)
      go false true p q = far (leb-false d.day v.last_day p) (ltb-true greatest_move (move_on (words v) d).size q)
      go false false p q = taken (leb-false d.day v.last_day p) (ltb-false greatest_move (move_on (words v) d).size q)

  taken_says : (f : Figures) (next : List ℕ) → day_on (words v) d ≡ accepted f next → IsTaken v d f next
  taken_says f next =
      answers (λ a. a ≡ accepted f next → IsTaken v d f next) (λ l e. absurd (apart e)) (λ l m e. absurd (apart e))
      (λ l m e.
      let same : figures_of (words v) d ≡ f = cc in
      record {
        later = l;
        small = m;
        figures = subst (AreFigures v d (move_on (words v) d).size) same figures_are;
        from = ap (λ (f : Figures). f.from) (sym same) ∙ figures_from;
        leaves = cc;
      })

  is_taken : (f : Figures) (next : List ℕ) → IsTaken v d f next → day_on (words v) d ≡ accepted f next
  is_taken f next t =
      let same = figures_same (move_on (words v) d).size (figures_of (words v) d) f figures_are t.figures (figures_from ∙ sym t.from) in
      answers (λ a. a ≡ accepted f next) (λ l. absurd (omega arith)) (λ l m. absurd (omega arith)) (λ l m. cc)

pub day_means : DayMeans
day_means =
    record {
      taken = λ v d f next. (taken_says v d f next, is_taken v d f next);
      stale = λ v d. (
        answers v d (λ a. a ≡ refused Refusal.Stale → d.day ≤ v.last_day) (λ l e. l) (λ l m e. absurd (differ (sym e))) (λ l m e. absurd (apart (sym e))),
        λ l. answers v d (λ a. a ≡ refused Refusal.Stale) (λ o. refl) (λ o m. absurd (omega arith)) (λ o m. absurd (omega arith)),
      );
      moved = λ v d. (
        answers v d (λ a. a ≡ refused Refusal.Move → (v.last_day < d.day) × (greatest_move < (move_on (words v) d).size)) (λ l e. absurd (differ e)) (λ l m e. (l, m)) (λ l m e. absurd (apart (sym e))),
        λ l. answers v d (λ a. a ≡ refused Refusal.Move) (λ o. absurd (omega arith)) (λ o m. refl) (λ o m. absurd (omega arith)),
      );
    }

-- After a day in range whose move is accepted the values are in range.
pub taken_in_range : (v : Values) (d : Day) (f : Figures) → AreValues v → IsDay d → AreFigures v d (move_on (words v) d).size f → (move_on (words v) d).size ≤ 1000000 → AreValues (values_after v d f)
unfolding published_margin published_concentration
taken_in_range v d f a i g small =
    let p = v.parameters in
    let D = (move_on (words v) d).size in
    let shock = is_shock v.margin d.j D in
    let c = candidate_for v d D f.variance in
    let positive : 0 < p.h = omega arith in
    let variance : f.variance ≤ 1000000000000
    = omega (arith, variance_limit p.upper p.lower v.variance D 1000000000000 (omega arith) (omega arith) (omega arith) (mul-le-mul small small)) in
    let near = candidate_limit p.h p.alpha f.variance D shock positive (omega arith) variance small in
    let limit = preliminary_limit p.h p.n v.preliminary (d.day - v.last_change) c 4100000 (omega arith) (omega arith) in
    let found = candidate_found p.h p.alpha f.variance D shock positive in
    let multiple = preliminary_multiple p.h p.n v.preliminary (d.day - v.last_change) c a.steps found.count a.multiple found.multiple in
    let margin : f.margin ≤ 1000000
    = rw g.margin (published_limit p.M p.h p.least_margin p.greatest_margin _ _ 1000000 (omega arith) (omega arith)) in
    let concentration : f.concentration ≤ 1000000
    = rw g.concentration (published_limit p.M p.h p.least_concentration p.greatest_concentration _ _ 1000000 (omega arith) (omega arith)) in
    record {
      instrument = a.instrument;
      parameters = a.parameters;
      variance = omega arith;
      preliminary = omega arith;
      margin = omega arith;
      concentration = omega arith;
      last_change = omega arith;
      last_day = i.day;
      newer = i.price;
      older = a.newer;
      halted = a.halted;
      change = omega arith;
      steps = multiple.0;
      multiple = g.preliminary ∙ multiple.1;
    }
