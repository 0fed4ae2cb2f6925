-- The tests of ranges pass exactly where each quantity is within its ends: a test over a list is taken apart into a product of bounds, and arithmetic carries bounds between the product and the names. Assumes nothing.
use mathlib.Core.Path.{◌≡◌, refl, sym, ap, subst, subst⁻¹, ◌∙◌}
use mathlib.Core.Bool.{Bool, true, false, cond, ◌&&◌}
use mathlib.Core.List.{List, [], ◌∷◌, ◌++◌}
use Prim.Native.Nat.{ℕ, zero, suc, ◌+◌, ◌*◌, ◌-◌, ◌/◌, ◌%◌, ◌≤◌}
use native.Mathlib.Nat.{add-zero, div-add-mod, mul-mod_right}
use native.Mathlib.Omega.{arith}
use borrow.Author.Tests.{leb-true, le-leb, ltb-true, ltb-false, lt-ltb, le-ltb, eq-eqb}
use lib.Dec.{leb, ltb, eqb}
use lib.IntN.{ℤ, pos, negsuc, ◌-ℤ◌}
use lib.ListN.{length, get_or, drop}
use lib.Signed.{le_z}
use Rattle.paper.specs.Row.{Interval, ◌up_to◌, is_in, are_in, ranges, parameter_ranges, word, variance, parameters_of, is_paired, parameters_in_range, row_in_range, width, parameter_count}
use Rattle.paper.specs.Rates.{Day, day_in_range}
use Rattle.paper.specs.Corridor.{Terms, is_repo, repos_in_range, term_ranges, terms_in_range}
use Rattle.paper.specs.Bond.{Bond, bond_ranges, bond_in_range}
use Rattle.paper.specs.Values.{Parameters, parameter_words, Values, words}
use Rattle.paper.specs.Promises.Ranges.{IsFrom, AreParameters, AreValues, IsRow, IsParameters, IsDay, AreTerms, IsBond, RangesMean, NamesMean}
use Rattle.paper.proofs.Tests.{clash, and_left, and_right, and_both}
use Rattle.paper.proofs.Row.{in_from, in_to, in_both, are_all, are_long, row_long, row_word, row_parameters, row_change, row_multiple}

-- Each number is within its own range.
abbrev pub Each : List Interval → List ℕ → Type 0
Each [] [] = Unit {0}
Each [] (n ∷ ns) = ⊥
Each (r ∷ rs) [] = ⊥
Each (r ∷ rs) (n ∷ ns) = IsFrom r.from r.to n × Each rs ns

pub each_of : (rs : List Interval) (ns : List ℕ) → are_in rs ns ≡ true → Each rs ns
unfolding are_in
each_of [] [] e = tt
each_of [] (n ∷ ns) e = clash false e refl
each_of (r ∷ rs) [] e = clash false e refl
each_of (r ∷ rs) (n ∷ ns) e =
    let here = and_left (is_in r n) (are_in rs ns) e in
    (record { not_below = in_from r n here; not_above = in_to r n here }, each_of rs ns (and_right (is_in r n) (are_in rs ns) e))

pub each_in : (rs : List Interval) (ns : List ℕ) → Each rs ns → are_in rs ns ≡ true
unfolding are_in
each_in [] [] e = refl
each_in [] (n ∷ ns) e = absurd e
each_in (r ∷ rs) [] e = absurd e
each_in (r ∷ rs) (n ∷ ns) e =
    and_both (is_in r n) (are_in rs ns) (in_both r n e.0.not_below e.0.not_above) (each_in rs ns e.1)

-- A list is made of what stands at its places.
abbrev spelled : ℕ → (ℕ → ℕ) → List ℕ
spelled zero at = []
spelled (suc n) at = at 0 ∷ spelled n (λ k. at (suc k))

spells : (n : ℕ) (ns : List ℕ) → length ns ≡ n → ns ≡ spelled n (λ k. get_or ns k 0)
spells zero [] e = refl
spells zero (m ∷ ms) e = absurd (omega arith)
spells (suc n) [] e = absurd (omega arith)
spells (suc n) (m ∷ ms) e = ap (λ (rest : List ℕ). m ∷ rest) (spells n ms (omega arith))

-- The parameters.
parameters_at : (ℕ → ℕ) → Parameters
parameters_at at =
    record {
      alpha = at 0;
      upper = at 1;
      lower = at 2;
      h = at 3;
      n = at 4;
      T = at 5;
      L = at 6;
      R = at 7;
      least_margin = at 8;
      greatest_margin = at 9;
      least_concentration = at 10;
      greatest_concentration = at 11;
      M = at 12;
    }

module _ (p : Parameters) where
  least_margins : Bool
  least_margins = leb p.least_margin p.greatest_margin

  least_concentrations : Bool
  least_concentrations = leb p.least_concentration p.greatest_concentration

  pub are_parameters : parameters_in_range (parameter_words p) ≡ true → AreParameters p
  unfolding parameters_in_range is_paired least_margins least_concentrations
  are_parameters e =
      let each = each_of parameter_ranges (parameter_words p) (and_left (are_in parameter_ranges (parameter_words p)) (is_paired (parameter_words p)) e) in
      let paired = and_right (are_in parameter_ranges (parameter_words p)) (is_paired (parameter_words p)) e in
      let margins = leb-true p.least_margin p.greatest_margin (and_left least_margins least_concentrations paired) in
      let concentrations = leb-true p.least_concentration p.greatest_concentration (and_right least_margins least_concentrations paired) in
      omega arith

  pub parameters_pass : AreParameters p → parameters_in_range (parameter_words p) ≡ true
  unfolding parameters_in_range is_paired least_margins least_concentrations
  parameters_pass a =
      and_both (are_in parameter_ranges (parameter_words p)) (is_paired (parameter_words p))
      (each_in parameter_ranges (parameter_words p) (omega arith))
      (and_both least_margins least_concentrations (le-leb p.least_margin p.greatest_margin a.margins)
      (le-leb p.least_concentration p.greatest_concentration a.concentrations))

pub parameters_of_lem : (ps : List ℕ) → parameters_in_range ps ≡ true → IsParameters ps
unfolding parameters_at parameters_in_range
parameters_of_lem ps e =
    let p = parameters_at (λ k. get_or ps k 0) in
    let same : ps ≡ parameter_words p = spells parameter_count ps (are_long parameter_ranges ps (and_left (are_in parameter_ranges ps) (is_paired ps) e)) in
    record { values = p; in_order = same; in_range = are_parameters p (subst (λ (ns : List ℕ). parameters_in_range ns ≡ true) same e) }

pub parameters_is : (ps : List ℕ) → IsParameters ps → parameters_in_range ps ≡ true
parameters_is ps i = subst⁻¹ (λ (ns : List ℕ). parameters_in_range ns ≡ true) i.in_order (parameters_pass i.values i.in_range)

-- Numbers in range, and others after them, are in range together.
each_append : (rs ss : List Interval) (ns ms : List ℕ) → Each rs ns → Each ss ms → Each (rs ++ ss) (ns ++ ms)
each_append [] ss [] ms e f = f
each_append [] ss (n ∷ ns) ms e f = absurd e
each_append (r ∷ rs) ss [] ms e f = absurd e
each_append (r ∷ rs) ss (n ∷ ns) ms e f = (e.0, each_append rs ss ns ms e.1 f)

-- A row.
module _ (v : Values) where
  pub are_values : row_in_range (words v) ≡ true → AreValues v
  unfolding parameters_of
  are_values e =
      let each = each_of ranges (words v) (are_all ranges (words v) (0 up_to 0) (row_long (words v) e) (row_word (words v) e)) in
      record {
        instrument = omega arith;
        parameters = are_parameters v.parameters (row_parameters (words v) e);
        variance = omega arith;
        preliminary = omega arith;
        margin = omega arith;
        concentration = omega arith;
        last_change = omega arith;
        last_day = omega arith;
        newer = omega arith;
        older = omega arith;
        halted = omega arith;
        change = row_change (words v) e;
        steps = v.preliminary / v.parameters.h;
        multiple =
            sym (div-add-mod v.preliminary v.parameters.h)
            ∙ ap (λ (rest : ℕ). v.parameters.h * (v.preliminary / v.parameters.h) + rest) (row_multiple (words v) e) ∙ add-zero _;
      }

  pub values_pass : AreValues v → row_in_range (words v) ≡ true
  unfolding row_in_range parameters_of parameters_in_range
  values_pass a =
      let ps = parameter_words v.parameters in
      let sound = parameters_pass v.parameters a.parameters in
      let first = each_of parameter_ranges ps (and_left (are_in parameter_ranges ps) (is_paired ps) sound) in
      let each = each_append parameter_ranges (drop variance ranges) ps (drop variance (words v)) first (omega arith) in
      and_both (are_in ranges (words v) && is_paired ps && leb v.last_change v.last_day) (eqb (v.preliminary % v.parameters.h) 0)
      (and_both (are_in ranges (words v) && is_paired ps) (leb v.last_change v.last_day)
      (and_both (are_in ranges (words v)) (is_paired ps) (each_in ranges (words v) (a.instrument, each))
      (and_right (are_in parameter_ranges ps) (is_paired ps) sound))
      (le-leb v.last_change v.last_day a.change))
      (eq-eqb (v.preliminary % v.parameters.h) 0
      (ap (λ (n : ℕ). n % v.parameters.h) a.multiple ∙ mul-mod_right v.parameters.h a.steps))

pub row_of : (row : List ℕ) → row_in_range row ≡ true → IsRow row
unfolding parameters_at
row_of row e =
    let v : Values
    = record {
      instrument = word row 0;
      parameters = parameters_at (λ k. word row (suc k));
      variance = word row 14;
      preliminary = word row 15;
      margin = word row 16;
      concentration = word row 17;
      last_change = word row 18;
      last_day = word row 19;
      newer = word row 20;
      older = word row 21;
      halted = word row 22;
    } in
    let same : row ≡ words v = spells width row (row_long row e) in
    record { values = v; in_order = same; in_range = are_values v (subst (λ (ns : List ℕ). row_in_range ns ≡ true) same e) }

pub row_is : (row : List ℕ) → IsRow row → row_in_range row ≡ true
row_is row i = subst⁻¹ (λ (ns : List ℕ). row_in_range ns ≡ true) i.in_order (values_pass i.values i.in_range)

-- A day.
module _ (d : Day) where
  day_words : List ℕ
  day_words = d.instrument ∷ d.day ∷ d.price ∷ d.m ∷ d.j ∷ []

  pub day_of_lem : day_in_range d ≡ true → IsDay d
  unfolding day_in_range day_words
  day_of_lem e = let each = each_of _ day_words e in omega arith

  pub day_is : IsDay d → day_in_range d ≡ true
  unfolding day_in_range day_words
  day_is i = each_in _ day_words (omega arith)

-- A repo rate, and it raised by 10,000: from its least one on, each is the other's, and both keep the order.
raised : ℤ → ℕ
raised (pos n) = n + 10000
raised (negsuc n) = 10000 - suc n

abbrev lowered : ℕ → ℤ
lowered n = pos n -ℤ pos 10000

raised_le : (a b : ℤ) → le_z a b ≡ true → raised a ≤ raised b
unfolding raised
raised_le (pos a) (pos b) e = omega (arith, leb-true a b e)
raised_le (pos a) (negsuc b) e = absurd (clash false e refl)
raised_le (negsuc a) (pos b) e = omega arith
raised_le (negsuc a) (negsuc b) e = omega (arith, leb-true b a e)

raised_back : (r : ℤ) → le_z (lowered 0) r ≡ true → r ≡ lowered (raised r)
unfolding raised
raised_back (pos n) e =
    ap pos (omega arith)
    ∙ ap (λ (t : Bool). cond t (negsuc (10000 - suc (n + 10000))) (pos (n + 10000 - 10000))) (sym (le-ltb (n + 10000) 10000 (omega arith)))
raised_back (negsuc n) e =
    let low = leb-true n 9999 e in
    ap negsuc (omega arith)
    ∙ ap (λ (t : Bool). cond t (negsuc (10000 - suc (10000 - suc n))) (pos (10000 - suc n - 10000))) (sym (lt-ltb (10000 - suc n) 10000 (omega arith)))

lowered_le : (a b : ℕ) → a ≤ b → le_z (lowered a) (lowered b) ≡ true
lowered_le a b h = go (ltb a 10000) (ltb b 10000) refl refl
  where
    go : (s t : Bool) → ltb a 10000 ≡ s → ltb b 10000 ≡ t → le_z (cond s (negsuc (10000 - suc a)) (pos (a - 10000))) (cond t (negsuc (10000 - suc b)) (pos (b - 10000))) ≡ true
    go true true p q = le-leb (10000 - suc b) (10000 - suc a) (omega arith)
    go true false p q = refl
    go false true p q = absurd (omega (arith, ltb-false a 10000 p, ltb-true b 10000 q))
    go false false p q = le-leb (a - 10000) (b - 10000) (omega arith)

repo_passes : (n : ℕ) → n ≤ 60000 → is_repo (lowered n) ≡ true
unfolding is_repo
repo_passes n h =
    and_both (le_z (lowered 0) (lowered n)) (le_z (lowered n) (lowered 60000)) (lowered_le 0 n (omega arith)) (lowered_le n 60000 h)

repos_pass : (low high : ℕ) → low ≤ high → high ≤ 60000 → repos_in_range (lowered low) (lowered high) ≡ true
unfolding repos_in_range
repos_pass low high p q =
    and_both (is_repo (lowered low) && is_repo (lowered high)) (le_z (lowered low) (lowered high))
    (and_both (is_repo (lowered low)) (is_repo (lowered high)) (repo_passes low (omega arith)) (repo_passes high q))
    (lowered_le low high p)

-- The terms of a corridor.
module _ (t : Terms) where
  term_words : List ℕ
  term_words = t.k ∷ t.shift ∷ t.x ∷ t.rise ∷ t.fall ∷ t.tick ∷ []

  pub terms_of : terms_in_range t ≡ true → AreTerms t
  unfolding terms_in_range repos_in_range is_repo term_words raised
  terms_of e =
      let each = each_of term_ranges term_words (and_left (are_in term_ranges term_words) (repos_in_range t.lower t.upper) e) in
      let repos = and_right (are_in term_ranges term_words) (repos_in_range t.lower t.upper) e in
      let both = and_left (is_repo t.lower && is_repo t.upper) (le_z t.lower t.upper) repos in
      record {
        k = omega arith;
        shift = omega arith;
        x = omega arith;
        rise = omega arith;
        fall = omega arith;
        tick = omega arith;
        low = raised t.lower;
        high = raised t.upper;
        lower = raised_back t.lower (and_left _ (le_z t.lower (pos 50000)) (and_left (is_repo t.lower) (is_repo t.upper) both));
        upper = raised_back t.upper (and_left _ (le_z t.upper (pos 50000)) (and_right (is_repo t.lower) (is_repo t.upper) both));
        ordered = raised_le t.lower t.upper (and_right (is_repo t.lower && is_repo t.upper) (le_z t.lower t.upper) repos);
        high_end = raised_le t.upper (pos 50000) (and_right (le_z (lowered 0) t.upper) _ (and_right (is_repo t.lower) (is_repo t.upper) both));
      }

  pub terms_is : AreTerms t → terms_in_range t ≡ true
  unfolding terms_in_range term_words
  terms_is a =
      and_both (are_in term_ranges term_words) (repos_in_range t.lower t.upper) (each_in term_ranges term_words (omega arith))
      (rw (a.lower, a.upper) (repos_pass a.low a.high a.ordered a.high_end))

-- A bond's values.
module _ (b : Bond) where
  bond_words : List ℕ
  bond_words = b.face ∷ b.carry ∷ b.accrued ∷ []

  pub bond_of_lem : bond_in_range b ≡ true → IsBond b
  unfolding bond_in_range bond_words
  bond_of_lem e =
      let each = each_of bond_ranges bond_words e in
      record { face = omega arith; carry = omega arith; accrued = omega arith }

  pub bond_is : IsBond b → bond_in_range b ≡ true
  unfolding bond_in_range bond_words
  bond_is a = each_in bond_ranges bond_words (omega arith)

pub ranges_mean : RangesMean
ranges_mean =
    record {
      row = λ row. (row_of row, row_is row);
      parameters = λ ps. (parameters_of_lem ps, parameters_is ps);
      day = λ d. (day_of_lem d, day_is d);
      terms = λ t. (terms_of t, terms_is t);
      bond = λ b. (bond_of_lem b, bond_is b);
    }

pub names_mean : NamesMean
unfolding parameters_of
names_mean =
    record {
      instrument = λ v. refl;
      alpha = λ v. refl;
      upper = λ v. refl;
      lower = λ v. refl;
      h = λ v. refl;
      n = λ v. refl;
      T = λ v. refl;
      L = λ v. refl;
      R = λ v. refl;
      least_margin = λ v. refl;
      greatest_margin = λ v. refl;
      least_concentration = λ v. refl;
      greatest_concentration = λ v. refl;
      M = λ v. refl;
      variance = λ v. refl;
      preliminary = λ v. refl;
      margin = λ v. refl;
      concentration = λ v. refl;
      last_change = λ v. refl;
      last_day = λ v. refl;
      newer = λ v. refl;
      older = λ v. refl;
      halted = λ v. refl;
      width = λ v. refl;
      parameters = λ v. refl;
    }
