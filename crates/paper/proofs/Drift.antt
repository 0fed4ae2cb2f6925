-- Demand 3: by induction over a run. One day brings the kept and the exact variance nearer by the smaller weight, and rounding up adds less than one. Assumes nothing.
use mathlib.Core.Path.{◌≡◌, refl, sym, ap, ap₂, subst, subst⁻¹, ◌∙◌}
use mathlib.Core.Bool.{Bool, true}
use mathlib.Core.List.{List, ◌∷◌}
use Prim.Native.Nat.{ℕ, suc, ◌+◌, ◌*◌, ◌-◌, ◌/◌, ◌≤◌, ◌<◌, min}
use native.Mathlib.Nat.{add-zero, div-add-mod, le-min, le_of_suc-le-suc, le_trans, le_of_lt, mul-suc, mul-one, mul-sub, mul-le-mul, mul-le-mul_left, mul-le-mul_right, mul-lt-mul_of_pos_right, le-mul_of_pos_right, lt_of_mul-lt-mul_left, le_of_mul-le-mul_right, pow-succ', one-le-pow, min-le_left}
use native.Mathlib.Omega.{arith}
use lib.Dec.{lit<}
use lib.ListN.{length, get_or}
use Rattle.paper.specs.Row as Row
use Rattle.paper.specs.Row.{word, parameter, parameters_of, row_in_range}
use Rattle.paper.specs.Rates.{Day, Figures, accepted, square, is_shock, next_variance, covers_need, candidate, candidate_on, next_preliminary, figures_on, state_of, move_on, figures_of, day_on}
use Rattle.paper.specs.Exact.{denominator, exact_next, exact_variance, covers_exact_need, exact_candidate}
use Rattle.paper.specs.Promises.Drift.{Run, begun, another, smaller_weight, exact_after, IsNear, VarianceDrift, candidate_of, exact_candidate_of, IsCovered, CandidateDrift, ExactFound}
use Rattle.paper.proofs.Least.{multiple_of, multiple_passes, multiple_least}
use Rattle.paper.proofs.Row.{in_from, in_to, row_long, row_word, row_multiple, parameter_word}
use Rattle.paper.proofs.Rates.{shares, square_times, square_mono, le_times, need_covered, need_says, need_bound}
use Rattle.paper.proofs.Found.{found}
use Rattle.paper.proofs.Steps.{branches, rise_low, fall_low}
use Rattle.paper.proofs.Limits.{cond_le}
use Rattle.paper.proofs.Days.{day_accepted, next_long, next_parameters, next_word}
use Rattle.paper.proofs.Exact.{variance_rises, variance_nears, rounding_adds_less, exact_covered, exact_says}

-- One day: a variance near the exact one stays so.
module _ (upper lower N D e v : ℕ) (hu : upper ≤ 10000) (hl : lower ≤ 10000) (some : 0 < min upper lower) (positive : 0 < N) (before : IsNear (min upper lower) N e v) where
  W : ℕ
  W = min upper lower

  day_not_below : exact_next upper lower N e D ≤ next_variance upper lower v D * (10000 * N)
  day_not_below =
      le_trans (variance_rises upper lower N D e (v * N) hu hl before.not_below) (rounding_adds_less.not_below upper lower N D v positive)

  day_near : (next_variance upper lower v D * (10000 * N) - exact_next upper lower N e D) * W < 10000 * (10000 * N)
  unfolding W
  day_near =
      let gap = v * N - e in
      let rest : next_variance upper lower v D * (10000 * N) - exact_next upper lower N e D < (10000 - W) * gap + 10000 * N
      = omega (arith, variance_nears upper lower N D e (v * N) hu hl before.not_below, rounding_adds_less.less_than_one upper lower N D v positive) in
      omega (arith, mul-lt-mul_of_pos_right rest some, mul-le-mul_left (10000 - W) (le_of_lt before.near), shares W (10000 * N) (le_trans (min-le_left upper lower) hu))

  pub day_stays : IsNear (min upper lower) (10000 * N) (exact_next upper lower N e D) (next_variance upper lower v D)
  unfolding W
  day_stays = record { not_below = day_not_below; near = day_near }

-- Both candidates are multiples of h.
candidate_multiple : (h alpha v D : ℕ) (shock : Bool) → (k : ℕ) × (candidate h alpha v D shock ≡ h * k)
unfolding candidate
candidate_multiple h alpha v D shock = multiple_of h (covers_need alpha v D shock) (alpha * (v + 1) + D)

exact_multiple : (h alpha N e D : ℕ) (shock : Bool) → (k : ℕ) × (exact_candidate h alpha N e D shock ≡ h * k)
unfolding exact_candidate
exact_multiple h alpha N e D shock = multiple_of h (covers_exact_need alpha N e D shock) (alpha * (e + 1) + D)

-- Every rate from the bound of its search on covers the exact need.
pub exact_found : ExactFound
unfolding exact_candidate
exact_found h alpha N e D shock step positive =
    let bound = alpha * (e + 1) + D in
    let far : bound ≤ h * bound = le_times h bound step in
    found h (covers_exact_need alpha N e D shock) bound
    (exact_covered alpha N e D (h * bound) shock
    (le_trans (square_times alpha e) (le_trans (square_mono (omega arith)) (le-mul_of_pos_right (square (1000 * (h * bound))) positive)))
    (cond_le shock D 0 (h * bound) (omega arith) (omega arith)))

-- The candidate of a variance near the exact one: not below the exact one's, and at most one step above it.
module _ (h alpha W N e D v : ℕ) (shock : Bool) (step : 1000 ≤ h) (limit : alpha ≤ 4000) (some : 0 < W) (positive : 0 < N) (close : IsNear W N e v) where
  kept_bound : ℕ
  kept_bound = alpha * (v + 1) + D

  exact_bound : ℕ
  exact_bound = alpha * (e + 1) + D

  -- Both searches find what they look for.
  kept_found : covers_need alpha v D shock (candidate h alpha v D shock) ≡ true
  unfolding candidate kept_bound
  kept_found =
      multiple_passes h (covers_need alpha v D shock) kept_bound kept_bound (omega arith)
      (need_bound alpha v D shock _ (le_times h kept_bound (omega arith)))

  exact_found_lem : covers_exact_need alpha N e D shock (exact_candidate h alpha N e D shock) ≡ true
  exact_found_lem = (exact_found h alpha N e D shock (omega arith) positive).covered

  pub candidate_not_below : exact_candidate h alpha N e D shock ≤ candidate h alpha v D shock
  unfolding exact_candidate exact_bound
  candidate_not_below =
      let c = candidate h alpha v D shock in
      let at = candidate_multiple h alpha v D shock in
      let says = need_says alpha v D c shock kept_found in
      let covered : covers_exact_need alpha N e D shock c ≡ true
      = exact_covered alpha N e D c shock
      (le_trans (mul-le-mul_left (square alpha) close.not_below) (omega (arith, mul-le-mul_right N says.0))) says.1 in
      subst⁻¹ (λ (n : ℕ). exact_candidate h alpha N e D shock ≤ n) at.1
      (multiple_least h (covers_exact_need alpha N e D shock) exact_bound at.0 (subst (λ (n : ℕ). covers_exact_need alpha N e D shock n ≡ true) at.1 covered))

  -- The kept variance is less than 10,000 above the exact one, so the need's square is near too;
  need_near : (x : ℕ) → square alpha * e ≤ square (1000 * x) * N → square alpha * v ≤ square (1000 * x) + 10000 * square alpha
  need_near x p =
      let gap : v * N - e ≤ (v * N - e) * W = le-mul_of_pos_right (v * N - e) some in
      let less : v * N ≤ e + 10000 * N = omega (arith, close.near) in
      le_of_mul-le-mul_right {k = N}
      (omega (arith, mul-le-mul_left (square alpha) less, p)) positive

  -- and one step makes more room than that.
  room : (x : ℕ) → square (1000 * x) + 10000 * square alpha ≤ square (1000 * (x + h))
  room x = omega (arith, mul-le-mul limit limit, mul-le-mul step step)

  pub candidate_one_step : candidate h alpha v D shock ≤ exact_candidate h alpha N e D shock + h
  unfolding candidate kept_bound
  candidate_one_step =
      let x = exact_candidate h alpha N e D shock in
      let at = exact_multiple h alpha N e D shock in
      let says = exact_says alpha N e D x shock exact_found_lem in
      let next : h * suc at.0 ≡ x + h = mul-suc h at.0 ∙ ap (λ (n : ℕ). n + h) (sym at.1) in
      let covered : covers_need alpha v D shock (h * suc at.0) ≡ true
      = subst⁻¹ (λ (n : ℕ). covers_need alpha v D shock n ≡ true) next
      (need_covered alpha v D (x + h) shock (le_trans (need_near x says.0) (room x)) (omega (arith, says.1))) in
      subst (λ (n : ℕ). candidate h alpha v D shock ≤ n) next
      (multiple_least h (covers_need alpha v D shock) kept_bound (suc at.0) covered)

-- A preliminary and a candidate that are multiples of h: the new preliminary is one too, and is not below the candidate.
module _ (h n old days c k₀ k₁ : ℕ) (kept : old ≡ h * k₀) (found : c ≡ h * k₁) where
  pub preliminary_multiple : (k : ℕ) × (next_preliminary h n old days c ≡ h * k)
  preliminary_multiple =
      branches h n old days c (λ q d. (k : ℕ) × (q ≡ h * k)) (λ r. (k₁, found))
      (λ r f. (k₀ - 1, ap (λ (m : ℕ). m - h) kept ∙ ap (λ (m : ℕ). h * k₀ - m) (sym (mul-one h)) ∙ sym (mul-sub h k₀ 1)))
      (λ r f. (k₀, kept))

  pub preliminary_covers : c ≤ next_preliminary h n old days c
  preliminary_covers =
      branches h n old days c (λ q d. c ≤ q) (λ r. omega arith) (λ r f. omega (arith, fall_low h n old days c f))
      (λ r f. level (rise_low h n old days c r))
    where
      level : c < old + h → c ≤ old
      level l =
          let below : h * k₁ < h * suc k₀ = omega (arith, mul-suc h k₀) in
          let less : k₁ < suc k₀ = lt_of_mul-lt-mul_left h below in
          omega (arith, mul-le-mul_left h (le_of_suc-le-suc less))

-- What a row in range says of the words that demand 3 reads.
record Started (start : List ℕ) : Type 0 where
  upper : word start Row.upper_weight ≤ 10000
  lower : word start Row.lower_weight ≤ 10000
  some : 0 < smaller_weight start
  step : 1000 ≤ word start Row.step
  alpha : word start Row.alpha ≤ 4000
  count : ℕ
  multiple : word start Row.preliminary ≡ word start Row.step * count

started : (start : List ℕ) → row_in_range start ≡ true → Started start
started start sound =
    record {
      upper = in_to _ _ (row_word start sound Row.upper_weight (lit< tt));
      lower = in_to _ _ (row_word start sound Row.lower_weight (lit< tt));
      some = le-min (in_from _ _ (row_word start sound Row.upper_weight (lit< tt))) (in_from _ _ (row_word start sound Row.lower_weight (lit< tt)));
      step = in_from _ _ (row_word start sound Row.step (lit< tt));
      alpha = in_to _ _ (row_word start sound Row.alpha (lit< tt));
      count = word start Row.preliminary / word start Row.step;
      multiple =
          sym (div-add-mod (word start Row.preliminary) (word start Row.step))
          ∙ ap (λ (m : ℕ). word start Row.step * (word start Row.preliminary / word start Row.step) + m) (row_multiple start sound)
          ∙ add-zero _;
    }

-- What holds all along a run.
record Along (start row moves : List ℕ) : Type 0 where
  long : length row ≡ Row.width
  parameters : parameters_of row ≡ parameters_of start
  count : ℕ
  multiple : word row Row.preliminary ≡ word start Row.step * count
  close : IsNear (smaller_weight start) (denominator (length moves)) (exact_after start moves) (word row Row.variance)

-- One accepted day more.
module _ (start row moves : List ℕ) (s : Started start) (a : Along start row moves) (d : Day) (f : Figures) (next : List ℕ) (e : day_on row d ≡ accepted f next) where
  D : ℕ
  D = (move_on row d).size

  shock : Bool
  shock = is_shock (word row Row.margin) d.j (move_on row d).size

  -- The parameters are the start's.
  from_start : (k : ℕ) → k < Row.parameter_count → get_or (parameters_of row) k 0 ≡ get_or start (Row.alpha + k) 0
  from_start k l = ap (λ (ps : List ℕ). get_or ps k 0) a.parameters ∙ parameter_word start k l

  new_variance : f.variance ≡ next_variance (word start Row.upper_weight) (word start Row.lower_weight) (word row Row.variance) D
  unfolding figures_of figures_on state_of D
  new_variance =
      ap (λ (g : Figures). g.variance) (day_accepted row d f next e).figures
      ∙ ap₂ (λ (u l : ℕ). next_variance u l (word row Row.variance) D) (from_start 1 (lit< tt)) (from_start 2 (lit< tt))

  day_candidate : candidate_of row d f.variance ≡ candidate (word start Row.step) (word start Row.alpha) f.variance D shock
  unfolding candidate_on state_of D shock
  day_candidate = ap₂ (λ (h α : ℕ). candidate h α f.variance D shock) (from_start 3 (lit< tt)) (from_start 0 (lit< tt))

  new_preliminary : f.preliminary ≡ next_preliminary (word start Row.step) (parameter (parameters_of row) Row.no_fall) (word row Row.preliminary) (d.day - word row Row.last_change) (candidate_of row d f.variance)
  unfolding figures_of figures_on state_of
  new_preliminary =
      ap (λ (g : Figures). g.preliminary) (day_accepted row d f next e).figures
      ∙ ap₂ (λ (h v : ℕ). next_preliminary h (parameter (parameters_of row) Row.no_fall) (word row Row.preliminary) (d.day - word row Row.last_change) (candidate_of row d v))
      (from_start 3 (lit< tt)) (sym (ap (λ (g : Figures). g.variance) (day_accepted row d f next e).figures))

  -- The exact variance goes on over the same move.
  close_after : IsNear (smaller_weight start) (denominator (suc (length moves))) (exact_after start ((move_on row d).size ∷ moves)) f.variance
  unfolding exact_variance D
  close_after =
      subst⁻¹ (λ (N : ℕ). IsNear (smaller_weight start) N (exact_after start ((move_on row d).size ∷ moves)) f.variance) (pow-succ' 10000 (length moves))
      (subst⁻¹ (IsNear (smaller_weight start) (10000 * denominator (length moves)) (exact_after start ((move_on row d).size ∷ moves))) new_variance
      (day_stays (word start Row.upper_weight) (word start Row.lower_weight) (denominator (length moves)) D (exact_after start moves) (word row Row.variance)
      s.upper s.lower s.some (one-le-pow (length moves) 10000 (lit< tt)) a.close))

  covered : IsCovered (word start Row.step) (exact_candidate_of start moves row d) (candidate_of row d f.variance) f.preliminary
  unfolding D shock
  covered =
      let N = denominator (suc (length moves)) in
      let x = exact_after start ((move_on row d).size ∷ moves) in
      let positive = one-le-pow (suc (length moves)) 10000 (lit< tt) in
      let found = candidate_multiple (word start Row.step) (word start Row.alpha) f.variance D shock in
      record {
        not_below =
            subst⁻¹ (λ (c : ℕ). exact_candidate_of start moves row d ≤ c) day_candidate
            (candidate_not_below (word start Row.step) (word start Row.alpha) (smaller_weight start) N x D f.variance shock s.step s.alpha s.some positive close_after);
        one_step =
            subst⁻¹ (λ (c : ℕ). c ≤ exact_candidate_of start moves row d + word start Row.step) day_candidate
            (candidate_one_step (word start Row.step) (word start Row.alpha) (smaller_weight start) N x D f.variance shock s.step s.alpha s.some positive close_after);
        covered =
            subst⁻¹ (λ (q : ℕ). candidate_of row d f.variance ≤ q) new_preliminary
            (preliminary_covers (word start Row.step) _ (word row Row.preliminary) _ (candidate_of row d f.variance) a.count found.0 a.multiple (day_candidate ∙ found.1));
      }

  -- What holds along a run holds a day later.
  along_next : Along start next ((move_on row d).size ∷ moves)
  along_next =
      let F = figures_of row d in
      let says = day_accepted row d f next e in
      let found = candidate_multiple (word start Row.step) (word start Row.alpha) f.variance D shock in
      let q = preliminary_multiple (word start Row.step) (parameter (parameters_of row) Row.no_fall) (word row Row.preliminary) (d.day - word row Row.last_change) (candidate_of row d f.variance) a.count found.0 a.multiple (day_candidate ∙ found.1) in
      record {
        long = ap length says.leaves ∙ next_long row F d ∙ a.long;
        parameters = ap parameters_of says.leaves ∙ next_parameters row F d ∙ a.parameters;
        count = q.0;
        multiple =
            ap (λ (r : List ℕ). word r Row.preliminary) says.leaves ∙ next_word row F d 1 a.long (lit< tt)
            ∙ sym (ap (λ (g : Figures). g.preliminary) says.figures) ∙ new_preliminary ∙ q.1;
        close =
            subst⁻¹ (IsNear (smaller_weight start) (denominator (suc (length moves))) (exact_after start ((move_on row d).size ∷ moves)))
            (ap (λ (r : List ℕ). word r Row.variance) says.leaves ∙ next_word row F d 0 a.long (lit< tt)
            ∙ sym (ap (λ (g : Figures). g.variance) says.figures))
            close_after;
      }

at_start : (W v : ℕ) → IsNear W 1 v v
at_start W v =
    let none : v * 1 - v ≡ 0 = omega arith in
    record { not_below = omega arith; near = subst⁻¹ (λ (gap : ℕ). gap * W < 10000 * 1) none (omega arith) }

along : {start row moves : List ℕ} → row_in_range start ≡ true → Run start row moves → Along start row moves
unfolding exact_variance
along {start = start} sound begun =
    let s = started start sound in
    record {
      long = row_long start sound;
      parameters = refl;
      count = s.count;
      multiple = s.multiple;
      close = at_start (smaller_weight start) (word start Row.variance);
    }
along {start = start} sound (another {row = row} {next = next} {moves = moves} {f = f} d r e) =
    along_next start row moves (started start sound) (along sound r) d f next e

pub variance_drift : VarianceDrift
variance_drift start row moves sound run = (along sound run).close

pub candidate_drift : CandidateDrift
candidate_drift start row next moves d f sound run e =
    covered start row moves (started start sound) (along sound run) d f next e
