-- Demand 3 from the prices: by induction over a run. Over the denominators of both, the prices' own variance and that of the whole moves go through a day with the squares of the exact move and of the whole one; what the bounds say of the squares they say of the variances. Assumes nothing.
use mathlib.Core.Path.{◌≡◌, refl, sym, ap, ap₂, subst, subst⁻¹, subst₂, ◌∙◌}
use mathlib.Core.Bool.{Bool, true, false, cond}
use mathlib.Core.List.{List, ◌∷◌}
use Prim.Native.Nat.{ℕ, suc, ◌+◌, ◌*◌, ◌-◌, ◌≤◌, ◌<◌, max}
use native.Mathlib.Nat.{le_trans, lt_of_not-le, mul-suc, mul-pos, mul-le-mul, mul-le-mul_left, mul-le-mul_right, mul-lt-mul_of_pos_right, le-mul_of_pos_right, le_of_mul-le-mul_right, lt_of_mul-lt-mul_right, le-max_left, le-max_right, pow-succ', one-le-pow, add-sub_of_le, le-min}
use native.Mathlib.Decide.{dec_le}
use native.Mathlib.Omega.{arith}
use borrow.Author.Tests.{le-leb}
use lib.Dec.{lit<}
use lib.ListN.{length, get_or}
use Rattle.paper.specs.Row as Row
use Rattle.paper.specs.Row.{word, parameters_of, row_in_range}
use Rattle.paper.specs.Rates.{Day, Figures, square, is_shock, covers_need, candidate, candidate_on, state_of, move_on, figures_of}
use Rattle.paper.specs.Exact.{denominator, exact_weight, exact_next, exact_variance}
use Rattle.paper.specs.Promises.Found.{IsLeastMultiple}
use Rattle.paper.specs.Promises.Drift.{smaller_weight, exact_after, IsNear, candidate_of}
use Rattle.paper_prices.specs.Days.{RunDay, met, moves_of, RunOver, no_days, a_day}
use Rattle.paper_prices.specs.Prices.{Fraction, exact_move_on, price_next, price_denominator, price_variance, covers_price_need, price_candidate, is_root_within_one, greatest_of}
use Rattle.paper_prices.specs.Promises.Fractions.{IsRoundedUp}
use Rattle.paper_prices.specs.Promises.Prices.{HavePrices, prices_after, prices_under, IsAbovePrices, VarianceFromPrices, CandidateFromPrices}
use Rattle.paper.proofs.Tests.{clash}
use Rattle.paper.proofs.Row.{in_from, in_to, row_long, row_word, parameter_word}
use Rattle.paper.proofs.Rates.{square_mono, need_covered, need_says}
use Rattle.paper.proofs.Found.{candidate_found}
use Rattle.paper.proofs.Roots.{root_mono}
use Rattle.paper.proofs.Days.{day_accepted, next_long, next_parameters, next_word}
use Rattle.paper.proofs.Drift.{variance_drift, candidate_drift}
use Rattle.paper_prices.proofs.Carry.{blend, blend_rises, blend_rises_square, blend_scaled, gap_carried, Apart, far_apart, apart_carried}
use Rattle.paper_prices.proofs.Days.{run_of}
use Rattle.paper_prices.proofs.Fractions.{move_is_rounded_up, rates_tell_alike, whole_at_most, exact_at_most, price_covered, price_says, price_found}

-- The prices' own variance x / M beside that of the whole moves, e / N, of which D is the greatest.
pub record AreCarried (D N e M x : ℕ) : Type 0 where
  pub positive : 0 < M
  pub below : x * N ≤ e * M
  pub apart : Apart (N * M) (e * M) (x * N)
  pub gap : e * M ≤ x * N + 2 * D * (N * M)

-- One day: a move p / q, and D, which is it rounded up.
module _ (u l N e M x G : ℕ) (move : Fraction) (D : ℕ) (hu : u ≤ 10000) (hl : l ≤ 10000) (some : 0 < N) (r : IsRoundedUp move D) (c : AreCarried G N e M x) where
  abbrev p : ℕ
  p = move.top

  abbrev q : ℕ
  q = move.bottom

  -- Over one denominator, K: the variances and the squares.
  abbrev K : ℕ
  K = square q * (N * M)

  abbrev a : ℕ
  a = e * (M * square q)

  abbrev b : ℕ
  b = x * square q * N

  abbrev s₁ : ℕ
  s₁ = square D * N * (M * square q)

  abbrev s : ℕ
  s = square p * M * N

  whole_next : exact_next u l N e D * (M * square q) ≡ blend u l s₁ a
  unfolding exact_next exact_weight blend
  whole_next = sym (blend_scaled u l (square D * N) e (M * square q) (mul-pos c.positive (mul-pos r.positive r.positive)))

  own_next : price_next u l M x move * N ≡ blend u l s b
  unfolding price_next exact_next exact_weight blend
  own_next = sym (blend_scaled u l (square p * M) (x * square q) N some)

  -- What the squares keep.
  squares_below : s ≤ s₁
  squares_below = omega (arith, mul-le-mul_right (M * N) (square_mono r.not_below))

  up : D * q ≤ p + q
  up = omega (arith, r.less_than_one)

  squares_apart : Apart K s₁ s
  squares_apart =
      let most : s₁ ≤ s + K + 2 * p * q * (N * M) = omega (arith, mul-le-mul_right (N * M) (square_mono up)) in
      let rest : s₁ - (s + K) ≤ 2 * p * q * (N * M) = omega arith in
      le_trans (square_mono rest) (omega arith)

  squares_gap : s₁ ≤ s + 2 * max D G * K
  squares_gap =
      let t = D * q in
      let near : square t ≤ square p + 2 * (t * q)
      = omega (arith, mul-le-mul_left t up, mul-le-mul_left p up, mul-le-mul_right q r.not_below) in
      let wide : D * K ≤ max D G * K = mul-le-mul_right K (le-max_left D G) in
      omega (arith, mul-le-mul_right (N * M) near)

  variances_gap : a ≤ b + 2 * max D G * K
  variances_gap =
      let wide : G * K ≤ max D G * K = mul-le-mul_right K (le-max_right D G) in
      omega (arith, mul-le-mul_right (square q) c.gap)

  variances_apart : Apart K a b
  variances_apart = far_apart (square q) (N * M) (e * M) (x * N) a b (omega arith) (omega arith) c.apart

  -- So what the variances keep.
  pub day_carried : AreCarried (max D G) (10000 * N) (exact_next u l N e D) (10000 * (M * square q)) (price_next u l M x move)
  day_carried =
      let A = blend u l s₁ a in
      let B = blend u l s b in
      let risen : B ≤ A
      = le_trans (blend_rises u l s b a hu hl (omega (arith, mul-le-mul_right (square q) c.below))) (blend_rises_square u l s s₁ a hu hl squares_below) in
      let wide : 10000 * (10000 * K) ≡ 10000 * N * (10000 * (M * square q)) = omega arith in
      record {
        positive = mul-pos (lit< tt) (mul-pos c.positive (mul-pos r.positive r.positive));
        below = omega (arith, whole_next, own_next);
        apart =
            subst (λ (k : ℕ). Apart k (exact_next u l N e D * (10000 * (M * square q))) (price_next u l M x move * (10000 * N))) wide
            (far_apart 10000 (10000 * K) A B _ _ (omega (arith, whole_next)) (omega (arith, own_next)) (apart_carried u l K a s₁ b s hu hl variances_apart squares_apart));
        gap = omega (arith, whole_next, own_next, gap_carried u l a s₁ b s (2 * max D G * K) hu hl variances_gap squares_gap);
      }

-- At the start both are V.
at_start : (v : ℕ) → AreCarried 0 1 v 1 v
at_start v =
    let none : v * 1 - (v * 1 + 1 * 1) ≡ 0 = omega arith in
    record { positive = lit< tt; below = omega arith; apart = omega (arith, ap square none); gap = omega arith }

-- What it says of a kept variance near that of the whole moves.
above_prices : (W D N e M x v : ℕ) → 0 < N → AreCarried D N e M x → IsNear W N e v → IsAbovePrices W D N e M x v
unfolding is_root_within_one
above_prices W D N e M x v some c near =
    let low : x ≤ v * M = le_of_mul-le-mul_right {k = N} (omega (arith, c.below, mul-le-mul_right M near.not_below)) some in
    record {
      positive = c.positive;
      not_below = low;
      exact_not_below = c.below;
      roots = le-leb _ _ c.apart;
      near =
          let g = v * M - x in
          let h = v * N - e in
          let whole : x + g ≡ v * M = add-sub_of_le low in
          let whole' : e + h ≡ v * N = add-sub_of_le near.not_below in
          lt_of_mul-lt-mul_right N
          (omega (
            arith,
            ap (λ (m : ℕ). m * W * N) whole,
            ap (λ (m : ℕ). m * W * M) whole',
            mul-lt-mul_of_pos_right near.near c.positive,
            mul-le-mul_right W c.gap,
          ));
    }

-- The move of a day on a row whose prices are above 0 is the exact one rounded up.
on_row : (row : List ℕ) (d : Day) → 0 < word row Row.newer → 0 < word row Row.older → IsRoundedUp (exact_move_on row d) (move_on row d).size
unfolding exact_move_on move_on
on_row row d p q = move_is_rounded_up (word row Row.newer) (word row Row.older) d.price p q

-- What holds all along a run: the row is long and has the start's parameters, its prices are above 0, and the two variances are carried.
record AlongPrices (start row : List ℕ) (days : List RunDay) : Type 0 where
  long : length row ≡ Row.width
  parameters : parameters_of row ≡ parameters_of start
  newer : 0 < word row Row.newer
  older : 0 < word row Row.older
  carried :
      let moves = moves_of days in
      AreCarried (greatest_of moves) (denominator (length moves)) (exact_after start moves) (prices_under days) (prices_after start days)

-- One accepted day more: the variances, whatever comes after, and the prices of the row that it leaves.
module _ (start row : List ℕ) (days : List RunDay) (sound : row_in_range start ≡ true) (a : AlongPrices start row days) (d : Day) where
  abbrev now : List RunDay
  now = met row d ∷ days

  carried_next : AreCarried (greatest_of (moves_of now)) (denominator (length (moves_of now))) (exact_after start (moves_of now)) (prices_under now) (prices_after start now)
  unfolding exact_variance price_denominator price_variance
  carried_next =
      let moves = moves_of days in
      subst⁻¹ (λ (N : ℕ). AreCarried (greatest_of (moves_of now)) N (exact_after start (moves_of now)) (prices_under now) (prices_after start now)) (pow-succ' 10000 (length moves))
      (day_carried (word start Row.upper_weight) (word start Row.lower_weight) (denominator (length moves)) (exact_after start moves) (prices_under days) (prices_after start days) (greatest_of moves)
      (exact_move_on row d) (move_on row d).size (in_to _ _ (row_word start sound Row.upper_weight (lit< tt))) (in_to _ _ (row_word start sound Row.lower_weight (lit< tt)))
      (one-le-pow (length moves) 10000 (lit< tt)) (on_row row d a.newer a.older) a.carried)

along_prices : {start row : List ℕ} {days : List RunDay} → row_in_range start ≡ true → HavePrices days → RunOver start row days → AlongPrices start row days
unfolding exact_variance price_denominator price_variance
along_prices {start = start} sound prices no_days =
    record {
      long = row_long start sound;
      parameters = refl;
      newer = in_from _ _ (row_word start sound Row.newer (lit< tt));
      older = in_from _ _ (row_word start sound Row.older (lit< tt));
      carried = at_start (word start Row.variance);
    }
along_prices {start = start} sound prices (a_day {row = row} {next = next} {days = days} {f = f} d run e) =
    let a = along_prices sound prices.1 run in
    let says = day_accepted row d f next e in
    let long = a.long in
    record {
      long = ap length says.leaves ∙ next_long row (figures_of row d) d ∙ long;
      parameters = ap parameters_of says.leaves ∙ next_parameters row (figures_of row d) d ∙ a.parameters;
      newer = subst⁻¹ (λ (n : ℕ). 0 < n) (ap (λ (r : List ℕ). word r Row.newer) says.leaves ∙ next_word row (figures_of row d) d 6 long (lit< tt)) prices.0;
      older = subst⁻¹ (λ (n : ℕ). 0 < n) (ap (λ (r : List ℕ). word r Row.older) says.leaves ∙ next_word row (figures_of row d) d 7 long (lit< tt)) a.newer;
      carried = carried_next start row days sound a d;
    }

pub variance_from_prices : VarianceFromPrices
variance_from_prices start row days sound prices run =
    above_prices _ _ _ _ _ _ _ (one-le-pow (length (moves_of days)) 10000 (lit< tt)) (along_prices sound prices run).carried (variance_drift start row (moves_of days) sound (run_of run))

-- The least multiple is at most one that passes.
least_at : (h : ℕ) (covers : ℕ → Bool) (found : ℕ) → IsLeastMultiple h covers found → (k : ℕ) → covers (h * k) ≡ true → found ≤ h * k
least_at h covers found f k e = go (dec_le found (h * k))
  where
    go : Dec (found ≤ h * k) → found ≤ h * k
    go (yes l) = l
    go (no n) = absurd (clash (covers (h * k)) e (f.none_below k (lt_of_not-le n)))

-- The candidate of a variance above the prices' own: not below the one that the prices give, and at most one step above it.
module _ (h alpha W G N e M x D v : ℕ) (move : Fraction) (shock : Bool) (step : 1000 ≤ h) (limit : alpha ≤ 4000) (some : 0 < W) (positive : 0 < N) (r : IsRoundedUp move D) (c : AreCarried G N e M x) (near : IsNear W N e v) where
  kept : IsLeastMultiple h (covers_need alpha v D shock) (candidate h alpha v D shock)
  kept = candidate_found h alpha v D shock (omega arith)

  own : IsLeastMultiple h (covers_price_need alpha M x move shock) (price_candidate h alpha M x move shock)
  own = price_found h alpha M x move shock (omega arith) c.positive r.positive

  -- On a shock day the same rates cover both moves.
  covers_exact : (shock : Bool) (y : ℕ) → cond shock D 0 ≤ y → cond shock move.top 0 ≤ y * move.bottom
  covers_exact true y l = whole_at_most move D r y l
  covers_exact false y l = omega arith

  covers_whole : (shock : Bool) (y : ℕ) → cond shock move.top 0 ≤ y * move.bottom → cond shock D 0 ≤ y
  covers_whole true y l = exact_at_most move D r y l
  covers_whole false y l = omega arith

  pub price_candidate_not_below : price_candidate h alpha M x move shock ≤ candidate h alpha v D shock
  price_candidate_not_below =
      let y = candidate h alpha v D shock in
      let says = need_says alpha v D y shock kept.covered in
      let low : x ≤ v * M = (above_prices W G N e M x v positive c near).not_below in
      let covered : covers_price_need alpha M x move shock y ≡ true
      = price_covered alpha M x move y shock (omega (arith, mul-le-mul_left (square alpha) low, mul-le-mul_right M says.0)) (covers_exact shock y says.1) in
      subst⁻¹ (λ (n : ℕ). price_candidate h alpha M x move shock ≤ n) kept.multiple
      (least_at h _ _ own kept.count (subst (λ (n : ℕ). covers_price_need alpha M x move shock n ≡ true) kept.multiple covered))

  -- The need of the kept variance is near that of the prices' own: with y a rate that covers the latter, and Z for 1,000 y,
  need_near : (y : ℕ) → square alpha * x ≤ square (1000 * y) * M → square alpha * v ≤ square (1000 * y) + 10001 * square alpha + 2 * alpha * (1000 * y)
  need_near y says =
      let K = N * M in
      let Z = 1000 * y in
      let X = e * M - (x * N + K) in
      let most : e * M ≤ x * N + K + X = omega arith in
      let root : alpha * X ≤ 2 * Z * K
      = root_mono (alpha * X) (2 * Z * K) (omega (arith, mul-le-mul_left (square alpha) c.apart, mul-le-mul_right (4 * N * K) says)) in
      let gap : v * N - e ≤ (v * N - e) * W = le-mul_of_pos_right (v * N - e) some in
      let less : v * N ≤ e + 10000 * N = omega (arith, near.near) in
      let whole : v * K ≤ x * N + 10001 * K + X = omega (arith, mul-le-mul_right M less) in
      le_of_mul-le-mul_right {k = K}
      (omega (arith, mul-le-mul_left (square alpha) whole, mul-le-mul_left alpha root, mul-le-mul_right N says)) (mul-pos positive c.positive)

  -- and one step makes more room than that.
  room : (y : ℕ) → square (1000 * y) + 10001 * square alpha + 2 * alpha * (1000 * y) ≤ square (1000 * (y + h))
  room y = omega (arith, mul-le-mul limit limit, mul-le-mul step step, mul-le-mul_right y limit, mul-le-mul_right y step)

  pub price_candidate_one_step : candidate h alpha v D shock ≤ price_candidate h alpha M x move shock + h
  price_candidate_one_step =
      let y = price_candidate h alpha M x move shock in
      let says = price_says alpha M x move y shock r.positive own.covered in
      let next : h * suc own.count ≡ y + h = mul-suc h own.count ∙ ap (λ (n : ℕ). n + h) (sym own.multiple) in
      let covered : covers_need alpha v D shock (y + h) ≡ true
      = need_covered alpha v D (y + h) shock (le_trans (need_near y says.0) (room y)) (omega (arith, covers_whole shock y says.1)) in
      subst (λ (n : ℕ). candidate h alpha v D shock ≤ n) next
      (least_at h _ _ kept (suc own.count) (subst⁻¹ (λ (n : ℕ). covers_need alpha v D shock n ≡ true) next covered))

pub candidate_from_prices : CandidateFromPrices
unfolding candidate_on state_of
candidate_from_prices start row next days d f sound prices run e =
    let a = along_prices sound prices run in
    let now : List RunDay = met row d ∷ days in
    let moves = moves_of now in
    let exact = exact_move_on row d in
    let D = (move_on row d).size in
    let up = on_row row d a.newer a.older in
    let margin = word row Row.margin in
    let shock = is_shock margin d.j D in
    let before = candidate_drift start row next (moves_of days) d f sound (run_of run) e in
    let says = day_accepted row d f next e in
    let variance : word next Row.variance ≡ f.variance
    = ap (λ (r : List ℕ). word r Row.variance) says.leaves ∙ next_word row (figures_of row d) d 0 a.long (lit< tt) ∙ sym (ap (λ (g : Figures). g.variance) says.figures) in
    let near : IsNear (smaller_weight start) (denominator (length moves)) (exact_after start moves) f.variance
    = subst (IsNear (smaller_weight start) (denominator (length moves)) (exact_after start moves)) variance (variance_drift start next moves sound (run_of (a_day d run e))) in
    let h = word start Row.step in
    let alpha = word start Row.alpha in
    let kept : candidate_of row d f.variance ≡ candidate h alpha f.variance D shock
    = ap₂ (λ (h alpha : ℕ). candidate h alpha f.variance D shock) (own_parameter 3 (lit< tt)) (own_parameter 0 (lit< tt)) in
    let same_shock = rates_tell_alike.shock exact D margin d.j up in
    let step : 1000 ≤ h = in_from _ _ (row_word start sound Row.step (lit< tt)) in
    let limit : alpha ≤ 4000 = in_to _ _ (row_word start sound Row.alpha (lit< tt)) in
    let some : 0 < smaller_weight start
    = le-min (in_from _ _ (row_word start sound Row.upper_weight (lit< tt))) (in_from _ _ (row_word start sound Row.lower_weight (lit< tt))) in
    let positive = one-le-pow (length moves) 10000 (lit< tt) in
    let carried = carried_next start row days sound a d in
    record {
      not_below =
          subst₂ (λ (kept : ℕ) (shock : Bool). price_candidate h alpha (prices_under now) (prices_after start now) exact shock ≤ kept) (sym kept) (sym same_shock)
          (price_candidate_not_below h alpha (smaller_weight start) (greatest_of moves) _ _ _ _ D f.variance exact shock step limit some positive up carried near);
      one_step =
          subst₂ (λ (kept : ℕ) (shock : Bool). kept ≤ price_candidate h alpha (prices_under now) (prices_after start now) exact shock + h) (sym kept) (sym same_shock)
          (price_candidate_one_step h alpha (smaller_weight start) (greatest_of moves) _ _ _ _ D f.variance exact shock step limit some positive up carried near);
      covered = before.covered;
    }
  where
    -- The parameters are the start's.
    own_parameter : (k : ℕ) → k < Row.parameter_count → get_or (parameters_of row) k 0 ≡ get_or start (Row.alpha + k) 0
    own_parameter k l = ap (λ (ps : List ℕ). get_or ps k 0) (along_prices sound prices run).parameters ∙ parameter_word start k l
