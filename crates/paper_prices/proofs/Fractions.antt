-- The exact move, by the test of the two quotients; that the whole move is it rounded up; what whole rates tell of it; and the next variance as a function of the variance and of the move. Assumes nothing.
use mathlib.Core.Path.{◌≡◌, refl, ap, ap₂, subst, subst₂, ◌∙◌}
use mathlib.Core.Bool.{Bool, true, false, cond, ◌&&◌}
use mathlib.Core.List.{[], ◌∷◌}
use mathlib.Core.Logic.{◌↔◌}
use Prim.Native.Nat.{ℕ, suc, ◌+◌, ◌*◌, ◌-◌, ◌≤◌, ◌<◌, max}
use native.Mathlib.Nat.{le_trans, le_of_lt, le_of_suc-le-suc, mul_comm, mul-sub, add-mul, mul-le-mul_right, mul-lt-mul_of_pos_right, le_of_mul-le-mul_right, lt_of_mul-lt-mul_right, mul-pos, le-mul_of_pos_right, le-max_left, le-max_right, max-le, max_comm, max-eq_left}
use native.Mathlib.Omega.{arith}
use borrow.Author.Tests.{ltb-true, ltb-false, lt-ltb}
use lib.Dec.{leb, ltb}
use Rattle.paper.specs.Rates.{square, distance, move_from, move, is_shock}
use Rattle.paper.specs.Exact.{exact_weight, exact_next}
use Rattle.paper_prices.specs.Prices.{Fraction, quotient, is_less, exact_move, price_next, price_shock, covers_price_need, price_candidate, greatest_of}
use Rattle.paper_prices.specs.Promises.Fractions.{ReachesBy, ExactMoveMeans, IsRoundedUp, MoveIsRoundedUp, RatesTellAlike, RisesWithVariance, RisesWithMove, PriceNeedMeans, PriceFound, GreatestMeans}
use Rattle.paper.proofs.Tests.{same_test}
use Rattle.paper.proofs.Rates.{square_mono, square_times, le_times, ceil_covers, ceil_tight}
use Rattle.paper.proofs.Limits.{cond_le}
use Rattle.paper.proofs.Found.{found}
use Rattle.paper.proofs.Roots.{exact_need_means}
use Rattle.paper.proofs.Exact.{variance_rises, exact_covered, exact_says}
use Rattle.paper_prices.proofs.Carry.{blend, blend_rises_square, blend_scaled}

-- One fraction is at most another.
abbrev AtMost : Fraction → Fraction → Type 0
AtMost a b = a.top * b.bottom ≤ b.top * a.bottom

-- The exact move is one of the quotients, and not below the other.
module _ (newer older price : ℕ) (P : Fraction → Type 0) where
  abbrev a : Fraction
  a = quotient newer price

  abbrev b : Fraction
  b = quotient older price

  by_larger : (AtMost b a → P a) → (AtMost a b → P b) → P (exact_move newer older price)
  unfolding exact_move is_less
  by_larger first second = go (ltb (a.top * b.bottom) (b.top * a.bottom)) refl
    where
      go : (t : Bool) → ltb (a.top * b.bottom) (b.top * a.bottom) ≡ t → P (cond t b a)
      go true e = second (le_of_lt (ltb-true (a.top * b.bottom) (b.top * a.bottom) e))
      go false e = first (ltb-false (a.top * b.bottom) (b.top * a.bottom) e)

-- The order of fractions goes on.
at_most_trans : (a b : Fraction) (D n : ℕ) → 0 < b.bottom → AtMost a b → b.top * n ≤ D * b.bottom → a.top * n ≤ D * a.bottom
at_most_trans a b D n positive h k =
    le_of_mul-le-mul_right {k = b.bottom} (omega (arith, mul-le-mul_right n h, mul-le-mul_right a.bottom k)) positive

-- The quotient against one price is at most D / n exactly when it reaches.
distance_times : (a b c : ℕ) → distance a b * c ≡ (a * c - b * c) + (b * c - a * c)
distance_times a b c =
    add-mul (a - b) (b - a) c ∙ ap₂ (λ (x y : ℕ). x + y) (times a b) (times b a)
  where
    times : (x y : ℕ) → (x - y) * c ≡ x * c - y * c
    times x y = mul_comm (x - y) c ∙ mul-sub c x y ∙ ap₂ (λ (m n : ℕ). m - n) (mul_comm c x) (mul_comm c y)

quotient_reaches : (kept price D n : ℕ) → (quotient kept price).top * n ≤ D * (quotient kept price).bottom → ReachesBy kept price D n
unfolding quotient
quotient_reaches kept price D n h =
    let far : distance price kept * (1000000 * n) ≡ (price * (1000000 * n) - kept * (1000000 * n)) + (kept * (1000000 * n) - price * (1000000 * n))
    = distance_times price kept (1000000 * n) in
    record { above = omega arith; below = omega arith }

reaches_quotient : (kept price D n : ℕ) → ReachesBy kept price D n → (quotient kept price).top * n ≤ D * (quotient kept price).bottom
unfolding quotient
reaches_quotient kept price D n r =
    let far : distance price kept * (1000000 * n) ≡ (price * (1000000 * n) - kept * (1000000 * n)) + (kept * (1000000 * n) - price * (1000000 * n))
    = distance_times price kept (1000000 * n) in
    omega arith

pub exact_move_means : ExactMoveMeans
unfolding quotient
exact_move_means newer older price D n p q =
    by_larger newer older price
    (λ exact. (exact.top * n ≤ D * exact.bottom) ↔ (ReachesBy newer price D n × ReachesBy older price D n))
    (λ h. (
      λ k. (quotient_reaches newer price D n k, quotient_reaches older price D n (at_most_trans (quotient older price) (quotient newer price) D n p h k)),
      λ r. reaches_quotient newer price D n r.0,
    ))
    (λ h. (
      λ k. (quotient_reaches newer price D n (at_most_trans (quotient newer price) (quotient older price) D n q h k), quotient_reaches older price D n k),
      λ r. reaches_quotient older price D n r.1,
    ))

-- The larger of two fractions rounded up is the larger one rounded up.
larger_up : (a b : Fraction) (D E : ℕ) → IsRoundedUp a D → IsRoundedUp b E → AtMost b a → IsRoundedUp a (max D E)
larger_up a b D E r t h =
    let less : E * a.bottom < a.top + a.bottom
    = lt_of_mul-lt-mul_right b.bottom
    (omega (arith, mul-lt-mul_of_pos_right t.less_than_one r.positive)) in
    let same : E ≤ D = le_of_suc-le-suc (lt_of_mul-lt-mul_right a.bottom (omega (arith, r.not_below))) in
    rw (max-eq_left same) r

-- The move against one price is its quotient rounded up, so the move is the larger one rounded up.
rounded_from : (kept price : ℕ) → 0 < kept → IsRoundedUp (quotient kept price) (move_from kept price)
unfolding quotient move_from
rounded_from kept price positive =
    let far = distance price kept * 1000000 in
    record { positive = positive; not_below = ceil_covers far kept positive; less_than_one = ceil_tight far kept positive }

pub move_is_rounded_up : MoveIsRoundedUp
unfolding move
move_is_rounded_up newer older price p q =
    let a = quotient newer price in
    let b = quotient older price in
    let D = move_from newer price in
    let E = move_from older price in
    by_larger newer older price (λ exact. IsRoundedUp exact (max D E))
    (larger_up a b D E (rounded_from newer price p) (rounded_from older price q))
    (λ h. subst (IsRoundedUp b) (max_comm E D) (larger_up b a E D (rounded_from older price q) (rounded_from newer price p) h))

-- Whole rates.
module _ (exact : Fraction) (D : ℕ) (r : IsRoundedUp exact D) where
  pub whole_at_most : (c : ℕ) → D ≤ c → exact.top ≤ c * exact.bottom
  whole_at_most c l = le_trans r.not_below (mul-le-mul_right exact.bottom l)

  pub exact_at_most : (c : ℕ) → exact.top ≤ c * exact.bottom → D ≤ c
  exact_at_most c h = le_of_suc-le-suc (lt_of_mul-lt-mul_right exact.bottom {m = D} {n = suc c} (omega (arith, r.less_than_one)))

  same_shock : (margin j : ℕ) → price_shock margin j exact ≡ is_shock margin j D
  unfolding price_shock is_shock
  same_shock margin j =
      ap (λ (t : Bool). t && leb j 1)
      (same_test (ltb (margin * exact.bottom) exact.top) (ltb margin D)
      (λ e. lt-ltb margin D (lt_of_mul-lt-mul_right exact.bottom (omega (arith, ltb-true (margin * exact.bottom) exact.top e, r.not_below))))
      (λ e. lt-ltb (margin * exact.bottom) exact.top (omega (arith, mul-le-mul_right exact.bottom (ltb-true margin D e), r.less_than_one))))

pub rates_tell_alike : RatesTellAlike
rates_tell_alike =
    record {
      at_most = λ exact D c r. (whole_at_most exact D r c, exact_at_most exact D r c);
      shock = λ exact D margin j r. same_shock exact D r margin j;
    }

pub rises_with_variance : RisesWithVariance
unfolding price_next
rises_with_variance upper lower M x x' exact hu hl h =
    variance_rises upper lower M exact.top (x * square exact.bottom) (x' * square exact.bottom) hu hl (mul-le-mul_right (square exact.bottom) h)

pub rises_with_move : RisesWithMove
unfolding price_next exact_next exact_weight blend
rises_with_move upper lower M x less more hu hl p q h =
    let Q = square less.bottom in
    let R = square more.bottom in
    let same : x * Q * R ≡ x * R * Q = omega arith in
    let squares : square less.top * M * R ≤ square more.top * M * Q = omega (arith, mul-le-mul_right M (square_mono h)) in
    subst₂ (λ (m n : ℕ). m ≤ n) (blend_scaled upper lower (square less.top * M) (x * Q) R (mul-pos q q))
    (ap (blend upper lower (square more.top * M * Q)) same ∙ blend_scaled upper lower (square more.top * M) (x * R) Q (mul-pos p p))
    (blend_rises_square upper lower (square less.top * M * R) (square more.top * M * Q) (x * Q * R) hu hl squares)

-- A rate covers the need of the prices where its square, times M, does and, on a shock day, the exact move.
module _ (alpha M x : ℕ) (exact : Fraction) (c : ℕ) where
  abbrev Q : ℕ
  Q = square exact.bottom

  pub price_covered : (shock : Bool) → square alpha * x ≤ square (1000 * c) * M → cond shock exact.top 0 ≤ c * exact.bottom → covers_price_need alpha M x exact shock c ≡ true
  unfolding covers_price_need
  price_covered shock h l =
      exact_covered alpha M (x * Q) exact.top (c * exact.bottom) shock (omega (arith, mul-le-mul_right Q h)) l

  pub price_says : (shock : Bool) → 0 < exact.bottom → covers_price_need alpha M x exact shock c ≡ true → (square alpha * x ≤ square (1000 * c) * M) × (cond shock exact.top 0 ≤ c * exact.bottom)
  unfolding covers_price_need
  price_says shock positive e =
      let says = exact_says alpha M (x * Q) exact.top (c * exact.bottom) shock e in
      (le_of_mul-le-mul_right {k = Q} (omega (arith, says.0)) (mul-pos positive positive), says.1)

pub price_need_means : PriceNeedMeans
unfolding covers_price_need
price_need_means =
    record {
      need = λ alpha M x exact c positive p. (
        λ e. (exact_need_means.need alpha M x 0 c positive).0 (exact_covered alpha M x 0 c false (price_says alpha M x exact c false p e).0 (omega arith)),
        λ all.
            price_covered alpha M x exact c false (exact_says alpha M x 0 c false ((exact_need_means.need alpha M x 0 c positive).1 all)).0 (omega arith),
      );
      shock = λ alpha M x exact c. exact_need_means.shock alpha M (x * square exact.bottom) exact.top (c * exact.bottom);
    }

pub price_found : PriceFound
unfolding price_candidate
price_found h alpha M x exact shock step positive p =
    let bound = alpha * (x + 1) + exact.top in
    let far : bound ≤ h * bound = le_times h bound step in
    let wide : h * bound ≤ h * bound * exact.bottom = le-mul_of_pos_right (h * bound) p in
    found h (covers_price_need alpha M x exact shock) bound
    (price_covered alpha M x exact (h * bound) shock
    (le_trans (square_times alpha x) (le_trans (square_mono (omega arith)) (le-mul_of_pos_right (square (1000 * (h * bound))) positive)))
    (cond_le shock exact.top 0 (h * bound * exact.bottom) (omega arith) (omega arith)))

pub greatest_means : GreatestMeans
greatest_means [] n = (λ l. tt, λ e. omega arith)
greatest_means (D ∷ moves) n = (
  λ l. (le_trans (le-max_left D (greatest_of moves)) l, (greatest_means moves n).0 (le_trans (le-max_right D (greatest_of moves)) l)),
  λ e. max-le e.0 ((greatest_means moves n).1 e.1),
)
