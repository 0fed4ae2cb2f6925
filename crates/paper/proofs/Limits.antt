-- The figures of a day in range are in range: what each rule gives is within the bounds of the word that keeps it. Assumes nothing.
use mathlib.Core.Path.{◌≡◌}
use mathlib.Core.Bool.{Bool, true, false, cond}
use Prim.Native.Nat.{ℕ, ◌+◌, ◌*◌, ◌≤◌, ◌<◌}
use native.Mathlib.Nat.{le_trans, mul-le-mul, mul_comm, min-le_right}
use native.Mathlib.Omega.{arith}
use lib.Dec.{ltb, eqb}
use Rattle.paper.specs.Rates.{ceil_div, square, weight, next_variance, covers_need, candidate, next_preliminary, next_days, rounded_up, published}
use Rattle.paper.proofs.Least.{multiple_least}
use Rattle.paper.proofs.Rates.{ceil_covers, ceil_tight, mean_le, weighted, variance_tight, need_covered}
use Rattle.paper.proofs.Steps.{branches}

-- A choice has the bounds of both.
pub cond_le : (b : Bool) (x y M : ℕ) → x ≤ M → y ≤ M → cond b x y ≤ M
cond_le true x y M p q = p
cond_le false x y M p q = q

pub weight_limit : (upper lower v D M : ℕ) → upper ≤ M → lower ≤ M → weight upper lower v D ≤ M
unfolding weight
weight_limit upper lower v D M p q = cond_le (ltb v (square D)) upper lower M p q

-- The new variance is not above what bounds the old one and the move's square.
pub variance_limit : (upper lower v D M : ℕ) → upper ≤ 10000 → lower ≤ 10000 → v ≤ M → square D ≤ M → next_variance upper lower v D ≤ M
unfolding weighted
variance_limit upper lower v D M p q r s =
    let sum = mean_le (weight upper lower v D) v (square D) M (weight_limit upper lower v D 10000 p q) r s in
    omega (arith, variance_tight upper lower v D)

-- In range, the candidate is less than one step above 4,000,000.
pub candidate_limit : (h alpha v D : ℕ) (shock : Bool) → 0 < h → alpha ≤ 4000 → v ≤ 1000000000000 → D ≤ 1000000 → candidate h alpha v D shock < 4000000 + h
unfolding candidate
candidate_limit h alpha v D shock positive p q r =
    let at = h * ceil_div 4000000 h in
    let near : at < 4000000 + h = omega (arith, ceil_tight 4000000 h positive, mul_comm h (ceil_div 4000000 h)) in
    let far : 4000000 ≤ at = omega (arith, ceil_covers 4000000 h positive, mul_comm h (ceil_div 4000000 h)) in
    let covered : covers_need alpha v D shock at ≡ true
    = need_covered alpha v D at shock
    (le_trans (mul-le-mul {n₂ = 16000000} {m₂ = 1000000000000} (mul-le-mul p p) q)
    (mul-le-mul {n₁ = 4000000000} {m₁ = 4000000000} (omega arith) (omega arith)))
    (cond_le shock D 0 at (omega arith) (omega arith)) in
    omega (arith, multiple_least h (covers_need alpha v D shock) (alpha * (v + 1) + D) (ceil_div 4000000 h) covered)

-- The new preliminary is the candidate, or not above the old one.
pub preliminary_limit : (h n old days c M : ℕ) → old ≤ M → c ≤ M → next_preliminary h n old days c ≤ M
preliminary_limit h n old days c M p q = branches h n old days c (λ q' d. q' ≤ M) (λ r. q) (λ r f. omega arith) (λ r f. p)

-- Once a change has been taken in, there are no more days since it than before.
pub days_limit : (h n old days c : ℕ) → next_days h n old days c ≤ days
days_limit h n old days c = branches h n old days c (λ q d. d ≤ days) (λ r. omega arith) (λ r f. omega arith) (λ r f. omega arith)

-- A published rate is not above what neither its least nor its greatest is above.
pub published_limit : (M h least greatest : ℕ) (covers : ℕ → Bool) (bound N : ℕ) → least ≤ N → greatest ≤ N → published M h least greatest covers bound ≤ N
unfolding published
published_limit M h least greatest covers bound N p q =
    cond_le (eqb M 1) _ least N (le_trans (min-le_right (rounded_up h least covers bound) greatest) q) p
