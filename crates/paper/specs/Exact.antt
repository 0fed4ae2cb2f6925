-- The exact variance that demand 3 compares with: nothing is rounded, and its own size chooses its weight.
use Rattle.std.specs.Prelude.{ℕ, ◌+◌, ◌*◌, ◌-◌, ◌^◌, Bool, cond, not, ◌&&◌, ◌||◌, List, [], ◌∷◌, leb, ltb, length}
use Rattle.paper.specs.Least.{least_multiple}
use Rattle.paper.specs.Rates.{square}

-- The denominator after t days.
abbrev pub denominator : ℕ → ℕ
denominator t = 10000 ^ t

-- The weight for a move D: the upper one if D squared exceeds the exact variance e / N, else the lower one.
unfoldable pub exact_weight : ℕ → ℕ → ℕ → ℕ → ℕ → ℕ
exact_weight upper lower N e D = cond (ltb e (square D * N)) upper lower

-- One day more: (10,000 - w) e / N + w D squared, over 10,000. The numerator over 10,000 N is this.
unfoldable pub exact_next : ℕ → ℕ → ℕ → ℕ → ℕ → ℕ
exact_next upper lower N e D =
    let w = exact_weight upper lower N e D in
    (10000 - w) * e + w * (square D * N)

-- The numerator after the moves of a run, the last day's move first, from a variance V; its denominator is 10,000 to the power of their number.
unfoldable pub exact_variance : ℕ → ℕ → ℕ → List ℕ → ℕ
exact_variance upper lower v [] = v
exact_variance upper lower v (D ∷ before) =
    exact_next upper lower (denominator (length before)) (exact_variance upper lower v before) D

-- A rate c is not below the exact need: the squares of alpha root (e / N) and of 1,000 c, times N, are compared; on a shock day also D.
unfoldable pub covers_exact_need : ℕ → ℕ → ℕ → ℕ → Bool → ℕ → Bool
covers_exact_need alpha N e D shock c = leb (square alpha * e) (square (1000 * c) * N) && (not shock || leb D c)

-- The candidate that the exact variance gives.
unfoldable pub exact_candidate : ℕ → ℕ → ℕ → ℕ → ℕ → Bool → ℕ
exact_candidate h alpha N e D shock = least_multiple h (covers_exact_need alpha N e D shock) (alpha * (e + 1) + D)
