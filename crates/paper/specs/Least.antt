-- The least and the greatest number at which a test passes. What each finds is said by the laws of `proofs/Least.antt`.
use Rattle.std.specs.Prelude.{ℕ, zero, suc, ◌*◌, ◌-◌, Bool, true, false}

-- The least number from `k` on, at most `more` further, at which the test passes; `k + more` where none before it does.
unfoldable pub least_from : (ℕ → Bool) → ℕ → ℕ → ℕ
least_from passes k zero = k
least_from passes k (suc more) = elim (passes k) [ true ↦ k | false ↦ least_from passes (suc k) more ]

-- The least number up to `bound` at which the test passes; `bound` where none below it does.
unfoldable pub least : (ℕ → Bool) → ℕ → ℕ
least passes bound = least_from passes 0 bound

-- The greatest number up to `bound` at which the test passes, looking from `bound` down; 0 where none above it does.
unfoldable pub greatest : (ℕ → Bool) → ℕ → ℕ
greatest passes bound = bound - least (λ down. passes (bound - down)) bound

-- The least multiple of `h` at which the test passes; `bound` times `h` where none below it does.
unfoldable pub least_multiple : ℕ → (ℕ → Bool) → ℕ → ℕ
least_multiple h passes bound = h * least (λ k. passes (h * k)) bound
