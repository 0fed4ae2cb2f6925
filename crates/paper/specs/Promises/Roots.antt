-- The squared comparisons say what they mean, with no real number: a fraction r/n is not above the root of S/T exactly when r² T is at most S n²,
-- and a statement about a root is one about every fraction that is not above it.
use Rattle.std.specs.Prelude.{ℕ, ◌+◌, ◌*◌, ◌≤◌, ◌<◌, ◌≡◌, true, false, ◌↔◌}
use Rattle.paper.specs.Rates.{square, covers_need, covers_margin, roots_within, covers_concentration}
use Rattle.paper.specs.Exact.{covers_exact_need}

-- r/n is a fraction not above the root of S/T.
pub record IsUnder (S T r n : ℕ) : Type 0 where
  pub positive : 0 < n
  pub under : square r * T ≤ S * square n

-- A rate covers the need, alpha in thousandths times the root of V, exactly when 1,000 c n is not below alpha r for every fraction r/n not above the root.
-- On a shock day it is not below D besides.
abbrev pub NeedMeans : Type 0
NeedMeans =
    (alpha v D c : ℕ) → (covers_need alpha v D false c ≡ true) ↔ ((r n : ℕ) → IsUnder v 1 r n → alpha * r ≤ 1000 * c * n)

abbrev pub ShockMeans : Type 0
ShockMeans =
    (alpha v D c : ℕ) → (covers_need alpha v D true c ≡ true) ↔ ((covers_need alpha v D false c ≡ true) × (D ≤ c))

-- The exact need is the same of the root of e/N.
pub record ExactNeedMeans : Type 0 where
  pub need : (alpha N e D c : ℕ) → 0 < N → (covers_exact_need alpha N e D false c ≡ true) ↔ ((r n : ℕ) → IsUnder e N r n → alpha * r ≤ 1000 * c * n)
  pub shock : (alpha N e D c : ℕ) → (covers_exact_need alpha N e D true c ≡ true) ↔ ((covers_exact_need alpha N e D false c ≡ true) × (D ≤ c))

-- A rate X covers the margin's sum, the preliminary times the root of (T + m)/T, plus R,
-- exactly when X n is not below preliminary r plus R n for every fraction r/n not above that root.
abbrev pub MarginMeans : Type 0
MarginMeans =
    (preliminary T m R X : ℕ) → 0 < T
    → (covers_margin preliminary T m R X ≡ true) ↔ ((r n : ℕ) → IsUnder (T + m) T r n → preliminary * r + R * n ≤ X * n)

-- A rate X covers the concentration's sum, that of the margin with R inside, times the root of L/T,
-- exactly when X n k is not below (preliminary r + R n) s for all fractions r/n not above the root of (T + m)/T and s/k not above the root of L/T.
abbrev pub ConcentrationMeans : Type 0
ConcentrationMeans =
    (preliminary T m R L X : ℕ) → 0 < T
    → (covers_concentration preliminary T m R L X ≡ true)
    ↔ ((r n s k : ℕ) → IsUnder (T + m) T r n → IsUnder L T s k → (preliminary * r + R * n) * s ≤ X * n * k)

-- The root of A plus the root of B is at most the root of Y exactly when
-- for all fractions a/n and b/n not above the two roots their sum is not above the third: (a + b)² is at most Y n².
abbrev pub RootsMean : Type 0
RootsMean =
    (A B Y : ℕ) → (roots_within A B Y ≡ true) ↔ ((a b n : ℕ) → IsUnder A 1 a n → IsUnder B 1 b n → square (a + b) ≤ Y * square n)
