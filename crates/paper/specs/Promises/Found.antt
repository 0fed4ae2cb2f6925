-- What the searches of the definitions find: the least multiple of h, and the least and the greatest tick. No bound of theirs ever cuts them short.
use Rattle.std.specs.Prelude.{ℕ, ◌*◌, ◌≤◌, ◌<◌, min, ◌≡◌, Bool, true, false, ◌&&◌, leb}
use Rattle.paper.specs.Least.{least, greatest}
use Rattle.paper.specs.Rates.{covers_need, candidate, covers_margin, margin_bound, covers_concentration, concentration_bound, rounded_up}
use Rattle.paper.specs.Rates.{published_margin, published_concentration}
use Rattle.paper.specs.Corridor.{Terms, Ticks, empty, between, is_within, ticks_within, corridor_on}

-- The first number below an end at which something holds; the end where it holds at none.
pub record IsFirst (end : ℕ) (P : ℕ → Type 0) (k : ℕ) : Type 0 where
  pub not_past : k ≤ end
  pub holds : k < end → P k
  pub none_before : (j : ℕ) → j < k → P j → ⊥

-- The last number up to an end at which something holds; 0 where it holds at none above 0.
pub record IsLast (end : ℕ) (P : ℕ → Type 0) (k : ℕ) : Type 0 where
  pub not_past : k ≤ end
  pub holds : 0 < k → P k
  pub none_after : (j : ℕ) → k < j → j ≤ end → P j → ⊥

-- The two searches find these.
pub record SearchesFind : Type 0 where
  pub first : (passes : ℕ → Bool) (end : ℕ) → IsFirst end (λ k. passes k ≡ true) (least passes end)
  pub last : (passes : ℕ → Bool) (end : ℕ) → IsLast end (λ k. passes k ≡ true) (greatest passes end)

-- A number is the least multiple of h that a test passes.
pub record IsLeastMultiple (h : ℕ) (covers : ℕ → Bool) (found : ℕ) : Type 0 where
  pub count : ℕ
  pub multiple : found ≡ h * count
  pub covered : covers found ≡ true
  pub none_below : (k : ℕ) → h * k < found → covers (h * k) ≡ false

-- The candidate is the least multiple of h not below the need.
abbrev pub CandidateFound : Type 0
CandidateFound =
    (h alpha v D : ℕ) (shock : Bool) → 0 < h → IsLeastMultiple h (covers_need alpha v D shock) (candidate h alpha v D shock)

-- What the margin publishes before the greatest rate is put to it is the least multiple of h not below the sum and not below the least rate.
abbrev pub MarginFound : Type 0
MarginFound =
    (h T m R preliminary least : ℕ) → 0 < h → 0 < T
    → IsLeastMultiple h (λ X. covers_margin preliminary T m R X && leb least X)
    (rounded_up h least (covers_margin preliminary T m R) (margin_bound preliminary T m R))

-- The same of the concentration.
abbrev pub ConcentrationFound : Type 0
ConcentrationFound =
    (h T L m R preliminary least : ℕ) → 0 < h → 0 < T
    → IsLeastMultiple h (λ X. covers_concentration preliminary T m R L X && leb least X)
    (rounded_up h least (covers_concentration preliminary T m R L) (concentration_bound preliminary T m R L))

-- What is published: with M 1 that multiple, then no more than the greatest rate; with M 0 the least rate.
pub record PublishedRates : Type 0 where
  pub margin :
      (h T R least greatest preliminary m : ℕ) → published_margin 1 h T R least greatest preliminary m
      ≡ min (rounded_up h least (covers_margin preliminary T m R) (margin_bound preliminary T m R)) greatest
  pub concentration :
      (h T L R least greatest preliminary m : ℕ) → published_concentration 1 h T L R least greatest preliminary m
      ≡ min (rounded_up h least (covers_concentration preliminary T m R L) (concentration_bound preliminary T m R L)) greatest
  pub margin_unmonitored : (h T R least greatest preliminary m : ℕ) → published_margin 0 h T R least greatest preliminary m ≡ least
  pub concentration_unmonitored : (h T L R least greatest preliminary m : ℕ) → published_concentration 0 h T L R least greatest preliminary m ≡ least

-- A price is a positive multiple of the tick that is within.
pub record IsTick (within : ℕ → Bool) (tick price : ℕ) : Type 0 where
  pub count : ℕ
  pub positive : 0 < count
  pub multiple : price ≡ tick * count
  pub inside : within price ≡ true

-- A lowest and a highest are ticks within, and every tick within stands between them; empty, no tick is within.
abbrev pub AreTicks : (ℕ → Bool) → ℕ → Ticks → Type 0
AreTicks within tick empty = (i : ℕ) → 0 < i → within (tick * i) ≡ false
AreTicks within tick (between lowest highest) =
    IsTick within tick lowest
    × IsTick within tick highest
    × ((i : ℕ) → 0 < i → within (tick * i) ≡ true → (lowest ≤ tick * i) × (tick * i ≤ highest))

-- The search finds them, whatever the test of a price, where none that passes it has a number past the last.
abbrev pub TicksFound : Type 0
TicksFound =
    (within : ℕ → Bool) (tick last : ℕ) → ((i : ℕ) → within (tick * i) ≡ true → i ≤ last) → AreTicks within tick (ticks_within within tick last)

-- The corridor's answer is the least and the greatest positive multiple of the tick within the exact corridor, or empty.
abbrev pub CorridorFound : Type 0
CorridorFound =
    (P margin M : ℕ) (t : Terms) → 0 < t.tick → AreTicks (is_within P margin M t) t.tick (corridor_on P margin M t)
