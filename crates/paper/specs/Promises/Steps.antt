-- How the preliminary moves: up to the candidate at once, down by one step and not before its days.
-- h is the step, n the no-fall period, old the preliminary kept, days the days since change as the day finds them, c the candidate.
use Rattle.std.specs.Prelude.{ℕ, ◌+◌, ◌-◌, ◌≤◌, ◌<◌, ◌≡◌}
use Rattle.paper.specs.Rates.{next_preliminary, next_days}

-- The preliminary and the days since change become these.
pub record Becomes (h n old days c preliminary since : ℕ) : Type 0 where
  pub rate : next_preliminary h n old days c ≡ preliminary
  pub count : next_days h n old days c ≡ since

-- A candidate at least h above is taken at once.
abbrev pub RisesAtOnce : Type 0
RisesAtOnce = (h n old days c : ℕ) → old + h ≤ c → Becomes h n old days c c 0

-- A candidate at least h below lowers it by h, once the days since change reach n.
abbrev pub FallsOneStep : Type 0
FallsOneStep = (h n old days c : ℕ) → 0 < h → c + h ≤ old → n ≤ days → Becomes h n old days c (old - h) 0

-- Before that it is kept, and so are the days.
abbrev pub FallWaits : Type 0
FallWaits = (h n old days c : ℕ) → 0 < h → c + h ≤ old → days < n → Becomes h n old days c old days

-- So it is where the candidate is nearer than h.
abbrev pub NearIsKept : Type 0
NearIsKept = (h n old days c : ℕ) → c < old + h → old < c + h → Becomes h n old days c old days

-- It never falls by more than h.
abbrev pub NeverTwoSteps : Type 0
NeverTwoSteps = (h n old days c : ℕ) → old ≤ next_preliminary h n old days c + h
