-- Demand 1: every call, on any book, ends with a result or with one numbered refusal of those listed for it;
-- a refused call hands out zeros and leaves the book as it was.
use Rattle.std.specs.Prelude.{ℕ, ◌*◌, ◌≤◌, ◌<◌, ◌≡◌, Bool, false, List, [], ◌∷◌}
use Rattle.paper.specs.Refusal.{Refusal, number}
use Rattle.paper.specs.Row as Row
use Rattle.paper.specs.Row.{word, parameter}
use Rattle.paper.specs.Rates.{Day, refused, move_on}
use Rattle.paper.specs.Corridor.{empty, is_within}
use Rattle.paper.specs.Bond.{is_bond_within}
use Rattle.paper.specs.Book.{row_for}
use Rattle.paper.specs.Calls.{Call, opening, closing, parameters, halt, day, why, corridor, bond, day_figures, why_figures, ticks_figures, Answer, answer, after, Kept}
use Rattle.paper.specs.Promises.Ranges.{IsFrom, IsRow, IsParameters, IsDay, AreTerms, IsBond}
use Rattle.paper.specs.Promises.Book.{IsFree, IsOpen, IsSoundBook}

-- A number that an instrument can have.
abbrev pub IsInstrument : ℕ → Type 0
IsInstrument i = IsFrom 1 999999999 i

-- A check: a refusal's number, and when it is given.
infix 2 ◌when◌
pub data Check : Type 1 where
  ◌when◌ : ℕ → Type 0 → Check

-- A number is a multiple of h.
abbrev pub IsMultiple : ℕ → ℕ → Type 0
IsMultiple h n = (k : ℕ) × (n ≡ h * k)

-- The checks of a day, given or asked about.
abbrev pub day_checks : List ℕ → Day → List Check
day_checks book d =
    (1 when ¬ IsSoundBook book)
    ∷ (2 when ¬ IsDay d)
    ∷ (5 when ¬ IsOpen book d.instrument)
    ∷ (12 when (word (row_for book d.instrument) Row.halted ≡ 1))
    ∷ (6 when (d.day ≤ word (row_for book d.instrument) Row.last_day))
    ∷ (7 when (1000000 < (move_on (row_for book d.instrument) d).size))
    ∷ []

-- The checks of a corridor: what it is asked with, the tick, and the test of a price by the newer price, the published margin and M that a row keeps.
abbrev pub tick_checks : List ℕ → ℕ → Type 0 → ℕ → (ℕ → ℕ → ℕ → ℕ → Bool) → List Check
tick_checks book i InRange tick within =
    (1 when ¬ IsSoundBook book)
    ∷ (2 when ¬ (IsInstrument i × InRange))
    ∷ (5 when ¬ IsOpen book i)
    ∷ (12 when (word (row_for book i) Row.halted ≡ 1))
    ∷ (8 when
    ((n : ℕ) → 0 < n
    → within (word (row_for book i) Row.newer) (word (row_for book i) Row.margin) (word (row_for book i) Row.monitored) (tick * n) ≡ false))
    ∷ []

-- The checks of each call, in the order of the table of refusals, Halted directly after Unknown.
abbrev pub checks_of : List ℕ → Call → List Check
checks_of book (opening row) =
    (1 when ¬ IsSoundBook book)
    ∷ (2 when ¬ IsRow row)
    ∷ (3 when IsOpen book (word row Row.instrument))
    ∷ (4 when ((k : ℕ) → k < 64 → ¬ IsFree book k))
    ∷ []
checks_of book (closing i) =
    (1 when ¬ IsSoundBook book)
    ∷ (2 when ¬ IsInstrument i)
    ∷ (5 when ¬ IsOpen book i)
    ∷ []
checks_of book (parameters i ps) =
    (1 when ¬ IsSoundBook book)
    ∷ (2 when ¬ (IsInstrument i × IsParameters ps))
    ∷ (5 when ¬ IsOpen book i)
    ∷ (10 when ¬ IsMultiple (parameter ps Row.step) (word (row_for book i) Row.preliminary))
    ∷ []
checks_of book (halt i value) =
    (1 when ¬ IsSoundBook book)
    ∷ (2 when ¬ (IsInstrument i × IsFrom 0 1 value))
    ∷ (5 when ¬ IsOpen book i)
    ∷ []
checks_of book (day d) = day_checks book d
checks_of book (why d) = day_checks book d
checks_of book (corridor i t) = tick_checks book i (AreTerms t) t.tick (λ P margin M. is_within P margin M t)
checks_of book (bond i t b) = tick_checks book i (AreTerms t × IsBond b) t.tick (λ P margin M. is_bond_within P margin M t b)

-- Checks give the number of the first whose condition holds, and 0 where none does.
pub data Give : List Check → ℕ → Type 1 where
  none : Give [] 0
  this : {n : ℕ} {condition : Type 0} {later : List Check} → condition → Give ((n when condition) ∷ later) n
  not_this : {n given : ℕ} {condition : Type 0} {later : List Check} → ¬ condition → Give later given → Give ((n when condition) ∷ later) given

-- Every call on every book ends with 0 or with one of the numbers listed for it, given exactly when its own condition holds and none before it does.
abbrev pub RefusesInOrder : Type 1
RefusesInOrder = (book : List ℕ) (call : Call) → Give (checks_of book call) (answer book call).number

-- A refused call hands out zeros, as many as it has figures.
abbrev pub zeros_for : Call → List ℕ
zeros_for (opening row) = []
zeros_for (closing i) = []
zeros_for (parameters i ps) = []
zeros_for (halt i value) = []
zeros_for (day d) = 0 ∷ 0 ∷ 0 ∷ 0 ∷ 0 ∷ 0 ∷ []
zeros_for (why d) = 0 ∷ 0 ∷ 0 ∷ 0 ∷ 0 ∷ 0 ∷ 0 ∷ 0 ∷ 0 ∷ 0 ∷ []
zeros_for (corridor i t) = 0 ∷ 0 ∷ []
zeros_for (bond i t b) = 0 ∷ 0 ∷ []

pub record RefusesWithZeros : Type 0 where
  pub calls : (book : List ℕ) (call : Call) → ¬ ((answer book call).number ≡ 0) → (answer book call).figures ≡ zeros_for call
  -- So do a refused day on a row, given or asked about, and an empty corridor.
  pub days : (refusal : Refusal) → day_figures (refused refusal) ≡ 0 ∷ 0 ∷ 0 ∷ 0 ∷ 0 ∷ 0 ∷ []
  pub askings : (row : List ℕ) (d : Day) (refusal : Refusal) → why_figures row d (refused refusal) ≡ 0 ∷ 0 ∷ 0 ∷ 0 ∷ 0 ∷ 0 ∷ 0 ∷ 0 ∷ 0 ∷ 0 ∷ []
  pub corridors : ticks_figures empty ≡ 0 ∷ 0 ∷ []

-- A refused call leaves the book as it was, each word.
abbrev pub RefusesUntouched : Type 0
RefusesUntouched = (book : List ℕ) (call : Call) → ¬ ((answer book call).number ≡ 0) → after book call ≡ book

-- The twelve refusals have the numbers from 1 to 12. They are checked in that order, but for Room, which comes after Book,
-- and Halted, which comes directly after Unknown.
abbrev pub Numbered : Type 0
Numbered =
    number Refusal.Book
    ∷ number Refusal.Range
    ∷ number Refusal.Known
    ∷ number Refusal.Full
    ∷ number Refusal.Unknown
    ∷ number Refusal.Stale
    ∷ number Refusal.Move
    ∷ number Refusal.Empty
    ∷ number Refusal.Line
    ∷ number Refusal.Step
    ∷ number Refusal.Room
    ∷ number Refusal.Halted
    ∷ []
    ≡ 1 ∷ 2 ∷ 3 ∷ 4 ∷ 5 ∷ 6 ∷ 7 ∷ 8 ∷ 9 ∷ 10 ∷ 11 ∷ 12 ∷ []

-- The promise of a call allows what the call answers and leaves,
abbrev pub PromiseMet : Type 0
PromiseMet = (book : List ℕ) (call : Call) → Kept book call (answer book call) (after book call)

-- and nothing else: two outcomes that it allows are equal.
abbrev pub OneOutcome : Type 0
OneOutcome =
    (book : List ℕ) (call : Call) (a a' : Answer) (l l' : List ℕ) → Kept book call a l → Kept book call a' l' → (a ≡ a') × (l ≡ l')
