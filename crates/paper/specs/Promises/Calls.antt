-- What an accepted call hands out and leaves, the one row that it touches, and the one row that it reads.
use Rattle.std.specs.Prelude.{ℕ, ◌+◌, ◌*◌, ◌≤◌, ◌<◌, ◌≡◌, true, List, [], ◌∷◌, ◌↔◌, ◌⊎◌, get_or}
use Rattle.paper.specs.Row as Row
use Rattle.paper.specs.Row.{width, word}
use Rattle.paper.specs.Rates.{price_number, Figures, accepted, day_on}
use Rattle.paper.specs.Reasons.{weight_number, shock_number, branch_number, set_by_number, reasons_of}
use Rattle.paper.specs.Corridor.{Ticks, between, corridor_on}
use Rattle.paper.specs.Bond.{bond_on}
use Rattle.paper.specs.Book.{place_for, row_for, free_place, is_sound}
use Rattle.paper.specs.Calls.{Call, opening, closing, parameters, halt, day, why, corridor, bond, answer, after}
use Rattle.paper.specs.Values.{Parameters, parameter_words, Values, words}
use Rattle.paper.specs.Promises.Book.{Holds, IsFree, IsOpen}

-- The row of the instrument keeps these values.
abbrev pub Keeps : List ℕ → ℕ → Values → Type 0
Keeps book i v = row_for book i ≡ words v

-- A lowest and a highest, those that a rule gives of the newer price, the published margin and M that the row keeps.
abbrev pub HandsTicks : List ℕ → ℕ → (ℕ → ℕ → ℕ → Ticks) → List ℕ → Type 0
HandsTicks book i rule figures =
    (v : Values) × Keeps book i v × (lowest : ℕ) × (highest : ℕ) × (rule v.newer v.margin v.parameters.M ≡ between lowest highest)
    × (figures ≡ lowest ∷ highest ∷ [])

-- What an accepted call hands out: a day its six figures, and where it is asked about its four reasons after them,
-- a corridor its lowest and highest.
abbrev pub HandsOut : List ℕ → Call → List ℕ → Type 0
HandsOut book (opening row) figures = figures ≡ []
HandsOut book (closing i) figures = figures ≡ []
HandsOut book (parameters i ps) figures = figures ≡ []
HandsOut book (halt i value) figures = figures ≡ []
HandsOut book (day d) figures =
    (f : Figures) × (next : List ℕ) × (day_on (row_for book d.instrument) d ≡ accepted f next)
    × (figures ≡ f.margin ∷ f.concentration ∷ f.preliminary ∷ f.variance ∷ f.days ∷ price_number f.from ∷ [])
HandsOut book (why d) figures =
    (f : Figures) × (next : List ℕ) × (day_on (row_for book d.instrument) d ≡ accepted f next)
    × let r = reasons_of (row_for book d.instrument) d f in
    figures
    ≡ f.margin ∷ f.concentration ∷ f.preliminary ∷ f.variance ∷ f.days ∷ price_number f.from
    ∷ weight_number r.weight ∷ shock_number r.shock ∷ branch_number r.branch ∷ set_by_number r.margin ∷ []
HandsOut book (corridor i t) figures = HandsTicks book i (λ P margin M. corridor_on P margin M t) figures
HandsOut book (bond i t b) figures = HandsTicks book i (λ P margin M. bond_on P margin M t b) figures

abbrev pub CallHandsOut : Type 0
CallHandsOut = (book : List ℕ) (call : Call) → (answer book call).number ≡ 0 → HandsOut book call (answer book call).figures

-- The values with other parameters.
abbrev pub with_parameters : Values → Parameters → Values
with_parameters v p =
    record {
      instrument = v.instrument;
      parameters = p;
      variance = v.variance;
      preliminary = v.preliminary;
      margin = v.margin;
      concentration = v.concentration;
      last_change = v.last_change;
      last_day = v.last_day;
      newer = v.newer;
      older = v.older;
      halted = v.halted;
    }

-- The values with another word for halted.
abbrev pub with_halt : Values → ℕ → Values
with_halt v value =
    record {
      instrument = v.instrument;
      parameters = v.parameters;
      variance = v.variance;
      preliminary = v.preliminary;
      margin = v.margin;
      concentration = v.concentration;
      last_change = v.last_change;
      last_day = v.last_day;
      newer = v.newer;
      older = v.older;
      halted = value;
    }

-- What an accepted call leaves. Opening: just these values in the lowest free row. Closing: the instrument is open nowhere, and its row is zeros.
-- New parameters: they, and the other words. A halt: its value, and the other words. A day: its next row. An asking and a
-- corridor: everything.
abbrev pub Leaves : List ℕ → Call → List ℕ → Type 0
Leaves book (opening row) left = Holds left (free_place book) row × (row_for left (word row Row.instrument) ≡ row)
Leaves book (closing i) left = (¬ IsOpen left i) × IsFree left (place_for book i)
Leaves book (parameters i ps) left =
    (v : Values) × (p : Parameters) × Keeps book i v × (ps ≡ parameter_words p) × Keeps left i (with_parameters v p)
Leaves book (halt i value) left = (v : Values) × Keeps book i v × Keeps left i (with_halt v value)
Leaves book (day d) left =
    (f : Figures) × (next : List ℕ) × (day_on (row_for book d.instrument) d ≡ accepted f next) × (row_for left d.instrument ≡ next)
Leaves book (why d) left = left ≡ book
Leaves book (corridor i t) left = left ≡ book
Leaves book (bond i t b) left = left ≡ book

abbrev pub CallLeaves : Type 0
CallLeaves = (book : List ℕ) (call : Call) → (answer book call).number ≡ 0 → Leaves book call (after book call)

-- The instrument that a call names, and the row that it may touch.
abbrev pub named : Call → ℕ
named (opening row) = word row Row.instrument
named (closing i) = i
named (parameters i ps) = i
named (halt i value) = i
named (day d) = d.instrument
named (why d) = d.instrument
named (corridor i t) = i
named (bond i t b) = i

abbrev pub touched : List ℕ → Call → ℕ
touched book (opening row) = free_place book
touched book (closing i) = place_for book i
touched book (parameters i ps) = place_for book i
touched book (halt i value) = place_for book i
touched book (day d) = place_for book d.instrument
touched book (why d) = place_for book d.instrument
touched book (corridor i t) = place_for book i
touched book (bond i t b) = place_for book i

-- Every word outside that row is as it was, and so is the row of every other instrument.
pub record TouchesOneRow : Type 0 where
  pub outside :
      (book : List ℕ) (call : Call) (at : ℕ) → (at < width * touched book call) ⊎ (width * touched book call + width ≤ at)
      → get_or (after book call) at 0 ≡ get_or book at 0
  pub others : (book : List ℕ) (call : Call) (i : ℕ) → 0 < i → ¬ (i ≡ named call) → row_for (after book call) i ≡ row_for book i

-- A sound book is sound after any call.
abbrev pub SoundStays : Type 0
SoundStays = (book : List ℕ) (call : Call) → is_sound book ≡ true → is_sound (after book call) ≡ true

-- A call is no opening.
abbrev pub IsNoOpening : Call → Type 0
IsNoOpening (opening row) = ⊥
IsNoOpening (closing i) = Unit {0}
IsNoOpening (parameters i ps) = Unit {0}
IsNoOpening (halt i value) = Unit {0}
IsNoOpening (day d) = Unit {0}
IsNoOpening (why d) = Unit {0}
IsNoOpening (corridor i t) = Unit {0}
IsNoOpening (bond i t b) = Unit {0}

-- Instruments stand apart: on two sound books in which an instrument has the same row, wherever that stands, or is open in neither,
-- such a call for it gives the same answer and leaves it the same row.
abbrev pub Apart : Type 0
Apart =
    (book other : List ℕ) (call : Call) → is_sound book ≡ true → is_sound other ≡ true → IsNoOpening call
    → row_for book (named call) ≡ row_for other (named call)
    → (answer book call ≡ answer other call) × (row_for (after book call) (named call) ≡ row_for (after other call) (named call))

-- Two books are open alike: the same instruments are open in both, and the same rows free.
pub record AreAlike (book other : List ℕ) : Type 0 where
  pub instruments : (i : ℕ) → 0 < i → IsOpen book i ↔ IsOpen other i
  pub rows : (k : ℕ) → k < 64 → IsFree book k ↔ IsFree other k

-- An opening depends on that alone: on two sound books that are open alike it gives the same answer, and where it is accepted the same row, in the same place.
abbrev pub OpensAlike : Type 0
OpensAlike =
    (book other row : List ℕ) → is_sound book ≡ true → is_sound other ≡ true → AreAlike book other
    → let i = word row Row.instrument in
    let left = after book (opening row) in
    let left' = after other (opening row) in
    (answer book (opening row) ≡ answer other (opening row))
    × ((answer book (opening row)).number ≡ 0 → (place_for left i ≡ place_for left' i) × (row_for left i ≡ row_for left' i))
