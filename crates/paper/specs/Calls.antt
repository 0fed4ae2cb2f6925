-- The calls on a book: the refusals in their order, what each call answers, and what the book is then.
use Rattle.std.specs.Prelude.{ℕ, ◌%◌, ◌≡◌, Bool, cond, not, ◌&&◌, List, [], ◌∷◌, ◌++◌, eqb, ltb, replicate}
use Rattle.std.proofs.lemmas.List.Edits.{sets}
use Rattle.paper.specs.Refusal.{Refusal, number}
use Rattle.paper.specs.Row as Row
use Rattle.paper.specs.Row.{instruments, switches, is_in, word, parameter, parameters_in_range, row_in_range, is_halted}
use Rattle.paper.specs.Rates.{Day, figure_list, DayAnswer, refused, accepted, day_in_range, day_on}
use Rattle.paper.specs.Reasons.{reason_list, reasons_of}
use Rattle.paper.specs.Corridor.{Terms, Ticks, empty, between, terms_in_range, corridor_on}
use Rattle.paper.specs.Bond.{Bond, bond_in_range, bond_on}
use Rattle.paper.specs.Book.{rows, with_row, place_for, row_for, is_open, free_place, is_sound}

-- A call: an instrument is opened with the values of a row, closed, given new parameters, halted or its halt ended, given a day, asked why a day
-- would have its figures, or asked its corridor, that of a share or that of a bond.
pub data Call : Type 0 where
  opening : List ℕ → Call
  closing : ℕ → Call
  parameters : ℕ → List ℕ → Call
  halt : ℕ → ℕ → Call
  day : Day → Call
  why : Day → Call
  corridor : ℕ → Terms → Call
  bond : ℕ → Terms → Bond → Call

-- The refusal's number unless the test passes, else what comes after.
abbrev pub unless : Bool → Refusal → ℕ → ℕ
unless passes refusal next = cond passes next (number refusal)

abbrev pub day_number : DayAnswer → ℕ
day_number (refused refusal) = number refusal
day_number (accepted f row) = 0

-- A corridor of the newer price, the published margin and M that a row keeps.
abbrev pub ticks_in : List ℕ → (ℕ → ℕ → ℕ → Ticks) → Ticks
ticks_in row rule = rule (word row Row.newer) (word row Row.margin) (word row Row.monitored)

-- An instrument's corridor, of its row, as a share and as a bond.
unfoldable pub corridor_for : List ℕ → ℕ → Terms → Ticks
corridor_for book i t = ticks_in (row_for book i) (λ P margin M. corridor_on P margin M t)

unfoldable pub bond_for : List ℕ → ℕ → Terms → Bond → Ticks
bond_for book i t b = ticks_in (row_for book i) (λ P margin M. bond_on P margin M t b)

abbrev pub ticks_number : Ticks → ℕ
ticks_number empty = number Refusal.Empty
ticks_number (between lowest highest) = 0

-- The number that a day gives, given or asked about.
abbrev pub number_of_day : List ℕ → Day → ℕ
number_of_day book d =
    unless (is_sound book) Refusal.Book
    (unless (day_in_range d) Refusal.Range
    (unless (is_open book d.instrument) Refusal.Unknown
    (unless (not (is_halted (row_for book d.instrument))) Refusal.Halted
    (day_number (day_on (row_for book d.instrument) d)))))

-- The number that a corridor gives, by whether what it is asked with is in range, and by its ticks.
abbrev pub number_of_ticks : List ℕ → ℕ → Bool → Ticks → ℕ
number_of_ticks book i in_range ticks =
    unless (is_sound book) Refusal.Book
    (unless (is_in instruments i && in_range) Refusal.Range
    (unless (is_open book i) Refusal.Unknown
    (unless (not (is_halted (row_for book i))) Refusal.Halted
    (ticks_number ticks))))

-- The number that a call gives: its refusals, checked in their order, each only where it applies; 0 where there is none.
unfoldable pub number_of : List ℕ → Call → ℕ
number_of book (opening row) =
    unless (is_sound book) Refusal.Book
    (unless (row_in_range row) Refusal.Range
    (unless (not (is_open book (word row Row.instrument))) Refusal.Known
    (unless (ltb (free_place book) rows) Refusal.Full 0)))
number_of book (closing i) =
    unless (is_sound book) Refusal.Book
    (unless (is_in instruments i) Refusal.Range
    (unless (is_open book i) Refusal.Unknown 0))
number_of book (parameters i ps) =
    unless (is_sound book) Refusal.Book
    (unless (is_in instruments i && parameters_in_range ps) Refusal.Range
    (unless (is_open book i) Refusal.Unknown
    (unless (eqb (word (row_for book i) Row.preliminary % parameter ps Row.step) 0) Refusal.Step 0)))
number_of book (halt i value) =
    unless (is_sound book) Refusal.Book
    (unless (is_in instruments i && is_in switches value) Refusal.Range
    (unless (is_open book i) Refusal.Unknown 0))
number_of book (day d) = number_of_day book d
number_of book (why d) = number_of_day book d
number_of book (corridor i t) = number_of_ticks book i (terms_in_range t) (corridor_for book i t)
number_of book (bond i t b) = number_of_ticks book i (terms_in_range t && bond_in_range b) (bond_for book i t b)

-- How many figures a call hands out, and those of an accepted one: a day's six, with its four reasons where it is asked about, a corridor's lowest
-- and highest.
abbrev pub figure_count : Call → ℕ
figure_count (opening row) = 0
figure_count (closing i) = 0
figure_count (parameters i ps) = 0
figure_count (halt i value) = 0
figure_count (day d) = 6
figure_count (why d) = 10
figure_count (corridor i t) = 2
figure_count (bond i t b) = 2

abbrev pub day_figures : DayAnswer → List ℕ
day_figures (refused refusal) = replicate 6 0
day_figures (accepted f row) = figure_list f

abbrev pub why_figures : List ℕ → Day → DayAnswer → List ℕ
why_figures row d (refused refusal) = replicate 10 0
why_figures row d (accepted f next) = figure_list f ++ reason_list (reasons_of row d f)

abbrev pub ticks_figures : Ticks → List ℕ
ticks_figures empty = replicate 2 0
ticks_figures (between lowest highest) = lowest ∷ highest ∷ []

unfoldable pub figures_for : List ℕ → Call → List ℕ
figures_for book (opening row) = []
figures_for book (closing i) = []
figures_for book (parameters i ps) = []
figures_for book (halt i value) = []
figures_for book (day d) = day_figures (day_on (row_for book d.instrument) d)
figures_for book (why d) =
    let row = row_for book d.instrument in
    why_figures row d (day_on row d)
figures_for book (corridor i t) = ticks_figures (corridor_for book i t)
figures_for book (bond i t b) = ticks_figures (bond_for book i t b)

-- The row that a day leaves; a refused one leaves the row that it met.
abbrev pub day_row : List ℕ → DayAnswer → List ℕ
day_row row (refused refusal) = row
day_row row (accepted f next) = next

-- The book after an accepted call. Opening takes the lowest free row; closing leaves zeros; new parameters and a halt leave the other words;
-- an asking and a corridor only read.
unfoldable pub changed : List ℕ → Call → List ℕ
changed book (opening row) = with_row book (free_place book) row
changed book (closing i) = with_row book (place_for book i) (replicate Row.width 0)
changed book (parameters i ps) = with_row book (place_for book i) (sets (row_for book i) Row.alpha ps)
changed book (halt i value) = with_row book (place_for book i) (sets (row_for book i) Row.halted (value ∷ []))
changed book (day d) =
    let row = row_for book d.instrument in
    with_row book (place_for book d.instrument) (day_row row (day_on row d))
changed book (why d) = book
changed book (corridor i t) = book
changed book (bond i t b) = book

pub record Answer : Type 0 where
  pub number : ℕ
  pub figures : List ℕ

-- What a call answers on a book: its number, and its figures, all zero where it is refused.
unfoldable pub answer : List ℕ → Call → Answer
answer book call =
    record {
      number = number_of book call;
      figures = cond (eqb (number_of book call) 0) (figures_for book call) (replicate (figure_count call) 0);
    }

-- What the book is after a call: each word as it was where the call is refused.
unfoldable pub after : List ℕ → Call → List ℕ
after book call = cond (eqb (number_of book call) 0) (changed book call) book

-- The book after calls, one after the other.
abbrev pub after_all : List ℕ → List Call → List ℕ
after_all book [] = book
after_all book (call ∷ calls) = after_all (after book call) calls

-- The promise of a call on a book: what it answered, and what the book was then.
pub record Kept (book : List ℕ) (call : Call) (answered : Answer) (left : List ℕ) : Type 0 where
  pub answers : answered ≡ answer book call
  pub leaves : left ≡ after book call
