-- Demand 3 over any list of calls on a book: whatever is done to the other instruments,
-- and to this one whatever leaves it open with the parameters that it had at the start.
use Rattle.std.specs.Prelude.{ℕ, ◌≡◌, true, cond, ◌&&◌, List, [], ◌∷◌, eqb, pos, length}
use Rattle.paper.specs.Row as Row
use Rattle.paper.specs.Row.{word, parameters_of}
use Rattle.paper.specs.Rates.{Day, Figures, accepted, move_on, day_on}
use Rattle.paper.specs.Book.{row_for, is_open, is_sound}
use Rattle.paper.specs.Exact.{denominator}
use Rattle.paper.specs.Calls.{Call, opening, closing, parameters, halt, day, why, corridor, bond, answer, after, after_all}
use Rattle.paper.specs.Promises.Worked.{day_of, terms_at}
use Rattle.paper.specs.Promises.Ends.{IsInstrument}
use Rattle.paper.specs.Promises.Alive.{greatest_instrument, three_book}
use Rattle.paper.specs.Promises.Bonds.{bond_of}
use Rattle.paper.specs.Promises.Drift.{smaller_weight, exact_after, IsNear, candidate_of, exact_candidate_of, IsCovered}

-- The moves of an instrument's accepted days, the last one first: those before a call, and with it.
abbrev pub moves_with : ℕ → List ℕ → Call → List ℕ → List ℕ
moves_with i book (opening row) moves = moves
moves_with i book (closing k) moves = moves
moves_with i book (parameters k ps) moves = moves
moves_with i book (halt k value) moves = moves
moves_with i book (day d) moves =
    cond (eqb d.instrument i && eqb (answer book (day d)).number 0) ((move_on (row_for book i) d).size ∷ moves) moves
moves_with i book (why d) moves = moves
moves_with i book (corridor k t) moves = moves
moves_with i book (bond k t b) moves = moves

-- Those before a list of calls, and with it.
abbrev pub moves_after : ℕ → List ℕ → List Call → List ℕ → List ℕ
moves_after i book [] moves = moves
moves_after i book (call ∷ calls) moves = moves_after i (after book call) calls (moves_with i book call moves)

-- An instrument is open and has these parameters.
pub record IsOpenWith (i : ℕ) (ps book : List ℕ) : Type 0 where
  pub open_here : is_open book i ≡ true
  pub parameters : parameters_of (row_for book i) ≡ ps

-- So it is after each call.
abbrev pub StaysOpenWith : ℕ → List ℕ → List ℕ → List Call → Type 0
StaysOpenWith i ps book [] = Unit {0}
StaysOpenWith i ps book (call ∷ calls) = IsOpenWith i ps (after book call) × StaysOpenWith i ps (after book call) calls

-- A list of calls on a sound book in which the instrument is open at the start, and after each call is open and has the parameters that it had at the start.
pub record IsHistory (i : ℕ) (book : List ℕ) (calls : List Call) : Type 0 where
  pub instrument : IsInstrument i
  pub sound : is_sound book ≡ true
  pub open_here : is_open book i ≡ true
  pub stays : StaysOpenWith i (parameters_of (row_for book i)) book calls

-- Over any such list the variance that the row keeps is near the exact one:
abbrev pub VarianceOverCalls : Type 0
VarianceOverCalls =
    (i : ℕ) (book : List ℕ) (calls : List Call) → IsHistory i book calls
    → let start = row_for book i in
    let moves = moves_after i book calls [] in
    IsNear (smaller_weight start) (denominator (length moves)) (exact_after start moves) (word (row_for (after_all book calls) i) Row.variance)

-- and on each of its accepted days, whatever calls came before, the candidate is not below the exact one and at most one step above it,
-- and the preliminary not below the candidate.
abbrev pub CandidateOverCalls : Type 0
CandidateOverCalls =
    (i : ℕ) (book : List ℕ) (calls : List Call) (d : Day) (f : Figures) (next : List ℕ) → IsHistory i book calls
    → let start = row_for book i in
    let row = row_for (after_all book calls) i in
    day_on row d ≡ accepted f next
    → IsCovered (word start Row.step) (exact_candidate_of start (moves_after i book calls []) row d) (candidate_of row d f.variance) f.preliminary

-- Such lists there are: an accepted day, a halt, a day of another instrument, a day that is refused since it is halted, the halt's end, a stale day,
-- a corridor, one of a bond, and another accepted day, asked about before it is given.
abbrev pub some_calls : List Call
some_calls =
    day (day_of greatest_instrument 101 103000 0 0)
    ∷ halt greatest_instrument 1
    ∷ day (day_of 11 301 51000 2 1)
    ∷ day (day_of greatest_instrument 102 150000 0 0)
    ∷ halt greatest_instrument 0
    ∷ day (day_of greatest_instrument 101 103000 0 0)
    ∷ corridor greatest_instrument (terms_at 73 (pos 0) (pos 0) 50000 20000 1000)
    ∷ bond greatest_instrument (terms_at 73 (pos 0) (pos 0) 50000 20000 1000) (bond_of 100000 0 500)
    ∷ why (day_of greatest_instrument 102 103000 6 0)
    ∷ day (day_of greatest_instrument 102 103000 6 0)
    ∷ []

pub record HistoryExists : Type 0 where
  pub history : IsHistory greatest_instrument three_book some_calls
  pub moves : moves_after greatest_instrument three_book some_calls [] ≡ 30000 ∷ 30000 ∷ []
  pub variance : word (row_for (after_all three_book some_calls) greatest_instrument) Row.variance ≡ 580000000
