-- What a halt is: a gap. While it lasts no day, no reasons and no corridor are given, and the row stays but for new parameters; once it has ended
-- all goes on as if it had not been.
-- And the cases worked by hand: each call on a halted instrument, and demand 3's bound over a halt.
use Rattle.std.specs.Prelude.{ℕ, ◌*◌, ◌<◌, ◌≡◌, Bool, true, false, cond, List, [], ◌∷◌, ◌⊎◌, eqb, pos, replicate, set}
use Rattle.paper.specs.Row as Row
use Rattle.paper.specs.Row.{width, word, parameters_of}
use Rattle.paper.specs.Rates.{Day}
use Rattle.paper.specs.Corridor.{Terms}
use Rattle.paper.specs.Bond.{Bond}
use Rattle.paper.specs.Book.{with_row, row_for, is_open, is_sound}
use Rattle.paper.specs.Exact.{denominator}
use Rattle.paper.specs.Calls.{Call, opening, closing, parameters, halt, day, why, corridor, bond, answer, after, after_all}
use Rattle.paper.specs.Each.{Each}
use Rattle.paper.specs.Promises.Ranges.{IsRow, IsDay, AreTerms, IsBond}
use Rattle.paper.specs.Promises.Calls.{named, IsNoOpening}
use Rattle.paper.specs.Promises.Ends.{IsInstrument}
use Rattle.paper.specs.Promises.Worked.{sheet_row_of, day_of, distinct_row, terms_at}
use Rattle.paper.specs.Promises.Alive.{empty_book, greatest_instrument, three_book}
use Rattle.paper.specs.Promises.Drift.{smaller_weight, exact_after, IsNear, low_row, still_day}
use Rattle.paper.specs.Promises.AnyCalls.{moves_after, IsHistory}
use Rattle.paper.specs.Promises.Bonds.{bond_of}

-- A call neither closes an instrument nor ends its halt.
abbrev pub KeepsHalt : ℕ → Call → Type 0
KeepsHalt i (opening row) = Unit {0}
KeepsHalt i (closing k) = ¬ (i ≡ k)
KeepsHalt i (parameters k ps) = Unit {0}
KeepsHalt i (halt k value) = i ≡ k → ¬ (value ≡ 0)
KeepsHalt i (day d) = Unit {0}
KeepsHalt i (why d) = Unit {0}
KeepsHalt i (corridor k t) = Unit {0}
KeepsHalt i (bond k t b) = Unit {0}

-- An instrument that is open in a sound book and not halted, and such calls.
pub record MayHalt (i : ℕ) (book : List ℕ) (calls : List Call) : Type 0 where
  pub instrument : IsInstrument i
  pub sound : is_sound book ≡ true
  pub open_here : is_open book i ≡ true
  pub going : word (row_for book i) Row.halted ≡ 0
  pub asked : Each (KeepsHalt i) calls

-- The book after a halt and such calls, and once the halt has ended.
abbrev pub halted : ℕ → List ℕ → List Call → List ℕ
halted i book calls = after_all (after book (halt i 1)) calls

abbrev pub resumed : ℕ → List ℕ → List Call → List ℕ
resumed i book calls = after (halted i book calls) (halt i 0)

-- The new parameters of an instrument among calls, in their order,
abbrev pub is_given : ℕ → Call → Bool
is_given i (opening row) = false
is_given i (closing k) = false
is_given i (parameters k ps) = eqb k i
is_given i (halt k value) = false
is_given i (day d) = false
is_given i (why d) = false
is_given i (corridor k t) = false
is_given i (bond k t b) = false

abbrev pub given : ℕ → List Call → List Call
given i [] = []
given i (call ∷ calls) = cond (is_given i call) (call ∷ given i calls) (given i calls)

-- and the book after these alone, with no halt.
abbrev pub unhalted : ℕ → List ℕ → List Call → List ℕ
unhalted i book calls = after_all book (given i calls)

-- A call is refused as Range where its values are out of range, and else with this number.
abbrev pub IsRefused : ℕ → Type 0 → ℕ → Type 0
IsRefused refusal InRange number = (¬ InRange → number ≡ 2) × (InRange → number ≡ refusal)

-- A place of a row is outside those from alpha to M.
abbrev pub IsNoParameter : ℕ → Type 0
IsNoParameter place = (place < Row.alpha) ⊎ (Row.monitored < place)

-- The halt is a gap.
pub record HaltIsGap : Type 0 where
  -- While it lasts, whatever is asked, no day, no reasons and no corridor are given, nor is the instrument opened a second time;
  pub refuses_day :
      (book : List ℕ) (calls : List Call) (d : Day) → MayHalt d.instrument book calls
      → IsRefused 12 (IsDay d) (answer (halted d.instrument book calls) (day d)).number
  pub no_reasons :
      (book : List ℕ) (calls : List Call) (d : Day) → MayHalt d.instrument book calls
      → IsRefused 12 (IsDay d) (answer (halted d.instrument book calls) (why d)).number
  pub refuses_corridor :
      (i : ℕ) (book : List ℕ) (calls : List Call) (t : Terms) → MayHalt i book calls
      → IsRefused 12 (AreTerms t) (answer (halted i book calls) (corridor i t)).number
  pub no_bond :
      (i : ℕ) (book : List ℕ) (calls : List Call) (t : Terms) (b : Bond) → MayHalt i book calls
      → IsRefused 12 (AreTerms t × IsBond b) (answer (halted i book calls) (bond i t b)).number
  pub known :
      (book : List ℕ) (calls : List Call) (row : List ℕ) → MayHalt (word row Row.instrument) book calls
      → IsRefused 3 (IsRow row) (answer (halted (word row Row.instrument) book calls) (opening row)).number
  -- new parameters are answered as without the halt,
  pub new_parameters :
      (i : ℕ) (book : List ℕ) (calls : List Call) (ps : List ℕ) → MayHalt i book calls
      → answer (halted i book calls) (parameters i ps) ≡ answer (unhalted i book calls) (parameters i ps)
  -- and the row is the one that they alone leave, but for its last word, so every other word that is no parameter is as it was.
  pub during :
      (i : ℕ) (book : List ℕ) (calls : List Call) → MayHalt i book calls
      → row_for (halted i book calls) i ≡ set (row_for (unhalted i book calls) i) Row.halted 1
  pub others_during :
      (i : ℕ) (book : List ℕ) (calls : List Call) (place : ℕ) → MayHalt i book calls → IsNoParameter place → ¬ (place ≡ Row.halted)
      → word (row_for (halted i book calls) i) place ≡ word (row_for book i) place
  -- Once it has ended the row is that one, with its last word; and after any calls more, none an opening of the instrument, any call for it but an opening
  -- is answered, and leaves its row, as if there had been no halt and nothing asked meanwhile but the new parameters.
  pub ended : (i : ℕ) (book : List ℕ) (calls : List Call) → MayHalt i book calls → row_for (resumed i book calls) i ≡ row_for (unhalted i book calls) i
  pub others_ended :
      (i : ℕ) (book : List ℕ) (calls : List Call) (place : ℕ) → MayHalt i book calls → IsNoParameter place
      → word (row_for (resumed i book calls) i) place ≡ word (row_for book i) place
  pub goes_on :
      (i : ℕ) (book : List ℕ) (calls more : List Call) (call : Call) → MayHalt i book calls
      → Each (λ other. i ≡ named other → IsNoOpening other) more → IsNoOpening call → named call ≡ i
      → let left = after_all (resumed i book calls) more in
      let left' = after_all (unhalted i book calls) more in
      (answer left call ≡ answer left' call) × (row_for (after left call) i ≡ row_for (after left' call) i)

-- The book of three instruments with the middle one halted.
abbrev pub halted_book : List ℕ
halted_book = after three_book (halt 11 1)

abbrev pub halted_row : List ℕ
halted_row = set (distinct_row 1 900000000 85000 298) Row.halted 1

-- Each call on it.
pub record HaltedCalls : Type 0 where
  -- The halt writes the one word, and so does its end; the value that it has is accepted too.
  pub halts : answer three_book (halt 11 1) ≡ record { number = 0; figures = [] }
  pub halts_after : halted_book ≡ with_row three_book 30 halted_row
  pub halts_again : ((answer halted_book (halt 11 1)).number ≡ 0) × (after halted_book (halt 11 1) ≡ with_row halted_book 30 halted_row)
  pub ended : ((answer halted_book (halt 11 0)).number ≡ 0) × (after halted_book (halt 11 0) ≡ with_row halted_book 30 (distinct_row 1 900000000 85000 298))
  pub ended_again : (answer three_book (halt 11 0)).number ≡ 0
  -- Values that are neither, an instrument that is not open, and numbers that none has.
  pub two : (answer three_book (halt 11 2)).number ≡ 2
  pub greatest_word : (answer three_book (halt 11 18446744073709551615)).number ≡ 2
  pub unknown : (answer three_book (halt 8 1)).number ≡ 5
  pub no_instrument : (answer three_book (halt 0 1)).number ≡ 2
  pub past_instruments : (answer three_book (halt 1000000000 1)).number ≡ 2
  pub unsound : (answer [] (halt 0 2)).number ≡ 1
  -- No day: one that would be taken, one that is stale, and one that has moved too far; and no reasons of one. A price out of range, and an instrument
  -- that is not open, come first.
  pub refuses_day : answer halted_book (day (day_of 11 301 51000 2 1)) ≡ record { number = 12; figures = replicate 6 0 }
  pub stale_day : (answer halted_book (day (day_of 11 300 51000 2 1))).number ≡ 12
  pub far_day : (answer halted_book (day (day_of 11 301 200000 2 1))).number ≡ 12
  pub no_reasons : answer halted_book (why (day_of 11 301 51000 2 1)) ≡ record { number = 12; figures = replicate 10 0 }
  pub day_out_of_range : (answer halted_book (day (day_of 11 301 0 2 1))).number ≡ 2
  pub day_unknown : (answer halted_book (day (day_of 8 301 51000 2 1))).number ≡ 5
  -- No corridor: one that there would be, and one that would be empty. A tick out of range, and an instrument that is not open, come first.
  pub refuses_corridor : answer halted_book (corridor 11 (terms_at 73 (pos 0) (pos 0) 50000 20000 1000)) ≡ record { number = 12; figures = replicate 2 0 }
  pub empty_corridor : (answer halted_book (corridor 11 (terms_at 73 (pos 0) (pos 0) 50000 20000 1000000))).number ≡ 12
  pub corridor_out_of_range : (answer halted_book (corridor 11 (terms_at 73 (pos 0) (pos 0) 50000 20000 0))).number ≡ 2
  pub corridor_unknown : (answer halted_book (corridor 8 (terms_at 73 (pos 0) (pos 0) 50000 20000 1000))).number ≡ 5
  -- The same of a bond's, a face value out of range.
  pub no_bond : answer halted_book (bond 11 (terms_at 73 (pos 0) (pos 0) 50000 20000 1000) (bond_of 50000 0 0)) ≡ record { number = 12; figures = replicate 2 0 }
  pub empty_bond : (answer halted_book (bond 11 (terms_at 73 (pos 0) (pos 0) 50000 20000 1000) (bond_of 50000 1000000 0))).number ≡ 12
  pub bond_out_of_range : (answer halted_book (bond 11 (terms_at 73 (pos 0) (pos 0) 50000 20000 1000) (bond_of 0 0 0))).number ≡ 2
  pub bond_unknown : (answer halted_book (bond 8 (terms_at 73 (pos 0) (pos 0) 50000 20000 1000) (bond_of 50000 0 0))).number ≡ 5
  -- New parameters and closing still work, and opening it is refused as Known.
  pub parameters_given :
      let given = parameters 11 (parameters_of (distinct_row 0 1 0 0)) in
      ((answer halted_book given).number ≡ 0) × (after halted_book given ≡ with_row halted_book 30 (set halted_row Row.monitored 0))
  pub closed : ((answer halted_book (closing 11)).number ≡ 0) × (after halted_book (closing 11) ≡ with_row halted_book 30 (replicate width 0))
  pub known : (answer halted_book (opening (distinct_row 1 900000000 85000 298))).number ≡ 3
  -- A row that is halted from the start, and one with a last word of 2.
  pub opened : answer empty_book (opening halted_row) ≡ record { number = 0; figures = [] }
  pub opened_day : (answer (after empty_book (opening halted_row)) (day (day_of 11 301 51000 2 1))).number ≡ 12
  pub opened_two : (answer empty_book (opening (set halted_row Row.halted 2))).number ≡ 2

-- Demand 3 over a halt. The row of the two days on which the price stays, with a halt between them in which it is asked two days more,
-- and another instrument's opening and day are asked.
abbrev pub low_book : List ℕ
low_book = after empty_book (opening low_row)

abbrev pub gap_calls : List Call
gap_calls =
    day (still_day 101)
    ∷ halt 7 1
    ∷ opening (sheet_row_of greatest_instrument 2000 100000 100000)
    ∷ day (still_day 102)
    ∷ day (day_of greatest_instrument 102 103000 0 0)
    ∷ day (still_day 103)
    ∷ halt 7 0
    ∷ day (still_day 105)
    ∷ []

-- It is a history of two accepted days, and leaves the row that those two leave. The kept variance is 1, and the exact one 90,250,000 over 100,000,000,
-- so it is not below it, and exceeds it by less than 10,000 over 500, the smaller weight.
pub record GapDrift : Type 0 where
  pub history : IsHistory 7 low_book gap_calls
  pub row : row_for (after_all low_book gap_calls) 7 ≡ row_for (after_all low_book (day (still_day 101) ∷ day (still_day 105) ∷ [])) 7
  pub moves : moves_after 7 low_book gap_calls [] ≡ 0 ∷ 0 ∷ []
  pub kept : word (row_for (after_all low_book gap_calls) 7) Row.variance ≡ 1
  pub exact : exact_after (row_for low_book 7) (0 ∷ 0 ∷ []) ≡ 90250000
  pub above : exact_after (row_for low_book 7) (0 ∷ 0 ∷ []) < word (row_for (after_all low_book gap_calls) 7) Row.variance * denominator 2
  pub near :
      IsNear (smaller_weight (row_for low_book 7)) (denominator 2) (exact_after (row_for low_book 7) (0 ∷ 0 ∷ []))
      (word (row_for (after_all low_book gap_calls) 7) Row.variance)
