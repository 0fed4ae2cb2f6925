-- Demand 3 from the prices over calls, sheets and nights: the run that these are is one whose days brought prices, since a day whose price is none is refused. Assumes nothing.
use mathlib.Core.Path.{◌≡◌, refl, sym, ap, subst₂, ◌∙◌}
use mathlib.Core.Bool.{Bool, true, false, cond, ◌&&◌}
use mathlib.Core.List.{List, [], ◌∷◌, ◌++◌}
use Prim.Native.Nat.{ℕ, ◌<◌}
use borrow.Author.Tests.{eqb-true}
use lib.Dec.{eqb}
use Rattle.paper.specs.Row as Row
use Rattle.paper.specs.Row.{word, parameters_of}
use Rattle.paper.specs.Rates.{Day, Figures, accepted, figure_list, state_of, move_on, day_on}
use Rattle.paper.specs.Book.{row_for}
use Rattle.paper.specs.Calls.{Call, opening, closing, parameters, halt, day, why, corridor, bond, answer, after, after_all}
use Rattle.paper.specs.Values.{Values, words}
use Rattle.paper.specs.Promises.Ranges.{AreValues, IsRow}
use Rattle.paper.specs.Promises.AnyCalls.{IsHistory}
use Rattle.paper.proofs.Calls.{call_hands_out}
use Rattle.paper_sheets.specs.Sheet.{asks, text_of, morning_text, line_text, answer_line, sheet_finding}
use Rattle.paper_sheets.specs.Promises.Evening.{next_morning}
use Rattle.paper_prices.specs.Days.{RunDay, met, RunOver, days_with, days_after, days_over}
use Rattle.paper_prices.specs.Prices.{exact_move_on}
use Rattle.paper_prices.specs.Promises.Prices.{HavePrices, KeptAbove, CoveredFrom}
use Rattle.paper_prices.specs.Promises.Over.{VarianceFromPricesOverCalls, CandidateFromPricesOverCalls, VarianceFromPricesOverSheet, CandidateFromPricesOverSheet, VarianceFromPricesOverNights, CandidateFromPricesOverNights}
use Rattle.paper.proofs.Tests.{and_right}
use Rattle.paper.proofs.Accepted.{accept_day}
use Rattle.paper.proofs.AnyCalls.{going}
use Rattle.paper_sheets.proofs.Morning.{after_append, lines_follow}
use Rattle.paper_prices.proofs.Days.{going_day, going_in_range, start_row, history_run, end_row, first_row, nights_run, last_row}
use Rattle.paper_prices.proofs.Prices.{variance_from_prices, candidate_from_prices}

-- An accepted day brought a price, so the days with a call, with calls and with past days did.
module _ (i : ℕ) where
  brought : (book : List ℕ) (d : Day) → (answer book (day d)).number ≡ 0 → 0 < d.price
  unfolding answer
  brought book d e = (accept_day book d e).1.price.not_below

  prices_with : (book : List ℕ) (call : Call) (days : List RunDay) → HavePrices days → HavePrices (days_with i book call days)
  prices_with book (opening row) days p = p
  prices_with book (closing k) days p = p
  prices_with book (parameters k ps) days p = p
  prices_with book (halt k value) days p = p
  prices_with book (day d) days p = go (eqb d.instrument i && eqb (answer book (day d)).number 0) refl
    where
      go : (t : Bool) → eqb d.instrument i && eqb (answer book (day d)).number 0 ≡ t → HavePrices (cond t (met (row_for book i) d ∷ days) days)
      go true e = (brought book d (eqb-true _ 0 (and_right (eqb d.instrument i) _ e)), p)
      go false e = p
  prices_with book (why d) days p = p
  prices_with book (corridor k t) days p = p
  prices_with book (bond k t b) days p = p

  prices_after_lem : (book : List ℕ) (calls : List Call) (days : List RunDay) → HavePrices days → HavePrices (days_after i book calls days)
  prices_after_lem book [] days p = p
  prices_after_lem book (call ∷ calls) days p = prices_after_lem (after book call) calls (days_with i book call days) (prices_with book call days p)

  prices_over : (book : List ℕ) (past : List (List Call)) (days : List RunDay) → HavePrices days → HavePrices (days_over i book past days)
  prices_over book [] days p = p
  prices_over book (calls ∷ past) days p =
      prices_over (next_morning (after_all book calls)) past (days_after i book calls days) (prices_after_lem book calls days p)

-- What a run shows of rows of which it is the run once they are not halted.
module _ (v w : Values) (days : List RunDay) (r : AreValues v) (prices : HavePrices days) (run : RunOver (going (words v)) (going (words w)) days) where
  above_values : KeptAbove (words v) days (word (words w) Row.variance)
  above_values = variance_from_prices (going (words v)) (going (words w)) days (going_in_range v r) prices run

  covered_values : (d : Day) (f : Figures) (next : List ℕ) → day_on (words w) d ≡ accepted f next → CoveredFrom (words v) days (words w) d f
  unfolding exact_move_on move_on parameters_of state_of
  covered_values d f next e = candidate_from_prices (going (words v)) (going (words w)) (going next) days d f (going_in_range v r) prices run (going_day w d f next e)

module _ (start row : List ℕ) (days : List RunDay) (s : IsRow start) (r : IsRow row) (prices : HavePrices days) (run : RunOver (going start) (going row) days) where
  by_values : RunOver (going (words s.values)) (going (words r.values)) days
  by_values = subst₂ (λ (start row : List ℕ). RunOver (going start) (going row) days) s.in_order r.in_order run

  run_above : KeptAbove start days (word row Row.variance)
  run_above =
      subst₂ (λ (start row : List ℕ). KeptAbove start days (word row Row.variance)) (sym s.in_order) (sym r.in_order)
      (above_values s.values r.values days s.in_range prices by_values)

  run_covered : (d : Day) (f : Figures) (next : List ℕ) → day_on row d ≡ accepted f next → CoveredFrom start days row d f
  run_covered d f next e =
      subst₂ (λ (start row : List ℕ). CoveredFrom start days row d f) (sym s.in_order) (sym r.in_order)
      (covered_values s.values r.values days s.in_range prices by_values d f next (ap (λ (row : List ℕ). day_on row d) (sym r.in_order) ∙ e))

pub variance_from_prices_over_calls : VarianceFromPricesOverCalls
variance_from_prices_over_calls i book calls h =
    run_above _ _ _ (start_row i book calls h) (end_row i book calls h) (prices_after_lem i book calls [] tt) (history_run i book calls h)

pub candidate_from_prices_over_calls : CandidateFromPricesOverCalls
candidate_from_prices_over_calls i book calls d f next h e =
    run_covered _ _ _ (start_row i book calls h) (end_row i book calls h) (prices_after_lem i book calls [] tt) (history_run i book calls h) d f next e

pub variance_from_prices_over_sheet : VarianceFromPricesOverSheet
variance_from_prices_over_sheet i book sheet before calls good e h =
    rw ((lines_follow.accepted book sheet good).1, e, after_append) (variance_from_prices_over_calls i (after_all book before) calls h)

-- On a day after calls and more calls, by the book that they leave together.
covered_after : (book : List ℕ) (before calls : List Call) (d : Day) (f : Figures) (next : List ℕ) → IsHistory d.instrument (after_all book before) calls
    → let row = row_for (after_all book (before ++ calls)) d.instrument in
    day_on row d ≡ accepted f next
    → CoveredFrom (row_for (after_all book before) d.instrument) (days_after d.instrument (after_all book before) calls []) row d f
covered_after book before calls d f next h =
    rw (after_append book before calls) (candidate_from_prices_over_calls d.instrument (after_all book before) calls d f next h)

-- The text of calls that go on with a day, and that of a sheet in which a day is accepted, with the day's line in its place.
line_shown : (book : List ℕ) (d : Day) (figures : List ℕ) (later : List Call) → (answer book (day d)).number ≡ 0 → (answer book (day d)).figures ≡ figures → text_of book (day d ∷ later) ≡ line_text 68 (d.instrument ∷ d.day ∷ 0 ∷ figures) ++ text_of (after book (day d)) later
unfolding text_of answer_line
line_shown book d figures later e f = rw (e, f)

day_shown : (book sheet : List ℕ) (before calls later : List Call) (d : Day) → (sheet_finding book sheet).number ≡ 0 → asks sheet ≡ (before ++ calls) ++ day d ∷ later → (taken : (answer (after_all book (before ++ calls)) (day d)).number ≡ 0) → morning_text book sheet ≡ text_of book (before ++ calls) ++ (line_text 68 (d.instrument ∷ d.day ∷ 0 ∷ figure_list (call_hands_out (after_all book (before ++ calls)) (day d) taken).0) ++ text_of (after (after_all book (before ++ calls)) (day d)) later)
day_shown book sheet before calls later d good e taken =
    let now = after_all book (before ++ calls) in
    let out = call_hands_out now (day d) taken in
    (lines_follow.accepted book sheet good).0 ∙ ap (text_of book) e ∙ lines_follow.next book (before ++ calls) (day d ∷ later)
    ∙ ap (λ (text : List ℕ). text_of book (before ++ calls) ++ text) (line_shown now d (figure_list out.0) later taken out.3)

pub candidate_from_prices_over_sheet : CandidateFromPricesOverSheet
candidate_from_prices_over_sheet book sheet before calls later d good e h taken =
    let out = call_hands_out (after_all book (before ++ calls)) (day d) taken in
    record {
      figures = out.0;
      line = day_shown book sheet before calls later d good e taken;
      covered = covered_after book before calls d out.0 out.1 h out.2;
    }

pub variance_from_prices_over_nights : VarianceFromPricesOverNights
variance_from_prices_over_nights i book days calls h =
    run_above _ _ _ (first_row i book days calls h) (last_row i book days calls h) (prices_after_lem i _ calls _ (prices_over i book days [] tt))
    (nights_run i book days calls h)

pub candidate_from_prices_over_nights : CandidateFromPricesOverNights
candidate_from_prices_over_nights i book days calls d f next h e =
    run_covered _ _ _ (first_row i book days calls h) (last_row i book days calls h) (prices_after_lem i _ calls _ (prices_over i book days [] tt))
    (nights_run i book days calls h) d f next e
