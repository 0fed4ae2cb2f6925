-- The example's text, a sheet of refused rows, the sheets that are refused whole, lines that follow each other, and demand 3 over the days of a sheet. Assumes nothing.
use mathlib.Core.Path.{◌≡◌, refl, ap, ◌∙◌}
use mathlib.Core.Logic.{◌≢◌, ◌⊎◌, inl, inr}
use mathlib.Core.Bool.{Bool, true, false, cond}
use mathlib.Core.List.{List, [], ◌∷◌, ◌++◌, append_assoc, append-nil}
use Prim.Native.Nat.{ℕ, ◌-◌, ◌<◌}
use native.Mathlib.Nat.{suc-ne-zero}
use native.Mathlib.Omega.{arith}
use borrow.Author.Tests.{ne_eqb, lt-leb}
use lib.Dec.{leb, lit<}
use lib.IntN.{pos, neg_ℤ}
use lib.ListN.{length, replicate}
use Rattle.paper.specs.Row as Row
use Rattle.paper.specs.Row.{width, word, is_in, are_in, row_in_range}
use Rattle.paper.specs.Rates.{Day, Figures, figure_list, accepted, day_in_range, day_on}
use Rattle.paper.specs.Corridor.{is_repo, repos_in_range, terms_in_range}
use Rattle.paper.specs.Book.{row_for, is_open, is_sound}
use Rattle.paper.specs.Calls.{Call, opening, day, corridor, number_of, answer, after, after_all}
use Rattle.paper_sheets.specs.Sheet.{most_bytes, decimal, Progress, broken, reached, read_sheet, nowhere, finding_of, finding, asks, fields_text, line_text, answer_line, text_of, sheet_finding, morning_text, book_after}
use Rattle.paper.specs.Promises.Worked.{sheet_row, day_of, day_at, terms_at}
use Rattle.paper.specs.Promises.Alive.{empty_book}
use Rattle.paper.specs.Promises.Drift.{candidate_of, exact_candidate_of, IsCovered}
use Rattle.paper.specs.Promises.AnyCalls.{moves_after, IsHistory}
use Rattle.paper_sheets.specs.Promises.Sheet.{bytes, example_sheet, ExampleText, RefusedRows, RefusedSheets, LinesFollow, Findings, VarianceOverSheet, CandidateOverSheet}
use Rattle.paper.proofs.Ends.{refuses_untouched}
use Rattle.paper.proofs.Calls.{call_hands_out}
use Rattle.paper.proofs.AnyCalls.{variance_over_calls, candidate_over_calls}
use Rattle.paper_sheets.proofs.Computing.{sheet_computing}
use Rattle.paper.proofs.Alive as Alive

-- A sheet that is accepted on a sound book has the lines of its calls.
pub text_accepted : (book sheet : List ℕ) → is_sound book ≡ true → (finding sheet).number ≡ 0 → morning_text book sheet ≡ text_of book (asks sheet)
unfolding morning_text
text_accepted book sheet sound e = rw (sound, e)

abbrev refused_sheet : List ℕ
refused_sheet = bytes "1\n6 0 0 0 0 0 0 0 0 0 0 0 0 0 0 0 0 0 0 0 0 0 0\n1\n8 5 300 1 2\n1\n9 3 -4 10 500 2000 50000 20000 1000\n"

-- The example, by the calls that it asks and the answers to them.
example_calls : List Call
example_calls =
    opening (sheet_row 2000 100000 100000)
    ∷ day (day_at 101 103000 0 0)
    ∷ day (day_at 102 103000 6 0)
    ∷ corridor 7 (terms_at 73 (neg_ℤ (pos 1000)) (pos 1000) 50000 20000 1000)
    ∷ []

example_read : (finding example_sheet ≡ nowhere 0) × (asks example_sheet ≡ example_calls)
unfolding sheet_computing example_calls
example_read = (refl, refl)

example_lines : text_of empty_book example_calls ≡ bytes "O 7 0\nD 7 101 0 60000 120000 60000 500000000 0 1\nD 7 102 0 140000 280000 70000 580000000 0 2\nC 7 73 0 101000 108000\n"
unfolding sheet_computing example_calls
example_lines = rw ((Alive.example_sheet).opens, (Alive.example_sheet).day101, (Alive.example_sheet).day102, (Alive.example_sheet).corridor73)

pub example_text : ExampleText
example_text =
    text_accepted empty_book example_sheet Alive.empty_sound (ap (λ f. f.number) example_read.0)
    ∙ ap (text_of empty_book) example_read.1
    ∙ example_lines

-- Rows that are refused, by the calls that they ask: each leaves the book to the next.
abbrev out_of_range : Call
out_of_range = opening (6 ∷ replicate (width - 1) 0)

abbrev no_day : Call
no_day = day (day_of 8 5 300 1 2)

abbrev no_corridor : Call
no_corridor = corridor 9 (record { k = 3; lower = neg_ℤ (pos 4); upper = pos 10; shift = 500; x = 2000; rise = 50000; fall = 20000; tick = 1000 })

refused_read : (finding refused_sheet ≡ nowhere 0) × (asks refused_sheet ≡ out_of_range ∷ no_day ∷ no_corridor ∷ [])
unfolding sheet_computing
refused_read = (refl, refl)

module _ (book : List ℕ) (sound : is_sound book ≡ true) (eight : is_open book 8 ≡ false) (nine : is_open book 9 ≡ false) where
  first_refused : answer book out_of_range ≡ record { number = 2; figures = [] }
  unfolding answer number_of is_in are_in row_in_range
  first_refused = rw sound

  second_refused : answer book no_day ≡ record { number = 5; figures = replicate 6 0 }
  unfolding answer number_of is_in are_in day_in_range
  second_refused = rw (sound, eight)

  third_refused : answer book no_corridor ≡ record { number = 5; figures = replicate 2 0 }
  unfolding answer number_of is_in are_in is_repo repos_in_range terms_in_range
  third_refused = rw (sound, nine)

  refused_lines_lem : text_of book (out_of_range ∷ no_day ∷ no_corridor ∷ []) ≡ bytes "O 6 2\nD 8 5 5 0 0 0 0 0 0\nC 9 3 5 0 0\n"
  unfolding sheet_computing
  refused_lines_lem =
      let first : after book out_of_range ≡ book = refuses_untouched book out_of_range (λ e. omega (arith, ap (λ a. a.number) first_refused)) in
      let second : after book no_day ≡ book = refuses_untouched book no_day (λ e. omega (arith, ap (λ a. a.number) second_refused)) in
      simp (first, second, first_refused, second_refused, third_refused)

pub refused_rows : RefusedRows
refused_rows =
    text_accepted empty_book refused_sheet Alive.empty_sound (ap (λ f. f.number) refused_read.0)
    ∙ ap (text_of empty_book) refused_read.1
    ∙ refused_lines_lem empty_book Alive.empty_sound (Alive.empty_test 8 (lit< tt)) (Alive.empty_test 9 (lit< tt))

-- Sheets that are refused whole.
found_too_long : (sheet : List ℕ) → most_bytes < length sheet → finding sheet ≡ nowhere 9
unfolding finding
found_too_long sheet h = rw (lt-leb (length sheet) most_bytes h)

text_too_long : (book sheet : List ℕ) → is_sound book ≡ true → most_bytes < length sheet → morning_text book sheet ≡ bytes "L 0\n"
unfolding morning_text sheet_computing
text_too_long book sheet sound h = rw (sound, lt-leb (length sheet) most_bytes h)

text_empty : (book : List ℕ) → is_sound book ≡ true → morning_text book [] ≡ bytes "L 1\n"
unfolding morning_text sheet_computing
text_empty book sound = rw sound

pub text_refused : (book sheet : List ℕ) → is_sound book ≡ true → (finding sheet).number ≢ 0 → morning_text book sheet ≡ line_text 76 ((finding sheet).line ∷ [])
unfolding morning_text
text_refused book sheet sound n = rw (sound, ne_eqb _ 0 n)

text_bad : (book sheet : List ℕ) → is_sound book ≡ true → (finding sheet).number ≢ 0 → morning_text book sheet ≡ bytes "L " ++ (decimal (finding sheet).line ++ bytes "\n")
unfolding line_text fields_text
text_bad book sheet sound n = text_refused book sheet sound n

pub refused_sheets : RefusedSheets
unfolding sheet_finding morning_text book_after asks
refused_sheets =
    record {
      empty = text_empty;
      too_long = text_too_long;
      too_long_found = found_too_long;
      bad = text_bad;
      asks_nothing = λ sheet n. rw (ne_eqb _ 0 n);
      found = λ book sheet e. rw e;
      unsound = λ book sheet e. (rw e, rw e);
      untouched = λ book sheet n. rw (ne_eqb _ 0 n);
    }

-- Findings worked by hand.
pub findings : Findings
unfolding sheet_computing
findings =
    record {
      good = refl;
      count = refl;
      minus = refl;
      after = refl;
      missing = refl;
      missing_row = refl;
      unended = refl;
    }

-- Calls after calls.
pub after_append : (book : List ℕ) (before calls : List Call) → after_all book (before ++ calls) ≡ after_all (after_all book before) calls
after_append book [] calls = refl
after_append book (call ∷ before) calls = after_append (after book call) before calls

text_append : (book : List ℕ) (before calls : List Call) → text_of book (before ++ calls) ≡ text_of book before ++ text_of (after_all book before) calls
unfolding text_of
text_append book [] calls = refl
text_append book (call ∷ before) calls = rw (text_append (after book call) before calls, append_assoc)

-- A sheet is found good, or refused as one that breaks its form.
pub found_number : (sheet : List ℕ) → ((finding sheet).number ≡ 0) ⊎ ((finding sheet).number ≡ 9)
unfolding finding
found_number sheet = by_cases (leb (length sheet) most_bytes) (read_sheet sheet)
  where
    by_cases : (t : Bool) (p : Progress) → ((cond t (finding_of sheet p) (nowhere 9)).number ≡ 0) ⊎ ((cond t (finding_of sheet p) (nowhere 9)).number ≡ 9)
    by_cases false p = inr refl
    by_cases true (broken line text) = inr refl
    by_cases true (reached line ns text) = inl refl

-- A sheet is refused only by a number that is not 0, so one that is not refused is on a sound book.
sound_accepted : (book sheet : List ℕ) → (sheet_finding book sheet).number ≡ 0 → is_sound book ≡ true
unfolding sheet_finding
sound_accepted book sheet e = by_cases (is_sound book) refl
  where
    by_cases : (t : Bool) → is_sound book ≡ t → is_sound book ≡ true
    by_cases true s = s
    by_cases false s = absurd (suc-ne-zero 0 (rw s at e))

found_accepted : (book sheet : List ℕ) → (sheet_finding book sheet).number ≡ 0 → (finding sheet).number ≡ 0
unfolding sheet_finding
found_accepted book sheet e = rw (sound_accepted book sheet e) at e

pub lines_follow : LinesFollow
unfolding text_of book_after answer_line
lines_follow =
    record {
      first = λ book call. append-nil _;
      next = text_append;
      accepted = λ book sheet e. (text_accepted book sheet (sound_accepted book sheet e) (found_accepted book sheet e), rw e);
      none = λ book i value ps d t b. (refl, refl, refl, refl, refl);
    }

pub variance_over_sheet : VarianceOverSheet
variance_over_sheet i book sheet before calls good e h =
    rw ((lines_follow.accepted book sheet good).1, e, after_append) (variance_over_calls i (after_all book before) calls h)

-- The same of a day after calls and more calls, by the book that they leave together.
covered_after : (book : List ℕ) (before calls : List Call) (d : Day) (f : Figures) (next : List ℕ) → IsHistory d.instrument (after_all book before) calls
    → let start = row_for (after_all book before) d.instrument in
    let row = row_for (after_all book (before ++ calls)) d.instrument in
    day_on row d ≡ accepted f next
    → IsCovered (word start Row.step) (exact_candidate_of start (moves_after d.instrument (after_all book before) calls []) row d) (candidate_of row d f.variance) f.preliminary
covered_after book before calls d f next h =
    rw (after_append book before calls) (candidate_over_calls d.instrument (after_all book before) calls d f next h)

-- The text of calls that go on with a day.
line_shown : (book : List ℕ) (d : Day) (figures : List ℕ) (later : List Call) → (answer book (day d)).number ≡ 0 → (answer book (day d)).figures ≡ figures → text_of book (day d ∷ later) ≡ line_text 68 (d.instrument ∷ d.day ∷ 0 ∷ figures) ++ text_of (after book (day d)) later
unfolding text_of answer_line
line_shown book d figures later e f = rw (e, f)

pub candidate_over_sheet : CandidateOverSheet
candidate_over_sheet book sheet before calls later d good e h taken =
    let met = after_all book (before ++ calls) in
    let out = call_hands_out met (day d) taken in
    record {
      figures = out.0;
      line =
          (lines_follow.accepted book sheet good).0 ∙ ap (text_of book) e ∙ text_append book (before ++ calls) (day d ∷ later)
          ∙ ap (λ (text : List ℕ). text_of book (before ++ calls) ++ text) (line_shown met d (figure_list out.0) later taken out.3);
      covered = covered_after book before calls d out.0 out.1 h out.2;
    }
