-- The longest text is reached: a law of one day, by induction over the days; the lines of one round of prices, of an opening and of a corridor by computing. Assumes nothing.
use mathlib.Core.Path.{◌≡◌, refl, ap, ap₂, subst, ◌∙◌}
use mathlib.Core.Bool.{Bool, true, ◌&&◌}
use mathlib.Core.List.{List, [], ◌∷◌, ◌++◌, map}
use Prim.Native.Nat.{ℕ, zero, suc, ◌+◌, ◌*◌, ◌-◌, ◌/◌, ◌%◌, ◌^◌, ◌≤◌, ◌<◌}
use native.Mathlib.Nat.{le_trans, mod-lt, suc-mul, add-mul-div_left, add-mul-mod_self_left}
use native.Mathlib.Omega.{arith}
use borrow.Author.Tests.{eqb-true, lt-leb}
use lib.Dec.{eqb, lit≤, lit<}
use lib.ListN.{length, replicate, set, length-append}
use lib.Seq.{sets-eq}
use Rattle.paper.specs.Row.{prices, is_in, are_in, row_in_range, is_halted, last_change, width}
use Rattle.paper.specs.Rates.{Price, Newer, Older, price_number, Figures, DayAnswer, accepted, day_in_range, move, move_on, day_on}
use Rattle.paper.specs.Book.{with_row, row_for, all_below, is_sound}
use Rattle.paper.specs.Calls.{Call, opening, day, corridor, number_of, figure_count, figures_for, Answer, answer, after}
use Rattle.paper_sheets.specs.Sheet.{line_feed, places, decimal, Item, openings, days, corridors, answer_line, text_of}
use Rattle.paper_sheets.specs.Written.{Asked, Rows, written, written_rows, written_section, day_numbers, asked_numbers, sheet_of, calls_in, AreShort, InForm}
use Rattle.paper.specs.Each.{Each}
use Rattle.paper.specs.Promises.Ranges.{IsDay}
use Rattle.paper.specs.Promises.Alive.{empty_book}
use Rattle.paper_sheets.specs.Promises.Output.{line_of, longest_price, longest_day, longest_row, longest_days, longest_book, longest_opening, longest_asked, longest_rows, longest_sheet, LongestText}
use Rattle.paper.proofs.Tests.{and_left, and_right}
use Rattle.paper.proofs.Row.{in_from, in_to}
use Rattle.paper.proofs.Ranges.{ranges_mean}
use Rattle.paper.proofs.Book.{below_all}
use Rattle.paper.proofs.Accepted.{after_refused}
use Rattle.paper.proofs.Writes.{sound_stays}
use Rattle.paper.proofs.Calls.{call_leaves}
use Rattle.paper.proofs.Standing.{Stands, row_open, put_stands}
use Rattle.paper.proofs.Alive.{empty_sound, empty_closed}
use Rattle.paper.proofs.Computing.{computing}
use Rattle.paper_sheets.proofs.Computing.{sheet_computing}
use Rattle.paper_sheets.proofs.Digits.{places_least, places_only, decimal_length}
use Rattle.paper_sheets.proofs.Sheets.{written_is_read}
use Rattle.paper_sheets.proofs.Morning.{text_accepted}

-- The prices go round in 50 days, so these show that each is in range and its move from the two before it is 1,000,000.
abbrev is_steady : ℕ → Bool
is_steady k = is_in prices (longest_price (suc (suc k))) && eqb (move (longest_price (suc k)) (longest_price k) (longest_price (suc (suc k)))).size 1000000

steady_round : all_below 50 is_steady ≡ true
unfolding computing
steady_round = refl

price_again : (n x q : ℕ) → n ≡ x + 2 * (25 * q) → longest_price n ≡ longest_price x
price_again n x q e =
    ap longest_price e ∙ ap (λ (half : ℕ). 2 ^ (half % 25)) (add-mul-div_left x (25 * q) (lit< tt)) ∙ ap (λ (power : ℕ). 2 ^ power) (add-mul-mod_self_left (x / 2) 25 q)

steady : (k : ℕ) → is_steady k ≡ true
steady k =
    let r = k % 50 in
    let e : longest_price k ≡ longest_price r = price_again k r (k / 50) (omega arith) in
    let f : longest_price (suc k) ≡ longest_price (suc r) = price_again (suc k) (suc r) (k / 50) (omega arith) in
    let g : longest_price (suc (suc k)) ≡ longest_price (suc (suc r)) = price_again (suc (suc k)) (suc (suc r)) (k / 50) (omega arith) in
    rw (e, f, g) (below_all 50 is_steady steady_round r (mod-lt k (lit< tt)))

-- Each day is in range, and its move is 1,000,000; so it has the figures that the row keeps, and leaves the next row.
day_in_range_lem : (k : ℕ) → k < 1000 → IsDay (longest_day (suc k))
day_in_range_lem k few =
    let price = and_left (is_in prices (longest_price (suc (suc k)))) _ (steady k) in
    record {
      instrument = record { not_below = lit≤ tt; not_above = lit≤ tt };
      day = record { not_below = omega arith; not_above = omega arith };
      price = record { not_below = in_from prices _ price; not_above = in_to prices _ price };
      m = record { not_below = lit≤ tt; not_above = lit≤ tt };
      j = record { not_below = lit≤ tt; not_above = lit≤ tt };
    }

day_steady : (k : ℕ) → k < 1000 → (day_in_range (longest_day (suc k)) ≡ true) × ((move_on (longest_row k) (longest_day (suc k))).size ≡ 1000000)
unfolding move_on
day_steady k few =
    ((ranges_mean.day (longest_day (suc k))).1 (day_in_range_lem k few), eqb-true _ 1000000 (and_right (is_in prices (longest_price (suc (suc k)))) _ (steady k)))

-- Which price gives it differs; its number has one digit.
abbrev longest_from : ℕ → Price
longest_from k = (move_on (longest_row k) (longest_day (suc k))).from

one_digit : (price : Price) → length (decimal (price_number price)) ≡ 1
unfolding sheet_computing
one_digit Newer = refl
one_digit Older = refl

-- The figures by their days since change, and the next row by the day of the last change: they are today's number and 0.
abbrev longest_figures : ℕ → ℕ → Figures
longest_figures k since =
    record { margin = 1000000; concentration = 1000000; preliminary = 1000000; variance = 1000000000000; days = since; from = longest_from k }

abbrev longest_answer : ℕ → ℕ → ℕ → DayAnswer
longest_answer k since changed = accepted (longest_figures k since) (set (longest_row (suc k)) last_change changed)

day_given : (k : ℕ) → k < 1000 → day_on (longest_row k) (longest_day (suc k)) ≡ longest_answer k (100000 + suc k - 0) (100000 + suc k - (100000 + suc k - 0))
unfolding computing
day_given k few = rw (lt-leb (100000 + suc k) (100000 + k) (omega arith), (day_steady k few).1)

day_taken : (k : ℕ) → k < 1000 → day_on (longest_row k) (longest_day (suc k)) ≡ accepted (longest_figures k (100000 + suc k)) (longest_row (suc k))
day_taken k few =
    let today : 100000 + suc k - 0 ≡ 100000 + suc k = omega arith in
    let none : 100000 + suc k - (100000 + suc k - 0) ≡ 0 = omega arith in
    day_given k few ∙ ap₂ (longest_answer k) today none

-- On a sound book with the row before it, the day is accepted and its line has 68 bytes.
module _ (book : List ℕ) (k : ℕ) (few : k < 1000) (sound : is_sound book ≡ true) (row : row_for book 999999999 ≡ longest_row k) where
  abbrev today : Call
  today = day (longest_day (suc k))

  day_accepted : number_of book today ≡ 0
  unfolding number_of is_halted
  day_accepted = rw (sound, (day_steady k few).0, row_open book 999999999 (longest_row k) (lit< tt) (record { sound = sound; is_row = row }), row, day_taken k few)

  day_line : length (line_of book today) ≡ 68
  unfolding sheet_computing answer figures_for
  day_line =
      let six : length (decimal (100000 + suc k)) ≡ 6
      = decimal_length (100000 + suc k) ∙ places_only (100000 + suc k) 6 (lit≤ tt) (omega arith) (λ l. omega arith) in
      let number = length-append (decimal (100000 + suc k)) in
      rw (day_accepted, row, day_taken k few, number, six, number, six, length-append (decimal (price_number (longest_from k))), one_digit (longest_from k))

  day_row_lem : row_for (after book today) 999999999 ≡ longest_row (suc k)
  unfolding answer
  day_row_lem = let left = call_leaves book today day_accepted in cc (left.2, left.3, day_taken k few)

-- The lines of days, and then of calls that have so many bytes on any sound book.
days_long : (n k bytes : ℕ) (calls : List Call) (book : List ℕ) → n + k ≤ 1000 → is_sound book ≡ true → row_for book 999999999 ≡ longest_row k
    → ((left : List ℕ) → is_sound left ≡ true → length (text_of left calls) ≡ bytes)
    → length (text_of book (map day (longest_days n k) ++ calls)) ≡ n * 68 + bytes
unfolding text_of
days_long zero k bytes calls book few sound row rest = omega (arith, rest book sound)
days_long (suc n) k bytes calls book few sound row rest =
    let now = day (longest_day (suc k)) in
    let l : k < 1000 = omega arith in
    rw (length-append (line_of book now))
    (omega (
      arith,
      day_line book k l sound row,
      days_long n (suc k) bytes calls (after book now) (omega arith) (sound_stays book now sound) (day_row_lem book k l sound row) rest,
    ))

days_short : (n k : ℕ) → n + k ≤ 1000 → Each (λ d. AreShort (day_numbers d)) (longest_days n k)
days_short zero k few = tt
days_short (suc n) k few = let r = day_in_range_lem k (omega arith) in (omega arith, days_short n (suc k) (omega arith))

-- A call out of range leaves the book, so the same call after it is refused too.
refused_long : {A : Type 0} (call : A → Call) (x : A) (bytes n : ℕ) (book : List ℕ) (calls : List Call) → number_of book (call x) ≡ 2
    → length (answer_line (call x) (let a : Answer = record { number = 2; figures = replicate (figure_count (call x)) 0 } in a)) ≡ bytes
    → length (text_of book (map call (replicate n x) ++ calls)) ≡ n * bytes + length (text_of book calls)
unfolding text_of answer
refused_long call x bytes zero book calls two line = omega arith
refused_long call x bytes (suc n) book calls two line =
    rw (length-append (line_of book (call x)), after_refused book (call x) (λ z. omega arith), two)
    (omega (arith, suc-mul n bytes, refused_long call x bytes n book calls two line))

abbrev asking : Asked → Call
asking a = corridor a.instrument a.terms

out_of_range_lem : (book : List ℕ) → is_sound book ≡ true → (number_of book (opening longest_opening) ≡ 2) × (number_of book (asking longest_asked) ≡ 2)
unfolding number_of is_in are_in row_in_range
out_of_range_lem book sound = (rw sound, rw sound)

-- The book is the empty one with its first row written.
longest_in_range : row_in_range (longest_row 0) ≡ true
unfolding computing
longest_in_range = refl

longest_written : with_row empty_book 0 (longest_row 0) ≡ longest_book
unfolding with_row
longest_written = sets-eq (longest_row 0) empty_book 0 (lit≤ tt)

book_ready : Stands longest_book 999999999 (longest_row 0)
book_ready =
    subst (λ (book : List ℕ). Stands book 999999999 (longest_row 0)) longest_written
    (put_stands empty_book 0 (longest_row 0) empty_sound (lit< tt) longest_in_range (empty_closed 999999999 (lit< tt)))

each_replicate : {A : Type 0} (P : A → Type 0) (n : ℕ) (x : A) → P x → Each P (replicate n x)
each_replicate P zero x p = tt
each_replicate P (suc n) x p = (p, each_replicate P n x p)

-- The sheet's bytes: a count line of five at most, and so many lines that have so many at most.
pub rows_short : (form : List Item) (bytes n : ℕ) (rows : List (List ℕ)) → length rows ≡ n → Each (λ ns. length (written form ns) ≤ bytes) rows → length (written_rows form rows) ≤ n * bytes
rows_short form bytes n [] count each = omega (arith, count)
rows_short form bytes zero (ns ∷ rows) count each = absurd (omega (arith, count))
rows_short form bytes (suc n) (ns ∷ rows) count each =
    rw (length-append (written form ns)) (omega (arith, suc-mul n bytes, each.0, rows_short form bytes n rows (omega (arith, count)) each.1))

section_short : (form : List Item) (bytes n : ℕ) (rows : List (List ℕ)) → length rows ≡ n → n < 10 ^ 4 → Each (λ ns. length (written form ns) ≤ bytes) rows → length (written_section form rows) ≤ 5 + n * bytes
section_short form bytes n rows count few each =
    let short : places n ≤ 4 = places_least n 4 (lit≤ tt) few in
    rw (count, length-append (decimal n ++ line_feed ∷ []), length-append (decimal n), decimal_length) (omega (arith, rows_short form bytes n rows count each))

pub sections_short : (rows : Rows) (a b c : ℕ) → length (written_section openings.form rows.openings) ≤ a
    → length (written_section days.form (map day_numbers rows.days)) ≤ b → length (written_section corridors.form (map asked_numbers rows.corridors)) ≤ c
    → length (sheet_of rows) ≤ a + b + c
unfolding sheet_of
sections_short rows a b c e f g =
    rw (length-append (written_section openings.form rows.openings), length-append (written_section days.form (map day_numbers rows.days))) (omega arith)

days_count : (n k : ℕ) → length (map day_numbers (longest_days n k)) ≡ n
days_count zero k = refl
days_count (suc n) k = ap suc (days_count n (suc k))

day_bytes_lem : (k : ℕ) → k < 1000 → length (written days.form (day_numbers (longest_day (suc k)))) ≤ 32
day_bytes_lem k few =
    simp (length-append, decimal_length)
    (omega (
      arith,
      places_least 999999999 9 (lit≤ tt) (lit< tt),
      places_least (100000 + suc k) 6 (lit≤ tt) (omega arith),
      places_least (longest_price (suc (suc k))) 10 (lit≤ tt) (omega (arith, (day_in_range_lem k few).price.not_above)),
      places_least 0 1 (lit≤ tt) (lit< tt),
    ))

days_bytes : (n k : ℕ) → n + k ≤ 1000 → Each (λ ns. length (written days.form ns) ≤ 32) (map day_numbers (longest_days n k))
days_bytes zero k few = tt
days_bytes (suc n) k few = (day_bytes_lem k (omega arith), days_bytes n (suc k) (omega arith))

others_bytes : (length (written openings.form longest_opening) ≤ 100) × (length (written corridors.form (asked_numbers longest_asked)) ≤ 100)
unfolding sheet_computing
others_bytes = (lit≤ tt, lit≤ tt)

sheet_short : length longest_sheet ≤ 65536
sheet_short =
    le_trans
    (sections_short longest_rows (5 + 64 * 100) (5 + 1000 * 32) (5 + 64 * 100)
    (section_short openings.form 100 64 (replicate 64 longest_opening) refl (lit< tt) (each_replicate (λ ns. length (written openings.form ns) ≤ 100) 64 longest_opening others_bytes.0))
    (section_short days.form 32 1000 (map day_numbers (longest_days 1000 0)) (days_count 1000 0) (lit< tt) (days_bytes 1000 0 (lit≤ tt)))
    (section_short corridors.form 100 64 (map asked_numbers (replicate 64 longest_asked)) refl (lit< tt) (each_replicate (λ ns. length (written corridors.form ns) ≤ 100) 64 (asked_numbers longest_asked) others_bytes.1)))
    (lit≤ tt)

in_form : InForm longest_rows
in_form =
    record {
      openings_most = lit≤ tt;
      days_most = lit≤ tt;
      corridors_most = lit≤ tt;
      openings_wide = each_replicate (λ row. length row ≡ width) 64 longest_opening refl;
      openings_short = each_replicate AreShort 64 longest_opening (omega arith);
      days_short = days_short 1000 0 (lit≤ tt);
      corridors_short = each_replicate (λ a. AreShort (asked_numbers a)) 64 longest_asked (omega arith);
      bytes_most = sheet_short;
    }

text_long : length (text_of longest_book (calls_in longest_rows)) ≡ 72416
unfolding calls_in sheet_computing
text_long =
    let asked = map asking (replicate 64 longest_asked) in
    refused_long opening longest_opening 23 64 longest_book (map day (longest_days 1000 0) ++ asked) (out_of_range_lem longest_book book_ready.sound).0 refl
    ∙ ap (λ (n : ℕ). 64 * 23 + n) (days_long 1000 0 (64 * 46) asked longest_book (lit≤ tt) book_ready.sound book_ready.is_row
    (λ left sound. refused_long asking longest_asked 46 64 left [] (out_of_range_lem left sound).1 refl))

pub longest_text : LongestText
longest_text =
    let read = written_is_read longest_rows in_form in
    let accepted = text_accepted longest_book longest_sheet book_ready.sound (ap (λ f. f.number) read.0) in
    record { sound = book_ready.sound; reached = ap length (accepted ∙ ap (text_of longest_book) read.1) ∙ text_long }
