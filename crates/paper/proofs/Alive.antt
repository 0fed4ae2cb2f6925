-- The example sheet, the book of three instruments and the refusals: where each instrument stands by laws, each call by computing with its row alone. Assumes nothing.
use mathlib.Core.Path.{◌≡◌, refl, ap, ◌∙◌}
use mathlib.Core.Bool.{true, false}
use mathlib.Core.List.{List, [], ◌∷◌}
use mathlib.Core.Logic.{inl}
use Prim.Native.Nat.{ℕ, ◌+◌, ◌*◌, ◌<◌}
use native.Mathlib.Omega.{arith}
use lib.Dec.{lit<}
use lib.IntN.{pos, neg_ℤ}
use lib.ListN.{set, length-replicate, get_or-replicate}
use lib.Seq.{sets}
use Rattle.paper.specs.Least.{least_from, least}
use Rattle.paper.specs.Row as Row
use Rattle.paper.specs.Row.{instruments, width, is_in, word, parameters_of, row_in_range}
use Rattle.paper.specs.Rates.{day_on}
use Rattle.paper.specs.Book.{rows, size, row_at, with_row, is_zeros, place_for, is_open, free_place, is_sound}
use Rattle.paper.specs.Calls.{opening, closing, parameters, halt, day, corridor, day_row, number_of, answer, after}
use Rattle.paper.specs.Promises.Book.{word_at, IsOpen}
use Rattle.paper.specs.Promises.Worked.{sheet_row_of, sheet_row, day_of, day_at, distinct_row, terms_at}
use Rattle.paper.specs.Promises.Alive.{empty_book, open_book, book101, book102, greatest_instrument, three_book, rows_down, ExampleSheet, ThreeInstruments, Refusals}
use Rattle.paper.proofs.Tests.{not_passed}
use Rattle.paper.proofs.Book.{open_says, free_tells, written_row, written_others}
use Rattle.paper.proofs.Sound.{sound_long, sound_means, used_positive}
use Rattle.paper.proofs.Computing.{computing}
use Rattle.paper.proofs.Standing.{number_by, figures_by, answer_by, left_by, Stands, row_open, number_by_lem, answer_by_lem, after_by, day_stands, halt_stands, opened_stands, put_stands, put_place, put_closed, put_keeps, answer_opens, after_opens}

-- The empty book is sound, and no instrument is open in it.
pub empty_word : (k place : ℕ) → k < rows → place < width → word_at empty_book k place ≡ 0
empty_word k place l p = get_or-replicate size (width * k + place) 0 0 (omega arith)

pub empty_sound : is_sound empty_book ≡ true
empty_sound =
    (sound_means empty_book).1
    (record {
      long = length-replicate {A = ℕ} size 0;
      rows = λ k l. inl (λ place p. empty_word k place l p);
      once = λ j k l m u w e. absurd (omega (arith, used_positive empty_book j u, empty_word j 0 l (lit< tt)));
    })

pub empty_closed : (i : ℕ) → 0 < i → ¬ IsOpen empty_book i
empty_closed i positive o = omega (arith, o.there, empty_word o.place 0 o.below (lit< tt))

closed_test : (book : List ℕ) (i : ℕ) → ¬ IsOpen book i → is_open book i ≡ false
closed_test book i closed = not_passed (is_open book i) (λ e. closed (open_says book i e))

pub empty_test : (i : ℕ) → 0 < i → is_open empty_book i ≡ false
empty_test i positive = closed_test empty_book i (empty_closed i positive)

-- The lowest free row, where it is the first or the second.
first_free : (book : List ℕ) → is_zeros (row_at book 0) ≡ true → free_place book ≡ 0
unfolding free_place least least_from is_zeros row_at
first_free book free = rw free

second_free : (book : List ℕ) → is_zeros (row_at book 0) ≡ false → is_zeros (row_at book 1) ≡ true → free_place book ≡ 1
unfolding free_place least least_from is_zeros row_at
second_free book used free = rw (used, free)

-- The rows that are opened, and the example sheet's row after its first and its second day.
abbrev pub first_row : List ℕ
first_row = sheet_row 2000 100000 100000

abbrev pub middle_row : List ℕ
middle_row = distinct_row 1 900000000 85000 298

abbrev pub last_row : List ℕ
last_row = sheet_row_of greatest_instrument 2000 100000 100000

abbrev pub row101 : ℕ → List ℕ
row101 i = sets (sheet_row_of i 2000 100000 100000) Row.variance (500000000 ∷ 60000 ∷ 60000 ∷ 120000 ∷ 101 ∷ 101 ∷ 103000 ∷ 100000 ∷ [])

abbrev pub row102 : ℕ → List ℕ
row102 i = sets (sheet_row_of i 2000 100000 100000) Row.variance (580000000 ∷ 70000 ∷ 140000 ∷ 280000 ∷ 102 ∷ 102 ∷ 103000 ∷ 103000 ∷ [])

pub in_range : (row_in_range first_row ≡ true) × (row_in_range middle_row ≡ true) × (row_in_range last_row ≡ true) × (row_in_range (sheet_row_of 8 2000 100000 100000) ≡ true)
unfolding computing
in_range = (refl, refl, refl, refl)

-- The empty book opens any row in range.
pub empty_opens : (row : List ℕ) → row_in_range row ≡ true → 0 < word row Row.instrument → answer empty_book (opening row) ≡ record { number = 0; figures = [] }
empty_opens row sound positive =
    answer_opens empty_book row 0 empty_sound sound (empty_test (word row Row.instrument) positive)
    (first_free empty_book (free_tells empty_book 0 (λ place p. empty_word 0 place (lit< tt) p))) (lit< tt)

-- The example sheet.
opens : answer empty_book (opening first_row) ≡ record { number = 0; figures = [] }
opens = empty_opens first_row in_range.0 (lit< tt)

open_stands : Stands open_book 7 first_row
open_stands = opened_stands empty_book first_row empty_sound (ap (λ a. a.number) opens)

day101 : (number_by first_row (day (day_at 101 103000 0 0)) ≡ 0) × (day_row first_row (day_on first_row (day_at 101 103000 0 0)) ≡ row101 7)
unfolding computing number_by
day101 = (refl, refl)

day102 : (number_by (row101 7) (day (day_at 102 103000 6 0)) ≡ 0) × (day_row (row101 7) (day_on (row101 7) (day_at 102 103000 6 0)) ≡ row102 7)
unfolding computing number_by
day102 = (refl, refl)

stands101 : Stands book101 7 (row101 7)
stands101 = day_stands open_book first_row (lit< tt) (day_at 101 103000 0 0) (row101 7) open_stands day101

pub stands102 : Stands book102 7 (row102 7)
stands102 = day_stands book101 (row101 7) (lit< tt) (day_at 102 103000 6 0) (row102 7) stands101 day102

-- What the calls answer by the rows that they meet.
record OnRows : Type 0 where
  day101 : answer_by first_row (day (day_at 101 103000 0 0)) ≡ record { number = 0; figures = 60000 ∷ 120000 ∷ 60000 ∷ 500000000 ∷ 0 ∷ 1 ∷ [] }
  day102 : answer_by (row101 7) (day (day_at 102 103000 6 0)) ≡ record { number = 0; figures = 140000 ∷ 280000 ∷ 70000 ∷ 580000000 ∷ 0 ∷ 2 ∷ [] }
  corridor73 : answer_by (row102 7) (corridor 7 (terms_at 73 (neg_ℤ (pos 1000)) (pos 1000) 50000 20000 1000)) ≡ record { number = 0; figures = 101000 ∷ 108000 ∷ [] }
  middle_day : answer_by middle_row (day (day_of 11 301 51000 2 1)) ≡ record { number = 0; figures = 145000 ∷ 220000 ∷ 100000 ∷ 1350937500 ∷ 0 ∷ 2 ∷ [] }
  last_corridor : answer_by last_row (corridor greatest_instrument (terms_at 73 (neg_ℤ (pos 1000)) (pos 1000) 50000 20000 1000)) ≡ record { number = 0; figures = 98000 ∷ 104000 ∷ [] }
  last_parameters : number_by last_row (parameters greatest_instrument (parameters_of (sheet_row 500 1 1))) ≡ 0
  last_closed : number_by last_row (closing greatest_instrument) ≡ 0
  stale : number_by middle_row (day (day_of 11 300 51000 0 0)) ≡ 6
  move : number_by last_row (day (day_of greatest_instrument 101 200001 0 0)) ≡ 7
  empty : number_by middle_row (corridor 11 (terms_at 73 (pos 0) (pos 0) 50000 20000 1000000)) ≡ 8
  halts : number_by middle_row (halt 11 1) ≡ 0
  halted : number_by (sets middle_row Row.halted (1 ∷ [])) (day (day_of 11 301 51000 2 1)) ≡ 12
  step : number_by last_row (parameters greatest_instrument (set (parameters_of (sheet_row 2000 1 1)) 3 20000)) ≡ 10

on_rows : OnRows
unfolding computing number_by figures_by answer_by
on_rows =
    record {
      day101 = refl;
      day102 = refl;
      corridor73 = refl;
      middle_day = refl;
      last_corridor = refl;
      last_parameters = refl;
      last_closed = refl;
      stale = refl;
      move = refl;
      empty = refl;
      halts = refl;
      halted = refl;
      step = refl;
    }

pub example_sheet : ExampleSheet
example_sheet =
    record {
      opens = opens;
      day101 = answer_by_lem open_book first_row (lit< tt) (day (day_at 101 103000 0 0)) tt open_stands ∙ on_rows.day101;
      day102 = answer_by_lem book101 (row101 7) (lit< tt) (day (day_at 102 103000 6 0)) tt stands101 ∙ on_rows.day102;
      corridor73 = answer_by_lem book102 (row102 7) (lit< tt) (corridor 7 (terms_at 73 (neg_ℤ (pos 1000)) (pos 1000) 50000 20000 1000)) tt stands102 ∙ on_rows.corridor73;
    }

-- The book of three instruments, row by row.
abbrev pub one_book : List ℕ
one_book = with_row empty_book 0 first_row

abbrev pub two_book : List ℕ
two_book = with_row one_book 30 middle_row

-- No instrument but those written is open in each.
pub one_sound : is_sound one_book ≡ true
one_sound = (put_stands empty_book 0 first_row empty_sound (lit< tt) in_range.0 (empty_closed 7 (lit< tt))).sound

pub one_closed : (i : ℕ) → 0 < i → ¬ (7 ≡ i) → ¬ IsOpen one_book i
one_closed i positive n = put_closed empty_book 0 first_row empty_sound (lit< tt) in_range.0 (empty_closed 7 (lit< tt)) i n (empty_closed i positive)

middle_closed : ¬ IsOpen one_book 11
middle_closed = one_closed 11 (lit< tt) (λ e. omega arith)

pub two_stands : Stands two_book 11 middle_row
two_stands = put_stands one_book 30 middle_row one_sound (lit< tt) in_range.1 middle_closed

two_place : place_for two_book 11 ≡ 30
two_place = put_place one_book 30 middle_row one_sound (lit< tt) in_range.1 middle_closed

two_closed : (i : ℕ) → 0 < i → ¬ (7 ≡ i) → ¬ (11 ≡ i) → ¬ IsOpen two_book i
two_closed i positive n m = put_closed one_book 30 middle_row one_sound (lit< tt) in_range.1 middle_closed i m (one_closed i positive n)

last_closed : ¬ IsOpen two_book greatest_instrument
last_closed = two_closed greatest_instrument (lit< tt) (λ e. omega arith) (λ e. omega arith)

pub last_stands : Stands three_book greatest_instrument last_row
last_stands = put_stands two_book 63 last_row two_stands.sound (lit< tt) in_range.2 last_closed

last_place : place_for three_book greatest_instrument ≡ 63
last_place = put_place two_book 63 last_row two_stands.sound (lit< tt) in_range.2 last_closed

pub three_keeps : (place_for three_book 11 ≡ 30) × Stands three_book 11 middle_row
three_keeps =
    put_keeps two_book 63 last_row two_stands.sound (lit< tt) in_range.2 last_closed 11 30 middle_row
    (λ e. omega arith) (lit< tt) (lit< tt) (λ e. omega arith) two_place two_stands

pub three_closed : is_open three_book 8 ≡ false
three_closed =
    closed_test three_book 8
    (put_closed two_book 63 last_row two_stands.sound (lit< tt) in_range.2 last_closed 8 (λ e. omega arith)
    (two_closed 8 (lit< tt) (λ e. omega arith) (λ e. omega arith)))

-- Its first row is used, and its second is free.
three_rows : (j : ℕ) → j < 30 → row_at three_book j ≡ row_at one_book j
three_rows j l =
    written_others two_book 63 last_row j (sound_long two_book two_stands.sound) refl (λ e. omega arith) (omega arith)
    ∙ written_others one_book 30 middle_row j (sound_long one_book one_sound) refl (λ e. omega arith) (omega arith)

first_used : is_zeros first_row ≡ false
unfolding is_zeros
first_used = refl

three_free : free_place three_book ≡ 1
three_free =
    let long = sound_long empty_book empty_sound in
    second_free three_book (ap is_zeros (three_rows 0 (lit< tt) ∙ written_row empty_book 0 first_row long (lit< tt) refl) ∙ first_used)
    (ap is_zeros (three_rows 1 (lit< tt) ∙ written_others empty_book 0 first_row 1 long refl (λ e. omega arith) (lit< tt))
    ∙ free_tells empty_book 1 (λ place p. empty_word 1 place (lit< tt) p))

-- The rows that its calls write.
middle_next : day_row middle_row (day_on middle_row (day_of 11 301 51000 2 1))
    ≡ sets middle_row Row.variance (1350937500 ∷ 100000 ∷ 145000 ∷ 220000 ∷ 301 ∷ 301 ∷ 51000 ∷ 50000 ∷ [])
unfolding computing
middle_next = refl

last_next : sets last_row Row.alpha (parameters_of (sheet_row 500 1 1)) ≡ sheet_row_of greatest_instrument 500 100000 100000
unfolding parameters_of
last_next = refl

pub three_instruments : ThreeInstruments
unfolding left_by answer_by
three_instruments =
    record {
      middle_day = answer_by_lem three_book middle_row (lit< tt) (day (day_of 11 301 51000 2 1)) tt three_keeps.1 ∙ on_rows.middle_day;
      middle_after =
          after_by three_book middle_row (lit< tt) 30 (day (day_of 11 301 51000 2 1)) tt three_keeps.1 three_keeps.0 (ap (λ a. a.number) on_rows.middle_day)
          ∙ ap (with_row three_book 30) middle_next;
      last_parameters =
          after_by three_book last_row (lit< tt) 63 (parameters greatest_instrument (parameters_of (sheet_row 500 1 1))) tt last_stands last_place on_rows.last_parameters
          ∙ ap (with_row three_book 63) last_next;
      last_closed = after_by three_book last_row (lit< tt) 63 (closing greatest_instrument) tt last_stands last_place on_rows.last_closed;
      last_corridor =
          answer_by_lem three_book last_row (lit< tt) (corridor greatest_instrument (terms_at 73 (neg_ℤ (pos 1000)) (pos 1000) 50000 20000 1000)) tt last_stands
          ∙ on_rows.last_corridor;
      lowest_opened = after_opens three_book (sheet_row_of 8 2000 100000 100000) 1 last_stands.sound in_range.3 three_closed three_free (lit< tt);
    }

-- The refusals that come before an instrument's row is read.
out_of_range_lem : (book : List ℕ) → is_sound book ≡ true → (answer book (closing 0)).number ≡ 2
unfolding answer number_of is_in
out_of_range_lem book sound = rw sound

pub already_open : (book row : List ℕ) → is_sound book ≡ true → row_in_range row ≡ true → is_open book (word row Row.instrument) ≡ true → (answer book (opening row)).number ≡ 3
unfolding answer number_of
already_open book row sound range opened = rw (sound, range, opened)

not_open : (book : List ℕ) (i : ℕ) → is_sound book ≡ true → is_in instruments i ≡ true → is_open book i ≡ false → (answer book (closing i)).number ≡ 5
unfolding answer number_of
not_open book i sound range closed = rw (sound, range, closed)

full : (answer (rows_down 64) (opening (sheet_row_of 65 2000 100000 100000))).number ≡ 4
unfolding computing
full = refl

unsound : (answer [] (closing 0)).number ≡ 1
unfolding computing
unsound = refl

eight_in_range : is_in instruments 8 ≡ true
unfolding is_in
eight_in_range = refl

pub refusals : Refusals
unfolding answer
refusals =
    record {
      unsound = unsound;
      range = out_of_range_lem three_book last_stands.sound;
      known = already_open three_book last_row last_stands.sound in_range.2 (row_open three_book greatest_instrument last_row (lit< tt) last_stands);
      full = full;
      unknown = not_open three_book 8 last_stands.sound eight_in_range three_closed;
      stale = number_by_lem three_book middle_row (lit< tt) (day (day_of 11 300 51000 0 0)) tt three_keeps.1 ∙ on_rows.stale;
      move = number_by_lem three_book last_row (lit< tt) (day (day_of greatest_instrument 101 200001 0 0)) tt last_stands ∙ on_rows.move;
      empty = number_by_lem three_book middle_row (lit< tt) (corridor 11 (terms_at 73 (pos 0) (pos 0) 50000 20000 1000000)) tt three_keeps.1 ∙ on_rows.empty;
      halted =
          number_by_lem (after three_book (halt 11 1)) (sets middle_row Row.halted (1 ∷ [])) (lit< tt) (day (day_of 11 301 51000 2 1)) tt
          (halt_stands three_book middle_row (lit< tt) 11 1 three_keeps.1 on_rows.halts)
          ∙ on_rows.halted;
      step = number_by_lem three_book last_row (lit< tt) (parameters greatest_instrument (set (parameters_of (sheet_row 2000 1 1)) 3 20000)) tt last_stands ∙ on_rows.step;
    }
