-- There are days and nights as demand 3 speaks of: the week of examples/chain, gone through by the third instrument's row, which other instruments' days, corridors and nights leave. Assumes nothing.
use mathlib.Core.Path.{◌≡◌, refl, ap, subst⁻¹, ◌∙◌}
use mathlib.Core.Bool.{true, false}
use mathlib.Core.List.{List, [], ◌∷◌}
use mathlib.Core.Logic.{inr}
use Prim.Native.Nat.{ℕ, suc, ◌*◌, ◌+◌, ◌≤◌, ◌<◌}
use native.Mathlib.Omega.{arith}
use lib.Dec.{lit≤, lit<}
use lib.ListN.{length}
use lib.Seq.{sets}
use Rattle.paper.specs.Row as Row
use Rattle.paper.specs.Row.{width, word, parameters_of, row_in_range}
use Rattle.paper.specs.Rates.{Day, move_on, day_on}
use Rattle.paper.specs.Corridor.{Terms}
use Rattle.paper.specs.Book.{is_open, free_place, is_sound}
use Rattle.paper.specs.Calls.{Call, opening, day, corridor, day_row, after, after_all}
use Rattle.paper.specs.Promises.Book.{IsFree}
use Rattle.paper.specs.Promises.Worked.{day_of}
use Rattle.paper.specs.Promises.Alive.{empty_book}
use Rattle.paper.specs.Promises.AnyCalls.{moves_after, StaysOpenWith}
use Rattle.paper_sheets.specs.Promises.Evening.{next_morning, after_nights, moves_over, StaysThrough, week_row, week_book, week_terms, week_day, monday_to_thursday, friday, NightsExist}
use Rattle.paper.proofs.Found.{first_least}
use Rattle.paper.proofs.Book.{free_first}
use Rattle.paper.proofs.Sound.{sound_says}
use Rattle.paper.proofs.Writes.{sound_stays, touches_one_row}
use Rattle.paper.proofs.Calls.{open_same}
use Rattle.paper.proofs.Computing.{computing}
use Rattle.paper.proofs.Standing.{number_by, Stands, row_open, day_stands, opened_stands, other_stands, corridor_leaves, answer_opens}
use Rattle.paper.proofs.Alive.{empty_word, empty_sound, empty_test}
use Rattle.paper.proofs.History.{open_with, one_move}
use Rattle.paper_sheets.proofs.Night.{night_keeps}

-- Where the rows from a number on are free, an opening leaves those after it free.
free_after : (book row : List ℕ) (k : ℕ) → k < 64 → ((m : ℕ) → k ≤ m → m < 64 → IsFree book m) → (m : ℕ) → suc k ≤ m → m < 64 → IsFree (after book (opening row)) m
free_after book row k below free m l top place p =
    let lowest : free_place book ≤ k = first_least 64 (IsFree book) k (free_place book) (free_first book) (free k (omega arith) below) in
    touches_one_row.outside book (opening row) (width * m + place) (inr (omega arith)) ∙ free m (omega arith) top place p

row_in_range_lem : row_in_range week_row ≡ true
unfolding computing
row_in_range_lem = refl

-- The third instrument stands after the openings, whatever the first two open, if it is not this one.
module _ (first second : List ℕ) (n : ¬ (2003 ≡ word first Row.instrument)) (n' : ¬ (2003 ≡ word second Row.instrument)) where
  abbrev one : List ℕ
  one = after empty_book (opening first)

  abbrev two : List ℕ
  two = after one (opening second)

  two_sound : is_sound two ≡ true
  two_sound = sound_stays one (opening second) (sound_stays empty_book (opening first) empty_sound)

  two_closed : is_open two 2003 ≡ false
  two_closed =
      open_same two empty_book 2003 (sound_says two two_sound) (sound_says empty_book empty_sound) (lit< tt)
      (touches_one_row.others one (opening second) 2003 (lit< tt) n' ∙ touches_one_row.others empty_book (opening first) 2003 (lit< tt) n)
      ∙ empty_test 2003 (lit< tt)

  two_room : free_place two < 64
  two_room =
      let free = free_after one second 1 (lit< tt) (free_after empty_book first 0 (lit< tt) (λ k l top place p. empty_word k place top p)) 2 (lit≤ tt) (lit< tt) in
      let lowest : free_place two ≤ 2 = first_least 64 (IsFree two) 2 (free_place two) (free_first two) free in
      omega arith

  third_stands : Stands (after two (opening week_row)) 2003 week_row
  third_stands =
      opened_stands two week_row two_sound (ap (λ a. a.number) (answer_opens two week_row (free_place two) two_sound row_in_range_lem two_closed refl two_room))

week_stands : Stands week_book 2003 week_row
week_stands = third_stands _ _ (λ e. omega arith) (λ e. omega arith)

-- The parameters that it has all the week.
abbrev ps : List ℕ
ps = parameters_of week_row

-- A day that its row takes: the row that it leaves, and its move.
record Takes (row : List ℕ) (d : Day) (next : List ℕ) (D : ℕ) : Type 0 where
  taken : (number_by row (day d) ≡ 0) × (day_row row (day_on row d) ≡ next)
  move : (move_on row d).size ≡ D
  some : (0 < length row) × (0 < length next)
  kept : (parameters_of row ≡ ps) × (parameters_of next ≡ ps)

-- What calls do to it on a book: it is open after each, has this row after the last, and has moved once.
record Moves (book : List ℕ) (calls : List Call) (next : List ℕ) (D : ℕ) : Type 0 where
  stays : StaysOpenWith 2003 ps book calls
  stands : Stands (after_all book calls) 2003 next
  moved : (moves : List ℕ) → moves_after 2003 book calls moves ≡ D ∷ moves

-- The calls of a day of the week: two other days leave the row, its own is taken, and corridors leave the book.
module _ {row next : List ℕ} {D : ℕ} (number first second third m k : ℕ) (t : Takes row (day_of 2003 number third m 0) next D) {book : List ℕ} (s : Stands book 2003 row) where
  abbrev book₁ : List ℕ
  book₁ = after book (day (day_of 2001 number first m 0))

  abbrev book₂ : List ℕ
  book₂ = after book₁ (day (day_of 2002 number second m 0))

  abbrev book₃ : List ℕ
  book₃ = after book₂ (day (day_of 2003 number third m 0))

  stands₁ : Stands book₁ 2003 row
  stands₁ = other_stands book row 2003 (day (day_of 2001 number first m 0)) (lit< tt) (λ e. omega arith) s

  stands₂ : Stands book₂ 2003 row
  stands₂ = other_stands book₁ row 2003 (day (day_of 2002 number second m 0)) (lit< tt) (λ e. omega arith) stands₁

  stands₃ : Stands book₃ 2003 next
  stands₃ = day_stands book₂ row t.some.0 (day_of 2003 number third m 0) next stands₂ t.taken

  still : (book : List ℕ) (i : ℕ) (terms : Terms) → Stands book 2003 next → Stands (after book (corridor i terms)) 2003 next
  still book i terms s = subst⁻¹ (λ (book : List ℕ). Stands book 2003 next) (corridor_leaves book i terms) s

  one_day_lem : Moves book (week_day number first second third m k) next D
  one_day_lem =
      let stands₄ = still book₃ 2001 (week_terms k 200000 10) stands₃ in
      let stands₅ = still _ 2002 (week_terms k 200000 10) stands₄ in
      let stands₆ = still _ 2003 (week_terms k 400000 1) stands₅ in
      record {
        stays = (
          open_with book₁ 2003 row t.some.0 t.kept.0 stands₁,
          (
            open_with book₂ 2003 row t.some.0 t.kept.0 stands₂,
            (
              open_with book₃ 2003 next t.some.1 t.kept.1 stands₃,
              (
                open_with _ 2003 next t.some.1 t.kept.1 stands₄,
                (open_with _ 2003 next t.some.1 t.kept.1 stands₅, (open_with _ 2003 next t.some.1 t.kept.1 stands₆, tt)),
              ),
            ),
          ),
        );
        stands = stands₆;
        moved = λ moves. one_move book₂ row (day_of 2003 number third m 0) moves t.some.0 stands₂ D t.taken.0 t.move;
      }

-- The rows that the five days leave, and each day on the row of the day before.
abbrev row_of : ℕ → ℕ → ℕ → ℕ → ℕ → ℕ → ℕ → ℕ → List ℕ
row_of variance preliminary margin concentration last_change last_day newer older =
    sets week_row Row.variance (variance ∷ preliminary ∷ margin ∷ concentration ∷ last_change ∷ last_day ∷ newer ∷ older ∷ [])

abbrev monday : List ℕ
monday = row_of 2578401666 155000 165000 455000 20100 20100 6105 6612

abbrev tuesday : List ℕ
tuesday = row_of 2730288348 160000 170000 470000 20101 20101 6230 6105

abbrev wednesday : List ℕ
wednesday = row_of 2610008149 160000 170000 470000 20101 20102 6215 6230

abbrev thursday : List ℕ
thursday = row_of 2480316968 155000 165000 455000 20103 20103 6240 6215

abbrev friday_row : List ℕ
friday_row = row_of 2356590081 155000 230000 630000 20103 20104 6225 6240

on_monday : Takes week_row (day_of 2003 20100 6105 0 0) monday 80573
unfolding computing number_by
on_monday = record { taken = (refl, refl); move = refl; some = (lit< tt, lit< tt); kept = (refl, refl) }

on_tuesday : Takes monday (day_of 2003 20101 6230 0 0) tuesday 57774
unfolding computing number_by
on_tuesday = record { taken = (refl, refl); move = refl; some = (lit< tt, lit< tt); kept = (refl, refl) }

on_wednesday : Takes tuesday (day_of 2003 20102 6215 0 0) wednesday 18019
unfolding computing number_by
on_wednesday = record { taken = (refl, refl); move = refl; some = (lit< tt, lit< tt); kept = (refl, refl) }

on_thursday : Takes wednesday (day_of 2003 20103 6240 0 0) thursday 4023
unfolding computing number_by
on_thursday = record { taken = (refl, refl); move = refl; some = (lit< tt, lit< tt); kept = (refl, refl) }

on_friday : Takes thursday (day_of 2003 20104 6225 2 0) friday_row 2404
unfolding computing number_by
on_friday = record { taken = (refl, refl); move = refl; some = (lit< tt, lit< tt); kept = (refl, refl) }

-- What past days do to it, from the moves before them on.
record Past (book : List ℕ) (days : List (List Call)) (before row moves : List ℕ) : Type 0 where
  stays : StaysThrough 2003 ps book days
  stands : Stands (after_nights book days) 2003 row
  moved : moves_over 2003 book days before ≡ moves

no_days : {book row moves : List ℕ} → Stands book 2003 row → Past book [] moves row moves
no_days s = record { stays = tt; stands = s; moved = refl }

-- A day with its night, and then days: the night leaves the row.
with_day : {book : List ℕ} {calls : List Call} {days : List (List Call)} {next row before moves : List ℕ} {D : ℕ} → Moves book calls next D
    → (Stands (next_morning (after_all book calls)) 2003 next → Past (next_morning (after_all book calls)) days (D ∷ before) row moves) → Past book (calls ∷ days) before row moves
with_day {book} {calls} {days} {before = before} today later =
    let night = night_keeps (after_all book calls) today.stands.sound in
    let rest = later (record { sound = night.sound; is_row = night.instruments 2003 (lit< tt) ∙ today.stands.is_row }) in
    record {
      stays = (today.stays, rest.stays);
      stands = rest.stands;
      moved = ap (moves_over 2003 (next_morning (after_all book calls)) days) (today.moved before) ∙ rest.moved;
    }

past : Past week_book monday_to_thursday [] thursday (4023 ∷ 18019 ∷ 57774 ∷ 80573 ∷ [])
past =
    with_day (one_day_lem 20100 283900 160900 6105 0 4 on_monday week_stands) (λ s.
    with_day (one_day_lem 20101 301200 161320 6230 0 4 on_tuesday s) (λ s.
    with_day (one_day_lem 20102 299800 161150 6215 0 4 on_wednesday s) (λ s.
    with_day (one_day_lem 20103 300100 161400 6240 0 4 on_thursday s) (λ s. no_days s))))

today : Moves (after_nights week_book monday_to_thursday) friday friday_row 2404
today = one_day_lem 20104 300400 161290 6225 2 7 on_friday past.stands

pub nights_exist : NightsExist
nights_exist =
    let kept = ap parameters_of week_stands.is_row in
    record {
      through =
          record {
            instrument = record { not_below = lit≤ tt; not_above = lit≤ tt };
            sound = week_stands.sound;
            open_here = row_open week_book 2003 week_row (lit< tt) week_stands;
            past = subst⁻¹ (λ (ps : List ℕ). StaysThrough 2003 ps week_book monday_to_thursday) kept past.stays;
            today = subst⁻¹ (λ (ps : List ℕ). StaysOpenWith 2003 ps (after_nights week_book monday_to_thursday) friday) kept today.stays;
          };
      moves = ap (moves_after 2003 (after_nights week_book monday_to_thursday) friday) past.moved ∙ today.moved _;
      variance = ap (λ (row : List ℕ). word row Row.variance) today.stands.is_row;
    }
