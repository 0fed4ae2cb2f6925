-- There are runs as demand 3 from the prices speaks of, through a halt and through nights: an instrument's row is followed call by call, so its days are known, and the exact moves and the prices' own variance are computed from the rows that the days met. Assumes nothing.
use mathlib.Core.Path.{◌≡◌, refl, sym, ap, subst, subst⁻¹, ◌∙◌}
use mathlib.Core.Bool.{true, false}
use mathlib.Core.List.{List, [], ◌∷◌}
use Prim.Native.Nat.{ℕ, ◌*◌, ◌≤◌, ◌<◌}
use native.Mathlib.Decide.{ℕ_discrete}
use native.Mathlib.Omega.{arith}
use borrow.Author.Tests.{eq-eqb, ne_eqb}
use lib.Dec.{lit≤, lit<}
use lib.ListN.{length}
use lib.Seq.{sets}
use Rattle.paper.specs.Row as Row
use Rattle.paper.specs.Row.{word, row_in_range}
use Rattle.paper.specs.Rates.{Day, day_on}
use Rattle.paper.specs.Corridor.{Terms}
use Rattle.paper.specs.Book.{row_for, is_open, is_sound}
use Rattle.paper.specs.Calls.{Call, opening, halt, day, corridor, day_row, number_of, answer, after, after_all}
use Rattle.paper.specs.Promises.Calls.{named}
use Rattle.paper.specs.Promises.Worked.{sheet_row_of, day_of}
use Rattle.paper.specs.Promises.Alive.{empty_book, greatest_instrument}
use Rattle.paper.specs.Promises.Drift.{low_row, still_day}
use Rattle.paper.specs.Promises.Halts.{low_book, gap_calls}
use Rattle.paper_sheets.specs.Promises.Evening.{next_morning, after_nights, week_row, week_book, week_terms, week_day, monday_to_thursday, friday}
use Rattle.paper_prices.specs.Days.{RunDay, met, days_with, days_after, days_over, days_through}
use Rattle.paper_prices.specs.Promises.Prices.{exact_moves_of, prices_after, prices_under, KeptAbove}
use Rattle.paper_prices.specs.Promises.Cases.{over}
use Rattle.paper_prices.specs.Promises.Over.{GapFromPrices, WeekFromPrices}
use Rattle.paper.proofs.Tests.{clash}
use Rattle.paper.proofs.Sound.{sound_says}
use Rattle.paper.proofs.Accepted.{after_refused}
use Rattle.paper.proofs.Writes.{sound_stays, touches_one_row}
use Rattle.paper.proofs.Calls.{open_same}
use Rattle.paper.proofs.Computing.{computing}
use Rattle.paper.proofs.Standing.{number_by, Stands, number_by_lem, refused_stands, day_stands, halt_stands, opened_stands, other_stands, corridor_leaves}
use Rattle.paper.proofs.Alive.{empty_sound, empty_test}
use Rattle.paper.proofs.Calendar.{opened}
use Rattle.paper.proofs.Halts.{gap_drift}
use Rattle.paper_sheets.proofs.Night.{night_keeps}
use Rattle.paper_sheets.proofs.Week.{nights_exist}
use Rattle.paper_prices.proofs.Over.{variance_from_prices_over_calls, variance_from_prices_over_nights}
use Rattle.paper_prices.proofs.Cases.{pricing}

-- An instrument followed over calls: the row that it has after them, and its days, from those before them on.
record Follows (i : ℕ) (book : List ℕ) (calls : List Call) (before : List RunDay) (row : List ℕ) (all : List RunDay) : Type 0 where
  stands : Stands (after_all book calls) i row
  days : days_after i book calls before ≡ all

no_call : {i : ℕ} {book row : List ℕ} {days : List RunDay} → Stands book i row → Follows i book [] days row days
no_call s = record { stands = s; days = refl }

-- One call and then more, by what the call leaves.
module _ {i : ℕ} {book : List ℕ} {calls : List Call} {before last : List RunDay} {row : List ℕ} where
  a_call : {now : List RunDay} (call : Call) → days_with i book call before ≡ now → Follows i (after book call) calls now row last → Follows i book (call ∷ calls) before row last
  a_call call e rest = record { stands = rest.stands; days = ap (days_after i (after book call) calls) e ∙ rest.days }

  -- A call on another instrument, and a corridor, which leaves the book.
  another's : {has : List ℕ} (call : Call) → 0 < i → ¬ (i ≡ named call) → days_with i book call before ≡ before → Stands book i has
      → (Stands (after book call) i has → Follows i (after book call) calls before row last) → Follows i book (call ∷ calls) before row last
  another's {has} call positive n e s rest = a_call call e (rest (other_stands book has i call positive n s))

  a_corridor : {has : List ℕ} (k : ℕ) (terms : Terms) → Stands book i has
      → (Stands (after book (corridor k terms)) i has → Follows i (after book (corridor k terms)) calls before row last) → Follows i book (corridor k terms ∷ calls) before row last
  a_corridor {has} k terms s rest =
      a_call (corridor k terms) refl (rest (subst⁻¹ (λ (book : List ℕ). Stands book i has) (corridor_leaves book k terms) s))

  -- An accepted halt of its own.
  a_halt : {has : List ℕ} (value : ℕ) → 0 < length has → number_by has (halt i value) ≡ 0 → Stands book i has
      → (Stands (after book (halt i value)) i (sets has Row.halted (value ∷ [])) → Follows i (after book (halt i value)) calls before row last)
      → Follows i book (halt i value ∷ calls) before row last
  a_halt {has} value some e s rest = a_call (halt i value) refl (rest (halt_stands book has some i value s e))

-- A day of its own, accepted and refused.
module _ {book : List ℕ} {before : List RunDay} {has : List ℕ} (d : Day) (some : 0 < length has) where
  one_day : number_by has (day d) ≡ 0 → Stands book d.instrument has → days_with d.instrument book (day d) before ≡ met has d ∷ before
  unfolding answer
  one_day e s = rw (eq-eqb d.instrument d.instrument refl, number_by_lem book has some (day d) tt s, e, s.is_row)

  no_day : ¬ (number_by has (day d) ≡ 0) → Stands book d.instrument has → days_with d.instrument book (day d) before ≡ before
  unfolding answer
  no_day n s = rw (eq-eqb d.instrument d.instrument refl, number_by_lem book has some (day d) tt s, ne_eqb _ 0 n)

  taken : {calls : List Call} {last : List RunDay} {row next : List ℕ} → (number_by has (day d) ≡ 0) × (day_row has (day_on has d) ≡ next) → Stands book d.instrument has
      → (Stands (after book (day d)) d.instrument next → Follows d.instrument (after book (day d)) calls (met has d ∷ before) row last)
      → Follows d.instrument book (day d ∷ calls) before row last
  taken {next = next} e s rest = a_call (day d) (one_day e.0 s) (rest (day_stands book has some d next s e))

  refused : {calls : List Call} {last : List RunDay} {row : List ℕ} → ¬ (number_by has (day d) ≡ 0) → Stands book d.instrument has
      → (Stands (after book (day d)) d.instrument has → Follows d.instrument (after book (day d)) calls before row last)
      → Follows d.instrument book (day d ∷ calls) before row last
  refused n s rest = a_call (day d) (no_day n s) (rest (refused_stands book has some (day d) tt s n))

-- Through a halt: the rows that the two days leave, and the row while it is halted.
abbrev low101 : List ℕ
low101 = sets low_row Row.variance (1 ∷ 10000 ∷ 10000 ∷ 20000 ∷ 5 ∷ 101 ∷ 100000 ∷ 100000 ∷ [])

abbrev low105 : List ℕ
low105 = sets low_row Row.variance (1 ∷ 10000 ∷ 10000 ∷ 20000 ∷ 5 ∷ 105 ∷ 100000 ∷ 100000 ∷ [])

abbrev halted_low : List ℕ
halted_low = sets low101 Row.halted (1 ∷ [])

record OnLow : Type 0 where
  in_range : row_in_range low_row ≡ true
  first : (number_by low_row (day (still_day 101)) ≡ 0) × (day_row low_row (day_on low_row (still_day 101)) ≡ low101)
  halts : number_by low101 (halt 7 1) ≡ 0
  refused_first : number_by halted_low (day (still_day 102)) ≡ 12
  refused_next : number_by halted_low (day (still_day 103)) ≡ 12
  ends : number_by halted_low (halt 7 0) ≡ 0
  last : (number_by low101 (day (still_day 105)) ≡ 0) × (day_row low101 (day_on low101 (still_day 105)) ≡ low105)

on_low : OnLow
unfolding computing number_by
on_low =
    record { in_range = refl; first = (refl, refl); halts = refl; refused_first = refl; refused_next = refl; ends = refl; last = (refl, refl) }

low_stands : Stands low_book 7 low_row
low_stands = opened_stands empty_book low_row empty_sound (opened low_row on_low.in_range (lit< tt))

-- The days with a halt between them.
abbrev gap_days : List RunDay
gap_days = met low101 (still_day 105) ∷ met low_row (still_day 101) ∷ []

gap_follows : Follows 7 low_book gap_calls [] low105 gap_days
gap_follows =
    taken (still_day 101) (lit< tt) on_low.first low_stands (λ s.
    a_halt 1 (lit< tt) on_low.halts s (λ s.
    another's (opening (sheet_row_of greatest_instrument 2000 100000 100000)) (lit< tt) (λ e. omega arith) refl s (λ s.
    refused (still_day 102) (lit< tt) (λ e. omega (arith, on_low.refused_first)) s (λ s.
    another's (day (day_of greatest_instrument 102 103000 0 0)) (lit< tt) (λ e. omega arith) refl s (λ s.
    refused (still_day 103) (lit< tt) (λ e. omega (arith, on_low.refused_next)) s (λ s.
    a_halt 0 (lit< tt) on_low.ends s (λ s.
    taken (still_day 105) (lit< tt) on_low.last s (λ s. no_call s))))))))

gap_moves : exact_moves_of gap_days ≡ over 0 100000 ∷ over 0 100000 ∷ []
unfolding pricing
gap_moves = refl

gap_own : 10000 * prices_after low_row gap_days ≡ 9025 * prices_under gap_days
unfolding pricing
gap_own = refl

pub gap_from_prices : GapFromPrices
gap_from_prices =
    record {
      moves = ap exact_moves_of gap_follows.days ∙ gap_moves;
      own = rw (gap_follows.days, low_stands.is_row) gap_own;
      kept = gap_drift.kept;
      above =
          subst (KeptAbove (row_for low_book 7) (days_after 7 low_book gap_calls [])) gap_drift.kept
          (variance_from_prices_over_calls 7 low_book gap_calls gap_drift.history);
    }

-- Through nights: the third instrument has its row in the week's book, since it is open there and was not before its own opening.
module _ (first second : List ℕ) (n : ¬ (2003 ≡ word first Row.instrument)) (n' : ¬ (2003 ≡ word second Row.instrument)) where
  abbrev two : List ℕ
  two = after (after empty_book (opening first)) (opening second)

  two_sound : is_sound two ≡ true
  two_sound = sound_stays (after empty_book (opening first)) (opening second) (sound_stays empty_book (opening first) empty_sound)

  two_closed : is_open two 2003 ≡ false
  two_closed =
      open_same two empty_book 2003 (sound_says two two_sound) (sound_says empty_book empty_sound) (lit< tt)
      (touches_one_row.others (after empty_book (opening first)) (opening second) 2003 (lit< tt) n' ∙ touches_one_row.others empty_book (opening first) 2003 (lit< tt) n)
      ∙ empty_test 2003 (lit< tt)

  third_stands : is_open (after two (opening week_row)) 2003 ≡ true → Stands (after two (opening week_row)) 2003 week_row
  unfolding answer
  third_stands is = go (ℕ_discrete (number_of two (opening week_row)) 0)
    where
      go : Dec (number_of two (opening week_row) ≡ 0) → Stands (after two (opening week_row)) 2003 week_row
      go (yes e) = opened_stands two week_row two_sound e
      go (no r) = absurd (clash (is_open two 2003) (ap (λ (book : List ℕ). is_open book 2003) (sym (after_refused two (opening week_row) r)) ∙ is) two_closed)

week_stands : Stands week_book 2003 week_row
week_stands = third_stands _ _ (λ e. omega arith) (λ e. omega arith) nights_exist.through.open_here

-- The calls of a day of the week: two other days leave the row, its own is taken, and corridors leave the book.
week_follows : {book row next : List ℕ} {before : List RunDay} (number first second third m k : ℕ) → 0 < length row
    → let d = day_of 2003 number third m 0 in
    (number_by row (day d) ≡ 0) × (day_row row (day_on row d) ≡ next)
    → Stands book 2003 row → Follows 2003 book (week_day number first second third m k) before next (met row d ∷ before)
week_follows number first second third m k some e s =
    another's (day (day_of 2001 number first m 0)) (lit< tt) (λ e. omega arith) refl s (λ s.
    another's (day (day_of 2002 number second m 0)) (lit< tt) (λ e. omega arith) refl s (λ s.
    taken (day_of 2003 number third m 0) some e s (λ s.
    a_corridor 2001 (week_terms k 200000 10) s (λ s.
    a_corridor 2002 (week_terms k 200000 10) s (λ s.
    a_corridor 2003 (week_terms k 400000 1) s (λ s. no_call s))))))

-- The same over past days, each with its night, which leaves the row.
record FollowsNights (book : List ℕ) (past : List (List Call)) (before : List RunDay) (row : List ℕ) (all : List RunDay) : Type 0 where
  stands : Stands (after_nights book past) 2003 row
  days : days_over 2003 book past before ≡ all

no_night : {book row : List ℕ} {days : List RunDay} → Stands book 2003 row → FollowsNights book [] days row days
no_night s = record { stands = s; days = refl }

a_night : {book : List ℕ} {calls : List Call} {past : List (List Call)} {before now all : List RunDay} {next row : List ℕ} → Follows 2003 book calls before next now
    → (Stands (next_morning (after_all book calls)) 2003 next → FollowsNights (next_morning (after_all book calls)) past now row all) → FollowsNights book (calls ∷ past) before row all
a_night {book} {calls} {past} today rest =
    let night = night_keeps (after_all book calls) today.stands.sound in
    let later = rest (record { sound = night.sound; is_row = night.instruments 2003 (lit< tt) ∙ today.stands.is_row }) in
    record { stands = later.stands; days = ap (days_over 2003 (next_morning (after_all book calls)) past) today.days ∙ later.days }

-- The rows that the five days leave, and each day on the row of the day before.
abbrev row_with : ℕ → ℕ → ℕ → ℕ → ℕ → ℕ → ℕ → ℕ → List ℕ
row_with variance preliminary margin concentration last_change last_day newer older =
    sets week_row Row.variance (variance ∷ preliminary ∷ margin ∷ concentration ∷ last_change ∷ last_day ∷ newer ∷ older ∷ [])

abbrev monday : List ℕ
monday = row_with 2578401666 155000 165000 455000 20100 20100 6105 6612

abbrev tuesday : List ℕ
tuesday = row_with 2730288348 160000 170000 470000 20101 20101 6230 6105

abbrev wednesday : List ℕ
wednesday = row_with 2610008149 160000 170000 470000 20101 20102 6215 6230

abbrev thursday : List ℕ
thursday = row_with 2480316968 155000 165000 455000 20103 20103 6240 6215

abbrev friday_row : List ℕ
friday_row = row_with 2356590081 155000 230000 630000 20103 20104 6225 6240

abbrev Takes : List ℕ → Day → List ℕ → Type 0
Takes row d next = (number_by row (day d) ≡ 0) × (day_row row (day_on row d) ≡ next)

on_monday : Takes week_row (day_of 2003 20100 6105 0 0) monday
unfolding computing number_by
on_monday = (refl, refl)

on_tuesday : Takes monday (day_of 2003 20101 6230 0 0) tuesday
unfolding computing number_by
on_tuesday = (refl, refl)

on_wednesday : Takes tuesday (day_of 2003 20102 6215 0 0) wednesday
unfolding computing number_by
on_wednesday = (refl, refl)

on_thursday : Takes wednesday (day_of 2003 20103 6240 0 0) thursday
unfolding computing number_by
on_thursday = (refl, refl)

on_friday : Takes thursday (day_of 2003 20104 6225 2 0) friday_row
unfolding computing number_by
on_friday = (refl, refl)

-- The days of the week.
abbrev to_thursday : List RunDay
to_thursday =
    met wednesday (day_of 2003 20103 6240 0 0)
    ∷ met tuesday (day_of 2003 20102 6215 0 0)
    ∷ met monday (day_of 2003 20101 6230 0 0)
    ∷ met week_row (day_of 2003 20100 6105 0 0)
    ∷ []

abbrev week_days : List RunDay
week_days = met thursday (day_of 2003 20104 6225 2 0) ∷ to_thursday

past_follows : FollowsNights week_book monday_to_thursday [] thursday to_thursday
past_follows =
    a_night (week_follows 20100 283900 160900 6105 0 4 (lit< tt) on_monday week_stands) (λ s.
    a_night (week_follows 20101 301200 161320 6230 0 4 (lit< tt) on_tuesday s) (λ s.
    a_night (week_follows 20102 299800 161150 6215 0 4 (lit< tt) on_wednesday s) (λ s.
    a_night (week_follows 20103 300100 161400 6240 0 4 (lit< tt) on_thursday s) (λ s. no_night s))))

friday_follows : Follows 2003 (after_nights week_book monday_to_thursday) friday to_thursday friday_row week_days
friday_follows = week_follows 20104 300400 161290 6225 2 7 (lit< tt) on_friday past_follows.stands

all_days : days_through 2003 week_book monday_to_thursday friday ≡ week_days
all_days = ap (days_after 2003 (after_nights week_book monday_to_thursday) friday) past_follows.days ∙ friday_follows.days

week_moves : exact_moves_of week_days ≡ over 15000000 6240 ∷ over 25000000 6215 ∷ over 110000000 6105 ∷ over 382000000 6612 ∷ over 535000000 6640 ∷ []
unfolding pricing
week_moves = refl

week_own : (2356567492 * prices_under week_days ≤ prices_after week_row week_days) × (prices_after week_row week_days < 2356567493 * prices_under week_days)
unfolding pricing
week_own = (lit≤ tt, lit< tt)

pub week_from_prices : WeekFromPrices
week_from_prices =
    record {
      moves = ap exact_moves_of all_days ∙ week_moves;
      own = rw (all_days, week_stands.is_row) week_own;
      above =
          subst (KeptAbove (row_for week_book 2003) (days_through 2003 week_book monday_to_thursday friday)) nights_exist.variance
          (variance_from_prices_over_nights 2003 week_book monday_to_thursday friday nights_exist.through);
    }
