-- How long lines and texts are, by the digits that each number may have; and when an output is too short. Assumes nothing.
use mathlib.Core.Path.{◌≡◌, refl, sym, ap, subst, ◌∙◌}
use mathlib.Core.Logic.{◌≢◌, ◌↔◌, ◌⊎◌, inl, inr, ⊎_elim}
use mathlib.Core.Bool.{Bool, true, false, cond, not, ◌&&◌}
use mathlib.Core.List.{List, [], ◌∷◌, ◌++◌, map}
use Prim.Native.Nat.{ℕ, suc, ◌+◌, ◌*◌, ◌^◌, ◌≤◌, ◌<◌}
use native.Mathlib.Nat.{le_refl, le_trans, le_of_suc-le-suc, mul-le-mul, mul-le-mul_right, suc-mul}
use native.Mathlib.Decide.{ℕ_discrete, dec_le}
use native.Mathlib.Omega.{arith}
use borrow.Author.Tests.{ltb-true, lt-ltb, eqb-true, eq-eqb, not-true, not-false}
use lib.Dec.{ltb, eqb, lit<, lit≤}
use lib.ListN.{length, take, length-append, length-map, length-take}
use Rattle.paper.specs.Refusal.{Refusal}
use Rattle.paper.specs.Row as Row
use Rattle.paper.specs.Row.{instruments, is_in, word}
use Rattle.paper.specs.Rates.{Price, Newer, Older, price_number, Day, figure_list, day_in_range, day_on}
use Rattle.paper.specs.Corridor.{Terms, terms_in_range, is_within}
use Rattle.paper.specs.Book.{row_for, is_sound}
use Rattle.paper.specs.Calls.{Call, opening, day, corridor, unless, number_of, figures_for, Answer, answer, after, after_all}
use Rattle.paper_sheets.specs.Sheet.{line_feed, places, decimal, finding, nowhere, fields_text, line_text, answer_line, text_of, sheet_finding, morning_text, book_after}
use Rattle.paper_sheets.specs.Written.{Asked, Rows, day_numbers, asked_numbers, AreShort, calls_in, InForm}
use Rattle.paper.specs.Each.{Each}
use Rattle.paper_sheets.specs.Output.{opening_bytes, day_bytes, corridor_bytes, most_text, is_short, finding_into, text_into, left_into}
use Rattle.paper.specs.Promises.Ranges.{AreTerms}
use Rattle.paper.specs.Promises.Found.{AreTicks}
use Rattle.paper.specs.Promises.Ends.{Check, ◌when◌, Give, none, this, not_this}
use Rattle.paper_sheets.specs.Promises.Sheet.{line_feeds, IsWritten}
use Rattle.paper_sheets.specs.Promises.Output.{line_of, AcceptedLines, RefusedLines, TextFits, RunRefusesInOrder, RoomMeans}
use Rattle.paper.proofs.Tests.{clash, and_left, and_right}
use Rattle.paper.proofs.Row.{in_to}
use Rattle.paper.proofs.Ranges.{day_of_lem, ranges_mean}
use Rattle.paper.proofs.Found.{corridor_found}
use Rattle.paper.proofs.Bounds.{within_means}
use Rattle.paper.proofs.Sound.{sound_means}
use Rattle.paper.proofs.Days.{day_accepted}
use Rattle.paper.proofs.Taken.{day_means, taken_in_range}
use Rattle.paper.proofs.Rows.{row_of_open}
use Rattle.paper.proofs.Accepted.{accept_opening, accept_day, accept_corridor}
use Rattle.paper.proofs.Ends.{refuses_with_zeros}
use Rattle.paper.proofs.Order.{link, deny, refuses_in_order}
use Rattle.paper.proofs.Calls.{figures_accepted, call_hands_out}
use Rattle.paper_sheets.proofs.Computing.{sheet_computing}
use Rattle.paper_sheets.proofs.Digits.{short_at, places_positive, below_places, places_least, decimal_length}
use Rattle.paper_sheets.proofs.Sheets.{each_map, each_of, written_is_read, read_is_written}
use Rattle.paper_sheets.proofs.Morning.{text_accepted, text_refused, found_number, refused_sheets, lines_follow}
use Rattle.paper_sheets.proofs.BadLine.{first_bad_line}

-- Numbers that are not above others, each its own, have no longer line.
infixr 5 ◌&◌
pub data AreUnder : List ℕ → List ℕ → Type 0 where
  end : AreUnder [] []
  ◌&◌ : {n top : ℕ} {ns tops : List ℕ} → n ≤ top → AreUnder ns tops → AreUnder (n ∷ ns) (top ∷ tops)

decimal_under : (n top : ℕ) → n ≤ top → length (decimal n) ≤ length (decimal top)
decimal_under n top h =
    omega (arith, decimal_length n, decimal_length top, places_least n (places top) (places_positive top) (omega (arith, below_places top)))

pub fields_under : {ns tops : List ℕ} → AreUnder ns tops → length (fields_text ns) ≤ length (fields_text tops)
unfolding fields_text
fields_under end = omega arith
fields_under (◌&◌ {n} {top} {ns} {tops} h rest) =
    omega (arith, length-append (decimal n) (fields_text ns), length-append (decimal top) (fields_text tops), decimal_under n top h, fields_under rest)

line_under : (letter : ℕ) {ns tops : List ℕ} → AreUnder ns tops → length (line_text letter ns) ≤ length (line_text letter tops)
unfolding line_text
line_under letter u = omega (arith, fields_under u)

-- The longest line of each kind, by computing: accepted and refused, of an opening, a day and a corridor.
abbrev nines : ℕ
nines = 999999999999999999

longest_opened : length (line_text 79 (999999999 ∷ 0 ∷ [])) ≡ 14
unfolding sheet_computing
longest_opened = refl

longest_dated : length (line_text 68 (999999999 ∷ 999999 ∷ 0 ∷ 1000000 ∷ 1000000 ∷ 4100000 ∷ 1000000000000 ∷ 999999 ∷ 2 ∷ [])) ≡ 68
unfolding sheet_computing
longest_dated = refl

longest_asked_lem : length (line_text 67 (999999999 ∷ 365 ∷ 0 ∷ 2000000000 ∷ 2000000000 ∷ [])) ≡ 40
unfolding sheet_computing
longest_asked_lem = refl

longest_unopened : length (line_text 79 (nines ∷ 9 ∷ [])) ≡ 23
unfolding sheet_computing
longest_unopened = refl

longest_undated : length (line_text 68 (nines ∷ nines ∷ 9 ∷ 0 ∷ 0 ∷ 0 ∷ 0 ∷ 0 ∷ 0 ∷ [])) ≡ 54
unfolding sheet_computing
longest_undated = refl

longest_unasked : length (line_text 67 (nines ∷ nines ∷ 9 ∷ 0 ∷ 0 ∷ [])) ≡ 46
unfolding sheet_computing
longest_unasked = refl

-- Of a halted instrument: the number has two digits, and what is shown is in range.
halted_undated : length (line_text 68 (999999999 ∷ 999999 ∷ 12 ∷ 0 ∷ 0 ∷ 0 ∷ 0 ∷ 0 ∷ 0 ∷ [])) ≡ 34
unfolding sheet_computing
halted_undated = refl

halted_unasked : length (line_text 67 (999999999 ∷ 365 ∷ 12 ∷ 0 ∷ 0 ∷ [])) ≡ 23
unfolding sheet_computing
halted_unasked = refl

longest_line : length (line_text 76 (nines ∷ [])) ≡ 21
unfolding sheet_computing
longest_line = refl

-- The answer of an accepted call.
abbrev handed : ℕ → List ℕ → Answer
handed n figures = record { number = n; figures = figures }

answer_accepted : (book : List ℕ) (call : Call) → (answer book call).number ≡ 0 → answer book call ≡ handed 0 (figures_for book call)
unfolding answer
answer_accepted book call e = (λ i. handed (e i) (figures_accepted book call e i))

accepted_number : (book : List ℕ) (call : Call) → (answer book call).number ≡ 0 → number_of book call ≡ 0
unfolding answer
accepted_number book call e = e

-- The lines of accepted calls, by the ranges of what they show.
opened : (book row : List ℕ) → (answer book (opening row)).number ≡ 0 → length (line_of book (opening row)) ≤ 14
unfolding answer_line figures_for
opened book row e =
    let o = (accept_opening book row (accepted_number book (opening row) e)).range in
    let i : word row Row.instrument ≡ o.values.instrument = ap (λ (row : List ℕ). word row Row.instrument) o.in_order in
    let few : word row Row.instrument ≤ 999999999 = omega (arith, o.in_range.instrument.not_above) in
    let under : AreUnder (word row Row.instrument ∷ 0 ∷ []) (999999999 ∷ 0 ∷ []) = few & le_refl 0 & end in
    rw (answer_accepted book (opening row) e) (omega (arith, longest_opened, line_under 79 under))

from_under : (price : Price) → price_number price ≤ 2
from_under Newer = lit≤ tt
from_under Older = lit≤ tt

dated : (book : List ℕ) (d : Day) → (answer book (day d)).number ≡ 0 → length (line_of book (day d)) ≤ 68
unfolding answer_line figures_for
dated book d e =
    let a = accept_day book d (accepted_number book (day d) e) in
    let f = a.2.0 in
    let row = row_of_open book d.instrument a.0.sound a.0.positive a.0.opened in
    let t = (day_means.taken row.values d f a.2.1).0 (ap (λ (row : List ℕ). day_on row d) (sym row.keeps) ∙ a.2.2) in
    let r = taken_in_range row.values d f row.in_range a.1 t.figures t.small in
    let few : f.days ≤ 999999 = omega (arith, (day_accepted (row_for book d.instrument) d f a.2.1 a.2.2).since, a.1.day.not_above) in
    let under : AreUnder (d.instrument ∷ d.day ∷ 0 ∷ figure_list f) (999999999 ∷ 999999 ∷ 0 ∷ 1000000 ∷ 1000000 ∷ 4100000 ∷ 1000000000000 ∷ 999999 ∷ 2 ∷ [])
    = a.1.instrument.not_above & a.1.day.not_above & le_refl 0 & r.margin.not_above & r.concentration.not_above & r.preliminary.not_above & r.variance.not_above & few & from_under f.from & end in
    rw (answer_accepted book (day d) e, a.2.2) (omega (arith, longest_dated, line_under 68 under))

-- A price within is not above twice the price kept.
price_under : (P margin M : ℕ) (t : Terms) → AreTerms t → P ≤ 1000000000 → (q : ℕ) → is_within P margin M t q ≡ true → q ≤ 2000000000
price_under P margin M t r few q inside =
    let rise : 1000000 + t.rise ≤ 2000000 = omega (arith, r.rise.not_above) in
    let top : P * (1000000 + t.rise) ≤ 1000000000 * 2000000 = mul-le-mul few rise in
    omega (arith, ((within_means P margin M t r q).0 inside).below_rise)

asked : (book : List ℕ) (i : ℕ) (t : Terms) → (answer book (corridor i t)).number ≡ 0 → length (line_of book (corridor i t)) ≤ 40
unfolding answer_line
asked book i t e =
    let a = accept_corridor book i t (accepted_number book (corridor i t) e) in
    let row = row_of_open book i a.0.sound a.0.positive a.0.opened in
    let out = call_hands_out book (corridor i t) e in
    let v = out.0 in
    let newer : v.newer ≡ row.values.newer = ap (λ (row : List ℕ). word row Row.newer) (sym out.1 ∙ row.keeps) in
    let few = price_under v.newer v.margin v.parameters.M t a.1 (omega (arith, row.in_range.newer.not_above)) in
    let found = subst (AreTicks (is_within v.newer v.margin v.parameters.M t) t.tick) out.4 (corridor_found _ _ _ t a.1.tick.not_below) in
    let named : i ≤ 999999999 = omega (arith, row.holds, row.in_range.instrument.not_above) in
    let under : AreUnder (i ∷ t.k ∷ 0 ∷ out.2 ∷ out.3 ∷ []) (999999999 ∷ 365 ∷ 0 ∷ 2000000000 ∷ 2000000000 ∷ [])
    = named & a.1.k.not_above & le_refl 0 & few _ found.0.inside & few _ found.1.inside & end in
    rw (e, out.5) (omega (arith, longest_asked_lem, line_under 67 under))

-- The lines of refused calls: the number is one of those that the call's checks list.
abbrev AllBelow : ℕ → List Check → Type 0
AllBelow most [] = Unit {0}
AllBelow most ((n when condition) ∷ later) = (n < most) × AllBelow most later

digits_under : {n : ℕ} → n < 10 ^ 18 → n ≤ nines
digits_under h = omega arith

one_digit : {n : ℕ} → n < 10 → n ≤ 9
one_digit h = omega arith

given_below : (most : ℕ) → 0 < most → {checks : List Check} {n : ℕ} → AllBelow most checks → Give checks n → n < most
given_below most some below none = some
given_below most some below (this holds) = below.0
given_below most some below (not_this fails rest) = given_below most some below.1 rest

pub accepted_lines : AcceptedLines
accepted_lines = record { openings = opened; days = dated; corridors = asked }

unopened : (book row : List ℕ) → word row Row.instrument < 10 ^ 18 → (answer book (opening row)).number ≢ 0 → length (line_of book (opening row)) ≤ 23
unfolding answer_line
unopened book row short n =
    let given = given_below 10 (lit< tt) (lit< tt, (lit< tt, (lit< tt, (lit< tt, tt)))) (refuses_in_order book (opening row)) in
    let under : AreUnder (word row Row.instrument ∷ (answer book (opening row)).number ∷ []) (nines ∷ 9 ∷ []) = digits_under short & one_digit given & end in
    rw (refuses_with_zeros.calls book (opening row) n) (omega (arith, longest_unopened, line_under 79 under))

-- What is out of range is refused as such, or for its book.
early : (sound : Bool) (next : ℕ) {range : Bool} → range ≡ false → unless sound Refusal.Book (unless range Refusal.Range next) ≤ 9
early true next e = rw e (lit≤ tt)
early false next e = lit≤ tt

day_early : (book : List ℕ) (d : Day) → day_in_range d ≡ false → (answer book (day d)).number ≤ 9
unfolding answer number_of
day_early book d e = early (is_sound book) _ e

corridor_early : (book : List ℕ) (i : ℕ) (t : Terms) → is_in instruments i && terms_in_range t ≡ false → (answer book (corridor i t)).number ≤ 9
unfolding answer number_of
corridor_early book i t e = early (is_sound book) _ e

undated : (book : List ℕ) (d : Day) → d.instrument < 10 ^ 18 → d.day < 10 ^ 18 → (answer book (day d)).number ≢ 0 → length (line_of book (day d)) ≤ 54
unfolding answer_line
undated book d short soon n = go (day_in_range d) refl
  where
    shown : {a b c : ℕ} → d.instrument ≤ a → d.day ≤ b → (answer book (day d)).number ≤ c → length (line_of book (day d)) ≤ length (line_text 68 (a ∷ b ∷ c ∷ 0 ∷ 0 ∷ 0 ∷ 0 ∷ 0 ∷ 0 ∷ []))
    shown p q r =
        rw (refuses_with_zeros.calls book (day d) n)
        (line_under 68 (p & q & r & le_refl 0 & le_refl 0 & le_refl 0 & le_refl 0 & le_refl 0 & le_refl 0 & end))

    go : (range : Bool) → day_in_range d ≡ range → length (line_of book (day d)) ≤ 54
    go true e =
        let r = day_of_lem d e in
        let given = given_below 13 (lit< tt) (lit< tt, (lit< tt, (lit< tt, (lit< tt, (lit< tt, (lit< tt, tt)))))) (refuses_in_order book (day d)) in
        omega (arith, halted_undated, shown r.instrument.not_above r.day.not_above (le_of_suc-le-suc given))
    go false e = omega (arith, longest_undated, shown (digits_under short) (digits_under soon) (day_early book d e))

unasked : (book : List ℕ) (i : ℕ) (t : Terms) → i < 10 ^ 18 → t.k < 10 ^ 18 → (answer book (corridor i t)).number ≢ 0 → length (line_of book (corridor i t)) ≤ 46
unfolding answer_line
unasked book i t short few n = go (is_in instruments i && terms_in_range t) refl
  where
    shown : {a b c : ℕ} → i ≤ a → t.k ≤ b → (answer book (corridor i t)).number ≤ c → length (line_of book (corridor i t)) ≤ length (line_text 67 (a ∷ b ∷ c ∷ 0 ∷ 0 ∷ []))
    shown p q r = rw (refuses_with_zeros.calls book (corridor i t) n) (line_under 67 (p & q & r & le_refl 0 & le_refl 0 & end))

    go : (range : Bool) → is_in instruments i && terms_in_range t ≡ range → length (line_of book (corridor i t)) ≤ 46
    go true e =
        let given = given_below 13 (lit< tt) (lit< tt, (lit< tt, (lit< tt, (lit< tt, (lit< tt, tt))))) (refuses_in_order book (corridor i t)) in
        let named = in_to instruments i (and_left (is_in instruments i) (terms_in_range t) e) in
        let k = ((ranges_mean.terms t).0 (and_right (is_in instruments i) (terms_in_range t) e)).k.not_above in
        omega (arith, halted_unasked, shown named k (le_of_suc-le-suc given))
    go false e = omega (arith, longest_unasked, shown (digits_under short) (digits_under few) (corridor_early book i t e))

pub refused_lines : RefusedLines
refused_lines = record { openings = unopened; days = undated; corridors = unasked }

-- A line of either kind, and lines that are each no longer than so many bytes.
opening_line : (book row : List ℕ) → AreShort row → length (line_of book (opening row)) ≤ opening_bytes
opening_line book row short = go (ℕ_discrete (answer book (opening row)).number 0)
  where
    go : Dec ((answer book (opening row)).number ≡ 0) → length (line_of book (opening row)) ≤ opening_bytes
    go (yes e) = omega (arith, opened book row e)
    go (no n) = unopened book row (short_at row 0 short) n

day_line : (book : List ℕ) (d : Day) → AreShort (day_numbers d) → length (line_of book (day d)) ≤ day_bytes
day_line book d short = go (ℕ_discrete (answer book (day d)).number 0)
  where
    go : Dec ((answer book (day d)).number ≡ 0) → length (line_of book (day d)) ≤ day_bytes
    go (yes e) = dated book d e
    go (no n) = omega (arith, undated book d short.0 short.1.0 n)

corridor_line : (book : List ℕ) (a : Asked) → AreShort (asked_numbers a) → length (line_of book (corridor a.instrument a.terms)) ≤ corridor_bytes
corridor_line book a short = go (ℕ_discrete (answer book (corridor a.instrument a.terms)).number 0)
  where
    go : Dec ((answer book (corridor a.instrument a.terms)).number ≡ 0) → length (line_of book (corridor a.instrument a.terms)) ≤ corridor_bytes
    go (yes e) = omega (arith, asked book a.instrument a.terms e)
    go (no n) = unasked book a.instrument a.terms short.0 short.1.0 n

lines_fit : (most : ℕ) (calls : List Call) → Each (λ call. (book : List ℕ) → length (line_of book call) ≤ most) calls → (book : List ℕ) → length (text_of book calls) ≤ length calls * most
unfolding text_of
lines_fit most [] each book = omega arith
lines_fit most (call ∷ calls) each book =
    omega (arith, length-append (line_of book call) (text_of (after book call) calls), suc-mul (length calls) most, each.0 book, lines_fit most calls each.1 (after book call))

-- The lines of one section's rows, as many as it has at most.
section_fits : {A : Type 0} (call : A → Call) (most bytes : ℕ) (rows : List A) → Each (λ row. (book : List ℕ) → length (line_of book (call row)) ≤ bytes) rows → length rows ≤ most → (book : List ℕ) → length (text_of book (map call rows)) ≤ most * bytes
section_fits call most bytes rows each few book =
    le_trans (lines_fit bytes (map call rows) (each_map call _ _ (λ row h. h) rows each) book)
    (mul-le-mul_right bytes (omega (arith, length-map rows call)))

rows_fit : (rows : Rows) → InForm rows → (book : List ℕ) → length (text_of book (calls_in rows)) ≤ most_text
unfolding calls_in
rows_fit rows f book =
    let os = map opening rows.openings in
    let ds = map day rows.days in
    let cs = map (λ (a : Asked). corridor a.instrument a.terms) rows.corridors in
    rw (lines_follow.next book os (ds ++ cs), lines_follow.next (after_all book os) ds cs, length-append, length-append)
    (omega (
      arith,
      section_fits opening 64 opening_bytes rows.openings (each_of _ _ (λ row short book. opening_line book row short) rows.openings f.openings_short) f.openings_most book,
      section_fits day 1000 day_bytes rows.days (each_of _ _ (λ d short book. day_line book d short) rows.days f.days_short) f.days_most (after_all book os),
      section_fits (λ (a : Asked). corridor a.instrument a.terms) 64 corridor_bytes rows.corridors (each_of _ _ (λ a short book. corridor_line book a short) rows.corridors f.corridors_short) f.corridors_most (after_all (after_all book os) ds),
    ))

-- A sheet has no more lines than bytes, so the number of a bad line is short.
feeds_few : (text : List ℕ) → line_feeds text ≤ length text
feeds_few [] = omega arith
feeds_few (b ∷ bs) = go (eqb b line_feed) (feeds_few bs)
  where
    go : (t : Bool) → line_feeds bs ≤ length bs → cond t (suc (line_feeds bs)) (line_feeds bs) ≤ suc (length bs)
    go true h = omega arith
    go false h = omega arith

bad_line_short : (sheet : List ℕ) → (finding sheet).line ≤ nines
bad_line_short sheet = go (dec_le (length sheet) 65536)
  where
    go : Dec (length sheet ≤ 65536) → (finding sheet).line ≤ nines
    go (no n) = rw (refused_sheets.too_long_found sheet (omega (arith, n))) (lit≤ tt)
    go (yes few) =
        ⊎_elim (λ e. rw e (lit≤ tt)) (λ bad. omega (arith, bad.numbered, feeds_few (take (finding sheet).start sheet), length-take (finding sheet).start sheet)) (first_bad_line sheet few)

pub text_fits : TextFits
text_fits book sheet = by_book (is_sound book) refl
  where
    by_sheet : is_sound book ≡ true → Dec ((finding sheet).number ≡ 0) → length (morning_text book sheet) ≤ 72416
    by_sheet sound (yes e) =
        let w = read_is_written sheet e in
        rw (text_accepted book sheet sound e, w.asked) (rows_fit w.rows w.in_form book)
    by_sheet sound (no n) =
        rw (text_refused book sheet sound n) (omega (arith, longest_line, line_under 76 {tops = nines ∷ []} (bad_line_short sheet & end)))

    by_book : (t : Bool) → is_sound book ≡ t → length (morning_text book sheet) ≤ 72416
    by_book false unsound = rw (refused_sheets.unsound book sheet unsound).1 (lit≤ tt)
    by_book true sound = by_sheet sound (ℕ_discrete (finding sheet).number 0)

-- The refusals of a run into a lent output, as a chain of tests.
chain_into : (book sheet out : List ℕ) → (finding_into book sheet out).number
    ≡ unless (is_sound book) Refusal.Book (unless (not (ltb (length out) most_text)) Refusal.Room (unless (eqb (finding sheet).number 0) Refusal.Line 0))
unfolding finding_into is_short sheet_finding
chain_into book sheet out = go (is_sound book) (ltb (length out) most_text) refl refl (found_number sheet)
  where
    go : (sound short : Bool) → is_sound book ≡ sound → ltb (length out) most_text ≡ short → ((finding sheet).number ≡ 0) ⊎ ((finding sheet).number ≡ 9)
        → (finding_into book sheet out).number
        ≡ unless (is_sound book) Refusal.Book (unless (not (ltb (length out) most_text)) Refusal.Room (unless (eqb (finding sheet).number 0) Refusal.Line 0))
    go false short s t either = rw s
    go true true s t either = rw (s, t)
    go true false s t (inl z) = rw (s, t, z)
    go true false s t (inr z) = rw (s, t, z)

written_says : (sheet : List ℕ) → (eqb (finding sheet).number 0 ≡ true) ↔ IsWritten sheet
written_says sheet = (
  λ e. read_is_written sheet (eqb-true (finding sheet).number 0 e),
  λ w. eq-eqb (finding sheet).number 0 (ap (λ (sheet : List ℕ). (finding sheet).number) w.text ∙ ap (λ f. f.number) (written_is_read w.rows w.in_form).0),
)

pub run_refuses_in_order : RunRefusesInOrder
run_refuses_in_order book sheet out =
    rw (chain_into book sheet out)
    (deny _ (is_sound book) Refusal.Book _ _ (sound_means book) (λ sound.
    link _ (not (ltb (length out) most_text)) Refusal.Room _ _
    (λ e. ltb-true (length out) most_text (not-false _ e))
    (λ e few. clash _ (lt-ltb (length out) most_text few) (not-true _ e)) (λ enough.
    deny _ (eqb (finding sheet).number 0) Refusal.Line _ _ (written_says sheet) (λ good. none))))

-- Room is given exactly where the output is too short: no run of a sheet has its number.
not_room : (book sheet : List ℕ) → (sheet_finding book sheet).number ≢ 11
unfolding sheet_finding
not_room book sheet e = go (is_sound book) (found_number sheet) e
  where
    go : (sound : Bool) → ((finding sheet).number ≡ 0) ⊎ ((finding sheet).number ≡ 9) → (cond sound (finding sheet) (nowhere 1)).number ≡ 11 → ⊥
    go false either n = omega arith
    go true (inl z) n = omega arith
    go true (inr z) n = omega arith

module _ (book sheet out : List ℕ) where
  room_short : (few : Bool) → is_short book out ≡ few → (finding_into book sheet out).number ≡ 11
      → (finding_into book sheet out ≡ nowhere 11) × (text_into book sheet out ≡ []) × (left_into book sheet out ≡ book)
  unfolding finding_into text_into left_into
  room_short true s e = (rw s, rw s, rw s)
  room_short false s e = absurd (not_room book sheet (rw s at e))

  room_enough : (few : Bool) → is_short book out ≡ few → (finding_into book sheet out).number ≢ 11
      → (finding_into book sheet out ≡ sheet_finding book sheet) × (text_into book sheet out ≡ morning_text book sheet) × (left_into book sheet out ≡ book_after book sheet)
  unfolding finding_into text_into left_into
  room_enough true s n = absurd (n (rw s))
  room_enough false s n = (rw s, rw s, rw s)

pub room_means : RoomMeans
room_means =
    record {
      short = λ book sheet out. room_short book sheet out (is_short book out) refl;
      enough = λ book sheet out. room_enough book sheet out (is_short book out) refl;
    }
