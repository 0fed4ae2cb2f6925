-- What an accepted call met: a sound book, values in range, and what each call asks besides. Assumes nothing.
use mathlib.Core.Path.{◌≡◌, refl}
use mathlib.Core.Bool.{Bool, true, false, not, ◌&&◌}
use mathlib.Core.List.{List}
use Prim.Native.Nat.{ℕ, ◌%◌, ◌<◌}
use native.Mathlib.Omega.{arith}
use borrow.Author.Tests.{ltb-true, eqb-true, eq-eqb, ne_eqb, not-true}
use lib.Dec.{ltb}
use Rattle.paper.specs.Refusal.{Refusal, number}
use Rattle.paper.specs.Row as Row
use Rattle.paper.specs.Row.{instruments, switches, is_in, word, parameter, parameters_in_range, row_in_range, is_halted}
use Rattle.paper.specs.Rates.{Day, Figures, DayAnswer, refused, accepted, day_in_range, day_on}
use Rattle.paper.specs.Corridor.{Terms, Ticks, empty, between, terms_in_range}
use Rattle.paper.specs.Book.{rows, row_for, is_open, free_place, is_sound}
use Rattle.paper.specs.Calls.{Call, opening, closing, parameters, halt, day, why, corridor, unless, day_number, ticks_number, corridor_for, number_of_ticks, number_of, changed, after}
use Rattle.paper.specs.Promises.Ranges.{IsFrom, IsRow, IsParameters, IsDay, AreTerms}
use Rattle.paper.specs.Promises.Book.{IsOpen, IsSoundBook}
use Rattle.paper.proofs.Tests.{clash, and_left, and_right}
use Rattle.paper.proofs.Row.{in_from, range_says}
use Rattle.paper.proofs.Ranges.{row_of, parameters_of_lem, day_of_lem, ranges_mean}
use Rattle.paper.proofs.Book.{open_says, open_tells}
use Rattle.paper.proofs.Sound.{sound_says}

-- No refusal has number 0, so a chain that gives 0 has passed each of its tests.
pub number_some : (r : Refusal) → number r ≡ 0 → ⊥
number_some Refusal.Book e = omega arith
number_some Refusal.Range e = omega arith
number_some Refusal.Known e = omega arith
number_some Refusal.Full e = omega arith
number_some Refusal.Unknown e = omega arith
number_some Refusal.Stale e = omega arith
number_some Refusal.Move e = omega arith
number_some Refusal.Empty e = omega arith
number_some Refusal.Line e = omega arith
number_some Refusal.Step e = omega arith
number_some Refusal.Room e = omega arith
number_some Refusal.Halted e = omega arith

passes : (b : Bool) (r : Refusal) (next : ℕ) → unless b r next ≡ 0 → (b ≡ true) × (next ≡ 0)
passes true r next e = (refl, e)
passes false r next e = absurd (number_some r e)

-- An accepted call leaves the changed book, a refused one the book.
pub after_accepted : (book : List ℕ) (call : Call) → number_of book call ≡ 0 → after book call ≡ changed book call
unfolding after
after_accepted book call e = rw (eq-eqb (number_of book call) 0 e) refl

pub after_refused : (book : List ℕ) (call : Call) → ¬ (number_of book call ≡ 0) → after book call ≡ book
unfolding after
after_refused book call n = rw (ne_eqb (number_of book call) 0 n) refl

pub record Opened (book row : List ℕ) : Type 0 where
  pub sound : IsSoundBook book
  pub range : IsRow row
  pub new : ¬ IsOpen book (word row Row.instrument)
  pub free : free_place book < 64

pub accept_opening : (book row : List ℕ) → number_of book (opening row) ≡ 0 → Opened book row
unfolding number_of
accept_opening book row e =
    let a = passes (is_sound book) Refusal.Book _ e in
    let b = passes (row_in_range row) Refusal.Range _ a.1 in
    let c = passes (not (is_open book (word row Row.instrument))) Refusal.Known _ b.1 in
    let d = passes (ltb (free_place book) rows) Refusal.Full 0 c.1 in
    record {
      sound = sound_says book a.0;
      range = row_of row b.0;
      new = λ o. clash _ (open_tells book (word row Row.instrument) o) (not-true _ c.0);
      free = ltb-true (free_place book) rows d.0;
    }

-- A call on an open instrument.
pub record Met (book : List ℕ) (i : ℕ) : Type 0 where
  pub sound : IsSoundBook book
  pub positive : 0 < i
  pub opened : IsOpen book i

-- The three links that all but an opening begin with.
met : (book : List ℕ) (i : ℕ) (range : Bool) (next : ℕ) → (range ≡ true → is_in instruments i ≡ true)
    → unless (is_sound book) Refusal.Book (unless range Refusal.Range (unless (is_open book i) Refusal.Unknown next)) ≡ 0
    → Met book i × (range ≡ true) × (next ≡ 0)
met book i range next says e =
    let a = passes (is_sound book) Refusal.Book _ e in
    let b = passes range Refusal.Range _ a.1 in
    let c = passes (is_open book i) Refusal.Unknown next b.1 in
    (record { sound = sound_says book a.0; positive = in_from instruments i (says b.0); opened = open_says book i c.0 }, b.0, c.1)

pub accept_closing : (book : List ℕ) (i : ℕ) → number_of book (closing i) ≡ 0 → Met book i
unfolding number_of
accept_closing book i e = (met book i (is_in instruments i) 0 (λ r. r) e).0

pub accept_parameters : (book : List ℕ) (i : ℕ) (ps : List ℕ) → number_of book (parameters i ps) ≡ 0 → Met book i × IsParameters ps × (word (row_for book i) Row.preliminary % parameter ps Row.step ≡ 0)
unfolding number_of
accept_parameters book i ps e =
    let a = met book i (is_in instruments i && parameters_in_range ps) _ (and_left _ _) e in
    (a.0, parameters_of_lem ps (and_right (is_in instruments i) _ a.1), eqb-true _ 0 (passes _ Refusal.Step 0 a.2).0)

pub accept_halt : (book : List ℕ) (i value : ℕ) → number_of book (halt i value) ≡ 0 → Met book i × IsFrom 0 1 value
unfolding number_of
accept_halt book i value e =
    let a = met book i (is_in instruments i && is_in switches value) 0 (and_left _ _) e in
    (a.0, (range_says switches value).0 (and_right (is_in instruments i) _ a.1))

-- A day whose number is 0 is accepted, and a corridor has its ticks.
day_taken : (answer : DayAnswer) → day_number answer ≡ 0 → (f : Figures) × (next : List ℕ) × (answer ≡ accepted f next)
day_taken (refused r) e = absurd (number_some r e)
day_taken (accepted f next) e = (f, next, refl)

ticks_taken : (ticks : Ticks) → ticks_number ticks ≡ 0 → (lowest : ℕ) × (highest : ℕ) × (ticks ≡ between lowest highest)
ticks_taken empty e = absurd (number_some Refusal.Empty e)
ticks_taken (between lowest highest) e = (lowest, highest, refl)

pub day_names : (d : Day) → day_in_range d ≡ true → is_in instruments d.instrument ≡ true
unfolding day_in_range Row.are_in
day_names d e = and_left _ _ e

pub accept_day : (book : List ℕ) (d : Day) → number_of book (day d) ≡ 0 → Met book d.instrument × IsDay d × ((f : Figures) × (next : List ℕ) × (day_on (row_for book d.instrument) d ≡ accepted f next))
unfolding number_of
accept_day book d e =
    let a = met book d.instrument (day_in_range d) _ (day_names d) e in
    (a.0, day_of_lem d a.1, day_taken _ (passes (not (is_halted (row_for book d.instrument))) Refusal.Halted _ a.2).1)

-- So is one that is asked about.
pub accept_why : (book : List ℕ) (d : Day) → number_of book (why d) ≡ 0 → Met book d.instrument × IsDay d × ((f : Figures) × (next : List ℕ) × (day_on (row_for book d.instrument) d ≡ accepted f next))
unfolding number_of
accept_why book d e = accept_day book d e

-- A corridor, by whether its values are in range, and by its ticks.
pub accept_ticks : (book : List ℕ) (i : ℕ) (range : Bool) (ticks : Ticks) → number_of_ticks book i range ticks ≡ 0 → Met book i × (range ≡ true) × ((lowest : ℕ) × (highest : ℕ) × (ticks ≡ between lowest highest))
accept_ticks book i range ticks e =
    let a = met book i (is_in instruments i && range) _ (and_left _ _) e in
    (a.0, and_right (is_in instruments i) range a.1, ticks_taken ticks (passes (not (is_halted (row_for book i))) Refusal.Halted _ a.2).1)

pub accept_corridor : (book : List ℕ) (i : ℕ) (t : Terms) → number_of book (corridor i t) ≡ 0 → Met book i × AreTerms t × ((lowest : ℕ) × (highest : ℕ) × (corridor_for book i t ≡ between lowest highest))
unfolding number_of
accept_corridor book i t e =
    let a = accept_ticks book i (terms_in_range t) _ e in
    (a.0, (ranges_mean.terms t).0 a.1, a.2)
