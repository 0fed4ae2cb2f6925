-- The promise of a call on a sound book: what a refused and what an accepted call must answer and leave, by the tests that the code makes. Assumes nothing.
use mathlib.Core.Path.{◌≡◌, refl, sym, ap, ap₂, subst, subst⁻¹, subst₂, ◌∙◌}
use mathlib.Core.Bool.{Bool, true, false, cond, ◌&&◌}
use mathlib.Core.List.{List, [], ◌∷◌}
use Prim.Native.Nat.{ℕ, ◌+◌, ◌*◌, ◌-◌, ◌%◌, ◌≤◌, ◌<◌}
use native.Mathlib.Omega.{arith}
use borrow.Author.Tests.{lt-ltb, le-ltb}
use borrow.Rule.Slice.PartMut.{put_mid, put_same}
use lib.Dec.{eqb}
use lib.ListN.{length, take, drop, replicate}
use lib.Seq.{sets, length-sets}
use Rattle.paper.specs.Refusal.{Refusal, number}
use Rattle.paper.specs.Row as Row
use Rattle.paper.specs.Row.{instruments, switches, is_in, word, parameter, parameters_in_range, row_in_range, is_halted, width}
use Rattle.paper.specs.Rates.{Day, figure_list, DayAnswer, refused, accepted, day_in_range, figures_of, day_on}
use Rattle.paper.specs.Corridor.{Terms, Ticks, empty, between, terms_in_range}
use Rattle.paper.specs.Bond.{Bond, bond_in_range}
use Rattle.paper.specs.Book.{rows, row_at, with_row, place_for, row_for, is_open, free_place, is_sound, size}
use Rattle.paper.specs.Calls.{Call, opening, closing, parameters, halt, day, why, corridor, bond, day_number, ticks_number, day_figures, why_figures, day_row, ticks_figures, bond_for, number_of_day, number_of, figures_for, changed, Answer, answer, Kept}
use Rattle.paper.specs.Promises.Ends.{zeros_for}
use Rattle.paper.specs.Promises.Bonds.{bond_of}
use Rattle.paper.proofs.Row.{in_from}
use Rattle.paper.proofs.Ranges.{row_is}
use Rattle.paper.proofs.Book.{row_long_at, part_row, open_says}
use Rattle.paper.proofs.Sound.{sound_long, sound_says}
use Rattle.paper.proofs.Rows.{row_of_open}
use Rattle.paper.proofs.Days.{day_accepted, next_long}
use Rattle.paper.proofs.Ends.{refuses_with_zeros, refuses_untouched}
use Rattle.paper.proofs.Accepted.{number_some, after_accepted, day_names}
use Rattle.paper.proofs.Calls.{figures_accepted}
use Rattle.paper.proofs.Writes.{sound_stays}
use Rattle.paper.proofs.Bonds.{share_is_bond}
use Rattle.paper.proofs.Standing.{corridor_leaves}
use Rattle.row.specs.declared.Refusal as Answered
use Rattle.row.specs.Refusals.{refusal_number}
use Rattle.row.specs.Answers.{answer_of}
use Rattle.row.proofs.Settled.{refusal_some}
use Rattle.preliminary.specs.declared.Move.{Move}
use Rattle.std.specs.Prelude as Answers
use Rattle.std.specs.Prelude.{Option, IfSome, is_some, Result, IsErrAnd}
use Rattle.row.proofs.Handed.{handed_up}
use Rattle.figures.specs.Answers.{day_answer_of}
use Rattle.reasons.specs.Answers.{why_answer_of}
use Rattle.soundness.specs.Found.{place_in}
use Rattle.soundness.specs.Tested.{Tests}
use Rattle.stores.proofs.Parts.{put_sets}
use Rattle.stores.specs.Stored.{step_divides, parameters_answer, parameters_row}
use Rattle.instrument.specs.Answers.{MovesBy, day_answer_for, why_answer_for, bond_in, ticks_answer_for}

-- An answer by its number and its figures.
answered : (n : ℕ) (figures : List ℕ) → Answer
answered n figures = record { number = n; figures = figures }

module _ (book : List ℕ) (call : Call) where
  -- A refused call answers its number and zeros, and leaves the book.
  pub kept_refused : (n : ℕ) → number_of book call ≡ n → ¬ (n ≡ 0) → Kept book call (record { number = n; figures = zeros_for call }) book
  unfolding answer answered
  kept_refused n e some =
      let not_taken : ¬ (number_of book call ≡ 0) = λ z. some (sym e ∙ z) in
      record {
        answers = ap₂ answered (sym e) (sym (refuses_with_zeros.calls book call not_taken));
        leaves = sym (refuses_untouched book call not_taken);
      }

  -- An accepted one answers 0 and its figures, and leaves the changed book.
  pub kept_accepted : (figures left : List ℕ) → number_of book call ≡ 0 → figures ≡ figures_for book call → left ≡ changed book call → Kept book call (record { number = 0; figures = figures }) left
  unfolding answer answered
  kept_accepted figures left e f l =
      record {
        answers = ap₂ answered (sym e) (f ∙ sym (figures_accepted book call e));
        leaves = l ∙ sym (after_accepted book call e);
      }

  -- What the promise leaves of a sound book is sound.
  pub kept_sound : (a : Answer) (left : List ℕ) → is_sound book ≡ true → Kept book call a left → is_sound left ≡ true
  kept_sound a left sound k = ap is_sound k.leaves ∙ sound_stays book call sound

-- Where a search ends before the last row the instrument is open, and else it is not.
module _ (book : List ℕ) (i : ℕ) where
  pub open_at : place_for book i < 64 → is_open book i ≡ true
  unfolding is_open
  open_at l = lt-ltb (place_for book i) rows l

  pub open_nowhere : 64 ≤ place_for book i → is_open book i ≡ false
  unfolding is_open
  open_nowhere l = le-ltb (place_for book i) rows l

-- Whether an instrument is open, by whether the search found it.
pub open_if : (book : List ℕ) (i : ℕ) (found : Option ℕ) → place_in found ≡ place_for book i → IfSome found (λ k. k < rows) → is_open book i ≡ is_some found
open_if book i (Answers.Some k) e l = open_at book i (omega (arith, e, l))
open_if book i Answers.None e l = open_nowhere book i (omega (arith, e))

-- The number of each call, by the tests that it makes. A book that is not sound gives 1, whatever else is wrong.
pub number_unsound : (book : List ℕ) (call : Call) → is_sound book ≡ false → number_of book call ≡ 1
unfolding number_of
number_unsound book (opening row) e = rw e refl
number_unsound book (closing i) e = rw e refl
number_unsound book (parameters i ps) e = rw e refl
number_unsound book (halt i value) e = rw e refl
number_unsound book (day d) e = rw e refl
number_unsound book (why d) e = rw e refl
number_unsound book (corridor i t) e = rw e refl
number_unsound book (bond i t b) e = rw e refl

pub kept_unsound : (book : List ℕ) (call : Call) → is_sound book ≡ false → Kept book call (record { number = 1; figures = zeros_for call }) book
kept_unsound book call e = kept_refused book call 1 (number_unsound book call e) (λ z. omega arith)

-- What goes up by `?` from the test of a book that is not sound.
pub unsound_up : {T : Type 0} (figures : T → List ℕ) (count : ℕ) (book : List ℕ) (call : Call) (s : Answered.Refusal) (r : Result T Answered.Refusal) → zeros_for call ≡ replicate count 0 → Tests book (Answers.Err s) → IsErrAnd r (λ u. u ≡ s) → Kept book call (answer_of figures count r) book
unsound_up figures count book call s r zeros tested up =
    subst (λ (a : Result _ Answered.Refusal). Kept book call (answer_of figures count a) book) (sym (handed_up r Answered.TheVariants.Book s tested.0 up))
    (subst (λ (zs : List ℕ). Kept book call (record { number = 1; figures = zs }) book) zeros (kept_unsound book call tested.1))

module _ (book : List ℕ) (sound : is_sound book ≡ true) where
  pub opening_range : (row : List ℕ) → row_in_range row ≡ false → number_of book (opening row) ≡ 2
  unfolding number_of
  opening_range row range = rw (sound, range) refl

  pub opening_known : (row : List ℕ) → row_in_range row ≡ true → is_open book (word row Row.instrument) ≡ true → number_of book (opening row) ≡ 3
  unfolding number_of
  opening_known row range o = rw (sound, range, o) refl

  pub opening_full : (row : List ℕ) → row_in_range row ≡ true → is_open book (word row Row.instrument) ≡ false → 64 ≤ free_place book → number_of book (opening row) ≡ 4
  unfolding number_of
  opening_full row range o full = rw (sound, range, o, le-ltb (free_place book) rows full) refl

  pub opening_taken : (row : List ℕ) → row_in_range row ≡ true → is_open book (word row Row.instrument) ≡ false → free_place book < 64 → number_of book (opening row) ≡ 0
  unfolding number_of
  opening_taken row range o free = rw (sound, range, o, lt-ltb (free_place book) rows free) refl

  pub closing_range : (i : ℕ) → is_in instruments i ≡ false → number_of book (closing i) ≡ 2
  unfolding number_of
  closing_range i range = rw (sound, range) refl

  pub closing_unknown : (i : ℕ) → is_in instruments i ≡ true → is_open book i ≡ false → number_of book (closing i) ≡ 5
  unfolding number_of
  closing_unknown i range o = rw (sound, range, o) refl

  pub closing_taken : (i : ℕ) → is_in instruments i ≡ true → is_open book i ≡ true → number_of book (closing i) ≡ 0
  unfolding number_of
  closing_taken i range o = rw (sound, range, o) refl

  pub parameters_range : (i : ℕ) (ps : List ℕ) → is_in instruments i && parameters_in_range ps ≡ false → number_of book (parameters i ps) ≡ 2
  unfolding number_of
  parameters_range i ps range = rw (sound, range) refl

  pub parameters_unknown : (i : ℕ) (ps : List ℕ) → is_in instruments i && parameters_in_range ps ≡ true → is_open book i ≡ false → number_of book (parameters i ps) ≡ 5
  unfolding number_of
  parameters_unknown i ps range o = rw (sound, range, o) refl

  pub parameters_step : (i : ℕ) (ps : List ℕ) → is_in instruments i && parameters_in_range ps ≡ true → is_open book i ≡ true → eqb (word (row_for book i) Row.preliminary % parameter ps Row.step) 0 ≡ false → number_of book (parameters i ps) ≡ 10
  unfolding number_of
  parameters_step i ps range o step = rw (sound, range, o, step) refl

  pub parameters_taken : (i : ℕ) (ps : List ℕ) → is_in instruments i && parameters_in_range ps ≡ true → is_open book i ≡ true → eqb (word (row_for book i) Row.preliminary % parameter ps Row.step) 0 ≡ true → number_of book (parameters i ps) ≡ 0
  unfolding number_of
  parameters_taken i ps range o step = rw (sound, range, o, step) refl

  pub halt_range : (i value : ℕ) → is_in instruments i && is_in switches value ≡ false → number_of book (halt i value) ≡ 2
  unfolding number_of
  halt_range i value range = rw (sound, range) refl

  pub halt_unknown : (i value : ℕ) → is_in instruments i && is_in switches value ≡ true → is_open book i ≡ false → number_of book (halt i value) ≡ 5
  unfolding number_of
  halt_unknown i value range o = rw (sound, range, o) refl

  pub halt_taken : (i value : ℕ) → is_in instruments i && is_in switches value ≡ true → is_open book i ≡ true → number_of book (halt i value) ≡ 0
  unfolding number_of
  halt_taken i value range o = rw (sound, range, o) refl

  pub day_unknown : (d : Day) → day_in_range d ≡ true → is_open book d.instrument ≡ false → number_of_day book d ≡ 5
  day_unknown d range o = rw (sound, range, o) refl

  pub day_halted : (d : Day) → day_in_range d ≡ true → is_open book d.instrument ≡ true → is_halted (row_for book d.instrument) ≡ true → number_of_day book d ≡ 12
  day_halted d range o h = rw (sound, range, o, h) refl

  pub day_met : (d : Day) → day_in_range d ≡ true → is_open book d.instrument ≡ true → is_halted (row_for book d.instrument) ≡ false → number_of_day book d ≡ day_number (day_on (row_for book d.instrument) d)
  day_met d range o h = rw (sound, range, o, h) refl

  pub bond_range : (i : ℕ) (t : Terms) (b : Bond) → is_in instruments i && (terms_in_range t && bond_in_range b) ≡ false → number_of book (bond i t b) ≡ 2
  unfolding number_of
  bond_range i t b range = rw (sound, range) refl

  pub bond_unknown : (i : ℕ) (t : Terms) (b : Bond) → is_in instruments i && (terms_in_range t && bond_in_range b) ≡ true → is_open book i ≡ false → number_of book (bond i t b) ≡ 5
  unfolding number_of
  bond_unknown i t b range o = rw (sound, range, o) refl

  pub bond_halted : (i : ℕ) (t : Terms) (b : Bond) → is_in instruments i && (terms_in_range t && bond_in_range b) ≡ true → is_open book i ≡ true → is_halted (row_for book i) ≡ true → number_of book (bond i t b) ≡ 12
  unfolding number_of
  bond_halted i t b range o h = rw (sound, range, o, h) refl

  pub bond_met : (i : ℕ) (t : Terms) (b : Bond) → is_in instruments i && (terms_in_range t && bond_in_range b) ≡ true → is_open book i ≡ true → is_halted (row_for book i) ≡ false → number_of book (bond i t b) ≡ ticks_number (bond_for book i t b)
  unfolding number_of
  bond_met i t b range o h = rw (sound, range, o, h) refl

-- The part of the book that is lent on as row k, put back, is the row written.
module _ (book : List ℕ) (k : ℕ) (long : length book ≡ size) (below : k < 64) where
  pub row_put : (ws : List ℕ) → length ws ≡ width → put_mid (k * width) (k * width + width - k * width) book ws ≡ with_row book k ws
  unfolding with_row
  row_put ws wide =
      put_sets (k * width) (k * width + width - k * width) book ws (omega arith) (omega arith)

-- The row that was lent on is put back, where the code found the place: what a call on it answered and left keeps the call's promise.
module _ (book : List ℕ) (call : Call) (place k : ℕ) (sound : is_sound book ≡ true) (found : k ≡ place) (below : k < 64) where
  abbrev back : List ℕ → List ℕ
  back ws = put_mid (k * width) (k * width + width - k * width) book ws

  pub meets : (a b : Answer) (left row : List ℕ) → Kept book call b (with_row book place row) → length row ≡ width → a ≡ b → left ≡ row → Kept book call a (back left) × (is_sound (back left) ≡ true)
  meets a b left row kept wide answers leaves =
      let put = row_put book k (sound_long book sound) below left (ap length leaves ∙ wide) ∙ ap₂ (with_row book) found leaves in
      let kept = subst₂ (Kept book call) (sym answers) (sym put) kept in
      (kept, kept_sound book call _ _ sound kept)

-- The part that is lent on as the row of an instrument.
pub row_part : (book : List ℕ) (i k : ℕ) → k ≡ place_for book i → take (k * width + width - k * width) (drop (k * width) book) ≡ row_for book i
unfolding row_for
row_part book i k e = part_row book k ∙ ap (row_at book) e

-- The row of an instrument is that at its place.
pub row_at_place : (book : List ℕ) (i k : ℕ) → k ≡ place_for book i → row_at book k ≡ row_for book i
unfolding row_for
row_at_place book i k e = ap (row_at book) e

-- The row of an open instrument has its width.
pub row_for_long : (book : List ℕ) (i : ℕ) → is_sound book ≡ true → place_for book i < 64 → length (row_for book i) ≡ width
unfolding row_for
row_for_long book i sound below = row_long_at book (sound_long book sound) (place_for book i) below

-- A row written back as it was leaves the book.
write_same : (book : List ℕ) (k : ℕ) → length book ≡ size → k < 64 → with_row book k (row_at book k) ≡ book
write_same book k long below =
    sym (row_put book k long below (row_at book k) (row_long_at book long k below))
    ∙ ap (put_mid (k * width) (k * width + width - k * width) book) (sym (part_row book k)) ∙ put_same (k * width) (k * width + width - k * width) book

-- A day that is refused, given and asked about.
module _ (book : List ℕ) (d : Day) (r : Answered.Refusal) (e : number_of_day book d ≡ refusal_number r) where
  pub day_refused : Kept book (day d) (day_answer_of (Answers.Err r)) book
  unfolding number_of
  day_refused = kept_refused book (day d) (refusal_number r) e (refusal_some r)

  pub why_refused : Kept book (why d) (why_answer_of (Answers.Err r)) book
  unfolding number_of
  why_refused = kept_refused book (why d) (refusal_number r) e (refusal_some r)

-- A day on an open instrument that is not halted, by what its row answers.
module _ (book : List ℕ) (d : Day) (sound : is_sound book ≡ true) (range : day_in_range d ≡ true) (below : place_for book d.instrument < 64) (going : is_halted (row_for book d.instrument) ≡ false) where
  abbrev row : List ℕ
  row = row_for book d.instrument

  met : {a : DayAnswer} → day_on row d ≡ a → number_of_day book d ≡ day_number a
  met e = day_met book sound d range (open_at book d.instrument below) going ∙ ap day_number e

  kept_day_as : (a : DayAnswer) → day_on row d ≡ a → Kept book (day d) (day_answer_for a) (with_row book (place_for book d.instrument) (day_row row a))
  unfolding changed figures_for row_for number_of
  kept_day_as (refused r) e =
      subst (Kept book (day d) (day_answer_for (refused r))) (sym (write_same book (place_for book d.instrument) (sound_long book sound) below))
      (kept_refused book (day d) (number r) (met e) (number_some r))
  kept_day_as (accepted f next) e =
      kept_accepted book (day d) (figure_list f) _ (met e) (sym (ap day_figures e))
      (ap (λ (a : DayAnswer). with_row book (place_for book d.instrument) (day_row row a)) (sym e))

  pub kept_day : Kept book (day d) (day_answer_for (day_on row d)) (with_row book (place_for book d.instrument) (day_row row (day_on row d)))
  kept_day = kept_day_as (day_on row d) refl

  kept_why_as : (a : DayAnswer) → day_on row d ≡ a → Kept book (why d) (why_answer_for row d a) book
  unfolding changed figures_for number_of
  kept_why_as (refused r) e = kept_refused book (why d) (number r) (met e) (number_some r)
  kept_why_as (accepted f next) e = kept_accepted book (why d) (why_figures row d (accepted f next)) book (met e) (sym (ap (why_figures row d) e)) refl

  pub kept_why : Kept book (why d) (why_answer_for row d (day_on row d)) book
  kept_why = kept_why_as (day_on row d) refl

-- New parameters of an open instrument, by the test of its row.
module _ (book : List ℕ) (i : ℕ) (ps : List ℕ) (sound : is_sound book ≡ true) (range : is_in instruments i && parameters_in_range ps ≡ true) (below : place_for book i < 64) where
  kept_parameters_as : (b : Bool) → step_divides (row_for book i) ps ≡ b → Kept book (parameters i ps) (answered (cond b 0 (number Refusal.Step)) []) (with_row book (place_for book i) (cond b (sets (row_for book i) Row.alpha ps) (row_for book i)))
  unfolding changed figures_for row_for answered
  kept_parameters_as false e =
      subst (Kept book (parameters i ps) (answered 10 [])) (sym (write_same book (place_for book i) (sound_long book sound) below))
      (kept_refused book (parameters i ps) 10 (parameters_step book sound i ps range (open_at book i below) e) (λ z. omega arith))
  kept_parameters_as true e = kept_accepted book (parameters i ps) [] _ (parameters_taken book sound i ps range (open_at book i below) e) refl refl

  pub kept_parameters : Kept book (parameters i ps) (parameters_answer (row_for book i) ps) (with_row book (place_for book i) (parameters_row (row_for book i) ps))
  unfolding answered
  kept_parameters = kept_parameters_as (step_divides (row_for book i) ps) refl

  pub parameters_row_long : length (parameters_row (row_for book i) ps) ≡ width
  parameters_row_long = go (step_divides (row_for book i) ps)
    where
      go : (b : Bool) → length (cond b (sets (row_for book i) Row.alpha ps) (row_for book i)) ≡ width
      go true = length-sets (row_for book i) Row.alpha ps ∙ row_for_long book i sound below
      go false = row_for_long book i sound below

-- The row of an open instrument is in range.
pub row_in_range_lem : (book : List ℕ) (i : ℕ) → is_sound book ≡ true → is_in instruments i ≡ true → place_for book i < 64 → row_in_range (row_for book i) ≡ true
row_in_range_lem book i sound range below =
    let r = row_of_open book i (sound_says book sound) (in_from instruments i range) (open_says book i (open_at book i below)) in
    row_is (row_for book i) (record { values = r.values; in_order = r.keeps; in_range = r.in_range })

-- The row that is lent on for a day is in range, and what is known of the day's move at its place is known of that row.
module _ (book : List ℕ) (d : Day) (k : ℕ) (sound : is_sound book ≡ true) (range : day_in_range d ≡ true) (found : k ≡ place_for book d.instrument) (below : k < 64) where
  pub lent_in_range : row_in_range (take (k * width + width - k * width) (drop (k * width) book)) ≡ true
  lent_in_range =
      ap row_in_range (row_part book d.instrument k found)
      ∙ row_in_range_lem book d.instrument sound (day_names d range) (subst (λ (k : ℕ). k < 64) found below)

  pub lent_asked : (moved : Move) → MovesBy (row_for book d.instrument) d moved → let row = take (k * width + width - k * width) (drop (k * width) book) in (row_in_range row ≡ true) × ((day_in_range d ≡ true) × MovesBy row d moved)
  lent_asked moved by = (lent_in_range, (range, subst⁻¹ (λ (row : List ℕ). MovesBy row d moved) (row_part book d.instrument k found) by))

-- What a day leaves of a row has its width.
day_row_long_as : (words : List ℕ) (d : Day) (a : DayAnswer) → day_on words d ≡ a → length (day_row words a) ≡ length words
day_row_long_as words d (refused r) e = refl
day_row_long_as words d (accepted f next) e = ap length (day_accepted words d f next e).leaves ∙ next_long words (figures_of words d) d

pub day_row_long : (words : List ℕ) (d : Day) → length (day_row words (day_on words d)) ≡ length words
day_row_long words d = day_row_long_as words d (day_on words d) refl

-- A corridor of an open instrument that is not halted, by the ticks of the words that its row keeps.
kept_ticks : (book : List ℕ) (i : ℕ) (t : Terms) (b : Bond) → is_sound book ≡ true → is_in instruments i && (terms_in_range t && bond_in_range b) ≡ true → place_for book i < 64 → is_halted (row_for book i) ≡ false → (ticks : Ticks) → bond_for book i t b ≡ ticks → Kept book (bond i t b) (ticks_answer_for ticks) book
unfolding changed figures_for
kept_ticks book i t b sound range below going empty e =
    kept_refused book (bond i t b) 8 (bond_met book sound i t b range (open_at book i below) going ∙ ap ticks_number e) (λ z. omega arith)
kept_ticks book i t b sound range below going (between lowest highest) e =
    kept_accepted book (bond i t b) (lowest ∷ highest ∷ []) book (bond_met book sound i t b range (open_at book i below) going ∙ ap ticks_number e) (sym (ap ticks_figures e)) refl

pub kept_bond : (book : List ℕ) (i : ℕ) (t : Terms) (b : Bond) → is_sound book ≡ true → is_in instruments i && (terms_in_range t && bond_in_range b) ≡ true → place_for book i < 64 → is_halted (row_for book i) ≡ false → Kept book (bond i t b) (ticks_answer_for (bond_in (row_for book i) t b)) book
unfolding bond_for
kept_bond book i t b sound range below going = kept_ticks book i t b sound range below going _ refl

-- A share's corridor is a bond's, and both leave the book.
pub kept_share : (book : List ℕ) (i : ℕ) (t : Terms) (a : Answer) → Kept book (bond i t (bond_of 1000000 0 0)) a book → Kept book (corridor i t) a book
kept_share book i t a k = record { answers = k.answers ∙ share_is_bond.call book i t; leaves = sym (corridor_leaves book i t) }
