-- A call on an instrument that stands in a sound book: what it answers and leaves, by the instrument's row and no more of the book. Assumes nothing.
use mathlib.Core.Path.{◌≡◌, refl, sym, ap, ap₂, ◌∙◌}
use mathlib.Core.Bool.{Bool, true, false, cond, not, ◌&&◌}
use mathlib.Core.List.{List, [], ◌∷◌}
use Prim.Native.Nat.{ℕ, ◌%◌, ◌≤◌, ◌<◌}
use native.Mathlib.Nat.{lt_of_not-le}
use native.Mathlib.Omega.{arith}
use borrow.Author.Tests.{lt-ltb}
use lib.Dec.{eqb}
use lib.ListN.{length, replicate}
use lib.Seq.{sets}
use Rattle.paper.specs.Refusal.{Refusal}
use Rattle.paper.specs.Row as Row
use Rattle.paper.specs.Row.{instruments, switches, is_in, word, parameter, parameters_in_range, row_in_range, is_halted}
use Rattle.paper.specs.Rates.{Day, day_in_range, day_on}
use Rattle.paper.specs.Corridor.{Terms, Ticks, terms_in_range, corridor_on}
use Rattle.paper.specs.Bond.{Bond, bond_in_range, bond_on}
use Rattle.paper.specs.Book.{with_row, place_for, row_for, is_open, free_place, is_sound}
use Rattle.paper.specs.Calls.{Call, opening, closing, parameters, halt, day, why, corridor, bond, unless, day_number, ticks_number, day_figures, why_figures, ticks_figures, day_row, ticks_in, corridor_for, bond_for, figure_count, figures_for, number_of, changed, Answer, answer, after}
use Rattle.paper.specs.Promises.Book.{word_at, IsOpen}
use Rattle.paper.specs.Promises.Calls.{named, IsNoOpening}
use Rattle.paper.proofs.Ranges.{row_of}
use Rattle.paper.proofs.Book.{place_below, open_says, closed_row}
use Rattle.paper.proofs.Sound.{sound_long, sound_says, sound_means}
use Rattle.paper.proofs.Rows.{words_long, place_alone, written_sound, written_place, written_for, same_place, stays_closed, others_keep}
use Rattle.paper.proofs.Accepted.{after_accepted, after_refused}
use Rattle.paper.proofs.Writes.{sound_stays, touches_one_row}
use Rattle.paper.proofs.Calls.{row_left, row_left_lem, call_leaves}

-- The number, the figures and the answer of each call but an opening, by the row of its instrument.
abbrev number_of_day_by : List ℕ → Day → ℕ
number_of_day_by row d =
    unless (day_in_range d) Refusal.Range
    (unless (not (is_halted row)) Refusal.Halted (day_number (day_on row d)))

abbrev number_of_ticks_by : List ℕ → ℕ → Bool → Ticks → ℕ
number_of_ticks_by row i range ticks =
    unless (is_in instruments i && range) Refusal.Range
    (unless (not (is_halted row)) Refusal.Halted (ticks_number ticks))

unfoldable pub number_by : List ℕ → Call → ℕ
number_by row (opening other) = 0
number_by row (closing i) = unless (is_in instruments i) Refusal.Range 0
number_by row (parameters i ps) =
    unless (is_in instruments i && parameters_in_range ps) Refusal.Range
    (unless (eqb (word row Row.preliminary % parameter ps Row.step) 0) Refusal.Step 0)
number_by row (halt i value) = unless (is_in instruments i && is_in switches value) Refusal.Range 0
number_by row (day d) = number_of_day_by row d
number_by row (why d) = number_of_day_by row d
number_by row (corridor i t) = number_of_ticks_by row i (terms_in_range t) (ticks_in row (λ P margin M. corridor_on P margin M t))
number_by row (bond i t b) = number_of_ticks_by row i (terms_in_range t && bond_in_range b) (ticks_in row (λ P margin M. bond_on P margin M t b))

unfoldable pub figures_by : List ℕ → Call → List ℕ
figures_by row (opening other) = []
figures_by row (closing i) = []
figures_by row (parameters i ps) = []
figures_by row (halt i value) = []
figures_by row (day d) = day_figures (day_on row d)
figures_by row (why d) = why_figures row d (day_on row d)
figures_by row (corridor i t) = ticks_figures (ticks_in row (λ P margin M. corridor_on P margin M t))
figures_by row (bond i t b) = ticks_figures (ticks_in row (λ P margin M. bond_on P margin M t b))

unfoldable pub answer_by : List ℕ → Call → Answer
answer_by row call =
    record {
      number = number_by row call;
      figures = cond (eqb (number_by row call) 0) (figures_by row call) (replicate (figure_count call) 0);
    }

-- The book that it leaves where it is accepted, by that row and its place.
unfoldable pub left_by : List ℕ → ℕ → List ℕ → Call → List ℕ
left_by book k row (opening other) = book
left_by book k row (closing i) = with_row book k (replicate Row.width 0)
left_by book k row (parameters i ps) = with_row book k (sets row Row.alpha ps)
left_by book k row (halt i value) = with_row book k (sets row Row.halted (value ∷ []))
left_by book k row (day d) = with_row book k (day_row row (day_on row d))
left_by book k row (why d) = book
left_by book k row (corridor i t) = book
left_by book k row (bond i t b) = book

-- A sound book in which an instrument has this row.
pub record Stands (book : List ℕ) (i : ℕ) (row : List ℕ) : Type 0 where
  pub sound : is_sound book ≡ true
  pub is_row : row_for book i ≡ row

-- An instrument whose row is not empty is open.
pub row_open : (book : List ℕ) (i : ℕ) (row : List ℕ) → 0 < length row → Stands book i row → is_open book i ≡ true
unfolding is_open
row_open book i row some s =
    let none : 64 ≤ place_for book i → row_for book i ≡ []
    = λ past. closed_row book i (sound_says book s.sound).long (λ o. omega (arith, place_below book i o)) in
    lt-ltb (place_for book i) 64 (lt_of_not-le (λ past. omega (arith, ap length (sym s.is_row ∙ none past))))

module _ (book row : List ℕ) (some : 0 < length row) where
  pub number_by_lem : (call : Call) → IsNoOpening call → Stands book (named call) row → number_of book call ≡ number_by row call
  unfolding number_of number_by corridor_for bond_for
  number_by_lem (opening other) none s = absurd none
  number_by_lem (closing i) none s = rw (s.sound, row_open book i row some s)
  number_by_lem (parameters i ps) none s = rw (s.sound, row_open book i row some s, s.is_row)
  number_by_lem (halt i value) none s = rw (s.sound, row_open book i row some s)
  number_by_lem (day d) none s = rw (s.sound, row_open book d.instrument row some s, s.is_row)
  number_by_lem (why d) none s = rw (s.sound, row_open book d.instrument row some s, s.is_row)
  number_by_lem (corridor i t) none s = rw (s.sound, row_open book i row some s, s.is_row)
  number_by_lem (bond i t b) none s = rw (s.sound, row_open book i row some s, s.is_row)

  figures_by_lem : (call : Call) → Stands book (named call) row → figures_for book call ≡ figures_by row call
  unfolding figures_for figures_by corridor_for bond_for
  figures_by_lem (opening other) s = refl
  figures_by_lem (closing i) s = refl
  figures_by_lem (parameters i ps) s = refl
  figures_by_lem (halt i value) s = refl
  figures_by_lem (day d) s = rw s.is_row
  figures_by_lem (why d) s = rw s.is_row
  figures_by_lem (corridor i t) s = rw s.is_row
  figures_by_lem (bond i t b) s = rw s.is_row

  pub answer_by_lem : (call : Call) → IsNoOpening call → Stands book (named call) row → answer book call ≡ answer_by row call
  unfolding answer answer_by
  answer_by_lem call none s =
      ap₂ (λ (n : ℕ) (figures : List ℕ). let handed : Answer = record { number = n; figures = cond (eqb n 0) figures (replicate (figure_count call) 0) } in handed)
      (number_by_lem call none s) (figures_by_lem call s)

  -- The book after it.
  changed_by : (k : ℕ) (call : Call) → IsNoOpening call → Stands book (named call) row → place_for book (named call) ≡ k → changed book call ≡ left_by book k row call
  unfolding changed left_by
  changed_by k (opening other) none s at = absurd none
  changed_by k (closing i) none s at = rw at
  changed_by k (parameters i ps) none s at = rw (at, s.is_row)
  changed_by k (halt i value) none s at = rw (at, s.is_row)
  changed_by k (day d) none s at = rw (at, s.is_row)
  changed_by k (why d) none s at = refl
  changed_by k (corridor i t) none s at = refl
  changed_by k (bond i t b) none s at = refl

  pub after_by : (k : ℕ) (call : Call) → IsNoOpening call → Stands book (named call) row → place_for book (named call) ≡ k → number_by row call ≡ 0 → after book call ≡ left_by book k row call
  after_by k call none s at e = after_accepted book call (number_by_lem call none s ∙ e) ∙ changed_by k call none s at

  -- A refused call leaves the row, an accepted day the next one, and accepted parameters and a halt stand in it.
  pub refused_stands : (call : Call) → IsNoOpening call → Stands book (named call) row → ¬ (number_by row call ≡ 0) → Stands (after book call) (named call) row
  refused_stands call none s n =
      let same : after book call ≡ book = after_refused book call (λ e. n (sym (number_by_lem call none s) ∙ e)) in
      record { sound = ap is_sound same ∙ s.sound; is_row = ap (λ (left : List ℕ). row_for left (named call)) same ∙ s.is_row }

  pub day_stands : (d : Day) (next : List ℕ) → Stands book d.instrument row → (number_by row (day d) ≡ 0) × (day_row row (day_on row d) ≡ next) → Stands (after book (day d)) d.instrument next
  unfolding answer
  day_stands d next s e =
      let left = call_leaves book (day d) (number_by_lem (day d) tt s ∙ e.0) in
      let taken : day_row row (day_on row d) ≡ left.1 = ap (day_row row) (ap (λ (row : List ℕ). day_on row d) (sym s.is_row) ∙ left.2) in
      record { sound = sound_stays book (day d) s.sound; is_row = left.3 ∙ sym taken ∙ e.1 }

  pub parameters_stand : (i : ℕ) (ps : List ℕ) → Stands book i row → number_by row (parameters i ps) ≡ 0 → Stands (after book (parameters i ps)) i (sets row Row.alpha ps)
  unfolding answer
  parameters_stand i ps s e =
      let left = call_leaves book (parameters i ps) (number_by_lem (parameters i ps) tt s ∙ e) in
      let written : sets (row_for book i) Row.alpha ps ≡ row_for (after book (parameters i ps)) i
      = ap₂ (λ (row ps : List ℕ). sets row Row.alpha ps) left.2 left.3 ∙ sym left.4 in
      record {
        sound = sound_stays book (parameters i ps) s.sound;
        is_row = sym written ∙ ap (λ (row : List ℕ). sets row Row.alpha ps) s.is_row;
      }

  pub halt_stands : (i value : ℕ) → Stands book i row → number_by row (halt i value) ≡ 0 → Stands (after book (halt i value)) i (sets row Row.halted (value ∷ []))
  unfolding row_left
  halt_stands i value s e =
      record {
        sound = sound_stays book (halt i value) s.sound;
        is_row = row_left_lem book (halt i value) tt (number_by_lem (halt i value) tt s ∙ e) ∙ ap (λ (row : List ℕ). sets row Row.halted (value ∷ [])) s.is_row;
      }

-- A row in range that is written for an instrument which is not open stands in the place where it is written.
module _ (book : List ℕ) (k : ℕ) (ws : List ℕ) (sound : is_sound book ≡ true) (below : k < 64) (r : row_in_range ws ≡ true) (closed : ¬ IsOpen book (word ws Row.instrument)) where
  pub put_stands : Stands (with_row book k ws) (word ws Row.instrument) ws
  put_stands =
      let b = sound_says book sound in
      let none : (j : ℕ) → j < 64 → ¬ (j ≡ k) → ¬ (word_at book j 0 ≡ word ws Row.instrument) = λ j l n e. closed (record { place = j; below = l; there = e }) in
      record { sound = (sound_means _).1 (written_sound book k ws b below (row_of ws r) none); is_row = written_for book k ws b below (row_of ws r) none }

  pub put_place : place_for (with_row book k ws) (word ws Row.instrument) ≡ k
  put_place = written_place book k ws (sound_says book sound) below (row_of ws r) (λ j l n e. closed (record { place = j; below = l; there = e }))

  -- Another that is not open is not open then, and another that stands elsewhere stands there still.
  pub put_closed : (i : ℕ) → ¬ (word ws Row.instrument ≡ i) → ¬ IsOpen book i → ¬ IsOpen (with_row book k ws) i
  put_closed i n shut =
      stays_closed book k ws i (sound_long book sound) below (words_long ws (row_of ws r)) (λ e. shut (record { place = k; below = below; there = e })) n shut

  pub put_keeps : (i j : ℕ) (row : List ℕ) → ¬ (word ws Row.instrument ≡ i) → 0 < i → 0 < length row → ¬ (k ≡ j) → place_for book i ≡ j → Stands book i row
      → (place_for (with_row book k ws) i ≡ j) × Stands (with_row book k ws) i row
  put_keeps i j row n positive some apart at s =
      let opened = open_says book i (row_open book i row some s) in
      let was-not = place_alone book i (sound_says book sound) positive opened k below (λ e. apart (e ∙ at)) in
      let long = sound_long book sound in
      let wide = words_long ws (row_of ws r) in (
        same_place book k ws i long below wide was-not n ∙ at,
        record { sound = put_stands.sound; is_row = others_keep book k ws i long below wide was-not n ∙ s.is_row },
      )

-- An opening that meets no refusal writes its values in the lowest free row, and then they stand.
module _ (book row : List ℕ) (k : ℕ) (sound : is_sound book ≡ true) (range : row_in_range row ≡ true) (closed : is_open book (word row Row.instrument) ≡ false) (at : free_place book ≡ k) (below : k < 64) where
  number_opens : number_of book (opening row) ≡ 0
  unfolding number_of
  number_opens = rw (sound, range, closed, at, lt-ltb k 64 below)

  pub answer_opens : answer book (opening row) ≡ record { number = 0; figures = [] }
  unfolding answer figures_for
  answer_opens = rw number_opens

  pub after_opens : after book (opening row) ≡ with_row book k row
  unfolding changed
  after_opens = after_accepted book (opening row) number_opens ∙ ap (λ (k : ℕ). with_row book k row) at

pub opened_stands : (book row : List ℕ) → is_sound book ≡ true → (answer book (opening row)).number ≡ 0 → Stands (after book (opening row)) (word row Row.instrument) row
opened_stands book row sound e = record { sound = sound_stays book (opening row) sound; is_row = (call_leaves book (opening row) e).1 }

-- A call for another instrument leaves this one's row, and an asking and a corridor leave the book.
pub other_stands : (book row : List ℕ) (i : ℕ) (call : Call) → 0 < i → ¬ (i ≡ named call) → Stands book i row → Stands (after book call) i row
other_stands book row i call positive n s =
    record { sound = sound_stays book call s.sound; is_row = touches_one_row.others book call i positive n ∙ s.is_row }

reads : (book : List ℕ) (call : Call) → changed book call ≡ book → after book call ≡ book
unfolding after
reads book call same = go (eqb (number_of book call) 0)
  where
    go : (b : Bool) → cond b (changed book call) book ≡ book
    go true = same
    go false = refl

pub why_leaves : (book : List ℕ) (d : Day) → after book (why d) ≡ book
unfolding changed
why_leaves book d = reads book (why d) refl

pub corridor_leaves : (book : List ℕ) (i : ℕ) (t : Terms) → after book (corridor i t) ≡ book
unfolding changed
corridor_leaves book i t = reads book (corridor i t) refl

pub bond_leaves : (book : List ℕ) (i : ℕ) (t : Terms) (b : Bond) → after book (bond i t b) ≡ book
unfolding changed
bond_leaves book i t b = reads book (bond i t b) refl
