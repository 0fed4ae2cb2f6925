-- What calls hand out and leave, and that they read of the book no more than the row of their instrument. Assumes nothing.
use mathlib.Core.Path.{◌≡◌, refl, sym, ap, ap₂, subst, ◌∙◌}
use mathlib.Core.Bool.{Bool, true, false, cond, not, ◌&&◌}
use mathlib.Core.List.{List, [], ◌∷◌}
use Prim.Native.Nat.{ℕ, ◌%◌, ◌<◌}
use native.Mathlib.Decide.{ℕ_discrete}
use native.Mathlib.Omega.{arith}
use borrow.Author.Tests.{eq-eqb}
use lib.Dec.{eqb, lit<}
use lib.ListN.{length, replicate, get_or-replicate}
use lib.Seq.{sets}
use Rattle.paper.specs.Refusal.{Refusal}
use Rattle.paper.specs.Row as Row
use Rattle.paper.specs.Row.{instruments, switches, is_in, word, parameter, parameters_in_range, is_halted}
use Rattle.paper.specs.Rates.{Day, day_in_range, day_on}
use Rattle.paper.specs.Corridor.{Ticks, terms_in_range, corridor_on}
use Rattle.paper.specs.Bond.{bond_in_range, bond_on}
use Rattle.paper.specs.Book.{with_row, place_for, row_for, free_place, is_open, is_sound}
use Rattle.paper.specs.Calls.{Call, opening, closing, parameters, halt, day, why, corridor, bond, unless, day_number, ticks_number, day_figures, why_figures, ticks_figures, day_row, ticks_in, corridor_for, bond_for, figure_count, figures_for, number_of_day, number_of_ticks, number_of, changed, Answer, answer, after}
use Rattle.paper.specs.Promises.Ranges.{IsRow}
use Rattle.paper.specs.Promises.Book.{word_at, IsFree, IsOpen, IsSoundBook}
use Rattle.paper.specs.Promises.Calls.{HandsTicks, CallHandsOut, Leaves, CallLeaves, named, IsNoOpening, Apart}
use Rattle.paper.proofs.Tests.{clash, and_left}
use Rattle.paper.proofs.Row.{in_from}
use Rattle.paper.proofs.Book.{place_below, open_says, open_tells, written_long, written_word, written_other, written_holds, closed_row}
use Rattle.paper.proofs.Sound.{sound_says}
use Rattle.paper.proofs.Rows.{words_long, row_of_open, place_alone, written_for}
use Rattle.paper.proofs.Accepted.{after_accepted, after_refused, accept_opening, Met, accept_closing, accept_parameters, accept_halt, day_names, accept_day, accept_why, accept_ticks}
use Rattle.paper.proofs.Writes.{kept, parameters_words, parameters_row_lem, parameters_instrument, halt_kept, halt_words, halt_row, halt_instrument, day_row_lem, day_instrument}

-- The figures of an accepted call.
pub figures_accepted : (book : List ℕ) (call : Call) → number_of book call ≡ 0 → (answer book call).figures ≡ figures_for book call
unfolding answer
figures_accepted book call e = rw (eq-eqb (number_of book call) 0 e) refl

-- What a corridor hands out, by its rule.
hands_ticks : (book : List ℕ) (i : ℕ) (range : Bool) (rule : ℕ → ℕ → ℕ → Ticks) (figures : List ℕ) → number_of_ticks book i range (ticks_in (row_for book i) rule) ≡ 0 → figures ≡ ticks_figures (ticks_in (row_for book i) rule) → HandsTicks book i rule figures
hands_ticks book i range rule figures e handed =
    let a = accept_ticks book i range (ticks_in (row_for book i) rule) e in
    let m = a.0 in
    let ticks = a.2 in
    let row = row_of_open book i m.sound m.positive m.opened in (
      row.values,
      row.keeps,
      ticks.0,
      ticks.1,
      ap (λ (row : List ℕ). ticks_in row rule) (sym row.keeps) ∙ ticks.2,
      handed ∙ ap ticks_figures ticks.2,
    )

pub call_hands_out : CallHandsOut
unfolding answer number_of figures_for corridor_for bond_for
call_hands_out book (opening row) e = figures_accepted book (opening row) e
call_hands_out book (closing i) e = figures_accepted book (closing i) e
call_hands_out book (parameters i ps) e = figures_accepted book (parameters i ps) e
call_hands_out book (halt i value) e = figures_accepted book (halt i value) e
call_hands_out book (day d) e =
    let taken = (accept_day book d e).2 in
    (taken.0, taken.1, taken.2, figures_accepted book (day d) e ∙ ap day_figures taken.2)
call_hands_out book (why d) e =
    let taken = (accept_why book d e).2 in
    (taken.0, taken.1, taken.2, figures_accepted book (why d) e ∙ ap (why_figures (row_for book d.instrument) d) taken.2)
call_hands_out book (corridor i t) e =
    hands_ticks book i (terms_in_range t) (λ P margin M. corridor_on P margin M t) _ e (figures_accepted book (corridor i t) e)
call_hands_out book (bond i t b) e =
    hands_ticks book i (terms_in_range t && bond_in_range b) (λ P margin M. bond_on P margin M t b) _ e (figures_accepted book (bond i t b) e)

-- A row in range written in the place of an open instrument is its row.
own_written : (book : List ℕ) (i : ℕ) (ws : List ℕ) → Met book i → IsRow ws → word ws Row.instrument ≡ i → row_for (with_row book (place_for book i) ws) i ≡ ws
own_written book i ws m r same =
    ap (row_for (with_row book (place_for book i) ws)) (sym same)
    ∙ written_for book (place_for book i) ws m.sound (place_below book i m.opened) r
    (λ j l n e. place_alone book i m.sound m.positive m.opened j l n (e ∙ same))

-- An instrument whose row is zeros now is open nowhere.
module _ (book : List ℕ) (i : ℕ) (m : Met book i) where
  cleared : List ℕ
  cleared = with_row book (place_for book i) (replicate Row.width 0)

  cleared_free : IsFree cleared (place_for book i)
  unfolding cleared
  cleared_free place l =
      written_word book (place_for book i) (replicate Row.width 0) place m.sound.long (place_below book i m.opened) refl l
      ∙ get_or-replicate Row.width place 0 0 l

  cleared_closed : ¬ IsOpen cleared i
  unfolding cleared
  cleared_closed o = go (ℕ_discrete o.place (place_for book i))
    where
      go : Dec (o.place ≡ place_for book i) → ⊥
      go (yes e) =
          omega (arith, m.positive, o.there, ap (λ (k : ℕ). word_at cleared k 0) e, cleared_free 0 (lit< tt))
      go (no n) =
          place_alone book i m.sound m.positive m.opened o.place o.below n
          (sym (written_other book (place_for book i) (replicate Row.width 0) o.place 0 refl n (lit< tt)) ∙ o.there)

-- The row that each call but an opening leaves its instrument, by the row that it had.
unfoldable pub row_left : List ℕ → Call → List ℕ
row_left row (opening other) = row
row_left row (closing i) = []
row_left row (parameters i ps) = sets row Row.alpha ps
row_left row (halt i value) = sets row Row.halted (value ∷ [])
row_left row (day d) = day_row row (day_on row d)
row_left row (why d) = row
row_left row (corridor i t) = row
row_left row (bond i t b) = row

pub row_left_lem : (book : List ℕ) (call : Call) → IsNoOpening call → number_of book call ≡ 0 → row_for (after book call) (named call) ≡ row_left (row_for book (named call)) call
unfolding changed row_left cleared
row_left_lem book (opening row) none e = absurd none
row_left_lem book (closing i) none e =
    let m = accept_closing book i e in
    ap (λ (left : List ℕ). row_for left i) (after_accepted book (closing i) e)
    ∙ closed_row (cleared book i m) i (written_long book (place_for book i) (replicate Row.width 0) ∙ m.sound.long) (cleared_closed book i m)
row_left_lem book (parameters i ps) none e =
    let a = accept_parameters book i ps e in
    ap (λ (left : List ℕ). row_for left i) (after_accepted book (parameters i ps) e)
    ∙ own_written book i (sets (row_for book i) Row.alpha ps) a.0 (parameters_row_lem book i ps a.0 a.1 a.2)
    (parameters_instrument book i ps a.0 a.1 a.2)
row_left_lem book (halt i value) none e =
    let a = accept_halt book i value e in
    ap (λ (left : List ℕ). row_for left i) (after_accepted book (halt i value) e)
    ∙ own_written book i (sets (row_for book i) Row.halted (value ∷ [])) a.0 (halt_row book i value a.0 a.1) (halt_instrument book i value a.0 a.1)
row_left_lem book (day d) none e =
    let a = accept_day book d e in
    let i = d.instrument in
    let taken = a.2 in
    let written : day_row (row_for book i) (day_on (row_for book i) d) ≡ taken.1 = ap (day_row (row_for book i)) taken.2 in
    ap (λ (left : List ℕ). row_for left i) (after_accepted book (day d) e ∙ ap (with_row book (place_for book i)) written)
    ∙ own_written book i taken.1 a.0 (day_row_lem book d taken.0 taken.1 a.0 a.1 taken.2)
    (day_instrument book d taken.0 taken.1 a.0 a.1 taken.2)
    ∙ sym written
row_left_lem book (why d) none e = ap (λ (left : List ℕ). row_for left d.instrument) (after_accepted book (why d) e)
row_left_lem book (corridor i t) none e = ap (λ (left : List ℕ). row_for left i) (after_accepted book (corridor i t) e)
row_left_lem book (bond i t b) none e = ap (λ (left : List ℕ). row_for left i) (after_accepted book (bond i t b) e)

pub call_leaves : CallLeaves
unfolding answer changed row_left cleared
call_leaves book (opening row) e =
    let o = accept_opening book row e in
    subst (λ (left : List ℕ). Leaves book (opening row) left) (sym (after_accepted book (opening row) e)) (
      written_holds book (free_place book) row o.sound.long o.free (words_long row o.range),
      written_for book (free_place book) row o.sound o.free o.range (λ j l n same. o.new (record { place = j; below = l; there = same })),
    )
call_leaves book (closing i) e =
    let m = accept_closing book i e in
    subst (λ (left : List ℕ). Leaves book (closing i) left) (sym (after_accepted book (closing i) e)) (cleared_closed book i m, cleared_free book i m)
call_leaves book (parameters i ps) e =
    let a = accept_parameters book i ps e in (
      (kept book i ps a.0 a.1 a.2).values,
      a.1.values,
      (kept book i ps a.0 a.1 a.2).keeps,
      a.1.in_order,
      row_left_lem book (parameters i ps) tt e ∙ parameters_words book i ps a.0 a.1 a.2,
    )
call_leaves book (halt i value) e =
    let a = accept_halt book i value e in (
      (halt_kept book i value a.0 a.1).values,
      (halt_kept book i value a.0 a.1).keeps,
      row_left_lem book (halt i value) tt e ∙ halt_words book i value a.0 a.1,
    )
call_leaves book (day d) e =
    let taken = (accept_day book d e).2 in
    (taken.0, taken.1, taken.2, row_left_lem book (day d) tt e ∙ ap (day_row (row_for book d.instrument)) taken.2)
call_leaves book (why d) e = after_accepted book (why d) e
call_leaves book (corridor i t) e = after_accepted book (corridor i t) e
call_leaves book (bond i t b) e = after_accepted book (bond i t b) e

-- In sound books an instrument with the same row is open in both or in neither: a used row is not empty.
pub open_same : (book other : List ℕ) (i : ℕ) → IsSoundBook book → IsSoundBook other → 0 < i → row_for book i ≡ row_for other i → is_open book i ≡ is_open other i
open_same book other i s t positive same = go (is_open book i) (is_open other i) refl refl
  where
    open_too : (a b : List ℕ) → IsSoundBook a → IsSoundBook b → row_for a i ≡ row_for b i → is_open a i ≡ true → is_open b i ≡ false → ⊥
    open_too a b s t same e f =
        let row = row_of_open a i s positive (open_says a i e) in
        omega (arith, ap length (sym row.keeps ∙ same ∙ closed_row b i t.long (λ o. clash (is_open b i) (open_tells b i o) f)))

    go : (a b : Bool) → is_open book i ≡ a → is_open other i ≡ b → a ≡ b
    go true true p q = refl
    go false false p q = refl
    go true false p q = absurd (open_too book other s t same p q)
    go false true p q = absurd (open_too other book t s (sym same) q p)

-- A chain that comes to the instrument's row gives the same number.
chain_same : (book other : List ℕ) (i : ℕ) (range : Bool) (next : List ℕ → ℕ) → is_sound book ≡ true → is_sound other ≡ true → (range ≡ true → is_in instruments i ≡ true) → row_for book i ≡ row_for other i
    → unless (is_sound book) Refusal.Book (unless range Refusal.Range (unless (is_open book i) Refusal.Unknown (next (row_for book i))))
    ≡ unless (is_sound other) Refusal.Book (unless range Refusal.Range (unless (is_open other i) Refusal.Unknown (next (row_for other i))))
chain_same book other i range next s t says same = rw (s, t) (go range says)
  where
    go : (range : Bool) → (range ≡ true → is_in instruments i ≡ true)
        → unless range Refusal.Range (unless (is_open book i) Refusal.Unknown (next (row_for book i)))
        ≡ unless range Refusal.Range (unless (is_open other i) Refusal.Unknown (next (row_for other i)))
    go false says = refl
    go true says =
        ap₂ (λ (o : Bool) (row : List ℕ). unless o Refusal.Unknown (next row))
        (open_same book other i (sound_says book s) (sound_says other t) (in_from instruments i (says refl)) same) same

module _ (book other : List ℕ) (s : is_sound book ≡ true) (t : is_sound other ≡ true) where
  day_same : (d : Day) → row_for book d.instrument ≡ row_for other d.instrument → number_of_day book d ≡ number_of_day other d
  day_same d same =
      chain_same book other d.instrument (day_in_range d) (λ row. unless (not (is_halted row)) Refusal.Halted (day_number (day_on row d))) s t (day_names d) same

  asked_same : (i : ℕ) (range : Bool) (rule : ℕ → ℕ → ℕ → Ticks) → row_for book i ≡ row_for other i → number_of_ticks book i range (ticks_in (row_for book i) rule) ≡ number_of_ticks other i range (ticks_in (row_for other i) rule)
  asked_same i range rule same =
      chain_same book other i (is_in instruments i && range) (λ row. unless (not (is_halted row)) Refusal.Halted (ticks_number (ticks_in row rule))) s t (and_left _ _) same

  number_same : (call : Call) → IsNoOpening call → row_for book (named call) ≡ row_for other (named call) → number_of book call ≡ number_of other call
  unfolding number_of corridor_for bond_for
  number_same (opening row) none same = absurd none
  number_same (closing i) none same = chain_same book other i (is_in instruments i) (λ row. 0) s t (λ e. e) same
  number_same (parameters i ps) none same =
      chain_same book other i (is_in instruments i && parameters_in_range ps)
      (λ row. unless (eqb (word row Row.preliminary % parameter ps Row.step) 0) Refusal.Step 0) s t (and_left _ _) same
  number_same (halt i value) none same = chain_same book other i (is_in instruments i && is_in switches value) (λ row. 0) s t (and_left _ _) same
  number_same (day d) none same = day_same d same
  number_same (why d) none same = day_same d same
  number_same (corridor i t') none same = asked_same i (terms_in_range t') (λ P margin M. corridor_on P margin M t') same
  number_same (bond i t' b) none same = asked_same i (terms_in_range t' && bond_in_range b) (λ P margin M. bond_on P margin M t' b) same

figures_same : (book other : List ℕ) (call : Call) → row_for book (named call) ≡ row_for other (named call) → figures_for book call ≡ figures_for other call
unfolding figures_for corridor_for bond_for
figures_same book other (opening row) same = refl
figures_same book other (closing i) same = refl
figures_same book other (parameters i ps) same = refl
figures_same book other (halt i value) same = refl
figures_same book other (day d) same = ap (λ (row : List ℕ). day_figures (day_on row d)) same
figures_same book other (why d) same = ap (λ (row : List ℕ). why_figures row d (day_on row d)) same
figures_same book other (corridor i t) same = ap (λ (row : List ℕ). ticks_figures (ticks_in row (λ P margin M. corridor_on P margin M t))) same
figures_same book other (bond i t b) same = ap (λ (row : List ℕ). ticks_figures (ticks_in row (λ P margin M. bond_on P margin M t b))) same

pub apart : Apart
unfolding answer
apart book other call s t none same = (answered, left (ℕ_discrete (number_of book call) 0))
  where
    number : number_of book call ≡ number_of other call
    number = number_same book other s t call none same

    answered : answer book call ≡ answer other call
    answered =
        ap₂ (λ (n : ℕ) (figures : List ℕ). let handed : Answer = record { number = n; figures = cond (eqb n 0) figures (replicate (figure_count call) 0) } in handed)
        number (figures_same book other call same)

    left : Dec (number_of book call ≡ 0) → row_for (after book call) (named call) ≡ row_for (after other call) (named call)
    left (yes e) =
        row_left_lem book call none e ∙ ap (λ (row : List ℕ). row_left row call) same ∙ sym (row_left_lem other call none (sym number ∙ e))
    left (no n) =
        ap (λ (book : List ℕ). row_for book (named call)) (after_refused book call n) ∙ same
        ∙ sym (ap (λ (book : List ℕ). row_for book (named call)) (after_refused other call (λ e. n (number ∙ e))))
