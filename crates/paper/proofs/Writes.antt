-- Each accepted call writes one row of a sound book or none, and what it writes may stand there: so the book stays sound, and all else in it stays. Assumes nothing.
use mathlib.Core.Path.{◌≡◌, refl, sym, ap, ap₂, ◌∙◌}
use mathlib.Core.Bool.{true}
use mathlib.Core.List.{List, [], ◌∷◌}
use mathlib.Core.Logic.{◌⊎◌, inl, inr}
use Prim.Native.Nat.{ℕ, ◌+◌, ◌*◌, ◌/◌, ◌%◌, ◌≤◌, ◌<◌}
use native.Mathlib.Nat.{div-add-mod, add-zero}
use native.Mathlib.Decide.{ℕ_discrete}
use native.Mathlib.Omega.{arith}
use lib.Dec.{lit<}
use lib.ListN.{length, get_or, replicate, get_or-replicate}
use lib.Seq.{sets}
use Rattle.paper.specs.Row as Row
use Rattle.paper.specs.Row.{word, parameter, width}
use Rattle.paper.specs.Rates.{Day, Figures, DayAnswer, accepted, day_on}
use Rattle.paper.specs.Book.{with_row, place_for, row_for, is_sound}
use Rattle.paper.specs.Calls.{Call, opening, closing, parameters, halt, day, why, corridor, bond, day_row, number_of, changed, after}
use Rattle.paper.specs.Values.{Values, words}
use Rattle.paper.specs.Promises.Ranges.{IsFrom, AreValues, IsRow, IsParameters, IsDay}
use Rattle.paper.specs.Promises.Days.{values_after}
use Rattle.paper.specs.Promises.Book.{word_at, IsSoundBook}
use Rattle.paper.specs.Promises.Calls.{with_parameters, with_halt, named, touched, TouchesOneRow, SoundStays}
use Rattle.paper.proofs.Taken.{day_means, taken_in_range}
use Rattle.paper.proofs.Book.{place_below, free_first, written_outside}
use Rattle.paper.proofs.Sound.{sound_means, MayStand, zeros, alone, write_stays}
use Rattle.paper.proofs.Rows.{RowOf, words_long, row_of_open, place_holds, place_alone, others_keep}
use Rattle.paper.proofs.Accepted.{after_accepted, after_refused, accept_opening, Met, accept_closing, accept_parameters, accept_halt, accept_day}

-- The row that new parameters write.
module _ (book : List ℕ) (i : ℕ) (ps : List ℕ) (m : Met book i) (p : IsParameters ps) (divides : word (row_for book i) Row.preliminary % parameter ps Row.step ≡ 0) where
  pub kept : RowOf book i
  kept = row_of_open book i m.sound m.positive m.opened

  pub parameters_words : sets (row_for book i) Row.alpha ps ≡ words (with_parameters kept.values p.values)
  parameters_words = ap₂ (λ (row ps : List ℕ). sets row Row.alpha ps) kept.keeps p.in_order

  exact : kept.values.preliminary % p.values.h ≡ 0
  exact = ap₂ (λ (row ps : List ℕ). word row Row.preliminary % parameter ps Row.step) (sym kept.keeps) (sym p.in_order) ∙ divides

  pub parameters_row_lem : IsRow (sets (row_for book i) Row.alpha ps)
  parameters_row_lem =
      let v = kept.values in
      let r = kept.in_range in
      record {
        values = with_parameters v p.values;
        in_order = parameters_words;
        in_range =
            record {
              instrument = r.instrument;
              parameters = p.in_range;
              variance = r.variance;
              preliminary = r.preliminary;
              margin = r.margin;
              concentration = r.concentration;
              last_change = r.last_change;
              last_day = r.last_day;
              newer = r.newer;
              older = r.older;
              halted = r.halted;
              change = r.change;
              steps = v.preliminary / p.values.h;
              multiple = sym (div-add-mod v.preliminary p.values.h) ∙ ap (λ (rest : ℕ). p.values.h * (v.preliminary / p.values.h) + rest) exact ∙ add-zero _;
            };
      }

  pub parameters_instrument : word (sets (row_for book i) Row.alpha ps) Row.instrument ≡ i
  parameters_instrument = ap (λ (row : List ℕ). word row Row.instrument) parameters_words ∙ kept.holds

-- The values with another word for halted are in range where that word is 0 or 1.
pub halt_in_range : (v : Values) (value : ℕ) → AreValues v → IsFrom 0 1 value → AreValues (with_halt v value)
halt_in_range v value r switch =
    record {
      instrument = r.instrument;
      parameters = r.parameters;
      variance = r.variance;
      preliminary = r.preliminary;
      margin = r.margin;
      concentration = r.concentration;
      last_change = r.last_change;
      last_day = r.last_day;
      newer = r.newer;
      older = r.older;
      halted = switch;
      change = r.change;
      steps = r.steps;
      multiple = r.multiple;
    }

-- The row that a halt writes.
module _ (book : List ℕ) (i value : ℕ) (m : Met book i) (switch : IsFrom 0 1 value) where
  pub halt_kept : RowOf book i
  halt_kept = row_of_open book i m.sound m.positive m.opened

  pub halt_words : sets (row_for book i) Row.halted (value ∷ []) ≡ words (with_halt halt_kept.values value)
  halt_words = ap (λ (row : List ℕ). sets row Row.halted (value ∷ [])) halt_kept.keeps

  pub halt_row : IsRow (sets (row_for book i) Row.halted (value ∷ []))
  halt_row =
      record { values = with_halt halt_kept.values value; in_order = halt_words; in_range = halt_in_range halt_kept.values value halt_kept.in_range switch }

  pub halt_instrument : word (sets (row_for book i) Row.halted (value ∷ [])) Row.instrument ≡ i
  halt_instrument = ap (λ (row : List ℕ). word row Row.instrument) halt_words ∙ halt_kept.holds

-- The row that a day writes.
module _ (book : List ℕ) (d : Day) (f : Figures) (next : List ℕ) (m : Met book d.instrument) (r : IsDay d) (e : day_on (row_for book d.instrument) d ≡ accepted f next) where
  pub met_row : RowOf book d.instrument
  met_row = row_of_open book d.instrument m.sound m.positive m.opened

  pub day_row_lem : IsRow next
  day_row_lem =
      let v = met_row.values in
      let t = (day_means.taken v d f next).0 (ap (λ (row : List ℕ). day_on row d) (sym met_row.keeps) ∙ e) in
      record { values = values_after v d f; in_order = t.leaves; in_range = taken_in_range v d f met_row.in_range r t.figures t.small }

  pub day_instrument : word next Row.instrument ≡ d.instrument
  unfolding met_row day_row_lem
  day_instrument = ap (λ (row : List ℕ). word row Row.instrument) day_row_lem.in_order ∙ met_row.holds

-- A call that writes: the row, and that it may stand where the call touches. What stood there, and what is written, is free or the instrument's.
record Writes (book : List ℕ) (call : Call) : Type 0 where
  ws : List ℕ
  sound : IsSoundBook book
  below : touched book call < 64
  wide : length ws ≡ width
  stands : MayStand book (touched book call) ws
  leaves : after book call ≡ with_row book (touched book call) ws
  was : (word_at book (touched book call) 0 ≡ 0) ⊎ (word_at book (touched book call) 0 ≡ named call)
  now : (word ws Row.instrument ≡ 0) ⊎ (word ws Row.instrument ≡ named call)

-- A row in range for an open instrument may stand in its place.
own_row : (book : List ℕ) (i : ℕ) (ws : List ℕ) → Met book i → IsRow ws → word ws Row.instrument ≡ i → MayStand book (place_for book i) ws
own_row book i ws m r same =
    alone r (λ j l n e. place_alone book i m.sound m.positive m.opened j l n (e ∙ same))

effect : (book : List ℕ) (call : Call) → (after book call ≡ book) ⊎ Writes book call
unfolding changed
effect book call = go call (ℕ_discrete (number_of book call) 0)
  where
    go : (call : Call) → Dec (number_of book call ≡ 0) → (after book call ≡ book) ⊎ Writes book call
    go (opening row) (no n) = inl (after_refused book (opening row) n)
    go (opening row) (yes e) =
        let o = accept_opening book row e in
        inr (record {
          ws = row;
          sound = o.sound;
          below = o.free;
          wide = words_long row o.range;
          stands = alone o.range (λ j l n same. o.new (record { place = j; below = l; there = same }));
          leaves = after_accepted book (opening row) e;
          was = inl ((free_first book).holds o.free 0 (lit< tt));
          now = inr refl;
        })
    go (closing i) (no n) = inl (after_refused book (closing i) n)
    go (closing i) (yes e) =
        let m = accept_closing book i e in
        inr (record {
          ws = replicate Row.width 0;
          sound = m.sound;
          below = place_below book i m.opened;
          wide = refl;
          stands = zeros (λ place l. get_or-replicate Row.width place 0 0 l);
          leaves = after_accepted book (closing i) e;
          was = inr (place_holds book i m.sound m.positive m.opened);
          now = inl refl;
        })
    go (parameters i ps) (no n) = inl (after_refused book (parameters i ps) n)
    go (parameters i ps) (yes e) =
        let a = accept_parameters book i ps e in
        let m = a.0 in
        let r = parameters_row_lem book i ps m a.1 a.2 in
        let same = parameters_instrument book i ps m a.1 a.2 in
        inr (record {
          ws = sets (row_for book i) Row.alpha ps;
          sound = m.sound;
          below = place_below book i m.opened;
          wide = words_long _ r;
          stands = own_row book i _ m r same;
          leaves = after_accepted book (parameters i ps) e;
          was = inr (place_holds book i m.sound m.positive m.opened);
          now = inr same;
        })
    go (halt i value) (no n) = inl (after_refused book (halt i value) n)
    go (halt i value) (yes e) =
        let a = accept_halt book i value e in
        let m = a.0 in
        let r = halt_row book i value m a.1 in
        let same = halt_instrument book i value m a.1 in
        inr (record {
          ws = sets (row_for book i) Row.halted (value ∷ []);
          sound = m.sound;
          below = place_below book i m.opened;
          wide = words_long _ r;
          stands = own_row book i _ m r same;
          leaves = after_accepted book (halt i value) e;
          was = inr (place_holds book i m.sound m.positive m.opened);
          now = inr same;
        })
    go (day d) (no n) = inl (after_refused book (day d) n)
    go (day d) (yes e) =
        let a = accept_day book d e in
        let m = a.0 in
        let i = d.instrument in
        let taken = a.2 in
        let r = day_row_lem book d taken.0 taken.1 m a.1 taken.2 in
        let same = day_instrument book d taken.0 taken.1 m a.1 taken.2 in
        inr (record {
          ws = taken.1;
          sound = m.sound;
          below = place_below book i m.opened;
          wide = words_long _ r;
          stands = own_row book i _ m r same;
          leaves = after_accepted book (day d) e ∙ ap (λ (answered : DayAnswer). with_row book (place_for book i) (day_row (row_for book i) answered)) taken.2;
          was = inr (place_holds book i m.sound m.positive m.opened);
          now = inr same;
        })
    go (why d) (no n) = inl (after_refused book (why d) n)
    go (why d) (yes e) = inl (after_accepted book (why d) e)
    go (corridor i t) (no n) = inl (after_refused book (corridor i t) n)
    go (corridor i t) (yes e) = inl (after_accepted book (corridor i t) e)
    go (bond i t b) (no n) = inl (after_refused book (bond i t b) n)
    go (bond i t b) (yes e) = inl (after_accepted book (bond i t b) e)

pub sound_stays : SoundStays
sound_stays book call sound = go (effect book call)
  where
    go : (after book call ≡ book) ⊎ Writes book call → is_sound (after book call) ≡ true
    go (inl same) = ap is_sound same ∙ sound
    go (inr w) =
        ap is_sound w.leaves
        ∙ (sound_means _).1 (write_stays book (touched book call) w.ws w.sound w.below w.wide w.stands)

pub touches_one_row : TouchesOneRow
touches_one_row =
    record {
      outside = λ book call at side. outside book call at side (effect book call);
      others = λ book call i positive n. others book call i positive n (effect book call);
    }
  where
    outside : (book : List ℕ) (call : Call) (at : ℕ) → (at < width * touched book call) ⊎ (width * touched book call + width ≤ at) → (after book call ≡ book) ⊎ Writes book call → get_or (after book call) at 0 ≡ get_or book at 0
    outside book call at side (inl same) = ap (λ (book : List ℕ). get_or book at 0) same
    outside book call at side (inr w) =
        ap (λ (book : List ℕ). get_or book at 0) w.leaves ∙ written_outside book (touched book call) w.ws at w.wide side

    not_named : (n i name : ℕ) → 0 < i → ¬ (i ≡ name) → (n ≡ 0) ⊎ (n ≡ name) → ¬ (n ≡ i)
    not_named n i name positive other (inl e) same = omega arith
    not_named n i name positive other (inr e) same = other (sym same ∙ e)

    others : (book : List ℕ) (call : Call) (i : ℕ) → 0 < i → ¬ (i ≡ named call) → (after book call ≡ book) ⊎ Writes book call → row_for (after book call) i ≡ row_for book i
    others book call i positive n (inl same) = ap (λ (book : List ℕ). row_for book i) same
    others book call i positive n (inr w) =
        ap (λ (book : List ℕ). row_for book i) w.leaves
        ∙ others_keep book (touched book call) w.ws i w.sound.long w.below w.wide
        (not_named _ i (named call) positive n w.was) (not_named _ i (named call) positive n w.now)
