-- A halt is a gap: beside the row as it is with no halt the halted one stands through it, since days, corridors and openings are refused, new parameters do the same to both and other calls touch other rows. The worked cases by the row that each call meets. Assumes nothing.
use mathlib.Core.Path.{◌≡◌, refl, sym, ap, subst, subst⁻¹, subst₂, ◌∙◌}
use mathlib.Core.Bool.{Bool, true, false, cond, ◌&&◌}
use mathlib.Core.List.{List, [], ◌∷◌}
use mathlib.Core.Logic.{◌↔◌, inl, inr}
use Prim.Native.Nat.{ℕ}
use native.Mathlib.Decide.{ℕ_discrete}
use native.Mathlib.Omega.{arith}
use borrow.Author.Tests.{eqb-true, eq-eqb}
use lib.Dec.{eqb, lit≤, lit<}
use lib.IntN.{pos}
use lib.ListN.{replicate, set}
use lib.Seq.{sets, get_or-set_other}
use Rattle.paper.specs.Row as Row
use Rattle.paper.specs.Row.{instruments, switches, is_in, word, parameters_of, row_in_range, is_halted}
use Rattle.paper.specs.Rates.{Day, day_in_range, move_on, day_on}
use Rattle.paper.specs.Corridor.{Terms, terms_in_range}
use Rattle.paper.specs.Bond.{Bond, bond_in_range}
use Rattle.paper.specs.Book.{with_row, place_for, row_for, is_open, is_sound}
use Rattle.paper.specs.Calls.{Call, opening, closing, parameters, halt, day, why, corridor, bond, day_row, number_of, answer, after, after_all}
use Rattle.paper.specs.Each.{Each}
use Rattle.paper.specs.Values.{Parameters, parameter_words, Values, words}
use Rattle.paper.specs.Promises.Ranges.{IsRow, IsDay, AreTerms, IsBond}
use Rattle.paper.specs.Promises.Book.{word_at, IsOpen}
use Rattle.paper.specs.Promises.Calls.{with_parameters, with_halt, named, IsNoOpening}
use Rattle.paper.specs.Promises.Ends.{IsInstrument}
use Rattle.paper.specs.Promises.Worked.{sheet_row_of, day_of, distinct_row, terms_at}
use Rattle.paper.specs.Promises.Alive.{empty_book, greatest_instrument, three_book}
use Rattle.paper.specs.Promises.Drift.{exact_after, low_row, still_day}
use Rattle.paper.specs.Promises.Bonds.{bond_of}
use Rattle.paper.specs.Promises.AnyCalls.{moves_with, moves_after, StaysOpenWith}
use Rattle.paper.specs.Promises.Halts.{KeepsHalt, MayHalt, halted, resumed, is_given, given, unhalted, IsRefused, IsNoParameter, HaltIsGap, halted_book, halted_row, HaltedCalls, low_book, gap_calls, GapDrift}
use Rattle.paper.proofs.Row.{in_both}
use Rattle.paper.proofs.Tests.{clash, not_passed, and_both, both_say}
use Rattle.paper.proofs.Ranges.{ranges_mean}
use Rattle.paper.proofs.Stores.{sets_under, sets_over}
use Rattle.paper.proofs.Book.{open_says, written_word}
use Rattle.paper.proofs.Sound.{sound_long, sound_says, holder_place}
use Rattle.paper.proofs.Rows.{RowOf, row_of_open}
use Rattle.paper.proofs.Accepted.{after_refused, accept_opening, accept_parameters, accept_halt}
use Rattle.paper.proofs.Writes.{sound_stays, touches_one_row}
use Rattle.paper.proofs.Calls.{open_same, apart}
use Rattle.paper.proofs.AnyCalls.{sound_after}
use Rattle.paper.proofs.Computing.{computing}
use Rattle.paper.proofs.Standing.{number_by, figures_by, answer_by, left_by, Stands, row_open, number_by_lem, answer_by_lem, after_by, refused_stands, day_stands, parameters_stand, halt_stands, opened_stands, other_stands, why_leaves, corridor_leaves, bond_leaves}
use Rattle.paper.proofs.Alive.{empty_sound, empty_opens, middle_row, last_stands, three_keeps, three_closed, already_open}
use Rattle.paper.proofs.Calendar.{opened, refused}
use Rattle.paper.proofs.History.{open_with, one_move, no_move}

-- A halt in range of an open instrument is accepted.
halt_number : (row : List ℕ) (i value : ℕ) → IsInstrument i → is_in switches value ≡ true → number_by row (halt i value) ≡ 0
unfolding number_by
halt_number row i value r e = rw (and_both (is_in instruments i) (is_in switches value) (in_both instruments i r.not_below r.not_above) e)

-- A day and a corridor of a halted row are refused, as Halted where they are in range.
module _ (v : Values) where
  day_number_lem : (d : Day) → number_by (words (with_halt v 1)) (day d) ≡ cond (day_in_range d) 12 2
  unfolding number_by is_halted
  day_number_lem d = refl

  why_number : (d : Day) → number_by (words (with_halt v 1)) (why d) ≡ cond (day_in_range d) 12 2
  unfolding number_by is_halted
  why_number d = refl

  corridor_number : (i : ℕ) (t : Terms) → IsInstrument i → number_by (words (with_halt v 1)) (corridor i t) ≡ cond (terms_in_range t) 12 2
  unfolding number_by is_halted
  corridor_number i t r = rw (in_both instruments i r.not_below r.not_above)

  bond_number : (i : ℕ) (t : Terms) (b : Bond) → IsInstrument i → number_by (words (with_halt v 1)) (bond i t b) ≡ cond (terms_in_range t && bond_in_range b) 12 2
  unfolding number_by is_halted
  bond_number i t b r = rw (in_both instruments i r.not_below r.not_above)

some_refusal : (range : Bool) → ¬ (cond {A = ℕ} range 12 2 ≡ 0)
some_refusal true e = omega arith
some_refusal false e = omega arith

-- A number by the test of the values, and so by what it is for them to be in range.
by_range : (range : Bool) (InRange : Type 0) (refusal number : ℕ) → (range ≡ true) ↔ InRange → number ≡ cond range refusal 2 → IsRefused refusal InRange number
by_range range InRange refusal number says e = (
  λ out. e ∙ ap (λ (range : Bool). cond range refusal 2) (not_passed range (λ passed. out (says.0 passed))),
  λ fits. e ∙ ap (λ (range : Bool). cond range refusal 2) (says.1 fits),
)

-- An instrument in two books, halted in the first: but for that it has the same row in both, of these values with other parameters.
abbrev row_with : Values → Parameters → ℕ → List ℕ
row_with v p value = words (with_halt (with_parameters v p) value)

record Beside (i : ℕ) (v : Values) (book other : List ℕ) : Type 0 where
  has : Parameters
  stands : Stands book i (row_with v has 1)
  goes : Stands other i (row_with v has 0)

module _ (i : ℕ) (r : IsInstrument i) where
  untouched : {row : List ℕ} (book : List ℕ) (call : Call) → after book call ≡ book → Stands book i row → Stands (after book call) i row
  untouched {row} book call same s = subst⁻¹ (λ (book : List ℕ). Stands book i row) same s

  -- A halted row stands through each call that is no new parameters for it, unless the call closes it or ends the halt.
  one_stands : (v : Values) (book : List ℕ) (call : Call) → KeepsHalt i call → is_given i call ≡ false → Stands book i (words (with_halt v 1)) → Stands (after book call) i (words (with_halt v 1))
  unfolding is_in
  one_stands v book (opening other) keeps none s = go (ℕ_discrete i (word other Row.instrument))
    where
      go : Dec (i ≡ word other Row.instrument) → Stands (after book (opening other)) i (words (with_halt v 1))
      go (no n) = other_stands book _ i (opening other) r.not_below n s
      go (yes e) =
          untouched book (opening other)
          (after_refused book (opening other) (λ taken. (accept_opening book other taken).new (subst (IsOpen book) e (open_says book i (row_open book i _ (lit< tt) s))))) s
  one_stands v book (closing k) keeps none s = other_stands book _ i (closing k) r.not_below keeps s
  one_stands v book (parameters k ps) keeps none s =
      other_stands book _ i (parameters k ps) r.not_below (λ e. clash (eqb k i) (eq-eqb k i (sym e)) none) s
  one_stands v book (halt k value) keeps none s = go (ℕ_discrete i k) (ℕ_discrete value 1)
    where
      go : Dec (i ≡ k) → Dec (value ≡ 1) → Stands (after book (halt k value)) i (words (with_halt v 1))
      go (no n) again = other_stands book _ i (halt k value) r.not_below n s
      go (yes e) (yes again) =
          subst₂ (λ (k value : ℕ). Stands (after book (halt k value)) i (words (with_halt v 1))) e (sym again)
          (halt_stands book (words (with_halt v 1)) (lit< tt) i 1 s (halt_number (words (with_halt v 1)) i 1 r refl))
      go (yes e) (no n) =
          untouched book (halt k value)
          (after_refused book (halt k value) (λ taken. let range = (accept_halt book k value taken).1 in omega (arith, n, keeps e, range.not_above))) s
  one_stands v book (day d) keeps none s = go (ℕ_discrete i d.instrument)
    where
      go : Dec (i ≡ d.instrument) → Stands (after book (day d)) i (words (with_halt v 1))
      go (no n) = other_stands book _ i (day d) r.not_below n s
      go (yes e) =
          subst⁻¹ (λ (i : ℕ). Stands (after book (day d)) i (words (with_halt v 1))) e
          (refused_stands book (words (with_halt v 1)) (lit< tt) (day d) tt (subst (λ (i : ℕ). Stands book i (words (with_halt v 1))) e s)
          (λ taken. some_refusal (day_in_range d) (sym (day_number_lem v d) ∙ taken)))
  one_stands v book (why d) keeps none s = untouched book (why d) (why_leaves book d) s
  one_stands v book (corridor k t) keeps none s = untouched book (corridor k t) (corridor_leaves book k t) s
  one_stands v book (bond k t b) keeps none s = untouched book (bond k t b) (bond_leaves book k t b) s

  -- New parameters for it do the same to both rows: no test of theirs reads whether it is halted.
  both_take : (v : Values) (book other ps : List ℕ) → Beside i v book other → Beside i v (after book (parameters i ps)) (after other (parameters i ps))
  unfolding number_by
  both_take v book other ps b = go (ℕ_discrete (number_by (row_with v b.has 1) (parameters i ps)) 0)
    where
      go : Dec (number_by (row_with v b.has 1) (parameters i ps) ≡ 0) → Beside i v (after book (parameters i ps)) (after other (parameters i ps))
      go (no n) =
          record {
            has = b.has;
            stands = refused_stands book (row_with v b.has 1) (lit< tt) (parameters i ps) tt b.stands n;
            goes = refused_stands other (row_with v b.has 0) (lit< tt) (parameters i ps) tt b.goes n;
          }
      go (yes taken) =
          let p = (accept_parameters book i ps (number_by_lem book (row_with v b.has 1) (lit< tt) (parameters i ps) tt b.stands ∙ taken)).1 in
          record {
            has = p.values;
            stands =
                subst (λ (given : List ℕ). Stands (after book (parameters i ps)) i (sets (row_with v b.has 1) Row.alpha given)) p.in_order
                (parameters_stand book (row_with v b.has 1) (lit< tt) i ps b.stands taken);
            goes =
                subst (λ (given : List ℕ). Stands (after other (parameters i ps)) i (sets (row_with v b.has 0) Row.alpha given)) p.in_order
                (parameters_stand other (row_with v b.has 0) (lit< tt) i ps b.goes taken);
          }

  both_given : (v : Values) (book other : List ℕ) (call : Call) → is_given i call ≡ true → Beside i v book other → Beside i v (after book call) (after other call)
  both_given v book other (opening row) e b = absurd (clash false e refl)
  both_given v book other (closing k) e b = absurd (clash false e refl)
  both_given v book other (parameters k ps) e b =
      subst⁻¹ (λ (k : ℕ). Beside i v (after book (parameters k ps)) (after other (parameters k ps))) (eqb-true k i e) (both_take v book other ps b)
  both_given v book other (halt k value) e b = absurd (clash false e refl)
  both_given v book other (day d) e b = absurd (clash false e refl)
  both_given v book other (why d) e b = absurd (clash false e refl)
  both_given v book other (corridor k t) e b = absurd (clash false e refl)
  both_given v book other (bond k t b') e b = absurd (clash false e refl)

  all_beside : (v : Values) (calls : List Call) (book other : List ℕ) → Each (KeepsHalt i) calls → Beside i v book other → Beside i v (after_all book calls) (after_all other (given i calls))
  all_beside v [] book other keeps b = b
  all_beside v (call ∷ calls) book other keeps b = go (is_given i call) refl (λ book other b. all_beside v calls book other keeps.1 b)
    where
      go : (t : Bool) → is_given i call ≡ t
          → ((book other : List ℕ) → Beside i v book other → Beside i v (after_all book calls) (after_all other (given i calls)))
          → Beside i v (after_all (after book call) calls) (after_all other (cond t (call ∷ given i calls) (given i calls)))
      go true e rest = rest (after book call) (after other call) (both_given v book other call e b)
      go false e rest =
          rest (after book call) other (record { has = b.has; stands = one_stands (with_parameters v b.has) book call keeps.0 e b.stands; goes = b.goes })

  -- A call for it that is no opening, on two sound books in which it has the same row; and the row that calls leave in both, where no opening of it is among them.
  own_same : (book other : List ℕ) (call : Call) → is_sound book ≡ true → is_sound other ≡ true → IsNoOpening call → named call ≡ i → row_for book i ≡ row_for other i
      → (answer book call ≡ answer other call) × (row_for (after book call) i ≡ row_for (after other call) i)
  own_same book other call s t none e same =
      let alike = apart book other call s t none (ap (row_for book) e ∙ same ∙ sym (ap (row_for other) e)) in
      (alike.0, ap (row_for (after book call)) (sym e) ∙ alike.1 ∙ ap (row_for (after other call)) e)

  rows_same : (calls : List Call) (book other : List ℕ) → is_sound book ≡ true → is_sound other ≡ true → Each (λ call. i ≡ named call → IsNoOpening call) calls → row_for book i ≡ row_for other i
      → row_for (after_all book calls) i ≡ row_for (after_all other calls) i
  rows_same [] book other s t none same = same
  rows_same (call ∷ calls) book other s t none same =
      rows_same calls (after book call) (after other call) (sound_stays book call s) (sound_stays other call t) none.1 (go (ℕ_discrete i (named call)))
    where
      go : Dec (i ≡ named call) → row_for (after book call) i ≡ row_for (after other call) i
      go (yes e) = (own_same book other call s t (none.0 e) (sym e) same).1
      go (no n) = touches_one_row.others book call i r.not_below n ∙ same ∙ sym (touches_one_row.others other call i r.not_below n)

-- Every word but the parameters is that of the values without them.
no_parameter : (v : Values) (p : Parameters) (place : ℕ) → IsNoParameter place → word (words (with_parameters v p)) place ≡ word (words v) place
no_parameter v p place (inl l) = sets_under (words v) Row.alpha (parameter_words p) place l
no_parameter v p place (inr l) = sets_over (words v) Row.alpha (parameter_words p) place (omega arith)

module _ (i : ℕ) (book : List ℕ) (calls : List Call) (m : MayHalt i book calls) where
  kept : RowOf book i
  kept = row_of_open book i (sound_says book m.sound) m.instrument.not_below (open_says book i m.open_here)

  abbrev v : Values
  v = kept.values

  started : row_for book i ≡ words (with_halt v 0)
  started = kept.keeps ∙ ap (λ (n : ℕ). words (with_halt v n)) (ap (λ (row : List ℕ). word row Row.halted) (sym kept.keeps) ∙ m.going)

  beside : Beside i v (halted i book calls) (unhalted i book calls)
  unfolding is_in
  beside =
      all_beside i m.instrument v calls (after book (halt i 1)) book m.asked
      (record {
        has = v.parameters;
        stands = halt_stands book (words v) (lit< tt) i 1 (record { sound = m.sound; is_row = kept.keeps }) (halt_number (words v) i 1 m.instrument refl);
        goes = record { sound = m.sound; is_row = started };
      })

  -- The values meanwhile, and the number of a call but an opening.
  abbrev now : Values
  now = with_parameters v beside.has

  meanwhile : (call : Call) → IsNoOpening call → named call ≡ i → (answer (halted i book calls) call).number ≡ number_by (words (with_halt now 1)) call
  unfolding answer
  meanwhile call none same =
      number_by_lem (halted i book calls) (words (with_halt now 1)) (lit< tt) call none
      (subst⁻¹ (λ (k : ℕ). Stands (halted i book calls) k (words (with_halt now 1))) same beside.stands)

  already : (row : List ℕ) → word row Row.instrument ≡ i → (answer (halted i book calls) (opening row)).number ≡ cond (row_in_range row) 3 2
  unfolding answer number_of
  already row same =
      rw (beside.stands.sound, ap (is_open (halted i book calls)) same ∙ row_open (halted i book calls) i (words (with_halt now 1)) (lit< tt) beside.stands)

  same_parameters : (ps : List ℕ) → answer (halted i book calls) (parameters i ps) ≡ answer (unhalted i book calls) (parameters i ps)
  unfolding number_by figures_by answer_by
  same_parameters ps =
      answer_by_lem (halted i book calls) (words (with_halt now 1)) (lit< tt) (parameters i ps) tt beside.stands
      ∙ sym (answer_by_lem (unhalted i book calls) (words (with_halt now 0)) (lit< tt) (parameters i ps) tt beside.goes)

  row_during : row_for (halted i book calls) i ≡ set (row_for (unhalted i book calls) i) Row.halted 1
  row_during = beside.stands.is_row ∙ ap (λ (row : List ℕ). set row Row.halted 1) (sym beside.goes.is_row)

  stands_resumed : Stands (resumed i book calls) i (words (with_halt now 0))
  unfolding is_in
  stands_resumed =
      halt_stands (halted i book calls) (words (with_halt now 1)) (lit< tt) i 0 beside.stands (halt_number (words (with_halt now 1)) i 0 m.instrument refl)

  row_ended : row_for (resumed i book calls) i ≡ row_for (unhalted i book calls) i
  row_ended = stands_resumed.is_row ∙ sym beside.goes.is_row

  word_kept : (place : ℕ) → IsNoParameter place → word (row_for (unhalted i book calls) i) place ≡ word (row_for book i) place
  word_kept place side =
      ap (λ (row : List ℕ). word row place) beside.goes.is_row
      ∙ no_parameter (with_halt v 0) beside.has place side
      ∙ sym (ap (λ (row : List ℕ). word row place) started)

pub halt_is_gap : HaltIsGap
halt_is_gap =
    record {
      refuses_day = λ book calls d m.
          by_range (day_in_range d) (IsDay d) 12 _ (ranges_mean.day d) (meanwhile d.instrument book calls m (day d) tt refl ∙ day_number_lem (now d.instrument book calls m) d);
      no_reasons = λ book calls d m.
          by_range (day_in_range d) (IsDay d) 12 _ (ranges_mean.day d) (meanwhile d.instrument book calls m (why d) tt refl ∙ why_number (now d.instrument book calls m) d);
      refuses_corridor = λ i book calls t m.
          by_range (terms_in_range t) (AreTerms t) 12 _ (ranges_mean.terms t)
          (meanwhile i book calls m (corridor i t) tt refl ∙ corridor_number (now i book calls m) i t m.instrument);
      no_bond = λ i book calls t b m.
          by_range (terms_in_range t && bond_in_range b) (AreTerms t × IsBond b) 12 _ (both_say _ _ _ _ (ranges_mean.terms t) (ranges_mean.bond b))
          (meanwhile i book calls m (bond i t b) tt refl ∙ bond_number (now i book calls m) i t b m.instrument);
      known = λ book calls row m. by_range (row_in_range row) (IsRow row) 3 _ (ranges_mean.row row) (already (word row Row.instrument) book calls m row refl);
      new_parameters = λ i book calls ps m. same_parameters i book calls m ps;
      during = row_during;
      others_during = λ i book calls place m side other.
          ap (λ (row : List ℕ). word row place) (row_during i book calls m)
          ∙ get_or-set_other (row_for (unhalted i book calls) i) Row.halted place 1 0 other
          ∙ word_kept i book calls m place side;
      ended = row_ended;
      others_ended = λ i book calls place m side. ap (λ (row : List ℕ). word row place) (row_ended i book calls m) ∙ word_kept i book calls m place side;
      goes_on = λ i book calls more call m others none e.
          let s = (stands_resumed i book calls m).sound in
          let t = (beside i book calls m).goes.sound in
          own_same i m.instrument (after_all (resumed i book calls) more) (after_all (unhalted i book calls) more) call (sound_after (resumed i book calls) more s)
          (sound_after (unhalted i book calls) more t) none e
          (rows_same i m.instrument more (resumed i book calls) (unhalted i book calls) s t others (row_ended i book calls m));
    }

-- The middle instrument of three, halted: where it stands, and what its calls give by its row.
halted_stands : Stands halted_book 11 halted_row
unfolding computing number_by
halted_stands = halt_stands three_book middle_row (lit< tt) 11 1 three_keeps.1 refl

record OnRow : Type 0 where
  halts : answer_by middle_row (halt 11 1) ≡ record { number = 0; figures = [] }
  halts_again : number_by halted_row (halt 11 1) ≡ 0
  ended : number_by halted_row (halt 11 0) ≡ 0
  ended_again : number_by middle_row (halt 11 0) ≡ 0
  refuses_day : answer_by halted_row (day (day_of 11 301 51000 2 1)) ≡ record { number = 12; figures = replicate 6 0 }
  no_reasons : answer_by halted_row (why (day_of 11 301 51000 2 1)) ≡ record { number = 12; figures = replicate 10 0 }
  stale_day : number_by halted_row (day (day_of 11 300 51000 2 1)) ≡ 12
  far_day : number_by halted_row (day (day_of 11 301 200000 2 1)) ≡ 12
  day_out_of_range : number_by halted_row (day (day_of 11 301 0 2 1)) ≡ 2
  refuses_corridor : answer_by halted_row (corridor 11 (terms_at 73 (pos 0) (pos 0) 50000 20000 1000)) ≡ record { number = 12; figures = replicate 2 0 }
  empty_corridor : number_by halted_row (corridor 11 (terms_at 73 (pos 0) (pos 0) 50000 20000 1000000)) ≡ 12
  corridor_out_of_range : number_by halted_row (corridor 11 (terms_at 73 (pos 0) (pos 0) 50000 20000 0)) ≡ 2
  no_bond : answer_by halted_row (bond 11 (terms_at 73 (pos 0) (pos 0) 50000 20000 1000) (bond_of 50000 0 0)) ≡ record { number = 12; figures = replicate 2 0 }
  empty_bond : number_by halted_row (bond 11 (terms_at 73 (pos 0) (pos 0) 50000 20000 1000) (bond_of 50000 1000000 0)) ≡ 12
  bond_out_of_range : number_by halted_row (bond 11 (terms_at 73 (pos 0) (pos 0) 50000 20000 1000) (bond_of 0 0 0)) ≡ 2
  parameters_given : number_by halted_row (parameters 11 (parameters_of (distinct_row 0 1 0 0))) ≡ 0
  parameters_row_lem : sets halted_row Row.alpha (parameters_of (distinct_row 0 1 0 0)) ≡ set halted_row Row.monitored 0
  closed : number_by halted_row (closing 11) ≡ 0
  in_range : (row_in_range middle_row ≡ true) × (row_in_range halted_row ≡ true) × (row_in_range (set halted_row Row.halted 2) ≡ false)
  day_in_range_lem : day_in_range (day_of 8 301 51000 2 1) ≡ true
  corridor_in_range : is_in instruments 8 && terms_in_range (terms_at 73 (pos 0) (pos 0) 50000 20000 1000) ≡ true
  bond_in_range_lem : is_in instruments 8 && (terms_in_range (terms_at 73 (pos 0) (pos 0) 50000 20000 1000) && bond_in_range (bond_of 50000 0 0)) ≡ true

on_row : OnRow
unfolding computing number_by figures_by answer_by
on_row =
    record {
      halts = refl;
      halts_again = refl;
      ended = refl;
      ended_again = refl;
      refuses_day = refl;
      no_reasons = refl;
      stale_day = refl;
      far_day = refl;
      day_out_of_range = refl;
      refuses_corridor = refl;
      empty_corridor = refl;
      corridor_out_of_range = refl;
      no_bond = refl;
      empty_bond = refl;
      bond_out_of_range = refl;
      parameters_given = refl;
      parameters_row_lem = refl;
      closed = refl;
      in_range = (refl, refl, refl);
      day_in_range_lem = refl;
      corridor_in_range = refl;
      bond_in_range_lem = refl;
    }

set_after : halted_book ≡ with_row three_book 30 halted_row
unfolding left_by answer_by
set_after = after_by three_book middle_row (lit< tt) 30 (halt 11 1) tt three_keeps.1 three_keeps.0 (ap (λ a. a.number) on_row.halts)

halted_place : place_for halted_book 11 ≡ 30
halted_place =
    holder_place halted_book (sound_says halted_book halted_stands.sound) 11 (lit< tt) 30 (lit< tt)
    (ap (λ (book : List ℕ). word_at book 30 0) set_after ∙ written_word three_book 30 halted_row 0 (sound_long three_book last_stands.sound) (lit< tt) refl (lit< tt))

halted_closed : is_open halted_book 8 ≡ false
halted_closed =
    open_same halted_book three_book 8 (sound_says halted_book halted_stands.sound) (sound_says three_book last_stands.sound) (lit< tt)
    (touches_one_row.others three_book (halt 11 1) 8 (lit< tt) (λ e. omega arith))
    ∙ three_closed

-- A call of it on the book, and what an accepted one leaves.
by_row : (call : Call) → IsNoOpening call → named call ≡ 11 → (n : ℕ) → number_by halted_row call ≡ n → (answer halted_book call).number ≡ n
unfolding answer
by_row call none e n given =
    number_by_lem halted_book halted_row (lit< tt) call none (subst⁻¹ (λ (i : ℕ). Stands halted_book i halted_row) e halted_stands) ∙ given

left_by_lem : (call : Call) → IsNoOpening call → named call ≡ 11 → number_by halted_row call ≡ 0 → after halted_book call ≡ left_by halted_book 30 halted_row call
left_by_lem call none e =
    after_by halted_book halted_row (lit< tt) 30 call none (subst⁻¹ (λ (i : ℕ). Stands halted_book i halted_row) e halted_stands) (ap (place_for halted_book) e ∙ halted_place)

-- The halt's own refusals, and the first of a day and of a corridor of another instrument.
halt_range : (i value : ℕ) → is_in instruments i && is_in switches value ≡ false → (answer three_book (halt i value)).number ≡ 2
unfolding answer number_of
halt_range i value range = rw (last_stands.sound, range)

out_of_range_lem : (is_in instruments 11 && is_in switches 2 ≡ false) × (is_in instruments 11 && is_in switches 18446744073709551615 ≡ false) × (is_in instruments 0 && is_in switches 1 ≡ false) × (is_in instruments 1000000000 && is_in switches 1 ≡ false)
unfolding is_in
out_of_range_lem = (refl, refl, refl, refl)

halt_unknown : (answer three_book (halt 8 1)).number ≡ 5
unfolding answer number_of is_in
halt_unknown = rw (last_stands.sound, three_closed)

halt_unsound : (answer [] (halt 0 2)).number ≡ 1
unfolding computing
halt_unsound = refl

day_unknown : (answer halted_book (day (day_of 8 301 51000 2 1))).number ≡ 5
unfolding answer number_of
day_unknown = rw (halted_stands.sound, on_row.day_in_range_lem, halted_closed)

corridor_unknown : (answer halted_book (corridor 8 (terms_at 73 (pos 0) (pos 0) 50000 20000 1000))).number ≡ 5
unfolding answer number_of
corridor_unknown = rw (halted_stands.sound, on_row.corridor_in_range, halted_closed)

bond_unknown : (answer halted_book (bond 8 (terms_at 73 (pos 0) (pos 0) 50000 20000 1000) (bond_of 50000 0 0))).number ≡ 5
unfolding answer number_of
bond_unknown = rw (halted_stands.sound, on_row.bond_in_range_lem, halted_closed)

ended_again : (answer three_book (halt 11 0)).number ≡ 0
unfolding answer
ended_again = number_by_lem three_book middle_row (lit< tt) (halt 11 0) tt three_keeps.1 ∙ on_row.ended_again

opened_day : (answer (after empty_book (opening halted_row)) (day (day_of 11 301 51000 2 1))).number ≡ 12
opened_day =
    ap (λ a. a.number)
    (answer_by_lem (after empty_book (opening halted_row)) halted_row (lit< tt) (day (day_of 11 301 51000 2 1)) tt
    (opened_stands empty_book halted_row empty_sound (opened halted_row on_row.in_range.1 (lit< tt))) ∙ on_row.refuses_day)

pub halted_calls : HaltedCalls
unfolding left_by
halted_calls =
    record {
      halts = answer_by_lem three_book middle_row (lit< tt) (halt 11 1) tt three_keeps.1 ∙ on_row.halts;
      halts_after = set_after;
      halts_again = (by_row (halt 11 1) tt refl 0 on_row.halts_again, left_by_lem (halt 11 1) tt refl on_row.halts_again);
      ended = (by_row (halt 11 0) tt refl 0 on_row.ended, left_by_lem (halt 11 0) tt refl on_row.ended);
      ended_again = ended_again;
      two = halt_range 11 2 out_of_range_lem.0;
      greatest_word = halt_range 11 18446744073709551615 out_of_range_lem.1;
      unknown = halt_unknown;
      no_instrument = halt_range 0 1 out_of_range_lem.2;
      past_instruments = halt_range 1000000000 1 out_of_range_lem.3;
      unsound = halt_unsound;
      refuses_day = answer_by_lem halted_book halted_row (lit< tt) (day (day_of 11 301 51000 2 1)) tt halted_stands ∙ on_row.refuses_day;
      no_reasons = answer_by_lem halted_book halted_row (lit< tt) (why (day_of 11 301 51000 2 1)) tt halted_stands ∙ on_row.no_reasons;
      stale_day = by_row (day (day_of 11 300 51000 2 1)) tt refl 12 on_row.stale_day;
      far_day = by_row (day (day_of 11 301 200000 2 1)) tt refl 12 on_row.far_day;
      day_out_of_range = by_row (day (day_of 11 301 0 2 1)) tt refl 2 on_row.day_out_of_range;
      day_unknown = day_unknown;
      refuses_corridor = answer_by_lem halted_book halted_row (lit< tt) (corridor 11 (terms_at 73 (pos 0) (pos 0) 50000 20000 1000)) tt halted_stands ∙ on_row.refuses_corridor;
      empty_corridor = by_row (corridor 11 (terms_at 73 (pos 0) (pos 0) 50000 20000 1000000)) tt refl 12 on_row.empty_corridor;
      corridor_out_of_range = by_row (corridor 11 (terms_at 73 (pos 0) (pos 0) 50000 20000 0)) tt refl 2 on_row.corridor_out_of_range;
      corridor_unknown = corridor_unknown;
      no_bond = answer_by_lem halted_book halted_row (lit< tt) (bond 11 (terms_at 73 (pos 0) (pos 0) 50000 20000 1000) (bond_of 50000 0 0)) tt halted_stands ∙ on_row.no_bond;
      empty_bond = by_row (bond 11 (terms_at 73 (pos 0) (pos 0) 50000 20000 1000) (bond_of 50000 1000000 0)) tt refl 12 on_row.empty_bond;
      bond_out_of_range = by_row (bond 11 (terms_at 73 (pos 0) (pos 0) 50000 20000 1000) (bond_of 0 0 0)) tt refl 2 on_row.bond_out_of_range;
      bond_unknown = bond_unknown;
      parameters_given = (
        by_row (parameters 11 (parameters_of (distinct_row 0 1 0 0))) tt refl 0 on_row.parameters_given,
        left_by_lem (parameters 11 (parameters_of (distinct_row 0 1 0 0))) tt refl on_row.parameters_given ∙ ap (with_row halted_book 30) on_row.parameters_row_lem,
      );
      closed = (by_row (closing 11) tt refl 0 on_row.closed, left_by_lem (closing 11) tt refl on_row.closed);
      known = already_open halted_book middle_row halted_stands.sound on_row.in_range.0 (row_open halted_book 11 halted_row (lit< tt) halted_stands);
      opened = empty_opens halted_row on_row.in_range.1 (lit< tt);
      opened_day = opened_day;
      opened_two = refused (set halted_row Row.halted 2) on_row.in_range.2;
    }

-- Demand 3 over a halt: the rows, and the books before each call after the first.
abbrev low101 : List ℕ
low101 = sets low_row Row.variance (1 ∷ 10000 ∷ 10000 ∷ 20000 ∷ 5 ∷ 101 ∷ 100000 ∷ 100000 ∷ [])

abbrev low105 : List ℕ
low105 = sets low_row Row.variance (1 ∷ 10000 ∷ 10000 ∷ 20000 ∷ 5 ∷ 105 ∷ 100000 ∷ 100000 ∷ [])

abbrev halted_low : List ℕ
halted_low = sets low101 Row.halted (1 ∷ [])

abbrev other_row : List ℕ
other_row = sheet_row_of greatest_instrument 2000 100000 100000

abbrev other_day : Day
other_day = day_of greatest_instrument 102 103000 0 0

abbrev book₁ : List ℕ
book₁ = after low_book (day (still_day 101))

abbrev book₂ : List ℕ
book₂ = after book₁ (halt 7 1)

abbrev book₃ : List ℕ
book₃ = after book₂ (opening other_row)

abbrev book₄ : List ℕ
book₄ = after book₃ (day (still_day 102))

abbrev book₅ : List ℕ
book₅ = after book₄ (day other_day)

abbrev book₆ : List ℕ
book₆ = after book₅ (day (still_day 103))

abbrev book₇ : List ℕ
book₇ = after book₆ (halt 7 0)

abbrev book₈ : List ℕ
book₈ = after book₇ (day (still_day 105))

record OnLow : Type 0 where
  in_range : row_in_range low_row ≡ true
  first : (number_by low_row (day (still_day 101)) ≡ 0) × (day_row low_row (day_on low_row (still_day 101)) ≡ low101)
  halts : number_by low101 (halt 7 1) ≡ 0
  refused_first : number_by halted_low (day (still_day 102)) ≡ 12
  refused_next : number_by halted_low (day (still_day 103)) ≡ 12
  ends : number_by halted_low (halt 7 0) ≡ 0
  last : (number_by low101 (day (still_day 105)) ≡ 0) × (day_row low101 (day_on low101 (still_day 105)) ≡ low105)
  moves : ((move_on low_row (still_day 101)).size ≡ 0) × ((move_on low101 (still_day 105)).size ≡ 0)
  parameters : (parameters_of low101 ≡ parameters_of low_row) × (parameters_of halted_low ≡ parameters_of low_row) × (parameters_of low105 ≡ parameters_of low_row)
  exact : exact_after low_row (0 ∷ 0 ∷ []) ≡ 90250000

on_low : OnLow
unfolding computing number_by
on_low =
    record {
      in_range = refl;
      first = (refl, refl);
      halts = refl;
      refused_first = refl;
      refused_next = refl;
      ends = refl;
      last = (refl, refl);
      moves = (refl, refl);
      parameters = (refl, refl, refl);
      exact = refl;
    }

low₀ : Stands low_book 7 low_row
low₀ = opened_stands empty_book low_row empty_sound (opened low_row on_low.in_range (lit< tt))

low₁ : Stands book₁ 7 low101
low₁ = day_stands low_book low_row (lit< tt) (still_day 101) low101 low₀ on_low.first

low₂ : Stands book₂ 7 halted_low
low₂ = halt_stands book₁ low101 (lit< tt) 7 1 low₁ on_low.halts

low₃ : Stands book₃ 7 halted_low
low₃ = other_stands book₂ halted_low 7 (opening other_row) (lit< tt) (λ e. omega arith) low₂

low₄ : Stands book₄ 7 halted_low
low₄ = refused_stands book₃ halted_low (lit< tt) (day (still_day 102)) tt low₃ (λ e. omega (arith, on_low.refused_first))

low₅ : Stands book₅ 7 halted_low
low₅ = other_stands book₄ halted_low 7 (day other_day) (lit< tt) (λ e. omega arith) low₄

low₆ : Stands book₆ 7 halted_low
low₆ = refused_stands book₅ halted_low (lit< tt) (day (still_day 103)) tt low₅ (λ e. omega (arith, on_low.refused_next))

low₇ : Stands book₇ 7 low101
low₇ = halt_stands book₆ halted_low (lit< tt) 7 0 low₆ on_low.ends

low₈ : Stands book₈ 7 low105
low₈ = day_stands book₇ low101 (lit< tt) (still_day 105) low105 low₇ on_low.last

low_stays : StaysOpenWith 7 (parameters_of low_row) low_book gap_calls
low_stays = (
  open_with book₁ 7 _ (lit< tt) on_low.parameters.0 low₁,
  (
    open_with book₂ 7 _ (lit< tt) on_low.parameters.1 low₂,
    (
      open_with book₃ 7 _ (lit< tt) on_low.parameters.1 low₃,
      (
        open_with book₄ 7 _ (lit< tt) on_low.parameters.1 low₄,
        (
          open_with book₅ 7 _ (lit< tt) on_low.parameters.1 low₅,
          (
            open_with book₆ 7 _ (lit< tt) on_low.parameters.1 low₆,
            (
              open_with book₇ 7 _ (lit< tt) on_low.parameters.0 low₇,
              (open_with book₈ 7 _ (lit< tt) on_low.parameters.2 low₈, tt),
            ),
          ),
        ),
      ),
    ),
  ),
)

low_moves : moves_after 7 low_book gap_calls [] ≡ 0 ∷ 0 ∷ []
low_moves =
    ap (λ (moves : List ℕ). moves_with 7 book₇ (day (still_day 105)) (moves_with 7 book₅ (day (still_day 103)) (moves_with 7 book₃ (day (still_day 102)) moves)))
    (one_move low_book low_row (still_day 101) [] (lit< tt) low₀ 0 on_low.first.0 on_low.moves.0)
    ∙ ap (λ (moves : List ℕ). moves_with 7 book₇ (day (still_day 105)) (moves_with 7 book₅ (day (still_day 103)) moves))
    (no_move book₃ halted_low (still_day 102) (0 ∷ []) (lit< tt) low₃ (λ e. omega (arith, on_low.refused_first)))
    ∙ ap (moves_with 7 book₇ (day (still_day 105))) (no_move book₅ halted_low (still_day 103) (0 ∷ []) (lit< tt) low₅ (λ e. omega (arith, on_low.refused_next)))
    ∙ one_move book₇ low101 (still_day 105) (0 ∷ []) (lit< tt) low₇ 0 on_low.last.0 on_low.moves.1

pub gap_drift : GapDrift
gap_drift =
    record {
      history =
          record {
            instrument = record { not_below = lit≤ tt; not_above = lit≤ tt };
            sound = low₀.sound;
            open_here = row_open low_book 7 low_row (lit< tt) low₀;
            stays = subst⁻¹ (λ (ps : List ℕ). StaysOpenWith 7 ps low_book gap_calls) (ap parameters_of low₀.is_row) low_stays;
          };
      row = low₈.is_row ∙ sym (day_stands book₁ low101 (lit< tt) (still_day 105) low105 low₁ on_low.last).is_row;
      moves = low_moves;
      kept = ap (λ (row : List ℕ). word row Row.variance) low₈.is_row;
      exact = ap (λ (row : List ℕ). exact_after row (0 ∷ 0 ∷ [])) low₀.is_row ∙ on_low.exact;
      above = rw (low₀.is_row, low₈.is_row, on_low.exact) (lit< tt);
      near = rw (low₀.is_row, low₈.is_row, on_low.exact) (record { not_below = lit≤ tt; near = lit< tt });
    }
