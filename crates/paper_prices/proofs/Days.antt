-- Runs that keep their days: that they are the runs of demand 3, and that an instrument's days are one, over calls and through nights. What adds no move leaves its row but for its halt, by the run of demand 3 that one such call is; an accepted day of its own is one day more. Assumes nothing.
use mathlib.Core.Path.{◌≡◌, refl, sym, ap, ap₂, subst, subst⁻¹, subst₂, ◌∙◌}
use mathlib.Core.Bool.{Bool, true, false, cond, not, ◌&&◌}
use mathlib.Core.List.{List, [], ◌∷◌, ◌++◌}
use Prim.Native.Nat.{ℕ, ◌<◌}
use native.Mathlib.Omega.{arith}
use borrow.Author.Tests.{eqb-true, eqb-false}
use lib.Dec.{eqb, lit≤}
use Rattle.paper.specs.Refusal.{Refusal}
use Rattle.paper.specs.Row.{parameters_of, row_in_range, is_halted}
use Rattle.paper.specs.Rates.{Day, Figures, accepted, day_in_range, move_on, day_on}
use Rattle.paper.specs.Book.{row_for, is_open, is_sound}
use Rattle.paper.specs.Calls.{Call, opening, closing, parameters, halt, day, why, corridor, bond, unless, number_of, answer, after, after_all}
use Rattle.paper.specs.Values.{Values, words}
use Rattle.paper.specs.Promises.Ranges.{IsFrom, AreValues, IsRow}
use Rattle.paper.specs.Promises.Calls.{with_halt}
use Rattle.paper.specs.Promises.Drift.{Run, begun, another}
use Rattle.paper.specs.Promises.AnyCalls.{moves_with, moves_after, IsOpenWith, StaysOpenWith, IsHistory}
use Rattle.paper_sheets.specs.Promises.Evening.{next_morning, after_nights, moves_over, StaysThrough, IsThroughNights, row_through, without_nights}
use Rattle.paper_prices.specs.Days.{RunDay, met, moves_of, RunOver, no_days, a_day, days_with, days_after, days_over, days_through}
use Rattle.paper_prices.specs.Promises.Days.{RunsAreTheSame, MovesAreTheSame, NightsKeepDays}
use Rattle.paper.proofs.Ranges.{values_pass}
use Rattle.paper.proofs.Taken.{day_means}
use Rattle.paper.proofs.Sound.{sound_says}
use Rattle.paper.proofs.Accepted.{number_some}
use Rattle.paper.proofs.Writes.{halt_in_range, sound_stays}
use Rattle.paper.proofs.Calls.{call_leaves, open_same}
use Rattle.paper.proofs.AnyCalls.{going, list_run, sound_after, open_after, open_row}
use Rattle.paper_sheets.proofs.Unseen.{AreSame, same_call, stay_same, night_same}

-- The runs are the same.
pub run_of : {start row : List ℕ} {days : List RunDay} → RunOver start row days → Run start row (moves_of days)
run_of no_days = begun
run_of (a_day {f = f} d run e) = another {f = f} d (run_of run) e

days_of : {start row moves : List ℕ} → Run start row moves → (days : List RunDay) × RunOver start row days × (moves_of days ≡ moves)
days_of begun = ([], no_days, refl)
days_of (another {row = row} {f = f} d run e) =
    let before = days_of run in
    (met row d ∷ before.0, a_day {f = f} d before.1 e, ap (λ (moves : List ℕ). (move_on row d).size ∷ moves) before.2)

pub runs_are_the_same : RunsAreTheSame
runs_are_the_same = record { is_run = λ start row days run. run_of run; has_days = λ start row moves run. days_of run }

-- The moves of the days are the moves.
module _ (i : ℕ) where
  moves_of_call : (book : List ℕ) (call : Call) (days : List RunDay) → moves_of (days_with i book call days) ≡ moves_with i book call (moves_of days)
  moves_of_call book (opening row) days = refl
  moves_of_call book (closing k) days = refl
  moves_of_call book (parameters k ps) days = refl
  moves_of_call book (halt k value) days = refl
  moves_of_call book (day d) days = go (eqb d.instrument i && eqb (answer book (day d)).number 0)
    where
      go : (t : Bool) → moves_of (cond t (met (row_for book i) d ∷ days) days) ≡ cond t ((move_on (row_for book i) d).size ∷ moves_of days) (moves_of days)
      go true = refl
      go false = refl
  moves_of_call book (why d) days = refl
  moves_of_call book (corridor k t) days = refl
  moves_of_call book (bond k t b) days = refl

  moves_of_calls : (book : List ℕ) (calls : List Call) (days : List RunDay) → moves_of (days_after i book calls days) ≡ moves_after i book calls (moves_of days)
  moves_of_calls book [] days = refl
  moves_of_calls book (call ∷ calls) days =
      moves_of_calls (after book call) calls (days_with i book call days) ∙ ap (moves_after i (after book call) calls) (moves_of_call book call days)

  moves_of_nights : (book : List ℕ) (past : List (List Call)) (days : List RunDay) → moves_of (days_over i book past days) ≡ moves_over i book past (moves_of days)
  moves_of_nights book [] days = refl
  moves_of_nights book (calls ∷ past) days =
      moves_of_nights (next_morning (after_all book calls)) past (days_after i book calls days)
      ∙ ap (moves_over i (next_morning (after_all book calls)) past) (moves_of_calls book calls days)

pub moves_are_the_same : MovesAreTheSame
moves_are_the_same =
    record {
      over_calls = moves_of_calls;
      through_nights = λ i book past calls.
          moves_of_calls i (after_nights book past) calls (days_over i book past [])
          ∙ ap (moves_after i (after_nights book past) calls) (moves_of_nights i book past []);
    }

-- An accepted day's instrument is not halted.
not_halted : (book : List ℕ) (d : Day) → number_of book (day d) ≡ 0 → is_halted (row_for book d.instrument) ≡ false
unfolding number_of
not_halted book d e = go (is_sound book) (day_in_range d) (is_open book d.instrument) (is_halted (row_for book d.instrument)) _ e
  where
    go : (sound range opened halted : Bool) (next : ℕ)
        → unless sound Refusal.Book (unless range Refusal.Range (unless opened Refusal.Unknown (unless (not halted) Refusal.Halted next))) ≡ 0
        → halted ≡ false
    go true true true true next e = absurd (number_some Refusal.Halted e)
    go true true true false next e = refl
    go true true false halted next e = absurd (number_some Refusal.Unknown e)
    go true false opened halted next e = absurd (number_some Refusal.Range e)
    go false range opened halted next e = absurd (number_some Refusal.Book e)

-- A row that is not halted is as it is then; no rule reads whether it is; and in range it stays in range.
still_going : (v : Values) → AreValues v → is_halted (words v) ≡ false → going (words v) ≡ words v
unfolding is_halted
still_going v r e =
    let none : ¬ (v.halted ≡ 1) = eqb-false v.halted 1 e in
    let zero : v.halted ≡ 0 = omega (arith, r.halted) in
    ap (λ (value : ℕ). words (with_halt v value)) (sym zero)

pub going_day : (v : Values) (d : Day) (f : Figures) (next : List ℕ) → day_on (words v) d ≡ accepted f next → day_on (going (words v)) d ≡ accepted f (going next)
unfolding move_on
going_day v d f next e =
    let t = (day_means.taken v d f next).0 e in
    let g = t.figures in
    (day_means.taken (with_halt v 0) d f (going next)).1
    (record {
      later = t.later;
      small = t.small;
      figures = record { variance = g.variance; preliminary = g.preliminary; days = g.days; margin = g.margin; concentration = g.concentration };
      from = t.from;
      leaves = ap going t.leaves;
    })

no_halt : IsFrom 0 1 0
no_halt = record { not_below = lit≤ tt; not_above = lit≤ tt }

pub going_in_range : (v : Values) → AreValues v → row_in_range (going (words v)) ≡ true
going_in_range v r = values_pass (with_halt v 0) (halt_in_range v 0 r no_halt)

-- A run with no move has come to its start.
no_moves : {start row : List ℕ} → Run start row [] → row ≡ start
no_moves begun = refl

-- One call: the instrument's row goes on by the day that it took, or is as it was but for its halt.
module _ (i : ℕ) (positive : 0 < i) (start ps book : List ℕ) (days : List RunDay) (sound : is_sound book ≡ true) (here : IsOpenWith i ps book) (run : RunOver start (going (row_for book i)) days) where
  same_run : (call : Call) → IsOpenWith i ps (after book call) → moves_with i book call [] ≡ [] → RunOver start (going (row_for (after book call) i)) days
  same_run call stays none =
      let one : Run (going (row_for book i)) (going (row_for (after book call) i)) (moves_with i book call [])
      = list_run i positive (going (row_for book i)) ps (call ∷ []) book [] sound here begun (stays, tt) in
      subst⁻¹ (λ (row : List ℕ). RunOver start row days) (no_moves (subst (Run (going (row_for book i)) (going (row_for (after book call) i))) none one)) run

  own_day : (d : Day) → d.instrument ≡ i → (answer book (day d)).number ≡ 0 → RunOver start (going (row_for (after book (day d)) i)) (met (row_for book i) d ∷ days)
  unfolding answer
  own_day d e taken =
      let left = call_leaves book (day d) taken in
      let row = open_row i book positive sound here.open_here in
      let v = row.values in
      let on : day_on (words v) d ≡ accepted left.0 left.1
      = ap (λ (row : List ℕ). day_on row d) (sym row.in_order) ∙ ap (λ (i : ℕ). day_on (row_for book i) d) (sym e) ∙ left.2 in
      let goes : is_halted (words v) ≡ false = ap is_halted (sym row.in_order ∙ ap (row_for book) (sym e)) ∙ not_halted book d taken in
      let same : going (words v) ≡ row_for book i = still_going v row.in_range goes ∙ sym row.in_order in
      let more : RunOver start (going left.1) (met (going (words v)) d ∷ days)
      = a_day {f = left.0} d (subst (λ (row : List ℕ). RunOver start (going row) days) row.in_order run) (going_day v d left.0 left.1 on) in
      subst₂ (λ (next row : List ℕ). RunOver start (going next) (met row d ∷ days)) (sym (ap (row_for (after book (day d))) (sym e) ∙ left.3)) same more

  call_run : (call : Call) → IsOpenWith i ps (after book call) → RunOver start (going (row_for (after book call) i)) (days_with i book call days)
  call_run (opening row) stays = same_run (opening row) stays refl
  call_run (closing k) stays = same_run (closing k) stays refl
  call_run (parameters k ps) stays = same_run (parameters k ps) stays refl
  call_run (halt k value) stays = same_run (halt k value) stays refl
  call_run (day d) stays = go (eqb d.instrument i) (eqb (answer book (day d)).number 0) refl refl
    where
      go : (own taken : Bool) → eqb d.instrument i ≡ own → eqb (answer book (day d)).number 0 ≡ taken
          → RunOver start (going (row_for (after book (day d)) i)) (cond (own && taken) (met (row_for book i) d ∷ days) days)
      go true true p q = own_day d (eqb-true d.instrument i p) (eqb-true _ 0 q)
      go true false p q = same_run (day d) stays (ap₂ (λ (own taken : Bool). cond (own && taken) ((move_on (row_for book i) d).size ∷ []) []) p q)
      go false taken p q =
          same_run (day d) stays (ap (λ (own : Bool). cond (own && eqb (answer book (day d)).number 0) ((move_on (row_for book i) d).size ∷ []) []) p)
  call_run (why d) stays = same_run (why d) stays refl
  call_run (corridor k t) stays = same_run (corridor k t) stays refl
  call_run (bond k t b) stays = same_run (bond k t b) stays refl

-- A list of calls.
module _ (i : ℕ) (positive : 0 < i) (start ps : List ℕ) where
  calls_run : (calls : List Call) (book : List ℕ) (days : List RunDay) → is_sound book ≡ true → IsOpenWith i ps book → RunOver start (going (row_for book i)) days → StaysOpenWith i ps book calls → RunOver start (going (row_for (after_all book calls) i)) (days_after i book calls days)
  calls_run [] book days sound here run stays = run
  calls_run (call ∷ calls) book days sound here run stays =
      calls_run calls (after book call) (days_with i book call days) (sound_stays book call sound) stays.0
      (call_run i positive start ps book days sound here run call stays.0) stays.1

module _ (i : ℕ) (book : List ℕ) (calls : List Call) (h : IsHistory i book calls) where
  pub start_row : IsRow (row_for book i)
  start_row = open_row i book h.instrument.not_below h.sound h.open_here

  pub history_run : RunOver (going (row_for book i)) (going (row_for (after_all book calls) i)) (days_after i book calls [])
  history_run =
      calls_run i h.instrument.not_below (going (row_for book i)) (parameters_of (row_for book i)) calls book [] h.sound
      (record { open_here = h.open_here; parameters = refl }) no_days h.stays

  end_open : IsOpenWith i (parameters_of (row_for book i)) (after_all book calls)
  end_open = open_after i (parameters_of (row_for book i)) book calls (record { open_here = h.open_here; parameters = refl }) h.stays

  pub end_row : IsRow (row_for (after_all book calls) i)
  end_row = open_row i (after_all book calls) h.instrument.not_below (sound_after book calls h.sound) end_open.open_here

-- A run of the row that an instrument has in a sound book, open with these parameters.
record IsRunOver (i : ℕ) (start ps book : List ℕ) (days : List RunDay) : Type 0 where
  sound : is_sound book ≡ true
  opened : IsOpenWith i ps book
  run : RunOver start (going (row_for book i)) days

-- A day's calls carry it on, a night leaves it, and so it goes through days each with its night.
module _ (i : ℕ) (positive : 0 < i) (start ps : List ℕ) where
  day_run : (book : List ℕ) (days : List RunDay) (calls : List Call) → StaysOpenWith i ps book calls → IsRunOver i start ps book days → IsRunOver i start ps (after_all book calls) (days_after i book calls days)
  day_run book days calls stays r =
      record {
        sound = sound_after book calls r.sound;
        opened = open_after i ps book calls r.opened stays;
        run = calls_run i positive start ps calls book days r.sound r.opened r.run stays;
      }

  night_run : (book : List ℕ) (days : List RunDay) → IsRunOver i start ps book days → IsRunOver i start ps (next_morning book) days
  night_run book days r =
      let same = night_same book r.sound in
      let keep = same.keep i positive in
      record {
        sound = same.sound;
        opened =
            record {
              open_here = open_same (next_morning book) book i (sound_says (next_morning book) same.sound) (sound_says book r.sound) positive keep ∙ r.opened.open_here;
              parameters = ap parameters_of keep ∙ r.opened.parameters;
            };
        run = subst⁻¹ (λ (row : List ℕ). RunOver start (going row) days) keep r.run;
      }

  past_run : (past : List (List Call)) (book : List ℕ) (days : List RunDay) → StaysThrough i ps book past → IsRunOver i start ps book days → IsRunOver i start ps (after_nights book past) (days_over i book past days)
  past_run [] book days stays r = r
  past_run (calls ∷ past) book days stays r =
      past_run past (next_morning (after_all book calls)) (days_after i book calls days) stays.1
      (night_run (after_all book calls) (days_after i book calls days) (day_run book days calls stays.0 r))

module _ (i : ℕ) (book : List ℕ) (past : List (List Call)) (calls : List Call) (h : IsThroughNights i book past calls) where
  through : IsRunOver i (going (row_for book i)) (parameters_of (row_for book i)) (after_all (after_nights book past) calls) (days_through i book past calls)
  through =
      day_run i h.instrument.not_below (going (row_for book i)) (parameters_of (row_for book i)) (after_nights book past) (days_over i book past []) calls h.today
      (past_run i h.instrument.not_below (going (row_for book i)) (parameters_of (row_for book i)) past book [] h.past
      (record { sound = h.sound; opened = record { open_here = h.open_here; parameters = refl }; run = no_days }))

  pub nights_run : RunOver (going (row_for book i)) (going (row_through i book past calls)) (days_through i book past calls)
  nights_run = through.run

  pub first_row : IsRow (row_for book i)
  first_row = open_row i book h.instrument.not_below h.sound h.open_here

  pub last_row : IsRow (row_through i book past calls)
  last_row = open_row i (after_all (after_nights book past) calls) h.instrument.not_below through.sound through.opened.open_here

-- Nights put into a history: on two books that keep the same rows an instrument's days are the same.
days_next : (i : ℕ) (book : List ℕ) (calls next : List Call) (days : List RunDay) → days_after i book (calls ++ next) days ≡ days_after i (after_all book calls) next (days_after i book calls days)
days_next i book [] next days = refl
days_next i book (call ∷ calls) next days = days_next i (after book call) calls next (days_with i book call days)

module _ (i : ℕ) (positive : 0 < i) where
  same_day : (call : Call) (book other : List ℕ) (days : List RunDay) → AreSame book other → days_with i book call days ≡ days_with i other call days
  same_day (opening row) book other days s = refl
  same_day (closing k) book other days s = refl
  same_day (parameters k ps) book other days s = refl
  same_day (halt k value) book other days s = refl
  same_day (day d) book other days s =
      ap₂ (λ (n : ℕ) (row : List ℕ). cond (eqb d.instrument i && eqb n 0) (met row d ∷ days) days) (ap (λ a. a.number) (same_call book other s (day d)).0) (s.keep i positive)
  same_day (why d) book other days s = refl
  same_day (corridor k t) book other days s = refl
  same_day (bond k t b) book other days s = refl

  same_days : (calls : List Call) (book other : List ℕ) (days : List RunDay) → AreSame book other → days_after i book calls days ≡ days_after i other calls days
  same_days [] book other days s = refl
  same_days (call ∷ calls) book other days s =
      same_days calls (after book call) (after other call) _ (stay_same book other s call)
      ∙ ap (days_after i (after other call) calls) (same_day call book other days s)

  without : (past : List (List Call)) (calls : List Call) (book : List ℕ) (days : List RunDay) → is_sound book ≡ true → days_after i (after_nights book past) calls (days_over i book past days) ≡ days_after i book (without_nights past calls) days
  without [] calls book days sound = refl
  without (before ∷ past) calls book days sound =
      let end = after_all book before in
      let next = without_nights past calls in
      let same = night_same end (sound_after book before sound) in
      let now = days_after i book before days in
      without past calls (next_morning end) now same.sound ∙ same_days next (next_morning end) end now same ∙ sym (days_next i book before next days)

pub nights_keep_days : NightsKeepDays
nights_keep_days i book past calls h = without i h.instrument.not_below past calls book [] h.sound
