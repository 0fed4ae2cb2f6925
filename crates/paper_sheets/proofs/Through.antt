-- Demand 3 through nights: a day's calls carry the run of the row on and a night leaves it, so it goes on through any number of days; and nights may stand anywhere in a history. Assumes nothing.
use mathlib.Core.Path.{◌≡◌, refl, sym, ap, ap₂, subst⁻¹, ◌∙◌}
use mathlib.Core.Bool.{true, cond, ◌&&◌}
use mathlib.Core.List.{List, [], ◌∷◌, ◌++◌}
use Prim.Native.Nat.{ℕ, ◌<◌}
use lib.Dec.{eqb}
use Rattle.paper.specs.Row.{parameters_of}
use Rattle.paper.specs.Rates.{move_on}
use Rattle.paper.specs.Book.{row_for, is_sound}
use Rattle.paper.specs.Calls.{Call, opening, closing, parameters, halt, day, why, corridor, bond, after, after_all}
use Rattle.paper.specs.Promises.Ranges.{IsRow}
use Rattle.paper.specs.Promises.Drift.{Run, begun}
use Rattle.paper.specs.Promises.AnyCalls.{moves_with, moves_after, IsOpenWith, StaysOpenWith}
use Rattle.paper_sheets.specs.Promises.Evening.{next_morning, after_nights, moves_over, StaysThrough, IsThroughNights, moves_through, row_through, VarianceOverNights, CandidateOverNights, without_nights, NightsAreNoBreak}
use Rattle.paper.proofs.Sound.{sound_says}
use Rattle.paper.proofs.Calls.{open_same}
use Rattle.paper.proofs.AnyCalls.{going, list_run, sound_after, open_after, open_row, run_near, run_covered}
use Rattle.paper_sheets.proofs.Unseen.{AreSame, same_call, stay_same, night_same}

-- Calls that leave an instrument open, cut in two.
stays_first : (i : ℕ) (ps book : List ℕ) (calls next : List Call) → StaysOpenWith i ps book (calls ++ next) → StaysOpenWith i ps book calls
stays_first i ps book [] next stays = tt
stays_first i ps book (call ∷ calls) next stays = (stays.0, stays_first i ps (after book call) calls next stays.1)

stays_next : (i : ℕ) (ps book : List ℕ) (calls next : List Call) → StaysOpenWith i ps book (calls ++ next) → StaysOpenWith i ps (after_all book calls) next
stays_next i ps book [] next stays = stays
stays_next i ps book (call ∷ calls) next stays = stays_next i ps (after book call) calls next stays.1

moves_next : (i : ℕ) (book : List ℕ) (calls next : List Call) (moves : List ℕ) → moves_after i book (calls ++ next) moves ≡ moves_after i (after_all book calls) next (moves_after i book calls moves)
moves_next i book [] next moves = refl
moves_next i book (call ∷ calls) next moves = moves_next i (after book call) calls next (moves_with i book call moves)

-- A run of the row that an instrument has in a sound book, open with these parameters.
record IsRun (i : ℕ) (start ps book moves : List ℕ) : Type 0 where
  sound : is_sound book ≡ true
  opened : IsOpenWith i ps book
  run : Run start (going (row_for book i)) moves

-- On two books that keep the same rows they leave it open alike, and its days have the same moves.
module _ (i : ℕ) (positive : 0 < i) where
  open_too : (ps book other : List ℕ) → AreSame book other → IsOpenWith i ps other → IsOpenWith i ps book
  open_too ps book other s o =
      record {
        open_here = open_same book other i (sound_says book s.sound) (sound_says other s.sound') positive (s.keep i positive) ∙ o.open_here;
        parameters = ap parameters_of (s.keep i positive) ∙ o.parameters;
      }

  stays_too : (ps : List ℕ) (calls : List Call) (book other : List ℕ) → AreSame book other → StaysOpenWith i ps other calls → StaysOpenWith i ps book calls
  stays_too ps [] book other s stays = tt
  stays_too ps (call ∷ calls) book other s stays =
      let t = stay_same book other s call in
      (open_too ps (after book call) (after other call) t stays.0, stays_too ps calls (after book call) (after other call) t stays.1)

  one_move : (call : Call) (book other moves : List ℕ) → AreSame book other → moves_with i book call moves ≡ moves_with i other call moves
  one_move (opening row) book other moves s = refl
  one_move (closing k) book other moves s = refl
  one_move (parameters k ps) book other moves s = refl
  one_move (halt k value) book other moves s = refl
  one_move (day d) book other moves s =
      ap₂ (λ (n : ℕ) (row : List ℕ). cond (eqb d.instrument i && eqb n 0) ((move_on row d).size ∷ moves) moves) (ap (λ a. a.number) (same_call book other s (day d)).0) (s.keep i positive)
  one_move (why d) book other moves s = refl
  one_move (corridor k t) book other moves s = refl
  one_move (bond k t b) book other moves s = refl

  same_moves : (calls : List Call) (book other moves : List ℕ) → AreSame book other → moves_after i book calls moves ≡ moves_after i other calls moves
  same_moves [] book other moves s = refl
  same_moves (call ∷ calls) book other moves s =
      same_moves calls (after book call) (after other call) _ (stay_same book other s call)
      ∙ ap (moves_after i (after other call) calls) (one_move call book other moves s)

  -- A day's calls carry the run on, a night leaves it, and so it goes through days each with its night.
  calls_run : (start ps book moves : List ℕ) (calls : List Call) → StaysOpenWith i ps book calls → IsRun i start ps book moves → IsRun i start ps (after_all book calls) (moves_after i book calls moves)
  calls_run start ps book moves calls stays r =
      record {
        sound = sound_after book calls r.sound;
        opened = open_after i ps book calls r.opened stays;
        run = list_run i positive start ps calls book moves r.sound r.opened r.run stays;
      }

  night_run : (start ps book moves : List ℕ) → IsRun i start ps book moves → IsRun i start ps (next_morning book) moves
  night_run start ps book moves r =
      let same = night_same book r.sound in
      record {
        sound = same.sound;
        opened = open_too ps (next_morning book) book same r.opened;
        run = subst⁻¹ (λ (row : List ℕ). Run start (going row) moves) (same.keep i positive) r.run;
      }

  days_run : (start ps : List ℕ) (days : List (List Call)) (book moves : List ℕ) → StaysThrough i ps book days → IsRun i start ps book moves → IsRun i start ps (after_nights book days) (moves_over i book days moves)
  days_run start ps [] book moves stays r = r
  days_run start ps (calls ∷ days) book moves stays r =
      days_run start ps days (next_morning (after_all book calls)) (moves_after i book calls moves) stays.1
      (night_run start ps (after_all book calls) (moves_after i book calls moves) (calls_run start ps book moves calls stays.0 r))

  -- Nights put into a list of calls: each day's calls leave it open on the book after the night as they did on the evening's.
  stays_through : (ps : List ℕ) (days : List (List Call)) (calls : List Call) (book : List ℕ) → is_sound book ≡ true → StaysOpenWith i ps book (without_nights days calls) → StaysThrough i ps book days × StaysOpenWith i ps (after_nights book days) calls
  stays_through ps [] calls book sound stays = (tt, stays)
  stays_through ps (before ∷ days) calls book sound stays =
      let end = after_all book before in
      let next = without_nights days calls in
      let same = night_same end (sound_after book before sound) in
      let rest = stays_through ps days calls (next_morning end) same.sound (stays_too ps next (next_morning end) end same (stays_next i ps book before next stays)) in
      ((stays_first i ps book before next stays, rest.0), rest.1)

  moves_through_lem : (days : List (List Call)) (calls : List Call) (book moves : List ℕ) → is_sound book ≡ true → moves_after i (after_nights book days) calls (moves_over i book days moves) ≡ moves_after i book (without_nights days calls) moves
  moves_through_lem [] calls book moves sound = refl
  moves_through_lem (before ∷ days) calls book moves sound =
      let end = after_all book before in
      let next = without_nights days calls in
      let same = night_same end (sound_after book before sound) in
      let met = moves_after i book before moves in
      moves_through_lem days calls (next_morning end) met same.sound ∙ same_moves next (next_morning end) end met same ∙ sym (moves_next i book before next moves)

module _ (i : ℕ) (book : List ℕ) (days : List (List Call)) (calls : List Call) (h : IsThroughNights i book days calls) where
  abbrev ps : List ℕ
  ps = parameters_of (row_for book i)

  positive : 0 < i
  positive = h.instrument.not_below

  through : IsRun i (going (row_for book i)) ps (after_all (after_nights book days) calls) (moves_through i book days calls)
  through =
      calls_run i positive (going (row_for book i)) ps (after_nights book days) (moves_over i book days []) calls h.today
      (days_run i positive (going (row_for book i)) ps days book [] h.past
      (record { sound = h.sound; opened = record { open_here = h.open_here; parameters = refl }; run = begun }))

  start_row : IsRow (row_for book i)
  start_row = open_row i book positive h.sound h.open_here

  end_row : IsRow (row_through i book days calls)
  end_row = open_row i (after_all (after_nights book days) calls) positive through.sound through.opened.open_here

pub variance_over_nights : VarianceOverNights
variance_over_nights i book days calls h = run_near _ _ _ (start_row i book days calls h) (end_row i book days calls h) (through i book days calls h).run

pub candidate_over_nights : CandidateOverNights
candidate_over_nights i book days calls d f next h e =
    run_covered _ _ _ (start_row i book days calls h) (end_row i book days calls h) (through i book days calls h).run d f next e

pub nights_are_no_break : NightsAreNoBreak
nights_are_no_break i book days calls h =
    let positive = h.instrument.not_below in
    let stays = stays_through i positive (parameters_of (row_for book i)) days calls book h.sound h.stays in (
      record { instrument = h.instrument; sound = h.sound; open_here = h.open_here; past = stays.0; today = stays.1 },
      moves_through_lem i positive days calls book [] h.sound,
    )
