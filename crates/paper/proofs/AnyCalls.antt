-- Demand 3 over calls: a list of calls that leaves an instrument open with its parameters is a run of its row but for the word that says whether it is halted, each of its accepted days one day more and every other call none. Assumes nothing.
use mathlib.Core.Path.{◌≡◌, refl, sym, ap, subst, subst₂, ◌∙◌}
use mathlib.Core.Bool.{Bool, true, false, cond, ◌&&◌}
use mathlib.Core.List.{List, [], ◌∷◌}
use mathlib.Core.Logic.{◌⊎◌, inl, inr}
use Prim.Native.Nat.{ℕ, ◌<◌}
use native.Mathlib.Decide.{ℕ_discrete}
use borrow.Author.Tests.{eq-eqb, ne_eqb}
use lib.Dec.{eqb, lit≤}
use lib.ListN.{length}
use lib.Seq.{sets}
use Rattle.paper.specs.Row as Row
use Rattle.paper.specs.Row.{word, parameters_of}
use Rattle.paper.specs.Rates.{Day, Figures, accepted, state_of, move_on, day_on}
use Rattle.paper.specs.Book.{row_for, is_open, is_sound}
use Rattle.paper.specs.Calls.{Call, opening, closing, parameters, halt, day, why, corridor, bond, number_of, answer, after, after_all}
use Rattle.paper.specs.Exact.{denominator}
use Rattle.paper.specs.Values.{parameter_words, Values, words}
use Rattle.paper.specs.Promises.Ranges.{IsFrom, AreValues, IsRow}
use Rattle.paper.specs.Promises.Book.{IsOpen}
use Rattle.paper.specs.Promises.Calls.{with_parameters, with_halt, named}
use Rattle.paper.specs.Promises.Drift.{Run, begun, another, smaller_weight, exact_after, IsNear, candidate_of, exact_candidate_of, IsCovered}
use Rattle.paper.specs.Promises.AnyCalls.{moves_with, moves_after, IsOpenWith, StaysOpenWith, IsHistory, VarianceOverCalls, CandidateOverCalls}
use Rattle.paper.proofs.Tests.{and_both, and_fails}
use Rattle.paper.proofs.Ranges.{values_pass}
use Rattle.paper.proofs.Taken.{day_means}
use Rattle.paper.proofs.Drift.{variance_drift, candidate_drift}
use Rattle.paper.proofs.Book.{open_says}
use Rattle.paper.proofs.Sound.{sound_says}
use Rattle.paper.proofs.Rows.{row_of_open}
use Rattle.paper.proofs.Accepted.{after_refused, accept_opening}
use Rattle.paper.proofs.Writes.{halt_in_range, sound_stays, touches_one_row}
use Rattle.paper.proofs.Calls.{call_leaves}
use Rattle.paper.proofs.Standing.{why_leaves, corridor_leaves, bond_leaves}

-- A row as it is when it is not halted. No rule reads whether it is, so a day does the same to both.
abbrev pub going : List ℕ → List ℕ
going row = sets row Row.halted (0 ∷ [])

no_halt : IsFrom 0 1 0
no_halt = record { not_below = lit≤ tt; not_above = lit≤ tt }

going_day : (v : Values) (d : Day) (f : Figures) (next : List ℕ) → day_on (words v) d ≡ accepted f next → day_on (going (words v)) d ≡ accepted f (going next)
unfolding move_on
going_day v d f next e =
    let t = (day_means.taken v d f next).0 e in
    let g = t.figures in
    (day_means.taken (with_halt v 0) d f (going next)).1
    (record {
      later = t.later;
      small = t.small;
      figures = record { variance = g.variance; preliminary = g.preliminary; days = g.days; margin = g.margin; concentration = g.concentration };
      from = t.from;
      leaves = ap going t.leaves;
    })

-- One call: the instrument's row goes on by the day that it took, or is as it was but for its halt.
module _ (i : ℕ) (positive : 0 < i) (start book moves : List ℕ) (sound : is_sound book ≡ true) (opened : is_open book i ≡ true) (run : Run start (going (row_for book i)) moves) where
  abbrev RunWith : Call → Type 0
  RunWith call = Run start (going (row_for (after book call) i)) (moves_with i book call moves)

  -- Where the row and the moves are as they were, so is the run.
  same_run : (call : Call) → going (row_for (after book call) i) ≡ going (row_for book i) → moves_with i book call moves ≡ moves → RunWith call
  same_run call row same =
      subst (λ (moves : List ℕ). Run start (going (row_for (after book call) i)) moves) (sym same) (subst (λ (row : List ℕ). Run start row moves) (sym row) run)

  refused_run : (call : Call) → ¬ (number_of book call ≡ 0) → moves_with i book call moves ≡ moves → RunWith call
  refused_run call n same = same_run call (ap (λ (book : List ℕ). going (row_for book i)) (after_refused book call n)) same

  other_run : (call : Call) → ¬ (i ≡ named call) → moves_with i book call moves ≡ moves → RunWith call
  other_run call n same = same_run call (ap going (touches_one_row.others book call i positive n)) same

  -- Its own parameters again leave it its row.
  own_parameters : (ps : List ℕ) (k : ℕ) → i ≡ k → IsOpenWith i (parameters_of (row_for book i)) (after book (parameters k ps)) → number_of book (parameters k ps) ≡ 0 → row_for (after book (parameters k ps)) i ≡ row_for book i
  unfolding answer parameters_of
  own_parameters ps k e stays taken =
      let left = call_leaves book (parameters k ps) taken in
      let v = left.0 in
      let before : row_for book i ≡ words v = ap (row_for book) e ∙ left.2 in
      let now : row_for (after book (parameters k ps)) i ≡ words (with_parameters v left.1) = ap (row_for (after book (parameters k ps))) e ∙ left.4 in
      let same : parameter_words left.1 ≡ parameter_words v.parameters = sym (ap parameters_of now) ∙ stays.parameters ∙ ap parameters_of before in
      now ∙ ap (sets (words v) Row.alpha) same ∙ sym before

  -- A halt, and its end, leave it the row that it has when it is not halted.
  own_halt : (k value : ℕ) → i ≡ k → number_of book (halt k value) ≡ 0 → going (row_for (after book (halt k value)) i) ≡ going (row_for book i)
  unfolding answer
  own_halt k value e taken =
      let left = call_leaves book (halt k value) taken in
      ap (λ (i : ℕ). going (row_for (after book (halt k value)) i)) e ∙ ap going left.2 ∙ sym (ap (λ (i : ℕ). going (row_for book i)) e ∙ ap going left.1)

  -- An accepted day of its own is one day more.
  own_day_lem : (d : Day) → i ≡ d.instrument → number_of book (day d) ≡ 0 → Run start (going (row_for (after book (day d)) i)) ((move_on (row_for book i) d).size ∷ moves)
  unfolding answer move_on
  own_day_lem d e taken =
      let left = call_leaves book (day d) taken in
      let row = row_of_open book i (sound_says book sound) positive (open_says book i opened) in
      let v = row.values in
      let given : day_on (words v) d ≡ accepted left.0 left.1 = ap (λ (row : List ℕ). day_on row d) (sym row.keeps) ∙ ap (λ (i : ℕ). day_on (row_for book i) d) e ∙ left.2 in
      let more : Run start (going left.1) ((move_on (words v) d).size ∷ moves)
      = another {f = left.0} d (subst (λ (row : List ℕ). Run start (going row) moves) row.keeps run) (going_day v d left.0 left.1 given) in
      subst (λ (row : List ℕ). Run start (going (row_for (after book (day d)) i)) ((move_on row d).size ∷ moves)) (sym row.keeps)
      (subst (λ (row : List ℕ). Run start (going row) ((move_on (words v) d).size ∷ moves)) (sym (ap (row_for (after book (day d))) e ∙ left.3)) more)

  -- A day that is another's, or refused, adds no move.
  no_move : (d : Day) → (eqb d.instrument i ≡ false) ⊎ (eqb (answer book (day d)).number 0 ≡ false) → moves_with i book (day d) moves ≡ moves
  no_move d (inl e) = ap (λ (b : Bool). cond (b && eqb (answer book (day d)).number 0) ((move_on (row_for book i) d).size ∷ moves) moves) e
  no_move d (inr e) =
      ap (λ (b : Bool). cond b ((move_on (row_for book i) d).size ∷ moves) moves) (and_fails (eqb d.instrument i) (eqb (answer book (day d)).number 0) e)

  one_move : (d : Day) → i ≡ d.instrument → (answer book (day d)).number ≡ 0 → moves_with i book (day d) moves ≡ (move_on (row_for book i) d).size ∷ moves
  one_move d e taken =
      ap (λ (b : Bool). cond b ((move_on (row_for book i) d).size ∷ moves) moves)
      (and_both (eqb d.instrument i) (eqb (answer book (day d)).number 0) (eq-eqb d.instrument i (sym e)) (eq-eqb _ 0 taken))

  next_run : (call : Call) → IsOpenWith i (parameters_of (row_for book i)) (after book call) → Dec (i ≡ named call) → Dec (number_of book call ≡ 0) → RunWith call
  unfolding answer
  next_run (opening row) stays (no n) number = other_run (opening row) n refl
  next_run (opening row) stays (yes e) (no n) = refused_run (opening row) n refl
  next_run (opening row) stays (yes e) (yes taken) = absurd ((accept_opening book row taken).new (subst (IsOpen book) e (open_says book i opened)))
  next_run (closing k) stays (no n) number = other_run (closing k) n refl
  next_run (closing k) stays (yes e) (no n) = refused_run (closing k) n refl
  next_run (closing k) stays (yes e) (yes taken) =
      absurd ((call_leaves book (closing k) taken).0 (subst (IsOpen (after book (closing k))) e (open_says _ i stays.open_here)))
  next_run (parameters k ps) stays (no n) number = other_run (parameters k ps) n refl
  next_run (parameters k ps) stays (yes e) (no n) = refused_run (parameters k ps) n refl
  next_run (parameters k ps) stays (yes e) (yes taken) = same_run (parameters k ps) (ap going (own_parameters ps k e stays taken)) refl
  next_run (halt k value) stays (no n) number = other_run (halt k value) n refl
  next_run (halt k value) stays (yes e) (no n) = refused_run (halt k value) n refl
  next_run (halt k value) stays (yes e) (yes taken) = same_run (halt k value) (own_halt k value e taken) refl
  next_run (day d) stays (no n) number = other_run (day d) n (no_move d (inl (ne_eqb d.instrument i (λ e. n (sym e)))))
  next_run (day d) stays (yes e) (no n) = refused_run (day d) n (no_move d (inr (ne_eqb _ 0 n)))
  next_run (day d) stays (yes e) (yes taken) =
      subst (Run start (going (row_for (after book (day d)) i))) (sym (one_move d e taken)) (own_day_lem d e taken)
  next_run (why d) stays mine number = same_run (why d) (ap (λ (book : List ℕ). going (row_for book i)) (why_leaves book d)) refl
  next_run (corridor k t) stays mine number = same_run (corridor k t) (ap (λ (book : List ℕ). going (row_for book i)) (corridor_leaves book k t)) refl
  next_run (bond k t b) stays mine number = same_run (bond k t b) (ap (λ (book : List ℕ). going (row_for book i)) (bond_leaves book k t b)) refl

-- A list of calls.
pub list_run : (i : ℕ) → 0 < i → (start ps : List ℕ) (calls : List Call) (book moves : List ℕ) → is_sound book ≡ true → IsOpenWith i ps book → Run start (going (row_for book i)) moves → StaysOpenWith i ps book calls → Run start (going (row_for (after_all book calls) i)) (moves_after i book calls moves)
list_run i positive start ps [] book moves sound here run stays = run
list_run i positive start ps (call ∷ calls) book moves sound here run stays =
    list_run i positive start ps calls (after book call) (moves_with i book call moves) (sound_stays book call sound) stays.0
    (next_run i positive start book moves sound here.open_here run call
    (record { open_here = stays.0.open_here; parameters = stays.0.parameters ∙ sym here.parameters })
    (ℕ_discrete i (named call)) (ℕ_discrete (number_of book call) 0))
    stays.1

-- After calls the book is sound, and the instrument is open with its parameters; so its row is in range.
pub sound_after : (book : List ℕ) (calls : List Call) → is_sound book ≡ true → is_sound (after_all book calls) ≡ true
sound_after book [] sound = sound
sound_after book (call ∷ calls) sound = sound_after (after book call) calls (sound_stays book call sound)

pub open_after : (i : ℕ) (ps book : List ℕ) (calls : List Call) → IsOpenWith i ps book → StaysOpenWith i ps book calls → IsOpenWith i ps (after_all book calls)
open_after i ps book [] here stays = here
open_after i ps book (call ∷ calls) here stays = open_after i ps (after book call) calls stays.0 stays.1

pub open_row : (i : ℕ) (book : List ℕ) → 0 < i → is_sound book ≡ true → is_open book i ≡ true → IsRow (row_for book i)
open_row i book positive sound opened =
    let row = row_of_open book i (sound_says book sound) positive (open_says book i opened) in
    record { values = row.values; in_order = row.keeps; in_range = row.in_range }

-- What a run shows of rows of which it is the run once they are not halted: the exact figures and the candidate read nothing of that either.
module _ (v w : Values) (moves : List ℕ) (r : AreValues v) (run : Run (going (words v)) (going (words w)) moves) where
  near_values : IsNear (smaller_weight (words v)) (denominator (length moves)) (exact_after (words v) moves) (word (words w) Row.variance)
  near_values = variance_drift (going (words v)) (going (words w)) moves (values_pass (with_halt v 0) (halt_in_range v 0 r no_halt)) run

  covered_values : (d : Day) (f : Figures) (next : List ℕ) → day_on (words w) d ≡ accepted f next
      → IsCovered (word (words v) Row.step) (exact_candidate_of (words v) moves (words w) d) (candidate_of (words w) d f.variance) f.preliminary
  unfolding move_on parameters_of state_of
  covered_values d f next e =
      candidate_drift (going (words v)) (going (words w)) (going next) moves d f (values_pass (with_halt v 0) (halt_in_range v 0 r no_halt)) run (going_day w d f next e)

module _ (start row moves : List ℕ) (s : IsRow start) (r : IsRow row) (run : Run (going start) (going row) moves) where
  by_values : Run (going (words s.values)) (going (words r.values)) moves
  by_values = subst₂ (λ (start row : List ℕ). Run (going start) (going row) moves) s.in_order r.in_order run

  pub run_near : IsNear (smaller_weight start) (denominator (length moves)) (exact_after start moves) (word row Row.variance)
  run_near =
      subst₂ (λ (start row : List ℕ). IsNear (smaller_weight start) (denominator (length moves)) (exact_after start moves) (word row Row.variance))
      (sym s.in_order) (sym r.in_order) (near_values s.values r.values moves s.in_range by_values)

  pub run_covered : (d : Day) (f : Figures) (next : List ℕ) → day_on row d ≡ accepted f next
      → IsCovered (word start Row.step) (exact_candidate_of start moves row d) (candidate_of row d f.variance) f.preliminary
  run_covered d f next e =
      subst₂ (λ (start row : List ℕ). IsCovered (word start Row.step) (exact_candidate_of start moves row d) (candidate_of row d f.variance) f.preliminary)
      (sym s.in_order) (sym r.in_order)
      (covered_values s.values r.values moves s.in_range by_values d f next (ap (λ (row : List ℕ). day_on row d) (sym r.in_order) ∙ e))

module _ (i : ℕ) (book : List ℕ) (calls : List Call) (h : IsHistory i book calls) where
  positive : 0 < i
  positive = h.instrument.not_below

  start_row : IsRow (row_for book i)
  start_row = open_row i book positive h.sound h.open_here

  history_run : Run (going (row_for book i)) (going (row_for (after_all book calls) i)) (moves_after i book calls [])
  history_run =
      list_run i positive (going (row_for book i)) (parameters_of (row_for book i)) calls book [] h.sound
      (record { open_here = h.open_here; parameters = refl }) begun h.stays

  end_open : IsOpenWith i (parameters_of (row_for book i)) (after_all book calls)
  end_open = open_after i (parameters_of (row_for book i)) book calls (record { open_here = h.open_here; parameters = refl }) h.stays

  end_row : IsRow (row_for (after_all book calls) i)
  end_row = open_row i (after_all book calls) positive (sound_after book calls h.sound) end_open.open_here

pub variance_over_calls : VarianceOverCalls
variance_over_calls i book calls h = run_near _ _ _ (start_row i book calls h) (end_row i book calls h) (history_run i book calls h)

pub candidate_over_calls : CandidateOverCalls
candidate_over_calls i book calls d f next h e = run_covered _ _ _ (start_row i book calls h) (end_row i book calls h) (history_run i book calls h) d f next e
