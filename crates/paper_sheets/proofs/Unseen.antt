-- No call tells a book from another that keeps the same rows for every instrument and has as many in use, wherever they stand; so none tells the night from no night. Assumes nothing.
use mathlib.Core.Path.{◌≡◌, refl, sym, ap, ap₂, ◌∙◌}
use mathlib.Core.Logic.{◌⊎◌, inl, inr}
use mathlib.Core.Bool.{Bool, true, false, cond}
use mathlib.Core.List.{List, [], ◌∷◌, ◌++◌}
use Prim.Native.Nat.{ℕ, zero, suc, ◌+◌, ◌≤◌, ◌<◌}
use native.Mathlib.Nat.{eq-or-lt_of_le, le_of_suc-le-suc, not-suc-le-zero}
use native.Mathlib.Decide.{dec_le, ℕ_discrete}
use native.Mathlib.Omega.{arith}
use borrow.Author.Tests.{ltb-true, ltb-false, lt-ltb}
use lib.Dec.{ltb, lit≤}
use lib.ListN.{length, replicate, get_or-replicate}
use Rattle.paper.specs.Row as Row
use Rattle.paper.specs.Row.{width, word}
use Rattle.paper.specs.Rates.{DayAnswer}
use Rattle.paper.specs.Book.{rows, size, row_at, with_row, is_zeros, place_for, row_for, free_place, is_sound}
use Rattle.paper.specs.Calls.{Call, opening, closing, parameters, halt, day, why, corridor, bond, day_row, number_of, changed, answer, after, after_all}
use Rattle.paper_sheets.specs.Sheet.{answer_line, text_of}
use Rattle.paper_sheets.specs.Evening.{used_rows, gaps_closed}
use Rattle.paper.specs.Promises.Book.{IsOpen}
use Rattle.paper.specs.Promises.Calls.{named, IsNoOpening}
use Rattle.paper_sheets.specs.Promises.Evening.{next_morning, NightUnseen}
use Rattle.paper.proofs.Tests.{same_test}
use Rattle.paper.proofs.Book.{held_row, place_below, free_tells, free_first, closed_row, written_row, written_others}
use Rattle.paper.proofs.Sound.{sound_long, sound_says, free_place_lem}
use Rattle.paper.proofs.Rows.{past_rows, words_long}
use Rattle.paper.proofs.Accepted.{after_accepted, after_refused, accept_opening, accept_closing, accept_parameters, accept_halt, accept_day}
use Rattle.paper.proofs.Writes.{sound_stays, touches_one_row, parameters_row_lem, halt_row, day_row_lem}
use Rattle.paper.proofs.Calls.{row_left, row_left_lem, call_leaves, open_same, apart}
use Rattle.paper.proofs.Ends.{refuses_untouched}
use Rattle.paper.proofs.Opening.{opening_answer}
use Rattle.paper_sheets.proofs.Evening.{used_few, used_run}
use Rattle.paper_sheets.proofs.Night.{used_says, placed, placed_free, placed_next, placed_same, comes, comes_row, packed, packs, night_keeps}

-- What a row adds to the number of those in use.
abbrev fills : List ℕ → ℕ
fills row = cond (is_zeros row) 0 1

placed_more : (book : List ℕ) (k : ℕ) → placed book (suc k) ≡ placed book k + fills (row_at book k)
placed_more book k = go (is_zeros (row_at book k)) refl
  where
    go : (free : Bool) → is_zeros (row_at book k) ≡ free → placed book (suc k) ≡ placed book k + cond free 0 1
    go true e = placed_free book k e ∙ omega arith
    go false e = placed_next book k e ∙ omega arith

-- A row that is free leaves room.
placed_gap : (book : List ℕ) (k n : ℕ) → k < n → is_zeros (row_at book k) ≡ true → placed book n < n
placed_gap book k zero l free = absurd (not-suc-le-zero l)
placed_gap book k (suc n) l free = go (eq-or-lt_of_le (le_of_suc-le-suc l)) (λ m. placed_gap book k n m free)
  where
    go : (k ≡ n) ⊎ (k < n) → (k < n → placed book n < n) → placed book (suc n) < suc n
    go (inl same) before = omega (arith, placed_free book n (ap (λ (k : ℕ). is_zeros (row_at book k)) (sym same) ∙ free), used_few book n)
    go (inr m) before = by (is_zeros (row_at book n)) refl (before m)
      where
        by : (t : Bool) → is_zeros (row_at book n) ≡ t → placed book n < n → placed book (suc n) < suc n
        by true e less = omega (arith, placed_free book n e)
        by false e less = omega (arith, placed_next book n e)

room_says : (book : List ℕ) → free_place book < 64 → placed book 64 < 64
room_says book l = placed_gap book (free_place book) 64 l (free_tells book (free_place book) ((free_first book).holds l))

room_tells : (book : List ℕ) → placed book 64 < 64 → free_place book < 64
room_tells book few = go (dec_le 64 (free_place book))
  where
    go : Dec (64 ≤ free_place book) → free_place book < 64
    go (no n) = omega (arith, n)
    go (yes full) =
        absurd (omega (arith, placed_same book 64 (λ j l. used_says book j (λ free. (free_first book).none_before j (omega arith) free))))

-- A row written changes their number by what it adds and what stood there added.
module _ (book : List ℕ) (k : ℕ) (ws : List ℕ) (long : length book ≡ size) (below : k < 64) (wide : length ws ≡ width) where
  abbrev left : List ℕ
  left = with_row book k ws

  others : (j : ℕ) → ¬ (j ≡ k) → j < 64 → fills (row_at left j) ≡ fills (row_at book j)
  others j n l = ap fills (written_others book k ws j long wide n l)

  up_to : (n : ℕ) → n ≤ k → placed left n ≡ placed book n
  unfolding used_rows
  up_to zero l = refl
  up_to (suc n) l =
      placed_more left n ∙ ap₂ (λ (a b : ℕ). a + b) (up_to n (omega arith)) (others n (λ same. omega arith) (omega arith)) ∙ sym (placed_more book n)

  beyond : (n : ℕ) → k < n → n ≤ 64 → placed left n + fills (row_at book k) ≡ placed book n + fills ws
  beyond zero l m = absurd (not-suc-le-zero l)
  beyond (suc n) l m = go (eq-or-lt_of_le (le_of_suc-le-suc l)) (λ less. beyond n less (omega arith))
    where
      go : (k ≡ n) ⊎ (k < n) → (k < n → placed left n + fills (row_at book k) ≡ placed book n + fills ws) → placed left (suc n) + fills (row_at book k) ≡ placed book (suc n) + fills ws
      go (inl same) before =
          rw (← same)
          (omega (arith, placed_more left k, placed_more book k, up_to k (omega arith), ap fills (written_row book k ws long below wide)))
      go (inr less) before = omega (arith, placed_more left n, placed_more book n, before less, others n (λ same. omega arith) (omega arith))

  pub refilled : placed left 64 + fills (row_at book k) ≡ placed book 64 + fills ws
  refilled = beyond 64 below (lit≤ tt)

-- A call changes the number of rows in use by what the row of its instrument adds before it and after it. An instrument that is not open adds nothing.
module _ (book : List ℕ) (sound : is_sound book ≡ true) where
  rewritten : (i : ℕ) (ws after : List ℕ) → IsOpen book i → length ws ≡ width → after ≡ with_row book (place_for book i) ws → fills (row_for after i) ≡ fills ws
      → placed after 64 + fills (row_for book i) ≡ placed book 64 + fills (row_for after i)
  unfolding row_for
  rewritten i ws after o wide e same =
      ap (λ (left : List ℕ). placed left 64 + fills (row_at book (place_for book i))) e
      ∙ refilled book (place_for book i) ws (sound_long book sound) (place_below book i o) wide
      ∙ ap (λ (n : ℕ). placed book 64 + n) (sym same)

  counted : (call : Call) → Dec (number_of book call ≡ 0)
      → placed (after book call) 64 + fills (row_for book (named call)) ≡ placed book 64 + fills (row_for (after book call) (named call))
  unfolding answer changed row_left is_zeros
  counted call (no n) = rw (after_refused book call n)
  counted (opening row) (yes e) =
      let o = accept_opening book row e in
      let long = sound_long book sound in
      let none = closed_row book (word row Row.instrument) long o.new in
      let free = free_tells book (free_place book) ((free_first book).holds o.free) in
      rw (none, (call_leaves book (opening row) e).1, after_accepted book (opening row) e)
      (omega (arith, refilled book (free_place book) row long o.free (words_long row o.range), ap (λ (t : Bool). cond {A = ℕ} t 0 1) free))
  counted (closing i) (yes e) =
      rewritten i (replicate width 0) (after book (closing i)) (accept_closing book i e).opened refl (after_accepted book (closing i) e) (ap fills (row_left_lem book (closing i) tt e))
  counted (parameters i ps) (yes e) =
      let a = accept_parameters book i ps e in
      rewritten i (row_left (row_for book i) (parameters i ps)) (after book (parameters i ps)) a.0.opened (words_long _ (parameters_row_lem book i ps a.0 a.1 a.2))
      (after_accepted book (parameters i ps) e) (ap fills (row_left_lem book (parameters i ps) tt e))
  counted (halt i value) (yes e) =
      let a = accept_halt book i value e in
      rewritten i (row_left (row_for book i) (halt i value)) (after book (halt i value)) a.0.opened (words_long _ (halt_row book i value a.0 a.1))
      (after_accepted book (halt i value) e) (ap fills (row_left_lem book (halt i value) tt e))
  counted (day d) (yes e) =
      let a = accept_day book d e in
      let next = day_row_lem book d a.2.0 a.2.1 a.0 a.1 a.2.2 in
      rewritten d.instrument (row_left (row_for book d.instrument) (day d)) (after book (day d)) a.0.opened
      (ap (λ (taken : DayAnswer). length (day_row (row_for book d.instrument) taken)) a.2.2 ∙ words_long _ next)
      (after_accepted book (day d) e) (ap fills (row_left_lem book (day d) tt e))
  counted (why d) (yes e) = rw (after_accepted book (why d) e)
  counted (corridor i t) (yes e) = rw (after_accepted book (corridor i t) e)
  counted (bond i t b) (yes e) = rw (after_accepted book (bond i t b) e)

-- Two books that keep the same rows, and have as many in use.
pub record AreSame (book other : List ℕ) : Type 0 where
  pub sound : is_sound book ≡ true
  pub sound' : is_sound other ≡ true
  pub keep : (i : ℕ) → 0 < i → row_for book i ≡ row_for other i
  pub many : placed book 64 ≡ placed other 64

-- There is room in both or in neither, so 0, which no instrument has, stands in a free row of both or of neither.
free_row : (book : List ℕ) → is_sound book ≡ true → (room : Bool) → ltb (free_place book) rows ≡ room → row_for book 0 ≡ cond room (replicate width 0) []
unfolding row_for
free_row book sound true e =
    let says = sound_says book sound in
    let l = ltb-true (free_place book) rows e in
    ap (row_at book) (sym (free_place_lem book says))
    ∙ held_row book says.long (free_place book) (replicate width 0) l (record { long = refl; each = λ place p. (free_first book).holds l place p ∙ sym (get_or-replicate width place 0 0 p) })
free_row book sound false e =
    let says = sound_says book sound in
    ap (row_at book) (sym (free_place_lem book says)) ∙ past_rows book (free_place book) says.long (ltb-false (free_place book) rows e)

module _ (book other : List ℕ) (s : AreSame book other) where
  same_room : ltb (free_place book) rows ≡ ltb (free_place other) rows
  same_room =
      same_test _ _
      (λ e. lt-ltb (free_place other) rows (room_tells other (omega (arith, s.many, room_says book (ltb-true (free_place book) rows e)))))
      (λ e. lt-ltb (free_place book) rows (room_tells book (omega (arith, s.many, room_says other (ltb-true (free_place other) rows e)))))

  same_rows : (i : ℕ) → row_for book i ≡ row_for other i
  same_rows zero =
      free_row book s.sound (ltb (free_place book) rows) refl
      ∙ sym (free_row other s.sound' (ltb (free_place book) rows) (sym same_room))
  same_rows (suc i) = s.keep (suc i) (omega arith)

  -- A call that is no opening reads its instrument's row alone; an opening whether it is open, and whether there is room.
  same_other : (call : Call) → IsNoOpening call
      → (answer book call ≡ answer other call) × (row_for (after book call) (named call) ≡ row_for (after other call) (named call))
  same_other call none = apart book other call s.sound s.sound' none (same_rows (named call))

  same_opening : (row : List ℕ) → answer book (opening row) ≡ answer other (opening row)
  same_opening row =
      opening_answer book other row s.sound s.sound'
      (λ i positive. open_same book other i (sound_says book s.sound) (sound_says other s.sound') positive (s.keep i positive)) same_room

  opening_left : (row : List ℕ) → Dec ((answer book (opening row)).number ≡ 0)
      → row_for (after book (opening row)) (word row Row.instrument) ≡ row_for (after other (opening row)) (word row Row.instrument)
  opening_left row (yes e) =
      (call_leaves book (opening row) e).1 ∙ sym (call_leaves other (opening row) (sym (ap (λ a. a.number) (same_opening row)) ∙ e)).1
  opening_left row (no n) =
      rw (refuses_untouched book (opening row) n, refuses_untouched other (opening row) (λ e. n (ap (λ a. a.number) (same_opening row) ∙ e)))
      (same_rows (word row Row.instrument))

  pub same_call : (call : Call) → (answer book call ≡ answer other call) × (row_for (after book call) (named call) ≡ row_for (after other call) (named call))
  same_call (opening row) = (same_opening row, opening_left row (ℕ_discrete _ 0))
  same_call (closing i) = same_other (closing i) tt
  same_call (parameters i ps) = same_other (parameters i ps) tt
  same_call (halt i value) = same_other (halt i value) tt
  same_call (day d) = same_other (day d) tt
  same_call (why d) = same_other (why d) tt
  same_call (corridor i t) = same_other (corridor i t) tt
  same_call (bond i t b) = same_other (bond i t b) tt

  -- So the two stay the same.
  pub stay_same : (call : Call) → AreSame (after book call) (after other call)
  stay_same call =
      record {
        sound = sound_stays book call s.sound;
        sound' = sound_stays other call s.sound';
        keep = λ i positive. by i positive (ℕ_discrete i (named call));
        many =
            omega (
              arith,
              s.many,
              counted book s.sound call (ℕ_discrete (number_of book call) 0),
              counted other s.sound' call (ℕ_discrete (number_of other call) 0),
              ap fills (same_rows (named call)),
              ap fills (same_call call).1,
            );
      }
    where
      by : (i : ℕ) → 0 < i → Dec (i ≡ named call) → row_for (after book call) i ≡ row_for (after other call) i
      by i positive (yes e) = rw e (same_call call).1
      by i positive (no n) = touches_one_row.others book call i positive n ∙ s.keep i positive ∙ sym (touches_one_row.others other call i positive n)

-- Any calls are answered alike, line for line, and leave the two the same.
all_same : (calls : List Call) (book other : List ℕ) → AreSame book other → (text_of book calls ≡ text_of other calls) × AreSame (after_all book calls) (after_all other calls)
unfolding text_of
all_same [] book other s = (refl, s)
all_same (call ∷ calls) book other s =
    let rest = all_same calls (after book call) (after other call) (stay_same book other s call) in
    (ap₂ (λ (line text : List ℕ). line ++ text) (ap (answer_line call) (same_call book other s call).0) rest.0, rest.1)

-- The book after a night has as many rows in use as there were, and those after them are free.
night_many : (book : List ℕ) → is_sound book ≡ true → placed (next_morning book) 64 ≡ placed book 64
unfolding gaps_closed
night_many book sound =
    let long = sound_long book sound in
    let many = placed book 64 in
    let closed = packed book 64 in
    ap (λ (book : List ℕ). placed book 64) (night_keeps book sound).closed
    ∙ ap length (used_run closed many 64 (used_few book 64) (λ m l top. free_tells closed m ((packs book long 64 (lit≤ tt)).free m l top)))
    ∙ placed_same closed many (λ m l. let c = comes book 64 m l in ap is_zeros (comes_row book long 64 (lit≤ tt) m c) ∙ c.used)

pub night_same : (book : List ℕ) → is_sound book ≡ true → AreSame (next_morning book) book
night_same book sound =
    let n = night_keeps book sound in
    record { sound = n.sound; sound' = sound; keep = n.instruments; many = night_many book sound }

pub night_unseen : NightUnseen
night_unseen =
    record {
      answers = λ book before call sound.
          (same_call (after_all (next_morning book) before) (after_all book before) (all_same before (next_morning book) book (night_same book sound)).1 call).0;
      lines = λ book calls sound. (all_same calls (next_morning book) book (night_same book sound)).0;
      rows = λ book calls i sound positive. (all_same calls (next_morning book) book (night_same book sound)).1.keep i positive;
    }
