-- The book after a night: the used rows stand one after the other in it, each opening is accepted, and every instrument has its row. Assumes nothing.
use mathlib.Core.Path.{◌≡◌, refl, sym, ap, subst, ◌∙◌}
use mathlib.Core.Logic.{◌⊎◌, inl, inr, ⊎_elim}
use mathlib.Core.Bool.{Bool, true, false}
use mathlib.Core.List.{List, [], ◌∷◌, ◌++◌, map, map-append}
use Prim.Native.Nat.{ℕ, zero, suc, ◌+◌, ◌*◌, ◌/◌, ◌%◌, ◌≤◌, ◌<◌}
use native.Mathlib.Nat.{mod-lt, div-add-mod, eq-or-lt_of_le, le_of_suc-le-suc, not-suc-le-zero}
use native.Mathlib.Decide.{dec_le}
use native.Mathlib.Omega.{arith}
use lib.Dec.{lit<, lit≤}
use lib.ListN.{length, get_or, length-append, length-replicate}
use lib.Seq.{ext_get_or}
use Rattle.paper.specs.Row as Row
use Rattle.paper.specs.Row.{width, word}
use Rattle.paper.specs.Book.{size, row_at, with_row, is_zeros, row_for, free_place, is_open, is_sound}
use Rattle.paper.specs.Calls.{Call, opening, answer, after, after_all}
use Rattle.paper_sheets.specs.Evening.{used_rows, evening_sheet, with_rows, gaps_closed}
use Rattle.paper.specs.Promises.Book.{word_at, IsFree, IsUsed, IsOpen, IsSoundBook}
use Rattle.paper.specs.Promises.Ranges.{IsRow}
use Rattle.paper.specs.Promises.Alive.{empty_book}
use Rattle.paper_sheets.specs.Promises.Evening.{HasNoGap, GapsClose, AllDone, next_morning, NightKeeps}
use Rattle.paper.proofs.Tests.{clash, not_passed}
use Rattle.paper.proofs.Found.{first_same}
use Rattle.paper.proofs.Ranges.{row_is}
use Rattle.paper.proofs.Book.{row_long_at, row_word_at, free_says, free_tells, free_first, open_says, open_tells, closed_row, written_long, written_other, written_row, written_others}
use Rattle.paper.proofs.Sound.{sound_long, sound_says, sound_means, used_positive, used_of, holder_place}
use Rattle.paper.proofs.Standing.{answer_opens, after_opens}
use Rattle.paper.proofs.Alive.{empty_word, empty_sound}
use Rattle.paper_sheets.proofs.Morning.{after_append, refused_sheets, lines_follow}
use Rattle.paper_sheets.proofs.Evening.{used_free, used_next, used_few, used_row, evening_is_read}

-- A row is used where it is not free.
pub used_says : (book : List ℕ) (k : ℕ) → ¬ IsFree book k → is_zeros (row_at book k) ≡ false
used_says book k n = not_passed (is_zeros (row_at book k)) (λ e. n (free_says book k e))

pub used_tells : (book : List ℕ) (k : ℕ) → is_zeros (row_at book k) ≡ false → ¬ IsFree book k
used_tells book k used free = clash (is_zeros (row_at book k)) (free_tells book k free) used

-- Where a row goes: as many used rows stand before it.
abbrev pub placed : List ℕ → ℕ → ℕ
placed book k = length (used_rows book k)

-- With one row more there are as many, or one more.
pub placed_free : (book : List ℕ) (k : ℕ) → is_zeros (row_at book k) ≡ true → placed book (suc k) ≡ placed book k
placed_free book k free = ap length (used_free book k free)

pub placed_next : (book : List ℕ) (k : ℕ) → is_zeros (row_at book k) ≡ false → placed book (suc k) ≡ suc (placed book k)
placed_next book k used = ap length (used_next book k used) ∙ length-append (used_rows book k) _ ∙ omega arith

-- A row in use goes before all that come after it.
placed_below : (book : List ℕ) (j k : ℕ) → j < k → is_zeros (row_at book j) ≡ false → placed book j < placed book k
placed_below book j zero l used = absurd (not-suc-le-zero l)
placed_below book j (suc k) l used = go (is_zeros (row_at book k)) refl (eq-or-lt_of_le (le_of_suc-le-suc l)) (λ m. placed_below book j k m used)
  where
    go : (free : Bool) → is_zeros (row_at book k) ≡ free → (j ≡ k) ⊎ (j < k) → (j < k → placed book j < placed book k) → placed book j < placed book (suc k)
    go true e (inl same) before = absurd (clash (is_zeros (row_at book k)) e (ap (λ (k : ℕ). is_zeros (row_at book k)) (sym same) ∙ used))
    go true e (inr m) before = omega (arith, placed_free book k e, before m)
    go false e (inl same) before = omega (arith, placed_next book k e, ap (placed book) same)
    go false e (inr m) before = omega (arith, placed_next book k e, before m)

-- To each place among them goes a row in use.
pub record Comes (book : List ℕ) (k m : ℕ) : Type 0 where
  pub from : ℕ
  pub before : from < k
  pub used : is_zeros (row_at book from) ≡ false
  pub to : placed book from ≡ m

pub comes : (book : List ℕ) (k m : ℕ) → m < placed book k → Comes book k m
unfolding used_rows
comes book zero m l = absurd (not-suc-le-zero l)
comes book (suc k) m l = go (is_zeros (row_at book k)) refl (λ l. comes book k m l)
  where
    later : Comes book k m → Comes book (suc k) m
    later c = record { from = c.from; before = omega (arith, c.before); used = c.used; to = c.to }

    go : (free : Bool) → is_zeros (row_at book k) ≡ free → (m < placed book k → Comes book k m) → Comes book (suc k) m
    go true e before = later (before (omega (arith, l, placed_free book k e)))
    go false e before =
        ⊎_elim (λ same. record { from = k; before = omega arith; used = e; to = sym same }) (λ less. later (before less))
        (eq-or-lt_of_le (le_of_suc-le-suc (omega (arith, l, placed_next book k e))))

-- The used rows among the first k, written one after the other into an empty book.
abbrev pub packed : List ℕ → ℕ → List ℕ
packed book k = with_rows empty_book 0 (used_rows book k)

with_next : (book : List ℕ) (k : ℕ) (before : List (List ℕ)) (row : List ℕ) → with_rows book k (before ++ row ∷ []) ≡ with_row (with_rows book k before) (k + length before) row
unfolding with_rows
with_next book k [] row = ap (λ (k : ℕ). with_row book k row) (omega arith)
with_next book k (r ∷ before) row =
    with_next (with_row book k r) (suc k) before row ∙ ap (λ (n : ℕ). with_row (with_rows (with_row book k r) (suc k) before) n row) (omega arith)

packed_free : (book : List ℕ) (k : ℕ) → is_zeros (row_at book k) ≡ true → packed book (suc k) ≡ packed book k
packed_free book k free = ap (with_rows empty_book 0) (used_free book k free)

packed_next : (book : List ℕ) (k : ℕ) → is_zeros (row_at book k) ≡ false → packed book (suc k) ≡ with_row (packed book k) (placed book k) (row_at book k)
packed_next book k used =
    ap (with_rows empty_book 0) (used_next book k used) ∙ with_next empty_book 0 (used_rows book k) (row_at book k)
    ∙ ap (λ (n : ℕ). with_row (packed book k) n (row_at book k)) (omega arith)

-- Each row in use stands where it goes, and from their number on the rows are free.
pub record Packs (book : List ℕ) (k : ℕ) (left : List ℕ) (count : ℕ) : Type 0 where
  pub long : length left ≡ size
  pub moved : (j : ℕ) → j < k → is_zeros (row_at book j) ≡ false → row_at left (placed book j) ≡ row_at book j
  pub free : (m : ℕ) → count ≤ m → m < 64 → IsFree left m

module _ (book : List ℕ) (long : length book ≡ size) where
  packs_free : (k : ℕ) (left : List ℕ) (count : ℕ) → is_zeros (row_at book k) ≡ true → Packs book k left count → Packs book (suc k) left count
  packs_free k left count free p =
      record {
        long = p.long;
        moved = λ j l used.
            ⊎_elim (λ same. absurd (clash (is_zeros (row_at book k)) free (ap (λ (k : ℕ). is_zeros (row_at book k)) (sym same) ∙ used))) (λ m. p.moved j m used)
            (eq-or-lt_of_le (le_of_suc-le-suc l));
        free = p.free;
      }

  packs_next : (k : ℕ) (left : List ℕ) → k < 64 → is_zeros (row_at book k) ≡ false → Packs book k left (placed book k)
      → Packs book (suc k) (with_row left (placed book k) (row_at book k)) (suc (placed book k))
  packs_next k left l used p =
      let row = row_at book k in
      let n = placed book k in
      let wide = row_long_at book long k l in
      let here : n < 64 = omega (arith, used_few book k) in
      record {
        long = written_long left n row ∙ p.long;
        moved = λ j m e. at j e (eq-or-lt_of_le (le_of_suc-le-suc m));
        free = λ m few top place q. written_other left n row m place wide (λ same. omega arith) q ∙ p.free m (omega arith) top place q;
      }
    where
      at : (j : ℕ) → is_zeros (row_at book j) ≡ false → (j ≡ k) ⊎ (j < k) → row_at (with_row left (placed book k) (row_at book k)) (placed book j) ≡ row_at book j
      at j e (inl same) =
          rw same (written_row left (placed book k) (row_at book k) p.long (omega (arith, used_few book k)) (row_long_at book long k l))
      at j e (inr m) =
          let below = placed_below book j k m e in
          written_others left (placed book k) (row_at book k) (placed book j) p.long (row_long_at book long k l) (λ same. omega arith) (omega (arith, used_few book k))
          ∙ p.moved j m e

  pub packs : (k : ℕ) → k ≤ 64 → Packs book k (packed book k) (placed book k)
  unfolding used_rows with_rows
  packs zero l =
      record {
        long = length-replicate {A = ℕ} size 0;
        moved = λ j m. absurd (not-suc-le-zero m);
        free = λ m few top place q. empty_word m place top q;
      }
  packs (suc k) l = go (is_zeros (row_at book k)) refl (packs k (omega arith))
    where
      go : (free : Bool) → is_zeros (row_at book k) ≡ free → Packs book k (packed book k) (placed book k) → Packs book (suc k) (packed book (suc k)) (placed book (suc k))
      go true e p = rw (packed_free book k e, placed_free book k e) (packs_free k (packed book k) (placed book k) e p)
      go false e p = rw (packed_next book k e, placed_next book k e) (packs_next k (packed book k) (omega arith) e p)

  -- What stands at a place of the packed book: the row that comes to it, from which the book's own word is read.
  module _ (k : ℕ) (l : k ≤ 64) where
    pub comes_row : (m : ℕ) (c : Comes book k m) → row_at (packed book k) m ≡ row_at book c.from
    comes_row m c = ap (row_at (packed book k)) (sym c.to) ∙ (packs k l).moved c.from c.before c.used

    comes_word : (m : ℕ) (c : Comes book k m) (place : ℕ) → place < width → word_at (packed book k) m place ≡ word_at book c.from place
    comes_word m c place q =
        sym (row_word_at (packed book k) m place q) ∙ ap (λ (row : List ℕ). word row place) (comes_row m c) ∙ row_word_at book c.from place q

    -- A row that is not free is one that came.
    pub came : (m : ℕ) → m < 64 → ¬ IsFree (packed book k) m → Comes book k m
    came m top used = go (dec_le (placed book k) m)
      where
        go : Dec (placed book k ≤ m) → Comes book k m
        go (yes past) = absurd (used ((packs k l).free m past top))
        go (no n) = comes book k m (omega (arith, n))

  no_gap : HasNoGap (packed book 64)
  no_gap j m l top free = go (dec_le (placed book 64) m)
    where
      go : Dec (placed book 64 ≤ m) → IsFree (packed book 64) m
      go (yes past) = (packs 64 (lit≤ tt)).free m past top
      go (no n) =
          let c = comes book 64 j (omega (arith, n)) in
          absurd (used_tells book c.from c.used (λ place q. sym (comes_word 64 (lit≤ tt) j c place q) ∙ free place q))

pub gaps_close : GapsClose
unfolding gaps_closed
gaps_close book long =
    let p = packs book long 64 (lit≤ tt) in
    record {
      long = p.long;
      place = placed book;
      below = λ k l n. omega (arith, placed_below book k 64 l (used_says book k n), used_few book 64);
      same = λ k at l n q. comes_word book long 64 (lit≤ tt) (placed book k) (record { from = k; before = l; used = used_says book k n; to = refl }) at q;
      later = λ j k l m n o. placed_below book j k l (used_says book j n);
      no_other = λ m l n. let c = came book long 64 (lit≤ tt) m l n in (c.from, c.before, used_tells book c.from c.used, c.to);
      no_gap = no_gap book long;
    }

-- Of a sound book: the packed rows are sound, the next one in use is not open among them, and the lowest free row is the one after them.
module _ (book : List ℕ) (sound : IsSoundBook book) where
  -- Two rows that come and hold one instrument are one row.
  same_came : (k m n : ℕ) (l : k ≤ 64) (c : Comes book k m) → n < 64 → is_zeros (row_at book n) ≡ false → word_at (packed book k) m 0 ≡ word_at book n 0 → c.from ≡ n
  same_came k m n l c top used e =
      sound.once c.from n (omega (arith, c.before)) top (in_use c.from (omega (arith, c.before)) c.used) (in_use n top used)
      (sym (comes_word book sound.long k l m c 0 (lit< tt)) ∙ e)
    where
      in_use : (j : ℕ) → j < 64 → is_zeros (row_at book j) ≡ false → IsUsed book j
      in_use j top used = used_of book j sound.long top (used_row book j sound top used)

  pub packed_sound : (k : ℕ) → k ≤ 64 → IsSoundBook (packed book k)
  packed_sound k l =
      record {
        long = (packs book sound.long k l).long;
        rows = λ m top. row_at_lem m top (dec_le (placed book k) m);
        once = λ m n top top' u w e.
            let c = came book sound.long k l m top (not_free m u) in
            let d = came book sound.long k l n top' (not_free n w) in
            let same = same_came k m d.from l c (omega (arith, d.before)) d.used (e ∙ comes_word book sound.long k l n d 0 (lit< tt)) in
            sym c.to ∙ ap (placed book) same ∙ d.to;
      }
    where
      not_free : (m : ℕ) → IsUsed (packed book k) m → ¬ IsFree (packed book k) m
      not_free m u free = omega (arith, used_positive (packed book k) m u, free 0 (lit< tt))

      row_at_lem : (m : ℕ) → m < 64 → Dec (placed book k ≤ m) → IsFree (packed book k) m ⊎ IsUsed (packed book k) m
      row_at_lem m top (yes past) = inl ((packs book sound.long k l).free m past top)
      row_at_lem m top (no n) =
          let c = comes book k m (omega (arith, n)) in
          inr (used_of (packed book k) m (packs book sound.long k l).long top
          (subst IsRow (sym (comes_row book sound.long k l m c)) (used_row book c.from sound (omega (arith, c.before)) c.used)))

  packed_closed : (k : ℕ) → k < 64 → is_zeros (row_at book k) ≡ false → ¬ IsOpen (packed book k) (word_at book k 0)
  packed_closed k l used o =
      let c = came book sound.long k (omega arith) o.place o.below (λ free. omega (arith, free 0 (lit< tt), o.there, used_positive book k (used_of book k sound.long l (used_row book k sound l used)))) in
      omega (arith, c.before, same_came k o.place k (omega arith) c l used o.there)

  packed_lowest : (k : ℕ) → k ≤ 64 → free_place (packed book k) ≡ placed book k
  packed_lowest k l =
      first_same 64 (IsFree (packed book k)) _ _ (free_first (packed book k))
      (record {
        not_past = omega (arith, used_few book k);
        holds = λ top. (packs book sound.long k l).free (placed book k) (omega arith) top;
        none_before = λ m below free.
            let c = comes book k m below in
            used_tells book c.from c.used (λ place q. sym (comes_word book sound.long k l m c place q) ∙ free place q);
      })

  -- The next row in use is opened there.
  module _ (k : ℕ) (l : k < 64) (used : is_zeros (row_at book k) ≡ false) where
    abbrev next : Call
    next = opening (row_at book k)

    named_closed : is_open (packed book k) (word (row_at book k) Row.instrument) ≡ false
    named_closed =
        not_passed _ (λ e. packed_closed k l used (subst (IsOpen (packed book k)) (row_word_at book k 0 (lit< tt)) (open_says (packed book k) _ e)))

    next_opens : ((answer (packed book k) next).number ≡ 0) × (after (packed book k) next ≡ packed book (suc k))
    next_opens =
        let is-sound = (sound_means (packed book k)).1 (packed_sound k (omega arith)) in
        let range = row_is (row_at book k) (used_row book k sound l used) in
        let lowest = packed_lowest k (omega arith) in
        let below : placed book k < 64 = omega (arith, used_few book k) in (
          ap (λ a. a.number) (answer_opens (packed book k) (row_at book k) (placed book k) is-sound range named_closed lowest below),
          after_opens (packed book k) (row_at book k) (placed book k) is-sound range named_closed lowest below ∙ sym (packed_next book k used),
        )

-- Calls that are done, and one more.
done_next : (book : List ℕ) (calls : List Call) (call : Call) → AllDone book calls → (answer (after_all book calls) call).number ≡ 0 → AllDone book (calls ++ call ∷ [])
done_next book [] call done e = (e, tt)
done_next book (c ∷ calls) call done e = (done.0, done_next (after book c) calls call done.1 e)

-- The openings of the used rows, one after the other.
all_open : (book : List ℕ) → IsSoundBook book → (k : ℕ) → k ≤ 64
    → let calls = map opening (used_rows book k) in
    AllDone empty_book calls × (after_all empty_book calls ≡ packed book k)
unfolding used_rows with_rows
all_open book sound zero l = (tt, refl)
all_open book sound (suc k) l = go (is_zeros (row_at book k)) refl (all_open book sound k (omega arith))
  where
    go : (free : Bool) → is_zeros (row_at book k) ≡ free
        → (AllDone empty_book (map opening (used_rows book k)) × (after_all empty_book (map opening (used_rows book k)) ≡ packed book k))
        → AllDone empty_book (map opening (used_rows book (suc k))) × (after_all empty_book (map opening (used_rows book (suc k))) ≡ packed book (suc k))
    go true e before = rw (used_free book k e) before
    go false e (done, left) =
        let opens = next_opens book sound k (omega arith) e in
        let calls = map opening (used_rows book k) in
        rw (used_next book k e, map-append) (
          done_next empty_book calls (opening (row_at book k)) done (ap (λ (b : List ℕ). (answer b (opening (row_at book k))).number) left ∙ opens.0),
          after_append empty_book calls (opening (row_at book k) ∷ []) ∙ ap (λ (b : List ℕ). after b (opening (row_at book k))) left ∙ opens.1 ∙ ap (with_rows empty_book 0) (used_next book k e),
        )

-- An instrument has the same row in both, or is open in neither.
module _ (book : List ℕ) (sound : IsSoundBook book) (i : ℕ) (positive : 0 < i) where
  kept_open : IsOpen book i → row_for (packed book 64) i ≡ row_for book i
  unfolding row_for
  kept_open o =
      let used = used_says book o.place (λ free. omega (arith, free 0 (lit< tt), o.there, positive)) in
      let c : Comes book 64 (placed book o.place) = record { from = o.place; before = o.below; used = used; to = refl } in
      let there = comes_word book sound.long 64 (lit≤ tt) (placed book o.place) c 0 (lit< tt) ∙ o.there in
      let below : placed book o.place < 64 = omega (arith, placed_below book o.place 64 o.below used, used_few book 64) in
      ap (row_at (packed book 64)) (holder_place (packed book 64) (packed_sound book sound 64 (lit≤ tt)) i positive (placed book o.place) below there)
      ∙ (packs book sound.long 64 (lit≤ tt)).moved o.place o.below used
      ∙ ap (row_at book) (sym (holder_place book sound i positive o.place o.below o.there))

  kept_closed : ¬ IsOpen book i → ¬ IsOpen (packed book 64) i
  kept_closed shut o =
      let c = came book sound.long 64 (lit≤ tt) o.place o.below (λ free. omega (arith, free 0 (lit< tt), o.there, positive)) in
      shut (record { place = c.from; below = c.before; there = sym (comes_word book sound.long 64 (lit≤ tt) o.place c 0 (lit< tt)) ∙ o.there })

  same_row : row_for (packed book 64) i ≡ row_for book i
  same_row = go (is_open book i) refl
    where
      go : (opened : Bool) → is_open book i ≡ opened → row_for (packed book 64) i ≡ row_for book i
      go true e = kept_open (open_says book i e)
      go false e =
          let shut : ¬ IsOpen book i = λ o. clash (is_open book i) (open_tells book i o) e in
          closed_row (packed book 64) i (packs book sound.long 64 (lit≤ tt)).long (kept_closed shut) ∙ sym (closed_row book i sound.long shut)

-- Two books of one length whose rows hold the same words are one.
pub same_books : (one other : List ℕ) → length one ≡ size → length other ≡ size → ((k place : ℕ) → k < 64 → place < width → word_at one k place ≡ word_at other k place) → one ≡ other
same_books one other long long' same =
    ext_get_or 0 one other (long ∙ sym long') (λ at l.
    let here : width * (at / width) + at % width ≡ at = div-add-mod at width in
    ap (λ (n : ℕ). get_or one n 0) (sym here) ∙ same (at / width) (at % width) (omega arith) (mod-lt at (lit< tt)) ∙ ap (λ (n : ℕ). get_or other n 0) here)

-- Where all rows before it are in use, a row stays where it is.
pub placed_same : (book : List ℕ) (k : ℕ) → ((j : ℕ) → j < k → is_zeros (row_at book j) ≡ false) → placed book k ≡ k
unfolding used_rows
placed_same book zero used = refl
placed_same book (suc k) used = placed_next book k (used k (omega arith)) ∙ ap suc (placed_same book k (λ j l. used j (omega arith)))

module _ (book : List ℕ) (long : length book ≡ size) (whole : HasNoGap book) where
  stays : (k : ℕ) → k < 64 → is_zeros (row_at book k) ≡ false → placed book k ≡ k
  stays k l used = placed_same book k (λ j m. used_says book j (λ free. used_tells book k used (whole j k m l free)))

  itself : packed book 64 ≡ book
  itself = same_books (packed book 64) book (packs book long 64 (lit≤ tt)).long long (λ k place l q. go k place l q (is_zeros (row_at book k)) refl)
    where
      go : (k place : ℕ) → k < 64 → place < width → (free : Bool) → is_zeros (row_at book k) ≡ free → word_at (packed book 64) k place ≡ word_at book k place
      go k place l q false used = comes_word book long 64 (lit≤ tt) k (record { from = k; before = l; used = used; to = stays k l used }) place q
      go k place l q true free = (packs book long 64 (lit≤ tt)).free k (past (dec_le (placed book 64) k)) l place q ∙ sym (free_says book k free place q)
        where
          past : Dec (placed book 64 ≤ k) → placed book 64 ≤ k
          past (yes h) = h
          past (no n) =
              let c = comes book 64 k (omega (arith, n)) in
              absurd (clash (is_zeros (row_at book k)) free (ap (λ (k : ℕ). is_zeros (row_at book k)) (sym c.to ∙ stays c.from c.before c.used) ∙ c.used))

-- The sheet is accepted on the empty book, which then has the book that its calls leave.
morning_left : (book : List ℕ) → is_sound book ≡ true → next_morning book ≡ packed book 64
morning_left book sound =
    let read = evening_is_read book sound in
    let found = ap (λ f. f.number) (refused_sheets.found empty_book (evening_sheet book) empty_sound ∙ read.0) in
    (lines_follow.accepted empty_book (evening_sheet book) found).1 ∙ ap (after_all empty_book) read.1 ∙ (all_open book (sound_says book sound) 64 (lit≤ tt)).1

pub night_keeps : NightKeeps
unfolding gaps_closed
night_keeps book sound =
    let left = morning_left book sound in
    let says = sound_says book sound in
    record {
      opens = subst (AllDone empty_book) (sym (evening_is_read book sound).1) (all_open book says 64 (lit≤ tt)).0;
      sound = ap is_sound left ∙ (sound_means (packed book 64)).1 (packed_sound book says 64 (lit≤ tt));
      closed = left;
      instruments = λ i positive. ap (λ (book : List ℕ). row_for book i) left ∙ same_row book says i positive;
      itself = λ whole. left ∙ itself book (sound_long book sound) whole;
    }
