-- A sound book, both ways: from its test to its rows and from its rows to its test. Assumes nothing.
use mathlib.Core.Path.{◌≡◌, refl, sym, ap, subst, subst⁻¹, ◌∙◌}
use mathlib.Core.Bool.{true}
use mathlib.Core.List.{List}
use mathlib.Core.Logic.{◌⊎◌, inl, inr, ⊎_elim}
use Prim.Native.Nat.{ℕ, ◌<◌}
use native.Mathlib.Decide.{ℕ_discrete}
use native.Mathlib.Omega.{arith}
use borrow.Author.Tests.{eqb-true, eq-eqb}
use lib.Dec.{eqb, lit<}
use lib.ListN.{length, get_or}
use Rattle.paper.specs.Row.{instrument, word, row_in_range, width}
use Rattle.paper.specs.Book.{rows, row_at, with_row, is_zeros, place_for, free_place, all_below, is_row_sound, is_sound, size}
use Rattle.paper.specs.Values.{words}
use Rattle.paper.specs.Promises.Ranges.{IsRow}
use Rattle.paper.specs.Promises.Book.{word_at, Holds, IsFree, IsUsed, IsSoundBook, SoundMeans}
use Rattle.paper.proofs.Tests.{and_left, and_right, and_both, or_cases, or_left, or_right}
use Rattle.paper.proofs.Ranges.{row_of, row_is}
use Rattle.paper.proofs.Found.{first_least, first_same}
use Rattle.paper.proofs.Book.{below_all, all_below_lem, row_word_at, row_holds, held_row, free_says, free_tells, place_first, free_first, written_long, written_word, written_other, written_holds}

-- A used row's instrument is not 0, so it is not free.
pub used_positive : (book : List ℕ) (k : ℕ) → IsUsed book k → 0 < word_at book k 0
used_positive book k u = omega (arith, u.holds.each 0 (lit< tt), u.in_range.instrument.not_below)

-- A row in range is used, and a used row is in range.
pub used_of : (book : List ℕ) (k : ℕ) → length book ≡ size → k < 64 → IsRow (row_at book k) → IsUsed book k
used_of book k long l r =
    record {
      values = r.values;
      holds = subst (Holds book k) r.in_order (row_holds book long k l);
      in_range = r.in_range;
    }

pub used_is : (book : List ℕ) (k : ℕ) → length book ≡ size → k < 64 → IsUsed book k → IsRow (row_at book k)
used_is book k long l u =
    record { values = u.values; in_order = held_row book long k (words u.values) l u.holds; in_range = u.in_range }

module _ (book : List ℕ) (sound : is_sound book ≡ true) where
  pub sound_long : length book ≡ size
  unfolding is_sound
  sound_long = eqb-true (length book) size (and_left (eqb (length book) size) (all_below rows (is_row_sound book)) sound)

  row_test : (k : ℕ) → k < 64 → is_row_sound book k ≡ true
  unfolding is_sound
  row_test k l = below_all rows (is_row_sound book) (and_right (eqb (length book) size) (all_below rows (is_row_sound book)) sound) k l

  -- Each row is free, or it is used and the first that holds its instrument.
  row_cases : (k : ℕ) → k < 64 → IsFree book k ⊎ (IsUsed book k × (place_for book (word_at book k 0) ≡ k))
  unfolding is_row_sound
  row_cases k l =
      ⊎_elim (λ e. inl (free_says book k e))
      (λ e. inr (
        used_of book k sound_long l (row_of (row_at book k) (and_left (row_in_range (row_at book k)) _ e)),
        ap (place_for book) (sym (row_word_at book k 0 (lit< tt))) ∙ eqb-true (place_for book (word (row_at book k) instrument)) k (and_right (row_in_range (row_at book k)) _ e),
      ))
      (or_cases (is_zeros (row_at book k)) _ (row_test k l))

  used_first : (k : ℕ) → k < 64 → IsUsed book k → place_for book (word_at book k 0) ≡ k
  used_first k l u =
      ⊎_elim (λ free. absurd (omega (arith, used_positive book k u, free 0 (lit< tt)))) (λ both. both.1) (row_cases k l)

  pub sound_says : IsSoundBook book
  sound_says =
      record {
        long = sound_long;
        rows = λ k l. ⊎_elim inl (λ both. inr both.0) (row_cases k l);
        once = λ j k l m u w same. sym (used_first j l u) ∙ ap (place_for book) same ∙ used_first k m w;
      }

module _ (book : List ℕ) (sound : IsSoundBook book) where
  -- A row that holds an instrument is used.
  pub holder_used : (i : ℕ) → 0 < i → (k : ℕ) → k < 64 → word_at book k 0 ≡ i → IsUsed book k
  holder_used i positive k l e = ⊎_elim (λ free. absurd (omega (arith, free 0 (lit< tt)))) (λ u. u) (sound.rows k l)

  -- No other row holds the instrument that a row holds.
  pub holder_alone : (i : ℕ) → 0 < i → (j k : ℕ) → j < 64 → k < 64 → word_at book j 0 ≡ i → word_at book k 0 ≡ i → j ≡ k
  holder_alone i positive j k l m e f =
      sound.once j k l m (holder_used i positive j l e) (holder_used i positive k m f) (e ∙ sym f)

  -- So the row that holds it is its place.
  pub holder_place : (i : ℕ) → 0 < i → (k : ℕ) → k < 64 → word_at book k 0 ≡ i → place_for book i ≡ k
  holder_place i positive k l e =
      let f = place_first book i in
      let below : place_for book i < 64 = omega (arith, first_least 64 (λ k. word_at book k 0 ≡ i) k (place_for book i) f e) in
      holder_alone i positive (place_for book i) k below l (f.holds below) e

  -- The lowest free row is the first whose instrument is 0.
  pub free_place_lem : free_place book ≡ place_for book 0
  free_place_lem =
      let f = place_first book 0 in
      first_same 64 (IsFree book) (free_place book) (place_for book 0) (free_first book)
      (record {
        not_past = f.not_past;
        holds = λ l. ⊎_elim (λ free. free) (λ u. absurd (omega (arith, used_positive book (place_for book 0) u, f.holds l))) (sound.rows (place_for book 0) l);
        none_before = λ j l free. f.none_before j l (free 0 (lit< tt));
      })

  pub sound_tells : is_sound book ≡ true
  unfolding is_sound is_row_sound
  sound_tells =
      and_both (eqb (length book) size) (all_below rows (is_row_sound book)) (eq-eqb (length book) size sound.long)
      (all_below_lem rows (is_row_sound book) (λ k l.
      ⊎_elim (λ free. or_left (is_zeros (row_at book k)) _ (free_tells book k free))
      (λ u. or_right (is_zeros (row_at book k)) _
      (and_both (row_in_range (row_at book k)) _ (row_is (row_at book k) (used_is book k sound.long l u))
      (eq-eqb (place_for book (word (row_at book k) instrument)) k
      (ap (place_for book) (row_word_at book k 0 (lit< tt)) ∙ holder_place (word_at book k 0) (used_positive book k u) k l refl))))
      (sound.rows k l)))

pub sound_means : SoundMeans
sound_means book = (sound_says book, sound_tells book)

-- What may be written as row k: zeros, or a row in range with an instrument that no other row holds.
pub data MayStand (book : List ℕ) (k : ℕ) (ws : List ℕ) : Type 0 where
  zeros : ((place : ℕ) → place < width → get_or ws place 0 ≡ 0) → MayStand book k ws
  alone : IsRow ws → ((j : ℕ) → j < 64 → ¬ (j ≡ k) → ¬ (word_at book j 0 ≡ word ws instrument)) → MayStand book k ws

-- It leaves a sound book sound.
module _ (book : List ℕ) (k : ℕ) (ws : List ℕ) (sound : IsSoundBook book) (below : k < 64) (wide : length ws ≡ width) where
  abbrev left : List ℕ
  left = with_row book k ws

  -- Another row is free or used as it was.
  stays_free : (j : ℕ) → ¬ (j ≡ k) → IsFree book j → IsFree left j
  stays_free j n free place l = written_other book k ws j place wide n l ∙ free place l

  moved_used : (from to : List ℕ) (j : ℕ) → ((place : ℕ) → place < width → word_at to j place ≡ word_at from j place) → IsUsed from j → IsUsed to j
  moved_used from to j same u =
      record {
        values = u.values;
        holds = record { long = u.holds.long; each = λ place l. same place l ∙ u.holds.each place l };
        in_range = u.in_range;
      }

  stays_used : (j : ℕ) → ¬ (j ≡ k) → IsUsed book j → IsUsed left j
  stays_used j n u = moved_used book left j (λ place l. written_other book k ws j place wide n l) u

  was_used : (j : ℕ) → ¬ (j ≡ k) → IsUsed left j → IsUsed book j
  was_used j n u = moved_used left book j (λ place l. sym (written_other book k ws j place wide n l)) u

  first_word : word_at left k 0 ≡ word ws instrument
  first_word = written_word book k ws 0 sound.long below wide (lit< tt)

  here : MayStand book k ws → IsFree left k ⊎ IsUsed left k
  here (zeros each) = inl (λ place l. written_word book k ws place sound.long below wide l ∙ each place l)
  here (alone r none) =
      inr (record {
        values = r.values;
        holds = subst (Holds left k) r.in_order (written_holds book k ws sound.long below wide);
        in_range = r.in_range;
      })

  -- No other row has the instrument that is written.
  apart : MayStand book k ws → (j : ℕ) → j < 64 → ¬ (j ≡ k) → IsUsed left k → word_at left j 0 ≡ word_at left k 0 → ⊥
  apart (zeros each) j l n u e = omega (arith, used_positive left k u, first_word, each 0 (lit< tt))
  apart (alone r none) j l n u e = none j l n (sym (written_other book k ws j 0 wide n (lit< tt)) ∙ e ∙ first_word)

  pub write_stays : MayStand book k ws → IsSoundBook (with_row book k ws)
  write_stays w =
      record {
        long = written_long book k ws ∙ sound.long;
        rows = λ j l. row_at_lem j l (ℕ_discrete j k);
        once = λ i j l m u t e. once_at i j l m u t e (ℕ_discrete i k) (ℕ_discrete j k);
      }
    where
      row_at_lem : (j : ℕ) → j < 64 → Dec (j ≡ k) → IsFree left j ⊎ IsUsed left j
      row_at_lem j l (yes e) = subst⁻¹ (λ (j : ℕ). IsFree left j ⊎ IsUsed left j) e (here w)
      row_at_lem j l (no n) = ⊎_elim (λ free. inl (stays_free j n free)) (λ u. inr (stays_used j n u)) (sound.rows j l)

      once_at : (i j : ℕ) → i < 64 → j < 64 → IsUsed left i → IsUsed left j → word_at left i 0 ≡ word_at left j 0 → Dec (i ≡ k) → Dec (j ≡ k) → i ≡ j
      once_at i j l m u t e (yes p) (yes q) = p ∙ sym q
      once_at i j l m u t e (yes p) (no q) =
          absurd (apart w j m q (subst (IsUsed left) p u) (sym e ∙ ap (λ (i : ℕ). word_at left i 0) p))
      once_at i j l m u t e (no p) (yes q) =
          absurd (apart w i l p (subst (IsUsed left) q t) (e ∙ ap (λ (j : ℕ). word_at left j 0) q))
      once_at i j l m u t e (no p) (no q) =
          sound.once i j l m (was_used i p u) (was_used j q t)
          (sym (written_other book k ws i 0 wide p (lit< tt)) ∙ e ∙ written_other book k ws j 0 wide q (lit< tt))
