-- The row of an instrument in a sound book: its values, that a row written for it is its row, and that every other instrument keeps its own. Assumes nothing.
use mathlib.Core.Path.{◌≡◌, sym, ap, subst⁻¹, ◌∙◌}
use mathlib.Core.List.{List, []}
use Prim.Native.Nat.{ℕ, ◌*◌, ◌≤◌, ◌<◌}
use native.Mathlib.Decide.{dec_le, ℕ_discrete}
use native.Mathlib.Omega.{arith}
use lib.Dec.{lit<}
use lib.ListN.{length, take, drop_of_length-le}
use lib.Seq.{take-nil}
use Rattle.paper.specs.Row.{instrument, width, word}
use Rattle.paper.specs.Book.{row_at, with_row, place_for, row_for, size}
use Rattle.paper.specs.Values.{Values, words}
use Rattle.paper.specs.Promises.Ranges.{AreValues, IsRow}
use Rattle.paper.specs.Promises.Book.{word_at, IsOpen, IsSoundBook}
use Rattle.paper.proofs.Found.{first_same}
use Rattle.paper.proofs.Book.{held_row, place_first, place_below, written_long, written_word, written_other, written_row, written_others}
use Rattle.paper.proofs.Sound.{holder_used, holder_alone, holder_place, alone, write_stays}

-- There is nothing past the last row.
pub past_rows : (book : List ℕ) (k : ℕ) → length book ≡ size → 64 ≤ k → row_at book k ≡ []
unfolding row_at
past_rows book k long l = ap (take width) (drop_of_length-le book {i = k * width} (omega arith)) ∙ take-nil width

-- A row of values in range has its width.
pub words_long : (row : List ℕ) → IsRow row → length row ≡ width
words_long row r = ap length r.in_order

-- The values that a sound book keeps for an open instrument.
pub record RowOf (book : List ℕ) (i : ℕ) : Type 0 where
  pub values : Values
  pub keeps : row_for book i ≡ words values
  pub in_range : AreValues values
  pub holds : values.instrument ≡ i

module _ (book : List ℕ) (i : ℕ) (sound : IsSoundBook book) (positive : 0 < i) (opened : IsOpen book i) where
  pub place_holds : word_at book (place_for book i) 0 ≡ i
  place_holds = (place_first book i).holds (place_below book i opened)

  pub row_of_open : RowOf book i
  unfolding row_for
  row_of_open =
      let below = place_below book i opened in
      let u = holder_used book sound i positive (place_for book i) below place_holds in
      record {
        values = u.values;
        keeps = held_row book sound.long (place_for book i) (words u.values) below u.holds;
        in_range = u.in_range;
        holds = sym (u.holds.each 0 (lit< tt)) ∙ place_holds;
      }

  -- No other row holds it.
  pub place_alone : (j : ℕ) → j < 64 → ¬ (j ≡ place_for book i) → ¬ (word_at book j 0 ≡ i)
  place_alone j l n e = n (holder_alone book sound i positive j (place_for book i) l (place_below book i opened) e place_holds)

-- A row in range written where no other row holds its instrument: the book stays sound, and the row is the instrument's.
module _ (book : List ℕ) (k : ℕ) (ws : List ℕ) (sound : IsSoundBook book) (below : k < 64) (r : IsRow ws) (none : (j : ℕ) → j < 64 → ¬ (j ≡ k) → ¬ (word_at book j 0 ≡ word ws instrument)) where
  pub written_sound : IsSoundBook (with_row book k ws)
  written_sound = write_stays book k ws sound below (words_long ws r) (alone r none)

  pub written_place : place_for (with_row book k ws) (word ws instrument) ≡ k
  written_place =
      holder_place (with_row book k ws) written_sound (word ws instrument) some k below (written_word book k ws 0 sound.long below (words_long ws r) (lit< tt))
    where
      some : 0 < word ws instrument
      some = subst⁻¹ (λ (row : List ℕ). 0 < word row instrument) r.in_order r.in_range.instrument.not_below

  pub written_for : row_for (with_row book k ws) (word ws instrument) ≡ ws
  unfolding row_for
  written_for = ap (row_at (with_row book k ws)) written_place ∙ written_row book k ws sound.long below (words_long ws r)

-- An instrument that stands neither in the row written nor in what is written keeps its place and its row, and is open only where it was.
module _ (book : List ℕ) (k : ℕ) (ws : List ℕ) (i : ℕ) (long : length book ≡ size) (below : k < 64) (wide : length ws ≡ width) (was-not : ¬ (word_at book k 0 ≡ i)) (is-not : ¬ (word ws instrument ≡ i)) where
  abbrev left : List ℕ
  left = with_row book k ws

  same_holder : (j : ℕ) → (word_at left j 0 ≡ i → word_at book j 0 ≡ i) × (word_at book j 0 ≡ i → word_at left j 0 ≡ i)
  same_holder j = go (ℕ_discrete j k)
    where
      go : Dec (j ≡ k) → (word_at left j 0 ≡ i → word_at book j 0 ≡ i) × (word_at book j 0 ≡ i → word_at left j 0 ≡ i)
      go (yes e) = (
        λ h. absurd (is-not (sym (written_word book k ws 0 long below wide (lit< tt)) ∙ sym (ap (λ (j : ℕ). word_at left j 0) e) ∙ h)),
        λ h. absurd (was-not (sym (ap (λ (j : ℕ). word_at book j 0) e) ∙ h)),
      )
      go (no n) = let same = written_other book k ws j 0 wide n (lit< tt) in (λ h. sym same ∙ h, λ h. same ∙ h)

  pub same_place : place_for left i ≡ place_for book i
  same_place =
      first_same 64 (λ j. word_at book j 0 ≡ i) (place_for left i) (place_for book i)
      (record {
        not_past = (place_first left i).not_past;
        holds = λ l. (same_holder (place_for left i)).0 ((place_first left i).holds l);
        none_before = λ j l h. (place_first left i).none_before j l ((same_holder j).1 h);
      })
      (place_first book i)

  pub stays_closed : ¬ IsOpen book i → ¬ IsOpen left i
  stays_closed closed o = closed (record { place = o.place; below = o.below; there = (same_holder o.place).0 o.there })

  pub others_keep : row_for left i ≡ row_for book i
  unfolding row_for
  others_keep = ap (row_at left) same_place ∙ go (dec_le 64 (place_for book i))
    where
      go : Dec (64 ≤ place_for book i) → row_at left (place_for book i) ≡ row_at book (place_for book i)
      go (yes l) = past_rows left (place_for book i) (written_long book k ws ∙ long) l ∙ sym (past_rows book (place_for book i) long l)
      go (no n) =
          let l : place_for book i < 64 = omega (arith, n) in
          written_others book k ws (place_for book i) long wide
          (λ e. was-not (sym (ap (λ (j : ℕ). word_at book j 0) e) ∙ (place_first book i).holds l)) l
