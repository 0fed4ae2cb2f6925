-- The evening sheet line by line: which rows have one, how long the lines are, and the parts of the sheet. Assumes nothing.
use mathlib.Core.Path.{◌≡◌, refl, sym, ap, ap₂, ◌∙◌}
use mathlib.Core.Logic.{⊎_elim}
use mathlib.Core.Bool.{Bool, true, false, cond}
use mathlib.Core.List.{List, [], ◌∷◌, ◌++◌, append-nil, append_assoc}
use Prim.Native.Nat.{ℕ, zero, suc, ◌+◌, ◌*◌, ◌-◌, ◌≤◌, ◌<◌}
use native.Mathlib.Nat.{eq-or-lt_of_le, not-suc-le-zero}
use native.Mathlib.Omega.{arith}
use borrow.Author.Tests.{eqb-true, eq-eqb}
use lib.Dec.{eqb, lit<}
use lib.ListN.{length, get_or, length-append}
use Rattle.std.specs.Prelude.{sum_by}
use Rattle.std.specs.List.{between}
use Rattle.std.proofs.lemmas.Slice.{first_rest}
use Rattle.std.proofs.lemmas.List.Sums.{sum_by-cons}
use Rattle.paper.specs.Row.{width}
use Rattle.paper.specs.Book.{rows, row_at, is_zeros, is_sound}
use Rattle.paper_sheets.specs.Sheet.{line_feed, decimal, number, more, count_form, opening_form, fields_text}
use Rattle.paper_sheets.specs.Written.{written, written_rows, written_section, sheet_of}
use Rattle.paper_sheets.specs.Evening.{used_rows, evening_sheet}
use Rattle.paper.proofs.Book.{row_word_at, row_start, row_long_at, zeros_say, free_tells}
use Rattle.paper.proofs.Sound.{sound_long, sound_says, used_positive}
use Rattle.paper.proofs.Tests.{same_test}
use Rattle.paper_sheets.proofs.Evening.{rows_append, row_written, none_long, evening_fits}
use Rattle.lines.specs.declared.Text.{Text}
use Rattle.lines.specs.Puts.{HoldsMore}
use Rattle.lines.specs.Writes.{spaced}
use Rattle.lines.proofs.Texts.{fields_long}
use Rattle.evening_sheet.specs.Lines.{line_at, lines_below}

-- A row of a sound book is free where its instrument is 0.
pub free_start : (book : List ℕ) (k : ℕ) → is_sound book ≡ true → k < 64 → is_zeros (row_at book k) ≡ eqb (get_or book (k * width) 0) 0
free_start book k sound l =
    same_test _ _
    (λ free. eq-eqb _ _ (sym (row_start book k) ∙ zeros_say (row_at book k) free 0))
    (λ zero. ⊎_elim (free_tells book k) (λ used. absurd (omega (arith, eqb-true (get_or book (k * width) 0) 0 zero, row_start book k, row_word_at book k 0 (lit< tt), used_positive book k used))) ((sound_says book sound).rows k l))

-- A row's line has as many bytes as its words with a space before each: the first has none, and LF stands behind the last.
pub row_long : (row : List ℕ) → length row ≡ width → length (written opening_form row) ≡ length (spaced row)
unfolding spaced
row_long [] long = absurd (omega (arith, long))
row_long (n ∷ ns) long =
    omega (arith, ap length (row_written n ns long), length-append (decimal n) (fields_text ns), fields_long ns, length-append (decimal n) (spaced ns))

-- Words with a space before each have as many bytes as their digits, and one more for each.
pub spaced_sum : (ws : List ℕ) → length (spaced ws) ≡ sum_by (λ w. length (decimal w) + 1) ws
unfolding spaced
spaced_sum [] = refl
spaced_sum (w ∷ ws) =
    omega (arith, spaced_sum ws, length-append (decimal w) (spaced ws), sum_by-cons (λ w. length (decimal w) + 1) w ws)

-- The line of a row that is free, and of one that is used.
module _ (book : List ℕ) (k : ℕ) where
  pub line_free : is_zeros (row_at book k) ≡ true → line_at book k ≡ []
  unfolding line_at
  line_free free = rw free

  pub line_used : is_zeros (row_at book k) ≡ false → line_at book k ≡ written opening_form (row_at book k)
  unfolding line_at
  line_used used = rw used

-- The lines of one row more, and room for it.
pub lines_next : (book : List ℕ) (k : ℕ) → lines_below book (suc k) ≡ lines_below book k ++ line_at book k
unfolding used_rows lines_below line_at
lines_next book k = rows_append opening_form (used_rows book k) _ ∙ ap (λ (l : List ℕ). lines_below book k ++ l) (go (is_zeros (row_at book k)))
  where
    go : (free : Bool) → written_rows opening_form (cond free [] (row_at book k ∷ [])) ≡ cond free [] (written opening_form (row_at book k))
    go true = refl
    go false = append-nil (written opening_form (row_at book k))

pub lines_long : (book : List ℕ) (k : ℕ) → length (lines_below book (suc k)) ≡ length (lines_below book k) + length (line_at book k)
lines_long book k = ap length (lines_next book k) ∙ length-append (lines_below book k) (line_at book k)

pub lines_room : (book : List ℕ) (k n : ℕ) → k < n → length (lines_below book k) + length (line_at book k) ≤ length (lines_below book n)
lines_room book k zero l = absurd (not-suc-le-zero l)
lines_room book k (suc n) l =
    let all = lines_long book n in
    ⊎_elim (λ (e : k ≡ n). rw e (omega arith)) (λ (less : k < n). omega (arith, lines_room book k n less)) (eq-or-lt_of_le (omega arith))

-- A row of a sound book as it is lent, and its line as it is written: its first word, and the others.
module _ (book : List ℕ) {row : List ℕ} {k : ℕ} (sound : is_sound book ≡ true) (below : k < rows) (is : row ≡ row_at book k) where
  pub lent_long : length row ≡ width
  lent_long = ap length is ∙ row_long_at book (sound_long book sound) k below

  pub line_lent : is_zeros (row_at book k) ≡ false → line_at book k ≡ written (number ∷ more (length (between 1 (length row) row))) (get_or row 0 0 ∷ between 1 (length row) row)
  line_lent used =
      let words = first_rest row 0 (omega (arith, lent_long)) in
      let others : width - 1 ≡ length (between 1 (length row) row) = omega (arith, lent_long, ap length words) in
      line_used book k used ∙ ap (written opening_form) (sym is ∙ words)
      ∙ ap (λ (n : ℕ). written (number ∷ more n) (get_or row 0 0 ∷ between 1 (length row) row)) others

-- The sheet, by its count of rows: this and the rest, which is the lines and two counts of 0. And its length.
abbrev pub none : List ℕ
none = written count_form (0 ∷ [])

abbrev pub rest : List ℕ → List ℕ
rest book = lines_below book rows ++ (none ++ none)

module _ (book : List ℕ) (n : ℕ) (counts : n ≡ length (used_rows book rows)) where
  pub sheet_parts : evening_sheet book ≡ written count_form (n ∷ []) ++ rest book
  unfolding evening_sheet sheet_of lines_below
  sheet_parts =
      ap₂ (λ (days corridors : List ℕ). written_section opening_form (used_rows book rows) ++ (days ++ corridors)) (append-nil none) (append-nil none)
      ∙ append_assoc (written count_form (length (used_rows book rows) ∷ [])) (lines_below book rows) (none ++ none)
      ∙ ap (λ (m : ℕ). written count_form (m ∷ []) ++ rest book) (sym counts)

  pub sheet_long : length (evening_sheet book) ≡ length (decimal n) + length (lines_below book rows) + 5
  sheet_long =
      let two : length none ≡ 2 = ap length (sym (append-nil none)) ∙ none_long.0 in
      omega (
        arith,
        ap length sheet_parts,
        length-append (written count_form (n ∷ [])) (rest book),
        length-append (decimal n) (line_feed ∷ []),
        length-append (lines_below book rows) (none ++ none),
        length-append none none,
        two,
      )

  pub sheet_room : {t : Text} → t.at ≡ 0 → length (evening_sheet book) ≤ length t.out.now → HoldsMore t (written count_form (n ∷ []) ++ rest book)
  sheet_room start room = record { holds = omega (arith, start, room, ap length sheet_parts) }

pub lines_fit : (book : List ℕ) → is_sound book ≡ true → length (lines_below book rows) ≤ 10375
lines_fit book sound = omega (arith, sheet_long book _ refl, evening_fits book sound)
