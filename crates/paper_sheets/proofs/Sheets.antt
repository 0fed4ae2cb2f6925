-- The laws of a sheet: the one written from rows in its form is read as them, one that is accepted is the one written from its rows, and no two ask the same. Assumes nothing.
use mathlib.Core.Path.{◌≡◌, refl, sym, ap, subst, subst⁻¹, ◌∙◌, fun_ext}
use mathlib.Core.Logic.{inl, inr}
use mathlib.Core.Bool.{Bool, true, false, cond}
use mathlib.Core.List.{List, [], ◌∷◌, ◌++◌, map, map-map, append_assoc, append-nil}
use Prim.Native.Nat.{ℕ, zero, suc, ◌+◌, ◌*◌, ◌^◌, ◌≤◌, ◌<◌}
use native.Mathlib.Nat.{suc-mul, suc-ne-zero}
use native.Mathlib.Omega.{arith}
use borrow.Author.Tests.{leb-true, le-leb}
use lib.Dec.{leb}
use lib.IntN.{ℤ, pos, negsuc}
use lib.ListN.{length, drop, length-append, length-map, drop_of_length-le}
use lib.Seq.{append_snoc, drop-cons, take_at, drop_at}
use Rattle.paper.specs.Row as Row
use Rattle.paper.specs.Row.{word}
use Rattle.paper.specs.Rates.{Day}
use Rattle.paper.specs.Calls.{Call, opening, closing, parameters, halt, day, why, corridor, bond}
use Rattle.paper_sheets.specs.Sheet.{line_feed, most_bytes, most_digits, decimal, is_digit, value_from, Item, Reading, stopped, at, read_line, count_form, opening_form, day_form, corridor_form, day_call, rate, corridor_call, Section, openings, days, corridors, sections, Progress, broken, reached, after_line, after_lines, read_rows, read_section, read_nothing, read_sections, read_sheet, nowhere, finding_of, finding, cut, calls_of, asks, width_of}
use Rattle.paper_sheets.specs.Written.{written, written_rows, written_section, Asked, Rows, day_numbers, sign_of, size_of, asked_numbers, sheet_of, calls_in, AreShort, InForm}
use Rattle.paper.specs.Each.{Each}
use Rattle.paper_sheets.specs.Promises.Sheet.{WrittenIsRead, IsWritten, ReadIsWritten, NoTwoAsk}
use Rattle.paper_sheets.proofs.Digits.{decimal_value}
use Rattle.paper_sheets.proofs.Lines.{IsSign, Fits, fits_width, fits_short, short_fits, is_separated, read_written, written_read}

-- A fact of each element follows from one, and of what each is mapped to.
pub each_of : {A : Type 0} (P Q : A → Type 0) → ((x : A) → P x → Q x) → (xs : List A) → Each P xs → Each Q xs
each_of P Q f [] e = tt
each_of P Q f (x ∷ xs) e = (f x e.0, each_of P Q f xs e.1)

pub each_map : {A B : Type 0} (g : A → B) (P : A → Type 0) (Q : B → Type 0) → ((x : A) → P x → Q (g x)) → (xs : List A) → Each P xs → Each Q (map g xs)
each_map g P Q f [] e = tt
each_map g P Q f (x ∷ xs) e = (f x e.0, each_map g P Q f xs e.1)

-- The numbers of rows, one row after the other.
abbrev pub flat : List (List ℕ) → List ℕ
flat [] = []
flat (row ∷ rows) = row ++ flat rows

pub flat_length : (width : ℕ) (rows : List (List ℕ)) → Each (λ row. length row ≡ width) rows → length (flat rows) ≡ length rows * width
flat_length width [] e = omega arith
flat_length width (row ∷ rows) e = rw length-append (omega (arith, suc-mul (length rows) width, e.0, flat_length width rows e.1))

pub cut_flat : (width : ℕ) (rows : List (List ℕ)) (more : List ℕ) → Each (λ row. length row ≡ width) rows → cut width (length rows) (flat rows ++ more) ≡ rows
unfolding cut
cut_flat width [] more e = refl
cut_flat width (row ∷ rows) more e =
    rw (append_assoc row (flat rows) more, take_at row (flat rows ++ more) width e.0, drop_at row (flat rows ++ more) width e.0)
    (ap (λ (rs : List (List ℕ)). row ∷ rs) (cut_flat width rows more e.1))

-- Rows, and a section, that are written are read.
pub read_rows_lem : (form : List Item) → is_separated form ≡ true → (rows : List (List ℕ)) (line : ℕ) (ns rest : List ℕ) → Each (Fits form) rows → read_rows form (length rows) line ns (written_rows form rows ++ rest) ≡ reached (line + length rows) (ns ++ flat rows) rest
unfolding read_rows
read_rows_lem form s [] line ns rest e = rw append-nil (ap (λ (n : ℕ). reached n ns rest) (omega arith))
read_rows_lem form s (row ∷ rows) line ns rest e =
    let left = written_rows form rows ++ rest in
    rw (append_assoc (written form row) (written_rows form rows) rest, read_written form row ns left e.0 s)
    (read_rows_lem form s rows (suc line) (ns ++ row) rest e.1
    ∙ (λ i. reached (count i) (append_assoc ns row (flat rows) i) rest))
  where
    count : suc line + length rows ≡ line + suc (length rows)
    count = omega arith

-- The count line of a section, before its rows.
count_value : (n : ℕ) (rest : List ℕ) → value_from 0 (written count_form (n ∷ []) ++ rest) ≡ n
unfolding is_digit
count_value n rest = rw (append_assoc (decimal n) (line_feed ∷ []) rest) (decimal_value n (line_feed ∷ rest) refl)

module _ (s : Section) (apart : is_separated s.form ≡ true) where
  pub read_section_lem : (rows : List (List ℕ)) (line : ℕ) (ns rest : List ℕ) → Each (Fits s.form) rows → length rows ≤ s.most → length rows < 10 ^ most_digits → read_section s line ns (written_section s.form rows ++ rest) ≡ reached (suc line + length rows) (ns ++ length rows ∷ flat rows) rest
  unfolding read_section
  read_section_lem rows line ns rest e most short =
      let n = length rows in
      let left = written_rows s.form rows ++ rest in
      rw (
        append_assoc (written count_form (n ∷ [])) (written_rows s.form rows) rest,
        read_written count_form (n ∷ []) ns left (short, tt) refl,
        count_value n left,
        le-leb n s.most most,
      )
      (read_rows_lem s.form apart rows (suc line) (ns ++ n ∷ []) rest e ∙ ap (λ (more : List ℕ). reached (suc line + n) more rest) (append_snoc ns n (flat rows)))

  pub read_sections_lem : (ss : List Section) (rows : List (List ℕ)) (line : ℕ) (ns rest : List ℕ) → Each (Fits s.form) rows → length rows ≤ s.most → length rows < 10 ^ most_digits → read_sections (s ∷ ss) line ns (written_section s.form rows ++ rest) ≡ read_sections ss (suc line + length rows) (ns ++ length rows ∷ flat rows) rest
  unfolding read_sections
  read_sections_lem ss rows line ns rest e most short = ap (after_lines (read_sections ss)) (read_section_lem rows line ns rest e most short)

-- The calls of a section's numbers are those of its rows.
pub calls_section : (s : Section) (ss : List Section) (rows : List (List ℕ)) (more : List ℕ) → Each (λ row. length row ≡ width_of s) rows → calls_of (s ∷ ss) (length rows ∷ (flat rows ++ more)) ≡ map s.call rows ++ calls_of ss more
unfolding calls_of
calls_section s ss rows more e = rw (cut_flat (width_of s) rows more e, drop_at (flat rows) more _ (flat_length (width_of s) rows e))

-- A rate is that of its sign and size, and these fit.
rate_of : (z : ℤ) → rate (sign_of z) (size_of z) ≡ z
rate_of (pos n) = refl
rate_of (negsuc n) = refl

sign_of_lem : (z : ℤ) → IsSign (sign_of z) (size_of z)
sign_of_lem (pos n) = inl refl
sign_of_lem (negsuc n) = inr (refl, suc-ne-zero n)

-- Rows in the sheet's form fit the forms of their lines.
openings_fit : (rows : List (List ℕ)) → Each (λ row. length row ≡ Row.width) rows → Each AreShort rows → Each (Fits opening_form) rows
openings_fit [] wide short = tt
openings_fit (row ∷ rows) wide short = (short_fits opening_form row refl wide.0 short.0, openings_fit rows wide.1 short.1)

asked_fits : (a : Asked) → AreShort (asked_numbers a) → Fits corridor_form (asked_numbers a)
asked_fits a h = (h.0, (h.1.0, (sign_of_lem a.terms.lower, (h.1.1.1.0, (sign_of_lem a.terms.upper, h.1.1.1.1.1)))))

-- The call of a corridor's row is that of its numbers.
abbrev asking : Asked → Call
asking a = corridor a.instrument a.terms

asked_call : (a : Asked) → corridor_call (asked_numbers a) ≡ asking a
asked_call a =
    λ i.
    let t = a.terms in
    corridor a.instrument (record {
      k = t.k;
      lower = rate_of t.lower i;
      upper = rate_of t.upper i;
      shift = t.shift;
      x = t.x;
      rise = t.rise;
      fall = t.fall;
      tick = t.tick;
    })

-- The numbers of a sheet's rows, with the counts of its sections.
abbrev day_rows : Rows → List (List ℕ)
day_rows rows = map day_numbers rows.days

abbrev asked_rows : Rows → List (List ℕ)
asked_rows rows = map asked_numbers rows.corridors

abbrev numbers_of : Rows → List ℕ
numbers_of rows =
    length rows.openings
    ∷ (flat rows.openings ++ length (day_rows rows) ∷ flat (day_rows rows) ++ length (asked_rows rows) ∷ flat (asked_rows rows))

module _ (rows : Rows) (f : InForm rows) where
  first_fits : Each (Fits opening_form) rows.openings
  first_fits = openings_fit rows.openings f.openings_wide f.openings_short

  second_fits : Each (Fits day_form) (day_rows rows)
  second_fits = each_map day_numbers (λ d. AreShort (day_numbers d)) (Fits day_form) (λ d h. h) rows.days f.days_short

  third_fits : Each (Fits corridor_form) (asked_rows rows)
  third_fits = each_map asked_numbers (λ a. AreShort (asked_numbers a)) (Fits corridor_form) asked_fits rows.corridors f.corridors_short

  sheet_read : (line : ℕ) × (read_sheet (sheet_of rows) ≡ reached line (numbers_of rows) [])
  unfolding read_sheet sheet_of read_sections read_nothing
  sheet_read =
      let second-most : length (day_rows rows) ≤ days.most = rw length-map f.days_most in
      let third-most : length (asked_rows rows) ≤ corridors.most = rw length-map f.corridors_most in
      let third = written_section corridor_form (asked_rows rows) in (
        _,
        read_sections_lem openings refl (days ∷ corridors ∷ []) rows.openings 1 [] (written_section day_form (day_rows rows) ++ third) first_fits f.openings_most (omega arith)
            ∙ (read_sections_lem days refl (corridors ∷ []) (day_rows rows) _ _ third second_fits second-most (omega arith)
            ∙ (ap (read_sections (corridors ∷ []) _ _) (sym (append-nil third))
            ∙ read_sections_lem corridors refl [] (asked_rows rows) _ _ [] third_fits third-most (omega arith))),
      )

  sheet_found : finding (sheet_of rows) ≡ nowhere 0
  unfolding finding
  sheet_found = rw (le-leb (length (sheet_of rows)) most_bytes f.bytes_most, sheet_read.1)

  numbers_ask : calls_of sections (numbers_of rows) ≡ calls_in rows
  unfolding calls_of calls_in
  numbers_ask =
      let first = rows.openings in
      let second = day_rows rows in
      let third = asked_rows rows in
      let day-calls : map day_call second ≡ map day rows.days = map-map day_call day_numbers rows.days in
      let asked-calls : map corridor_call third ≡ map asking rows.corridors
      = map-map corridor_call asked_numbers rows.corridors ∙ ap (λ (c : Asked → Call). map c rows.corridors) (fun_ext asked_call) in
      ap (λ (ns : List ℕ). calls_of sections (length first ∷ ns))
      (append_assoc (flat first) (length second ∷ flat second) (length third ∷ flat third)
      ∙ ap (λ (ns : List ℕ). flat first ++ length second ∷ (flat second ++ length third ∷ ns)) (sym (append-nil (flat third))))
      ∙ (calls_section openings (days ∷ corridors ∷ []) first (length second ∷ (flat second ++ length third ∷ (flat third ++ []))) (each_of (Fits opening_form) _ (fits_width opening_form) first first_fits)
      ∙ ap (λ (calls : List Call). map opening first ++ calls)
      (calls_section days (corridors ∷ []) second (length third ∷ (flat third ++ [])) (each_of (Fits day_form) _ (fits_width day_form) second second_fits)
      ∙ (λ i. day-calls i
      ++ (calls_section corridors [] third [] (each_of (Fits corridor_form) _ (fits_width corridor_form) third third_fits) ∙ (append-nil (map corridor_call third) ∙ asked-calls)) i)))

  sheet_asked : asks (sheet_of rows) ≡ calls_in rows
  unfolding asks
  sheet_asked = rw (sheet_found, sheet_read.1) numbers_ask

pub written_is_read : WrittenIsRead
written_is_read rows f = (sheet_found rows f, sheet_asked rows f)

-- A sheet with a bad line is not read to its end.
pub not_reached : {line end : ℕ} {text ns rest : List ℕ} → broken line text ≡ reached end ns rest → ⊥
not_reached e = let z : ◌≡◌ {A = ℕ} 0 1 = cc in omega arith

-- Rows that are read are those written, and so is a section.
pub record AreRows (form : List Item) (n : ℕ) (ns text more rest : List ℕ) : Type 0 where
  pub rows : List (List ℕ)
  pub many : length rows ≡ n
  pub fits : Each (Fits form) rows
  pub numbers : more ≡ ns ++ flat rows
  pub bytes : text ≡ written_rows form rows ++ rest

pub written_rows_lem : (form : List Item) → is_separated form ≡ true → (n line end : ℕ) (ns text more rest : List ℕ) → read_rows form n line ns text ≡ reached end more rest → AreRows form n ns text more rest
unfolding read_rows
written_rows_lem form s zero line end ns text more rest e =
    record { rows = []; many = refl; fits = tt; numbers = cc (append-nil ns); bytes = cc }
written_rows_lem form s (suc n) line end ns text more rest e =
    go (read_line form ns text) refl e (λ read left h. written_rows_lem form s n (suc line) end read left more rest h)
  where
    go : (r : Reading) → read_line form ns text ≡ r → after_line line text (read_rows form n (suc line)) r ≡ reached end more rest → ((read left : List ℕ) → read_rows form n (suc line) read left ≡ reached end more rest → AreRows form n read left more rest) → AreRows form (suc n) ns text more rest
    go stopped p h after = absurd (not_reached h)
    go (at read left) p h after =
        let l = written_read form ns text read left s p in
        let a = after read left h in
        record {
          rows = l.row ∷ a.rows;
          many = ap suc a.many;
          fits = (l.fits, a.fits);
          numbers = a.numbers ∙ (ap (λ (ms : List ℕ). ms ++ flat a.rows) l.numbers ∙ append_assoc ns l.row (flat a.rows));
          bytes = l.bytes ∙ (ap (λ (bs : List ℕ). written form l.row ++ bs) a.bytes ∙ sym (append_assoc (written form l.row) (written_rows form a.rows) rest));
        }

pub record IsSection (s : Section) (ns text more rest : List ℕ) : Type 0 where
  pub rows : List (List ℕ)
  pub most : length rows ≤ s.most
  pub fits : Each (Fits s.form) rows
  pub numbers : more ≡ ns ++ length rows ∷ flat rows
  pub bytes : text ≡ written_section s.form rows ++ rest

-- A count line that is read is the one written from the value of its text.
pub count_line : (ns text read left : List ℕ) → read_line count_form ns text ≡ at read left → (read ≡ ns ++ value_from 0 text ∷ []) × (text ≡ written count_form (value_from 0 text ∷ []) ++ left)
count_line ns text read left e =
    let l = written_read count_form ns text read left refl e in
    go l.row l.fits l.numbers l.bytes
  where
    go : (row : List ℕ) → Fits count_form row → read ≡ ns ++ row → text ≡ written count_form row ++ left → (read ≡ ns ++ value_from 0 text ∷ []) × (text ≡ written count_form (value_from 0 text ∷ []) ++ left)
    go [] f p q = absurd f
    go (n ∷ []) f p q = let same : n ≡ value_from 0 text = sym (ap (value_from 0) q ∙ count_value n left) in rw (← same) (p, q)
    go (n ∷ m ∷ row) f p q = absurd f.1

pub written_section_lem : (s : Section) → is_separated s.form ≡ true → (line end : ℕ) (ns text more rest : List ℕ) → read_section s line ns text ≡ reached end more rest → IsSection s ns text more rest
unfolding read_section
written_section_lem s apart line end ns text more rest e = go (read_line count_form ns text) refl (leb (value_from 0 text) s.most) refl e
  where
    go : (r : Reading) → read_line count_form ns text ≡ r → (t : Bool) → leb (value_from 0 text) s.most ≡ t → after_line line text (λ read left. cond t (read_rows s.form (value_from 0 text) (suc line) read left) (broken line text)) r ≡ reached end more rest → IsSection s ns text more rest
    go stopped p t q h = absurd (not_reached h)
    go (at read left) p false q h = absurd (not_reached h)
    go (at read left) p true q h =
        let (numbers, bytes) = count_line ns text read left p in
        let a = written_rows_lem s.form apart (value_from 0 text) (suc line) end read left more rest h in
        let n = value_from 0 text in
        record {
          rows = a.rows;
          most = omega (arith, leb-true n s.most q, a.many);
          fits = a.fits;
          numbers = a.numbers
              ∙ (ap (λ (ms : List ℕ). ms ++ flat a.rows) numbers
              ∙ (append_snoc ns n (flat a.rows) ∙ ap (λ (k : ℕ). ns ++ k ∷ flat a.rows) (sym a.many)));
          bytes = bytes
              ∙ (ap (λ (bs : List ℕ). written count_form (n ∷ []) ++ bs) a.bytes
              ∙ (sym (append_assoc (written count_form (n ∷ [])) (written_rows s.form a.rows) rest)
              ∙ ap (λ (k : ℕ). written count_form (k ∷ []) ++ written_rows s.form a.rows ++ rest) (sym a.many)));
        }

-- Sections that are read: the first, and then the others.
pub record IsNext (s : Section) (ss : List Section) (ns text : List ℕ) (end : ℕ) (more rest : List ℕ) : Type 0 where
  pub line : ℕ
  pub read : List ℕ
  pub left : List ℕ
  pub section : IsSection s ns text read left
  pub others : read_sections ss line read left ≡ reached end more rest

pub written_next : (s : Section) (ss : List Section) → is_separated s.form ≡ true → (line : ℕ) (ns text : List ℕ) (end : ℕ) (more rest : List ℕ) → read_sections (s ∷ ss) line ns text ≡ reached end more rest → IsNext s ss ns text end more rest
unfolding read_sections
written_next s ss apart line ns text end more rest e = go (read_section s line ns text) refl e
  where
    go : (p : Progress) → read_section s line ns text ≡ p → after_lines (read_sections ss) p ≡ reached end more rest → IsNext s ss ns text end more rest
    go (broken bad bytes) q h = absurd (not_reached h)
    go (reached next read left) q h =
        record { line = next; read = read; left = left; section = written_section_lem s apart line next ns text read left q; others = h }

nothing_left : (line : ℕ) (ns text : List ℕ) (end : ℕ) (more rest : List ℕ) → read_sections [] line ns text ≡ reached end more rest → text ≡ []
unfolding read_sections read_nothing
nothing_left line ns [] end more rest e = refl
nothing_left line ns (b ∷ bs) end more rest e = absurd (not_reached e)

-- A row is its words, so a day's and a corridor's row are the numbers of a day and of what a corridor is asked.
abbrev words_from : ℕ → ℕ → List ℕ → List ℕ
words_from place zero row = []
words_from place (suc n) row = word row place ∷ words_from (suc place) n row

words_row : (n place : ℕ) (row : List ℕ) → length row ≡ place + n → words_from place n row ≡ drop place row
words_row zero place row e = sym (drop_of_length-le row {i = place} (omega arith))
words_row (suc n) place row e = rw (drop-cons row place 0 (omega arith)) (ap (λ (ws : List ℕ). word row place ∷ ws) (words_row n (suc place) row (omega arith)))

abbrev day_of : List ℕ → Day
day_of row = record { instrument = word row 0; day = word row 1; price = word row 2; m = word row 3; j = word row 4 }

day_row_lem : (row : List ℕ) → Fits day_form row → day_numbers (day_of row) ≡ row
day_row_lem row f = words_row 5 0 row (fits_width day_form row f)

abbrev asked_of : List ℕ → Asked
asked_of row =
    record {
      instrument = word row 0;
      terms = record {
        k = word row 1;
        lower = rate (word row 2) (word row 3);
        upper = rate (word row 4) (word row 5);
        shift = word row 6;
        x = word row 7;
        rise = word row 8;
        fall = word row 9;
        tick = word row 10;
      };
    }

-- A sign and a size that fit are those of their rate.
rate_parts : (s n : ℕ) → IsSign s n → (sign_of (rate s n) ≡ s) × (size_of (rate s n) ≡ n)
rate_parts s n (inl e) = rw e (refl, refl)
rate_parts s zero (inr e) = absurd (e.1 refl)
rate_parts s (suc n) (inr e) = rw e.0 (refl, refl)

asked_row : (row : List ℕ) → Fits corridor_form row → asked_numbers (asked_of row) ≡ row
asked_row row f =
    let words : words_from 0 11 row ≡ row = words_row 11 0 row (fits_width corridor_form row f) in
    let g : Fits corridor_form (words_from 0 11 row) = subst (Fits corridor_form) (sym words) f in
    let lower = rate_parts (word row 2) (word row 3) g.1.1.0 in
    let upper = rate_parts (word row 4) (word row 5) g.1.1.1.1.0 in
    (λ i. word row 0 ∷ word row 1 ∷ lower.0 i ∷ lower.1 i ∷ upper.0 i ∷ upper.1 i ∷ words_from 6 5 row) ∙ words

map_back : {A B : Type 0} (f : A → B) (g : B → A) (P : B → Type 0) → ((x : B) → P x → f (g x) ≡ x) → (xs : List B) → Each P xs → xs ≡ map f (map g xs)
map_back f g P h [] e = refl
map_back f g P h (x ∷ xs) e = λ i. sym (h x e.0) i ∷ map_back f g P h xs e.1 i

-- Three sections and nothing after them are a sheet that is written.
module _ {sheet read left more last ns rest : List ℕ} (one : IsSection openings [] sheet read left) (two : IsSection days read left more last) (three : IsSection corridors more last ns rest) (none : rest ≡ []) (short : length sheet ≤ most_bytes) where
  abbrev found : Rows
  found = record { openings = one.rows; days = map day_of two.rows; corridors = map asked_of three.rows }

  found_text : sheet ≡ sheet_of found
  unfolding sheet_of
  found_text =
      let days-back = map_back day_numbers day_of (Fits day_form) day_row_lem two.rows two.fits in
      let asked-back = map_back asked_numbers asked_of (Fits corridor_form) asked_row three.rows three.fits in
      one.bytes
      ∙ ap (λ (bs : List ℕ). written_section opening_form one.rows ++ bs)
      (two.bytes
      ∙ (ap (λ (bs : List ℕ). written_section day_form two.rows ++ bs)
      (three.bytes ∙ (ap (λ (bs : List ℕ). written_section corridor_form three.rows ++ bs) none ∙ append-nil (written_section corridor_form three.rows)))
      ∙ (λ i. written_section day_form (days-back i) ++ written_section corridor_form (asked-back i))))

  found_in_form : InForm found
  found_in_form =
      record {
        openings_most = one.most;
        days_most = rw length-map two.most;
        corridors_most = rw length-map three.most;
        openings_wide = each_of (Fits opening_form) (λ row. length row ≡ Row.width) (fits_width opening_form) one.rows one.fits;
        openings_short = each_of (Fits opening_form) AreShort (fits_short opening_form) one.rows one.fits;
        days_short = each_map day_of (Fits day_form) (λ d. AreShort (day_numbers d)) (λ row f. subst⁻¹ AreShort (day_row_lem row f) (fits_short day_form row f)) two.rows two.fits;
        corridors_short = each_map asked_of (Fits corridor_form) (λ a. AreShort (asked_numbers a)) (λ row f. subst⁻¹ AreShort (asked_row row f) (fits_short corridor_form row f)) three.rows three.fits;
        bytes_most = rw (← found_text) short;
      }

  found_written : IsWritten sheet
  found_written =
      record { rows = found; in_form = found_in_form; text = found_text; asked = ap asks found_text ∙ (written_is_read found found_in_form).1 }

pub read_is_written : ReadIsWritten
unfolding finding read_sheet
read_is_written sheet e = go (leb (length sheet) most_bytes) refl (read_sheet sheet) refl e
  where
    go : (t : Bool) → leb (length sheet) most_bytes ≡ t → (p : Progress) → read_sheet sheet ≡ p → (cond t (finding_of sheet p) (nowhere 9)).number ≡ 0 → IsWritten sheet
    go false q p r h = absurd (omega arith)
    go true q (broken line text) r h = absurd (omega arith)
    go true q (reached end ns rest) r h =
        let one = written_next openings (days ∷ corridors ∷ []) refl 1 [] sheet end ns rest r in
        let two = written_next days (corridors ∷ []) refl one.line one.read one.left end ns rest one.others in
        let three = written_next corridors [] refl two.line two.read two.left end ns rest two.others in
        found_written {ns = three.read} {rest = three.left} one.section two.section three.section (nothing_left three.line three.read three.left end ns rest three.others) (leb-true (length sheet) most_bytes q)

-- The rows of calls: what each call gives, one after the other.
abbrev pick : {A : Type 0} → (Call → List A) → List Call → List A
pick f [] = []
pick f (call ∷ calls) = f call ++ pick f calls

pick_append : {A : Type 0} (f : Call → List A) (xs ys : List Call) → pick f (xs ++ ys) ≡ pick f xs ++ pick f ys
pick_append f [] ys = refl
pick_append f (x ∷ xs) ys = rw (pick_append f xs ys) (sym (append_assoc (f x) (pick f xs) (pick f ys)))

pick_none : {A B : Type 0} (f : Call → List B) (g : A → Call) → ((x : A) → f (g x) ≡ []) → (xs : List A) → pick f (map g xs) ≡ []
pick_none f g h [] = refl
pick_none f g h (x ∷ xs) = λ i. h x i ++ pick_none f g h xs i

pick_all : {A : Type 0} (f : Call → List A) (g : A → Call) → ((x : A) → f (g x) ≡ x ∷ []) → (xs : List A) → pick f (map g xs) ≡ xs
pick_all f g h [] = refl
pick_all f g h (x ∷ xs) = λ i. h x i ++ pick_all f g h xs i

abbrev openings_in : Call → List (List ℕ)
openings_in (opening row) = row ∷ []
openings_in (closing i) = []
openings_in (parameters i ps) = []
openings_in (halt i value) = []
openings_in (day d) = []
openings_in (why d) = []
openings_in (corridor i t) = []
openings_in (bond i t b) = []

abbrev days_in : Call → List Day
days_in (opening row) = []
days_in (closing i) = []
days_in (parameters i ps) = []
days_in (halt i value) = []
days_in (day d) = d ∷ []
days_in (why d) = []
days_in (corridor i t) = []
days_in (bond i t b) = []

abbrev asked_in : Call → List Asked
asked_in (opening row) = []
asked_in (closing i) = []
asked_in (parameters i ps) = []
asked_in (halt i value) = []
asked_in (day d) = []
asked_in (why d) = []
asked_in (corridor i t) = record { instrument = i; terms = t } ∷ []
asked_in (bond i t b) = []

abbrev rows_in : List Call → Rows
rows_in calls = record { openings = pick openings_in calls; days = pick days_in calls; corridors = pick asked_in calls }

module _ (rows : Rows) where
  pick_rows : {A : Type 0} (f : Call → List A) → pick f (calls_in rows) ≡ pick f (map opening rows.openings) ++ (pick f (map day rows.days) ++ pick f (map asking rows.corridors))
  unfolding calls_in
  pick_rows f = simp pick_append

  rows_back : rows_in (calls_in rows) ≡ rows
  rows_back =
      let openings-back : pick openings_in (calls_in rows) ≡ rows.openings
      = pick_rows openings_in
      ∙ ((λ i. pick_all openings_in opening (λ row. refl) rows.openings i
      ++ (pick_none openings_in day (λ d. refl) rows.days i ++ pick_none openings_in asking (λ a. refl) rows.corridors i))
      ∙ append-nil rows.openings) in
      let days-back : pick days_in (calls_in rows) ≡ rows.days
      = pick_rows days_in
      ∙ ((λ i. pick_none days_in opening (λ row. refl) rows.openings i
      ++ (pick_all days_in day (λ d. refl) rows.days i ++ pick_none days_in asking (λ a. refl) rows.corridors i))
      ∙ append-nil rows.days) in
      let corridors-back : pick asked_in (calls_in rows) ≡ rows.corridors
      = pick_rows asked_in
      ∙ (λ i. pick_none asked_in opening (λ row. refl) rows.openings i
      ++ (pick_none asked_in day (λ d. refl) rows.days i ++ pick_all asked_in asking (λ a. refl) rows.corridors i)) in
      λ i. record { openings = openings-back i; days = days-back i; corridors = corridors-back i }

pub no_two_ask : NoTwoAsk
no_two_ask one other e f same =
    let a = read_is_written one e in
    let b = read_is_written other f in
    a.text ∙ (ap sheet_of (sym (rows_back a.rows) ∙ (ap rows_in (sym a.asked ∙ (same ∙ b.asked)) ∙ rows_back b.rows)) ∙ sym b.text)
