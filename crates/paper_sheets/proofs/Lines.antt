-- The laws of a line: the one written from numbers that fit its form is read as them, and one that is read is the one written from what is read. Assumes nothing.
use mathlib.Core.Path.{◌≡◌, refl, sym, ap, ◌∙◌}
use mathlib.Core.Logic.{◌≢◌, ◌⊎◌, inl, inr, ⊎_elim}
use mathlib.Core.Bool.{Bool, true, false, cond, ◌&&◌}
use mathlib.Core.List.{List, [], ◌∷◌, ◌++◌, append_assoc, append-nil}
use Prim.Native.Nat.{ℕ, suc, ◌^◌, ◌≤◌, ◌<◌}
use native.Mathlib.Nat.{suc_inj}
use native.Mathlib.Omega.{arith}
use borrow.Author.Tests.{eqb-true}
use lib.Dec.{eqb}
use lib.ListN.{length, drop, get_or}
use lib.Seq.{append_snoc}
use Rattle.paper.specs.Least.{least_from, least}
use Rattle.paper_sheets.specs.Sheet.{line_feed, blank, minus, digit_zero, most_digits, digits, places, decimal, is_digit, digit_count, value_from, starts_with, is_number, Item, number, space, sign, Reading, stopped, at, onward, read_byte, read_item, read_items, read_line, keeps}
use Rattle.paper_sheets.specs.Written.{written, AreShort}
use Rattle.paper.proofs.Tests.{clash, not_passed, and_left, and_right}
use Rattle.paper_sheets.proofs.Digits.{starts_with_digit, decimal_some, decimal_zero, number_below, number_text, read_back}

-- Numbers that fit a form: as many as it keeps, of at most 18 digits, and a sign 0, or 1 before what is not 0.
abbrev pub IsSign : ℕ → ℕ → Type 0
IsSign s n = (s ≡ 0) ⊎ ((s ≡ 1) × (n ≢ 0))

abbrev pub Fits : List Item → List ℕ → Type 0
Fits [] [] = Unit {0}
Fits [] (n ∷ ns) = ⊥
Fits (space ∷ items) ns = Fits items ns
Fits (number ∷ items) [] = ⊥
Fits (number ∷ items) (n ∷ ns) = (n < 10 ^ most_digits) × Fits items ns
Fits (sign ∷ items) [] = ⊥
Fits (sign ∷ items) (s ∷ ns) = IsSign s (get_or ns 0 0) × Fits items ns

-- They are as many as the form keeps, and short; so many short numbers fit a form with no signs.
pub fits_width : (form : List Item) (row : List ℕ) → Fits form row → length row ≡ keeps form
fits_width [] [] f = refl
fits_width [] (n ∷ row) f = absurd f
fits_width (space ∷ items) row f = fits_width items row f
fits_width (number ∷ items) [] f = absurd f
fits_width (number ∷ items) (n ∷ row) f = ap suc (fits_width items row f.1)
fits_width (sign ∷ items) [] f = absurd f
fits_width (sign ∷ items) (s ∷ row) f = ap suc (fits_width items row f.1)

pub fits_short : (form : List Item) (row : List ℕ) → Fits form row → AreShort row
fits_short [] [] f = tt
fits_short [] (n ∷ row) f = absurd f
fits_short (space ∷ items) row f = fits_short items row f
fits_short (number ∷ items) [] f = absurd f
fits_short (number ∷ items) (n ∷ row) f = (f.0, fits_short items row f.1)
fits_short (sign ∷ items) [] f = absurd f
fits_short (sign ∷ items) (s ∷ row) f = (⊎_elim (λ none. omega arith) (λ one. omega arith) f.0, fits_short items row f.1)

abbrev pub is_plain : List Item → Bool
is_plain [] = true
is_plain (space ∷ items) = is_plain items
is_plain (number ∷ items) = is_plain items
is_plain (sign ∷ items) = false

pub short_fits : (form : List Item) (row : List ℕ) → is_plain form ≡ true → length row ≡ keeps form → AreShort row → Fits form row
short_fits [] [] p e h = tt
short_fits [] (n ∷ row) p e h = absurd (omega arith)
short_fits (space ∷ items) row p e h = short_fits items row p e h
short_fits (number ∷ items) [] p e h = absurd (omega arith)
short_fits (number ∷ items) (n ∷ row) p e h = (h.0, short_fits items row p (suc_inj e) h.1)
short_fits (sign ∷ items) row p e h = absurd (clash false p refl)

-- A form in which a space or the end comes after each number, and a number after each sign.
abbrev is_apart : List Item → Bool
is_apart [] = true
is_apart (space ∷ items) = true
is_apart (number ∷ items) = false
is_apart (sign ∷ items) = false

abbrev is_size : List Item → Bool
is_size [] = false
is_size (space ∷ items) = false
is_size (number ∷ items) = true
is_size (sign ∷ items) = false

abbrev pub is_separated : List Item → Bool
is_separated [] = true
is_separated (space ∷ items) = is_separated items
is_separated (number ∷ items) = is_apart items && is_separated items
is_separated (sign ∷ items) = is_size items && is_separated items

-- What stands after a number is no digit; what stands after a sign has one, and starts with 0 only if it is 0.
apart_none : (items : List Item) (row rest : List ℕ) → is_apart items ≡ true → is_digit (get_or (written items row ++ rest) 0 0) ≡ false
unfolding is_digit
apart_none [] row rest e = refl
apart_none (space ∷ items) row rest e = refl
apart_none (number ∷ items) row rest e = absurd (clash false e refl)
apart_none (sign ∷ items) row rest e = absurd (clash false e refl)

size_some : (items : List Item) (row rest : List ℕ) → is_size items ≡ true → Fits items row → 1 ≤ digit_count (written items row ++ rest)
size_some [] row rest e f = absurd (clash false e refl)
size_some (space ∷ items) row rest e f = absurd (clash false e refl)
size_some (sign ∷ items) row rest e f = absurd (clash false e refl)
size_some (number ∷ items) [] rest e f = absurd f
size_some (number ∷ items) (n ∷ row) rest e f = rw append_assoc (decimal_some n (written items row ++ rest))

size_zero : (items : List Item) (row rest : List ℕ) → is_size items ≡ true → Fits items row → starts_with digit_zero (written items row ++ rest) ≡ true → get_or row 0 0 ≡ 0
size_zero [] row rest e f z = absurd (clash false e refl)
size_zero (space ∷ items) row rest e f z = absurd (clash false e refl)
size_zero (sign ∷ items) row rest e f z = absurd (clash false e refl)
size_zero (number ∷ items) [] rest e f z = absurd f
size_zero (number ∷ items) (n ∷ row) rest e f z = decimal_zero n (written items row ++ rest) (rw append_assoc at z)

zero_size : (items : List Item) (row rest : List ℕ) → is_size items ≡ true → Fits items row → get_or row 0 0 ≡ 0 → starts_with digit_zero (written items row ++ rest) ≡ true
unfolding decimal digits places least least_from starts_with
zero_size [] row rest e f z = absurd (clash false e refl)
zero_size (space ∷ items) row rest e f z = absurd (clash false e refl)
zero_size (sign ∷ items) row rest e f z = absurd (clash false e refl)
zero_size (number ∷ items) [] rest e f z = absurd f
zero_size (number ∷ items) (n ∷ row) rest e f z = rw z

-- A line that is written is read.
read_sign : (s n : ℕ) (ns text : List ℕ) → IsSign s n → 1 ≤ digit_count text → (starts_with digit_zero text ≡ true → n ≡ 0) → read_item sign ns (cond (eqb s 0) text (minus ∷ text)) ≡ at (ns ++ s ∷ []) text
unfolding read_item is_digit starts_with
read_sign s n ns text (inl e) some zero = rw (e, starts_with_digit minus text some refl)
read_sign s n ns text (inr e) some zero = rw (e.0, not_passed (starts_with digit_zero text) (λ z. e.1 (zero z)))

read_next : (item : Item) (items : List Item) (ns text more rest : List ℕ) → read_item item ns text ≡ at more rest → read_line (item ∷ items) ns text ≡ read_line items more rest
unfolding read_line read_items
read_next item items ns text more rest e = ap (λ (r : Reading). onward (read_byte line_feed) (onward (read_items items) r)) e

signed_append : (t : Bool) (text rest : List ℕ) → cond t text (minus ∷ text) ++ rest ≡ cond t (text ++ rest) (minus ∷ (text ++ rest))
signed_append true text rest = refl
signed_append false text rest = refl

pub read_written : (form : List Item) (row ns rest : List ℕ) → Fits form row → is_separated form ≡ true → read_line form ns (written form row ++ rest) ≡ at (ns ++ row) rest
unfolding read_line read_items read_item read_byte starts_with
read_written [] [] ns rest f e = ap (λ (read : List ℕ). at read rest) (sym (append-nil ns))
read_written [] (n ∷ row) ns rest f e = absurd f
read_written (space ∷ items) row ns rest f e = read_written items row ns rest f e
read_written (number ∷ items) [] ns rest f e = absurd f
read_written (number ∷ items) (n ∷ row) ns rest f e =
    let left = written items row ++ rest in
    ap (read_line (number ∷ items) ns) (append_assoc (decimal n) (written items row) rest)
    ∙ (read_next number items ns (decimal n ++ left) (ns ++ n ∷ []) left
    (read_back n ns left f.0 (apart_none items row rest (and_left (is_apart items) (is_separated items) e)))
    ∙ (read_written items row (ns ++ n ∷ []) rest f.1 (and_right (is_apart items) (is_separated items) e)
    ∙ ap (λ (read : List ℕ). at read rest) (append_snoc ns n row)))
read_written (sign ∷ items) [] ns rest f e = absurd f
read_written (sign ∷ items) (s ∷ row) ns rest f e =
    let left = written items row ++ rest in
    let size = and_left (is_size items) (is_separated items) e in
    ap (read_line (sign ∷ items) ns) (signed_append (eqb s 0) (written items row) rest)
    ∙ (read_next sign items ns (cond (eqb s 0) left (minus ∷ left)) (ns ++ s ∷ []) left
    (read_sign s (get_or row 0 0) ns left f.0 (size_some items row rest size f.1) (size_zero items row rest size f.1))
    ∙ (read_written items row (ns ++ s ∷ []) rest f.1 (and_right (is_size items) (is_separated items) e)
    ∙ ap (λ (read : List ℕ). at read rest) (append_snoc ns s row)))

-- A line that is read is the one written from its numbers.
pub record IsLine (form : List Item) (ns text more rest : List ℕ) : Type 0 where
  pub row : List ℕ
  pub fits : Fits form row
  pub numbers : more ≡ ns ++ row
  pub bytes : text ≡ written form row ++ rest

-- Reading that was not stopped at a test passed it.
not_stopped : (C : Reading → Reading) (t : Bool) (r : Reading) (more rest : List ℕ) → C stopped ≡ stopped → C (cond t r stopped) ≡ at more rest → (t ≡ true) × (C r ≡ at more rest)
not_stopped C true r more rest s e = (refl, e)
not_stopped C false r more rest s e = let z : ◌≡◌ {A = ℕ} 0 1 = cc in absurd (omega arith)

starts_text : (b : ℕ) (text : List ℕ) → starts_with b text ≡ true → text ≡ b ∷ drop 1 text
unfolding starts_with
starts_text b [] e = absurd (clash false e refl)
starts_text b (c ∷ cs) e = ap (λ (d : ℕ). d ∷ cs) (eqb-true c b e)

signed_read : (items : List Item) (ns text more rest : List ℕ) → is_size items ≡ true → (t z : Bool) → starts_with minus text ≡ t → starts_with digit_zero (drop 1 text) ≡ z → onward (read_byte line_feed) (onward (read_items items) (cond t (cond z stopped (at (ns ++ 1 ∷ []) (drop 1 text))) (at (ns ++ 0 ∷ []) text))) ≡ at more rest → ((read left : List ℕ) → read_line items read left ≡ at more rest → IsLine items read left more rest) → IsLine (sign ∷ items) ns text more rest
unfolding read_line
signed_read items ns text more rest size true true p q e line =
    let z : ◌≡◌ {A = ℕ} 0 1 = cc in absurd (omega arith)
signed_read items ns text more rest size true false p q e line =
    let l = line (ns ++ 1 ∷ []) (drop 1 text) e in
    record {
      row = 1 ∷ l.row;
      fits = (inr (refl, λ z. clash _ (rw l.bytes (zero_size items l.row rest size l.fits z)) q), l.fits);
      numbers = l.numbers ∙ append_snoc ns 1 l.row;
      bytes = starts_text minus text p ∙ ap (λ (bs : List ℕ). minus ∷ bs) l.bytes;
    }
signed_read items ns text more rest size false z p q e line =
    let l = line (ns ++ 0 ∷ []) text e in
    record {
      row = 0 ∷ l.row;
      fits = (inl refl, l.fits);
      numbers = l.numbers ∙ append_snoc ns 0 l.row;
      bytes = l.bytes;
    }

pub written_read : (form : List Item) (ns text more rest : List ℕ) → is_separated form ≡ true → read_line form ns text ≡ at more rest → IsLine form ns text more rest
unfolding read_line read_items read_item read_byte
written_read [] ns text more rest s e =
    let (starts, here) = not_stopped (λ r. r) (starts_with line_feed text) (at ns (drop 1 text)) more rest refl e in
    let left : drop 1 text ≡ rest = cc in
    record {
      row = [];
      fits = tt;
      numbers = cc (append-nil ns);
      bytes = starts_text line_feed text starts ∙ ap (λ (bs : List ℕ). line_feed ∷ bs) left;
    }
written_read (space ∷ items) ns text more rest s e =
    let (starts, there) = not_stopped (λ r. onward (read_byte line_feed) (onward (read_items items) r)) (starts_with blank text) (at ns (drop 1 text)) more rest refl e in
    let line = written_read items ns (drop 1 text) more rest s there in
    record {
      row = line.row;
      fits = line.fits;
      numbers = line.numbers;
      bytes = starts_text blank text starts ∙ ap (λ (bs : List ℕ). blank ∷ bs) line.bytes;
    }
written_read (number ∷ items) ns text more rest s e =
    let (is, there) = not_stopped (λ r. onward (read_byte line_feed) (onward (read_items items) r)) (is_number text) (at (ns ++ value_from 0 text ∷ []) (drop (digit_count text) text)) more rest refl e in
    let line = written_read items (ns ++ value_from 0 text ∷ []) (drop (digit_count text) text) more rest (and_right (is_apart items) (is_separated items) s) there in
    record {
      row = value_from 0 text ∷ line.row;
      fits = (number_below text is, line.fits);
      numbers = line.numbers ∙ append_snoc ns (value_from 0 text) line.row;
      bytes = number_text text is ∙ (ap (λ (bs : List ℕ). decimal (value_from 0 text) ++ bs) line.bytes ∙ sym (append_assoc (decimal (value_from 0 text)) (written items line.row) rest));
    }
written_read (sign ∷ items) ns text more rest s e =
    signed_read items ns text more rest (and_left (is_size items) (is_separated items) s) (starts_with minus text) (starts_with digit_zero (drop 1 text)) refl refl e
    (λ read left h. written_read items read left more rest (and_right (is_size items) (is_separated items) s) h)
