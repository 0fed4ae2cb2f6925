-- The laws of a text written into an output: none, a byte, one text after the other, and the length that stays; that `io`'s digits of a number are the paper's; and the numbers of a line, one after the other. Assumes nothing.
use mathlib.Core.Path.{◌≡◌, refl, sym, ap, ap₂, subst, ◌∙◌}
use mathlib.Core.Bool.{Bool, cond}
use mathlib.Core.List.{List, [], ◌∷◌, ◌++◌, append_assoc, append-nil}
use Prim.Native.Nat.{ℕ, zero, suc, ◌+◌, ◌/◌, ◌%◌, ◌-◌, ◌≤◌, ◌<◌}
use native.Mathlib.Nat.{add-zero, add-suc, suc-add}
use native.Mathlib.Numerals.{add-one}
use native.Mathlib.Omega.{arith}
use borrow.Author.Tests.{lt-ltb}
use lib.ListN.{length, take, drop, get_or, set, length-append, take-append-drop}
use lib.Seq.{sets, length-sets, take-suc, drop-drop}
use borrow.Rule.Slice.PartMut.{put_mid}
use Rattle.std.proofs.lemmas.List.Edits.{sets-eq}
use Rattle.io.specs.Counts.{IsPrefixLen}
use Rattle.io.proofs.Counting.{prefix_len_of_le}
use Rattle.io.specs.Digits.{IsDigitCount, hex_digit_ascii}
use Rattle.io.specs.Digits.{last_digits as io_digits}
use Rattle.paper_sheets.specs.Sheet.{line_feed, blank, digit_zero, digits, places, decimal, number, more, fields_text, line_text}
use Rattle.paper_sheets.specs.Written.{written}
use Rattle.paper_sheets.proofs.Digits.{places_only, places_20, decimal_length}
use Rattle.paper_sheets.proofs.Evening.{more_written}
use Rattle.lines.specs.declared.Text.{Text}
use Rattle.lines.specs.Writes.{Writes, spaced}
use Rattle.lines.specs.Puts.{HoldsMore, Puts}

-- One run of stores after another is one run.
sets_then : (l : List ℕ) (i : ℕ) (xs ys : List ℕ) → sets (sets l i xs) (i + length xs) ys ≡ sets l i (xs ++ ys)
sets_then l i [] ys = ap (λ (k : ℕ). sets l k ys) (add-zero i)
sets_then l i (x ∷ xs) ys =
    ap (λ (k : ℕ). sets (sets (set l i x) (suc i) xs) k ys) (add-suc i (length xs) ∙ sym (suc-add i (length xs)))
    ∙ sets_then (set l i x) (suc i) xs ys

-- No text, a byte, and one text after the other.
pub writes_none : (l : List ℕ) (at : ℕ) → at ≤ length l → Writes l l at at []
writes_none l at h = record { holds = refl; ends = omega arith; within = h }

-- A part of an output that is written as a whole.
put_sets : (l text : List ℕ) (at k : ℕ) → k ≡ length text → at + k ≤ length l → put_mid at k l text ≡ sets l at text
put_sets l text at k long room =
    ap (λ (rest : List ℕ). take at l ++ (text ++ rest)) (drop-drop k at l ∙ ap (λ (n : ℕ). drop n l) (omega arith))
    ∙ sym (append_assoc (take at l) text (drop (at + length text) l)) ∙ sym (sets-eq text l at (omega arith))

pub writes_part : (l text part : List ℕ) (at end : ℕ) → part ≡ text → end ≡ at + length text → end ≤ length l → Writes l (put_mid at (end - at) l part) at end text
writes_part l text part at end is ends within =
    record {
      holds = ap (put_mid at (end - at) l) is ∙ put_sets l text at (end - at) (omega arith) (omega arith);
      ends = ends;
      within = within;
    }

-- The output keeps its length.
pub writes_kept : {a b : List ℕ} {at end : ℕ} {s : List ℕ} → Writes a b at end s → length b ≡ length a
writes_kept {a} {at = at} {s = s} w = ap length w.holds ∙ length-sets a at s

pub writes_then : {a b c : List ℕ} {at mid end : ℕ} {s t : List ℕ} → Writes a b at mid s → Writes b c mid end t → Writes a c at end (s ++ t)
writes_then {a} {at = at} {s = s} {t = t} p q =
    record {
      holds = q.holds ∙ ap₂ (λ (l : List ℕ) (k : ℕ). sets l k t) p.holds p.ends ∙ sets_then a at s t;
      ends = rw length-append (omega (arith, p.ends, q.ends));
      within = omega (arith, q.within, writes_kept p);
    }

-- What is written lies within the output.
pub writes_counted : {before after text : List ℕ} {at end : ℕ} → Writes before after at end text → IsPrefixLen end after
writes_counted {after = after} {end = end} w = prefix_len_of_le end after (omega (arith, w.within, writes_kept w))

-- Room for a text after one that is written.
pub room_next : {a b : List ℕ} {at mid : ℕ} {s : List ℕ} (t : List ℕ) → Writes a b at mid s → at + length (s ++ t) ≤ length a → mid + length t ≤ length b
room_next {s = s} t w h = omega (arith, h, w.ends, writes_kept w, length-append s t)

-- The digits that `io` writes of a number are the number's text.
glyph_digit : (n : ℕ) → hex_digit_ascii (n % 10) ≡ digit_zero + n % 10
glyph_digit n = ap (λ (t : Bool). cond t (48 + n % 10) (87 + n % 10)) (lt-ltb (n % 10) 10 (omega arith))

digits_io : (k n : ℕ) → io_digits 10 k n ≡ digits k n
unfolding digits
digits_io zero n = refl
digits_io (suc k) n = ap₂ (λ (ds : List ℕ) (d : ℕ). ds ++ d ∷ []) (digits_io k (n / 10)) (glyph_digit n)

fewest_places : (n k : ℕ) → IsDigitCount 10 1 n k → places n ≡ k
fewest_places n k f = places_only n k f.0 f.1 f.2

pub decimal_io : (n k : ℕ) → IsDigitCount 10 1 n k → io_digits 10 k n ≡ decimal n
unfolding decimal
decimal_io n k f = digits_io k n ∙ ap (λ (k : ℕ). digits k n) (sym (fewest_places n k f))

-- They are as many as its text is long, and a number that fits a word has at most 20 of them.
pub decimal_long : (n k : ℕ) → IsDigitCount 10 1 n k → length (decimal n) ≡ k
decimal_long n k f = decimal_length n ∙ fewest_places n k f

pub word_digits : (n k : ℕ) → n < 18446744073709551616 → IsDigitCount 10 1 n k → k ≤ 20
word_digits n k h f = omega (arith, fewest_places n k f, places_20 n h)

-- Numbers written one after the other: those of two lists, one more, and room for one more.
spaced_append : (xs ys : List ℕ) → spaced (xs ++ ys) ≡ spaced xs ++ spaced ys
unfolding spaced
spaced_append [] ys = refl
spaced_append (x ∷ xs) ys = ap (λ (l : List ℕ). blank ∷ decimal x ++ l) (spaced_append xs ys) ∙ sym (append_assoc (blank ∷ decimal x) (spaced xs) (spaced ys))

spaced_one : (n : ℕ) → spaced (n ∷ []) ≡ blank ∷ decimal n
unfolding spaced
spaced_one n = ap (λ (l : List ℕ). blank ∷ l) (append-nil (decimal n))

pub spaced_next : (fields : List ℕ) (i : ℕ) → i < length fields → spaced (take (i + 1) fields) ≡ spaced (take i fields) ++ (blank ∷ decimal (get_or fields i 0))
spaced_next fields i h =
    ap spaced (ap (λ (n : ℕ). take n fields) (add-one i) ∙ take-suc fields i 0 h) ∙ spaced_append (take i fields) _
    ∙ ap (λ (l : List ℕ). spaced (take i fields) ++ l) (spaced_one (get_or fields i 0))

pub spaced_long : (fields : List ℕ) (i : ℕ) → i < length fields → length (spaced (take (i + 1) fields)) ≡ length (spaced (take i fields)) + length (blank ∷ decimal (get_or fields i 0))
spaced_long fields i h = ap length (spaced_next fields i h) ∙ length-append (spaced (take i fields)) (blank ∷ decimal (get_or fields i 0))

pub spaced_room : (fields : List ℕ) (i : ℕ) → i < length fields → length (spaced (take i fields)) + length (blank ∷ decimal (get_or fields i 0)) ≤ length (spaced fields)
spaced_room fields i h =
    let cut = ap (λ (l : List ℕ). length (spaced l)) (sym (take-append-drop (i + 1) fields)) ∙ ap length (spaced_append (take (i + 1) fields) _) ∙ length-append (spaced (take (i + 1) fields)) _ in
    omega (arith, cut, spaced_long fields i h)

-- What ends a line, part by part, and how long it is.
fields_append : (names fields : List ℕ) → fields_text (names ++ fields) ≡ spaced names ++ fields_text fields
unfolding fields_text spaced
fields_append [] fields = refl
fields_append (n ∷ names) fields =
    ap (λ (l : List ℕ). blank ∷ decimal n ++ l) (fields_append names fields) ∙ sym (append_assoc (blank ∷ decimal n) (spaced names) (fields_text fields))

pub fields_spaced : (ns : List ℕ) → fields_text ns ≡ spaced ns ++ line_feed ∷ []
unfolding fields_text
fields_spaced ns = ap fields_text (sym (append-nil ns)) ∙ fields_append ns []

pub fields_long : (ns : List ℕ) → length (fields_text ns) ≡ length (spaced ns) + 1
fields_long ns = ap length (fields_spaced ns) ∙ length-append (spaced ns) (line_feed ∷ [])

-- A line of a sheet is its first number and what ends the line.
pub row_parts : (n : ℕ) (ns : List ℕ) → written (number ∷ more (length ns)) (n ∷ ns) ≡ decimal n ++ fields_text ns
row_parts n ns = ap (λ (l : List ℕ). decimal n ++ l) (more_written ns)

pub row_long : (n : ℕ) (ns : List ℕ) → length (written (number ∷ more (length ns)) (n ∷ ns)) ≡ length (decimal n) + length (fields_text ns)
row_long n ns = ap length (row_parts n ns) ∙ length-append (decimal n) (fields_text ns)

-- The text of a line, part by part.
pub line_parts : (letter : ℕ) (names fields : List ℕ) → line_text letter (names ++ fields) ≡ letter ∷ (spaced names ++ fields_text fields)
unfolding line_text
line_parts letter names fields = ap (λ (l : List ℕ). letter ∷ l) (fields_append names fields)

pub line_long : (letter : ℕ) (names fields : List ℕ) → length (line_text letter (names ++ fields)) ≡ 1 + length (spaced names) + length (fields_text fields)
line_long letter names fields = omega (arith, ap length (line_parts letter names fields), length-append (spaced names) (fields_text fields))

-- A text that is as it was, one that goes on, and the room that is left then.
pub puts_none : {t : Text} → HoldsMore t [] → Puts t t []
puts_none {t} room = record { same = refl; writes = writes_none t.out.now t.at (omega (arith, room.holds)) }

pub puts_then : {t u v : Text} {xs ys : List ℕ} → Puts t u xs → Puts u v ys → Puts t v (xs ++ ys)
puts_then p q = record { same = q.same ∙ p.same; writes = writes_then p.writes q.writes }

pub puts_as : {t u : Text} {xs ys : List ℕ} → xs ≡ ys → Puts t u xs → Puts t u ys
puts_as {t} {u} e p = subst (Puts t u) e p

pub holds_as : {t : Text} {xs ys : List ℕ} → xs ≡ ys → HoldsMore t xs → HoldsMore t ys
holds_as {t} e room = subst (HoldsMore t) e room

pub holds_first : {t : Text} (xs ys : List ℕ) → HoldsMore t (xs ++ ys) → HoldsMore t xs
holds_first xs ys room = record { holds = omega (arith, room.holds, length-append xs ys) }

pub holds_next : {t u : Text} {xs : List ℕ} (ys : List ℕ) → Puts t u xs → HoldsMore t (xs ++ ys) → HoldsMore u ys
holds_next ys p room = record { holds = room_next ys p.writes room.holds }

-- Where some of the numbers of a line are written, there is room for one more of them.
pub holds_field : {t u : Text} (fields : List ℕ) (i : ℕ) → i < length fields → Puts t u (spaced (take i fields)) → HoldsMore t (spaced fields) → HoldsMore u (blank ∷ decimal (get_or fields i 0))
holds_field fields i more p room = record { holds = omega (arith, room.holds, spaced_room fields i more, p.writes.ends, writes_kept p.writes) }
