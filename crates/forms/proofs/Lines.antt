-- Reading item by item and line by line: what one step more gives of the paper's reading. Assumes nothing.
use Rattle.std.specs.Prelude.{Result, Ok, Err}
use mathlib.Core.Path.{◌≡◌, refl, sym, ap, ◌∙◌}
use mathlib.Core.Bool.{Bool, true, false, cond}
use mathlib.Core.List.{List, [], ◌∷◌, ◌++◌}
use Prim.Native.Nat.{ℕ, zero, suc, ◌+◌, ◌*◌, ◌-◌, ◌≤◌, ◌<◌}
use native.Mathlib.Nat.{le_of_suc-le-suc, not-suc-le-zero}
use native.Mathlib.Numerals.{add-one}
use native.Mathlib.Omega.{arith}
use borrow.Author.Tests.{le-leb, lt-leb}
use lib.Dec.{leb, eqb}
use lib.ListN.{length, take, drop, get_or, length-drop}
use lib.Seq.{length-take-le, drop-drop, get_or-take, get_or_at}
use Rattle.paper_sheets.specs.Sheet.{line_feed, Item, number, space, sign, Reading, stopped, at, onward, starts_with, read_byte, read_items, read_line, count_form, Section, Progress, broken, reached, after_line, after_lines, read_rows, read_section, value_from, line_length, keeps}
use Rattle.paper_sheets.proofs.Sheets.{count_line}
use Rattle.forms.specs.Reads.{item_of, form_of, value_count, kept as kept_by, IsInLine, found_of, ReadsItem, progress_of, ReadsLine, ReadsLines}
use Rattle.forms.proofs.Items.{in_line_here, starts_within, starts_byte, line_ends as line-none}
use Rattle.forms.specs.declared.Found.{Found}
use Rattle.forms.specs.declared.Place.{Place}
use Rattle.forms.specs.declared.Bad.{Bad}

-- What is in a line from a place of it on is in that line.
in_line_on : {text : List ℕ} {from here to : ℕ} → IsInLine text from here → IsInLine text here to → IsInLine text from to
in_line_on p q = record { after = omega arith; within = q.within; same_line = omega arith }

-- What starts a line's rest stands in that line.
in_line_at : {text : List ℕ} {here passed : ℕ} → here ≤ length text → IsInLine (drop here text) 0 passed → IsInLine text here (here + passed)
in_line_at {text} {here} {passed} within line =
    let left : drop passed (drop here text) ≡ drop (here + passed) text = drop-drop passed here text in
    record {
      after = omega arith;
      within = omega (arith, line.within, length-drop here text);
      same_line = omega (arith, line.same_line, ap line_length left);
    }

-- A form from an item on, and how many numbers it keeps.
form_from : (form : List ℕ) (i : ℕ) → i < length form → drop i (form_of form) ≡ item_of (get_or form i 0) ∷ drop (suc i) (form_of form)
form_from [] i h = absurd (not-suc-le-zero h)
form_from (b ∷ bs) zero h = refl
form_from (b ∷ bs) (suc i) h = form_from bs i (le_of_suc-le-suc h)

form_end : (form : List ℕ) → drop (length form) (form_of form) ≡ []
form_end [] = refl
form_end (b ∷ bs) = form_end bs

keeps_first : (item : Item) (items : List Item) → keeps (item ∷ items) ≡ keeps (item ∷ []) + keeps items
keeps_first number items = omega arith
keeps_first space items = omega arith
keeps_first sign items = omega arith

-- Where a line ends, no byte of it is left.
line_left : (text : List ℕ) → line_length (drop (line_length text) text) ≡ 0
unfolding line_length
line_left [] = refl
line_left (b ∷ bs) = go (eqb b line_feed) refl (line_left bs)
  where
    go : (t : Bool) → eqb b line_feed ≡ t → line_length (drop (line_length bs) bs) ≡ 0 → line_length (drop (cond t 0 (suc (line_length bs))) (b ∷ bs)) ≡ 0
    go true e h = rw e
    go false e h = h

-- The items of a line up to one: what is left is read on from what is kept so far.
pub record IsUpTo (text form before : List ℕ) (from : Place) (numbers : List ℕ) (here kept i : ℕ) : Type 0 where
  pub below : i ≤ length form
  pub room : kept + keeps (drop i (form_of form)) ≡ from.kept + keeps (form_of form)
  pub long : length numbers ≡ length before
  pub in_line : IsInLine text from.at here
  pub reads : read_items (form_of form) (take from.kept before) (drop from.at text) ≡ read_items (drop i (form_of form)) (take kept numbers) (drop here text)

module _ {text form before numbers : List ℕ} {from : Place} {here kept i : ℕ} (up : IsUpTo text form before from numbers here kept i) where
  -- A line that is bad at a place in it.
  line_bad : (to : ℕ) → IsInLine text here to → read_line (form_of form) (take from.kept before) (drop from.at text) ≡ stopped → ReadsLine text numbers from (read_line (form_of form) (take from.kept before) (drop from.at text)) (Err (record { line = from.line; start = from.at; at = to }))
  line_bad to in_line e =
      record {
        lines = record { reads = rw e; stands = in_line_on up.in_line in_line };
        past = tt;
      }

  module _ (below : i < length form) {item : Item} (named : item ≡ item_of (get_or form i 0)) where
    item_here : drop i (form_of form) ≡ item ∷ drop (suc i) (form_of form)
    item_here = form_from form i below ∙ ap (λ (first : Item). first ∷ drop (suc i) (form_of form)) (sym named)

    keeps_here : keeps (drop i (form_of form)) ≡ keeps (item ∷ []) + keeps (drop (suc i) (form_of form))
    keeps_here = ap keeps item_here ∙ keeps_first item (drop (suc i) (form_of form))

    -- There is room for an item more.
    pub up_to_room : {f : Found} → ReadsItem (drop here text) item (Ok f) → from.kept + keeps (form_of form) ≤ length before → kept + value_count f.value ≤ length numbers
    up_to_room read room = omega (arith, keeps_here, read.keeps)

    item_read : {f : Result Found ℕ} → ReadsItem (drop here text) item f → read_items (form_of form) (take from.kept before) (drop from.at text) ≡ onward (read_items (drop (suc i) (form_of form))) (found_of (drop here text) (take kept numbers) f)
    unfolding read_items
    item_read read =
        up.reads
        ∙ ap (λ (items : List Item). read_items items (take kept numbers) (drop here text)) item_here
        ∙ ap (onward (read_items (drop (suc i) (form_of form)))) (read.reads (take kept numbers))

    -- An item that is read, with what it keeps.
    pub up_to_next : {f : Found} → ReadsItem (drop here text) item (Ok f) → (more : List ℕ) (next : ℕ) → length more ≡ length numbers → next ≡ kept + value_count f.value → take next more ≡ kept_by (take kept numbers) f.value → IsUpTo text form before from more (here + f.length) next (i + 1)
    up_to_next read more next long room keeps-so =
        record {
          below = omega arith;
          room = rw add-one (omega (arith, keeps_here, read.keeps));
          long = long ∙ up.long;
          in_line = in_line_on up.in_line (in_line_at up.in_line.within read.in_line);
          reads = item_read read ∙ rw (add-one, keeps-so, drop-drop);
        }

    pub line_stops : {passed : ℕ} → ReadsItem (drop here text) item (Err passed) → ReadsLine text numbers from (read_line (form_of form) (take from.kept before) (drop from.at text)) (Err (record { line = from.line; start = from.at; at = here + passed }))
    unfolding read_line
    line_stops read = line_bad _ (in_line_at up.in_line.within read.in_line) (ap (onward (read_byte line_feed)) (item_read read))

  -- After the last item the line ends at an LF, or is bad.
  module _ (last : length form ≤ i) where
    none_left : drop i (form_of form) ≡ []
    none_left = let all : i ≡ length form = omega arith in ap (λ (k : ℕ). drop k (form_of form)) all ∙ form_end form

    line_read : read_line (form_of form) (take from.kept before) (drop from.at text) ≡ cond (starts_with line_feed (drop here text)) (at (take kept numbers) (drop 1 (drop here text))) stopped
    unfolding read_line read_items read_byte
    line_read = ap (onward (read_byte line_feed)) (up.reads ∙ ap (λ (items : List Item). read_items items (take kept numbers) (drop here text)) none_left)

    pub line_open : starts_with line_feed (drop here text) ≡ false → ReadsLine text numbers from (read_line (form_of form) (take from.kept before) (drop from.at text)) (Err (record { line = from.line; start = from.at; at = here }))
    line_open e = line_bad here (in_line_here text here up.in_line.within) (line_read ∙ rw e)

    pub line_ends : starts_with line_feed (drop here text) ≡ true → ReadsLine text numbers from (read_line (form_of form) (take from.kept before) (drop from.at text)) (Ok (record { line = from.line + 1; at = here + 1; kept = kept }))
    line_ends e =
        let within : here < length text = starts_within line_feed text here e in
        let read : read_line (form_of form) (take from.kept before) (drop from.at text) ≡ at (take kept numbers) (drop (here + 1) text) = line_read ∙ rw (e, drop-drop) in
        let one : from.line + 1 ≡ suc from.line = add-one from.line in
        record {
          lines = record { reads = rw read (ap (λ (line : ℕ). reached line (take kept numbers) (drop (here + 1) text)) one); stands = omega arith };
          past = record { after = omega arith; ends = omega (arith, line-none text here within (starts_byte line_feed text here e)) };
        }

-- What comes after a line that is read.
after_read : (line : ℕ) (text : List ℕ) (next : ℕ → List ℕ → List ℕ → Progress) (r : Reading) → after_line line text (next (suc line)) r ≡ after_lines next (after_line line text (reached (suc line)) r)
after_read line text next stopped = refl
after_read line text next (at ns rest) = refl

was_read : (line : ℕ) (text : List ℕ) (r : Reading) {n : ℕ} {ns rest : List ℕ} → reached n ns rest ≡ after_line line text (reached (suc line)) r → r ≡ at ns rest
was_read line text stopped e = cc
was_read line text (at ms left) e = cc

-- The rows of a section up to one: what is left is read on from what is kept so far.
pub record AreUpTo (text : List ℕ) (form : List Item) (before : List ℕ) (from : Place) (count : ℕ) (numbers : List ℕ) (place : Place) (row : ℕ) : Type 0 where
  pub below : row ≤ count
  pub room : place.kept ≡ from.kept + row * keeps form
  pub line : place.line ≡ from.line + row
  pub long : length numbers ≡ length before
  pub within : place.at ≤ length text
  pub reads : read_rows form count from.line (take from.kept before) (drop from.at text) ≡ read_rows form (count - row) place.line (take place.kept numbers) (drop place.at text)

module _ {text : List ℕ} {form : List Item} {before numbers : List ℕ} {from place : Place} {count row : ℕ} (up : AreUpTo text form before from count numbers place row) where
  module _ (below : row < count) where
    row_read : {more : List ℕ} {p : Result Place Bad} → ReadsLine text more place (read_line form (take place.kept numbers) (drop place.at text)) p → read_rows form count from.line (take from.kept before) (drop from.at text) ≡ after_lines (read_rows form (count - (row + 1))) (progress_of text more p)
    unfolding read_rows
    row_read read =
        let one : count - row ≡ suc (count - (row + 1)) = omega arith in
        up.reads ∙ ap (λ (n : ℕ). read_rows form n place.line (take place.kept numbers) (drop place.at text)) one
        ∙ after_read place.line (drop place.at text) (read_rows form (count - (row + 1))) (read_line form (take place.kept numbers) (drop place.at text))
        ∙ ap (after_lines (read_rows form (count - (row + 1)))) (sym read.lines.reads)

    pub rows_next : {more : List ℕ} {p : Place} → ReadsLine text more place (read_line form (take place.kept numbers) (drop place.at text)) (Ok p) → p.kept ≡ place.kept + keeps form → p.line ≡ place.line + 1 → length more ≡ length numbers → AreUpTo text form before from count more p (row + 1)
    rows_next read room line long =
        record {
          below = omega arith;
          room = omega arith;
          line = omega arith;
          long = long ∙ up.long;
          within = read.lines.stands;
          reads = row_read read;
        }

    pub rows_stop : {more : List ℕ} {bad : Bad} → ReadsLine text more place (read_line form (take place.kept numbers) (drop place.at text)) (Err bad) → ReadsLines text more (read_rows form count from.line (take from.kept before) (drop from.at text)) (Err bad)
    rows_stop read = record { reads = sym (row_read read); stands = read.lines.stands }

  pub rows_end : count ≤ row → ReadsLines text numbers (read_rows form count from.line (take from.kept before) (drop from.at text)) (Ok place)
  unfolding read_rows
  rows_end last =
      let none : count - row ≡ 0 = omega arith in
      record { reads = sym (up.reads ∙ rw none); stands = up.within }

-- A section, by its line with the count.
module _ (before : List ℕ) {text numbers : List ℕ} {from : Place} (s : Section) where
  first_read : {first : Result Place Bad} → ReadsLine text numbers from (read_line count_form (take from.kept before) (drop from.at text)) first → read_section s from.line (take from.kept before) (drop from.at text) ≡ after_lines (λ line ns rest. cond (leb (value_from 0 (drop from.at text)) s.most) (read_rows s.form (value_from 0 (drop from.at text)) line ns rest) (broken from.line (drop from.at text))) (progress_of text numbers first)
  unfolding read_section
  first_read read =
      let next : ℕ → List ℕ → List ℕ → Progress = λ line ns rest. cond (leb (value_from 0 (drop from.at text)) s.most) (read_rows s.form (value_from 0 (drop from.at text)) line ns rest) (broken from.line (drop from.at text)) in
      after_read from.line (drop from.at text) next (read_line count_form (take from.kept before) (drop from.at text)) ∙ ap (after_lines next) (sym read.lines.reads)

  pub section_bad : {bad : Bad} → ReadsLine text numbers from (read_line count_form (take from.kept before) (drop from.at text)) (Err bad) → ReadsLines text numbers (read_section s from.line (take from.kept before) (drop from.at text)) (Err bad)
  section_bad read = record { reads = sym (first_read read); stands = read.lines.stands }

  module _ {first : Place} (read : ReadsLine text numbers from (read_line count_form (take from.kept before) (drop from.at text)) (Ok first)) (one : first.kept ≡ from.kept + 1) (room : from.kept ≤ length before) where
    pub section_count : get_or numbers from.kept 0 ≡ value_from 0 (drop from.at text)
    section_count =
        let v = value_from 0 (drop from.at text) in
        let kept-so : take (from.kept + 1) numbers ≡ take from.kept before ++ v ∷ [] = (count_line (take from.kept before) (drop from.at text) (take (from.kept + 1) numbers) (drop first.at text) (was_read _ _ _ read.lines.reads ∙ rw one)).0 in
        sym (get_or-take (from.kept + 1) numbers from.kept 0 (omega arith))
        ∙ ap (λ (l : List ℕ). get_or l from.kept 0) kept-so
        ∙ get_or_at (take from.kept before) v [] 0 from.kept (length-take-le from.kept before room)

    pub section_many : s.most < get_or numbers from.kept 0 → ReadsLines text numbers (read_section s from.line (take from.kept before) (drop from.at text)) (Err (record { line = from.line; start = from.at; at = first.at - 1 }))
    section_many many =
        let past = read.past in
        let within : first.at ≤ length text = read.lines.stands in
        let place : from.at + line_length (drop from.at text) ≡ first.at - 1 = omega arith in
        let left : line_length (drop (first.at - 1) text) ≡ 0 = ap (λ (k : ℕ). line_length (drop k text)) (sym place) ∙ ap line_length (sym (drop-drop (line_length (drop from.at text)) from.at text)) ∙ line_left (drop from.at text) in
        record {
          reads = sym (first_read read ∙ rw (lt-leb (value_from 0 (drop from.at text)) s.most (rw (← section_count) many)));
          stands = record { after = omega arith; within = omega arith; same_line = omega arith };
        }

    pub section_rows : (more : List ℕ) (p : Result Place Bad) → get_or numbers from.kept 0 ≤ s.most → ReadsLines text more (read_rows s.form (get_or numbers from.kept 0) first.line (take first.kept numbers) (drop first.at text)) p → ReadsLines text more (read_section s from.line (take from.kept before) (drop from.at text)) p
    section_rows more p few rows =
        record {
          reads = rows.reads ∙ sym (first_read read ∙ rw (← section_count, le-leb (get_or numbers from.kept 0) s.most few));
          stands = rows.stands;
        }
