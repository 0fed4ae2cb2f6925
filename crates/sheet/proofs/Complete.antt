-- What an accepted sheet keeps: for each section its count, then its rows, and no number too long. More may stand behind. Assumes nothing.
use Rattle.std.specs.Prelude.{Result, Ok, Err}
use mathlib.Core.Path.{◌≡◌, refl, sym, ap, ◌∙◌}
use mathlib.Core.Bool.{Bool, true, false, cond}
use mathlib.Core.List.{List, [], ◌∷◌, ◌++◌, append_assoc, append-nil, map}
use Prim.Native.Nat.{ℕ, zero, suc, ◌+◌, ◌-◌, ◌^◌, ◌≤◌, ◌<◌}
use native.Mathlib.Omega.{arith}
use borrow.Author.Tests.{le-leb, lt-leb}
use lib.Dec.{eqb, lit≤}
use lib.ListN.{length, get_or, take, drop, length-append, length-drop, take-append-drop}
use lib.Seq.{length-take-le, take_at, get_or_at}
use Rattle.paper.specs.Row.{width}
use Rattle.paper_sheets.specs.Sheet.{line_feed, most_bytes, most_digits, Item, Section, openings, days, corridors, sections, reached, read_nothing, read_sections, read_sheet, line_length, nowhere, finding_of, finding, calls_of, asks, width_of}
use Rattle.paper.specs.Calls.{Call}
use Rattle.paper_sheets.specs.Written.{AreShort}
use Rattle.paper.specs.Each.{Each}
use Rattle.paper_sheets.proofs.Digits.{each_append}
use Rattle.paper_sheets.proofs.Lines.{Fits, fits_width, fits_short}
use Rattle.paper_sheets.proofs.Sheets.{each_of, flat, flat_length, calls_section, IsSection, written_next, not_reached}
use Rattle.sheet.specs.Numbers.{days_at, day_count, corridors_at, corridor_count, end_at, AreOfSheet, numbers_read, KeepsNumbers}
use Rattle.sheet.specs.Checked.{HandsOut}
use Rattle.forms.specs.Reads.{progress_of, ReadsLines}
use Rattle.forms.specs.declared.Place.{Place}
use Rattle.forms.specs.declared.Bad.{Bad}

-- What a section keeps: its count and the numbers of its rows, each row of its width and each number short.
abbrev numbers_of : List (List ℕ) → List ℕ
numbers_of rows = length rows ∷ flat rows

flat_short : (form : List Item) (rows : List (List ℕ)) → Each (Fits form) rows → AreShort (flat rows)
flat_short form [] fits = tt
flat_short form (row ∷ rows) fits = each_append (λ n. n < 10 ^ most_digits) row (flat rows) (fits_short form row fits.0) (flat_short form rows fits.1)

module _ {s : Section} {ns text more rest : List ℕ} (is : IsSection s ns text more rest) where
  section_wide : Each (λ row. length row ≡ width_of s) is.rows
  section_wide = each_of (Fits s.form) (λ row. length row ≡ width_of s) (fits_width s.form) is.rows is.fits

  section_short : s.most ≤ 1000 → AreShort (numbers_of is.rows)
  section_short few = (omega arith, flat_short s.form is.rows is.fits)

-- The numbers of three sections, with anything behind them: where the counts stand, and which calls they ask.
abbrev all_of : List (List ℕ) → List (List ℕ) → List (List ℕ) → List ℕ
all_of one two three = numbers_of one ++ numbers_of two ++ numbers_of three

module _ (one two three : List (List ℕ)) (p : Each (λ row. length row ≡ width_of openings) one) (q : Each (λ row. length row ≡ width_of days) two) (r : Each (λ row. length row ≡ width_of corridors) three) (behind : List ℕ) where
  abbrev all : List ℕ
  all = all_of one two three ++ behind

  from_second : all ≡ numbers_of one ++ (numbers_of two ++ (numbers_of three ++ behind))
  from_second = append_assoc (numbers_of one ++ numbers_of two) (numbers_of three) behind ∙ append_assoc (numbers_of one) (numbers_of two) (numbers_of three ++ behind)

  day_count_lem : day_count all ≡ length two
  day_count_lem =
      ap (λ (l : List ℕ). get_or l (days_at all) 0) from_second
      ∙ get_or_at (numbers_of one) (length two) (flat two ++ (numbers_of three ++ behind)) 0 (days_at all) (omega (arith, flat_length width one p))

  corridor_count_lem : corridor_count all ≡ length three
  corridor_count_lem =
      ap (λ (l : List ℕ). get_or l (corridors_at all) 0) (append_assoc (numbers_of one ++ numbers_of two) (numbers_of three) behind)
      ∙ get_or_at (numbers_of one ++ numbers_of two) (length three) (flat three ++ behind) 0 (corridors_at all)
      (rw day_count_lem (omega (arith, length-append (numbers_of one) (numbers_of two), flat_length width one p, flat_length 5 two q)))

  all_long : length (all_of one two three) ≡ end_at all
  all_long =
      rw (corridor_count_lem, day_count_lem) (omega (
        arith,
        length-append (numbers_of one) (numbers_of two),
        length-append (numbers_of one ++ numbers_of two) (numbers_of three),
        flat_length width one p,
        flat_length 5 two q,
        flat_length 11 three r,
      ))

  all_calls : calls_of sections all ≡ map openings.call one ++ (map days.call two ++ (map corridors.call three ++ []))
  unfolding calls_of
  all_calls =
      ap (calls_of sections) from_second
      ∙ calls_section openings (days ∷ corridors ∷ []) one (numbers_of two ++ (numbers_of three ++ behind)) p
      ∙ ap (λ (calls : List Call). map openings.call one ++ calls)
      (calls_section days (corridors ∷ []) two (numbers_of three ++ behind) q
      ∙ ap (λ (calls : List Call). map days.call two ++ calls) (calls_section corridors [] three behind r))

-- After the last section the numbers are as they are.
nothing_more : (line : ℕ) (ns text : List ℕ) (end : ℕ) (more rest : List ℕ) → read_sections [] line ns text ≡ reached end more rest → ns ≡ more
unfolding read_sections read_nothing
nothing_more line ns [] end more rest e = cc
nothing_more line ns (b ∷ bs) end more rest e = absurd (not_reached e)

-- An accepted sheet's numbers are those of a sheet, and ask its calls, whatever stands behind them.
complete : (sheet : List ℕ) (end : ℕ) (ns rest behind : List ℕ) → read_sheet sheet ≡ reached end ns rest → (calls_of sections (ns ++ behind) ≡ calls_of sections ns) × AreOfSheet (ns ++ behind)
unfolding read_sheet
complete sheet end ns rest behind e =
    let after_one = written_next openings (days ∷ corridors ∷ []) refl 1 [] sheet end ns rest e in
    let after_two = written_next days (corridors ∷ []) refl after_one.line after_one.read after_one.left end ns rest after_one.others in
    let after-three = written_next corridors [] refl after_two.line after_two.read after_two.left end ns rest after_two.others in
    let one = after_one.section in
    let two = after_two.section in
    let three = after-three.section in
    let p = section_wide one in
    let q = section_wide two in
    let r = section_wide three in
    let kept : ns ≡ all_of one.rows two.rows three.rows
    = sym (nothing_more after-three.line after-three.read after-three.left end ns rest after-three.others)
    ∙ three.numbers
    ∙ ap (λ (l : List ℕ). l ++ numbers_of three.rows) (two.numbers ∙ ap (λ (l : List ℕ). l ++ numbers_of two.rows) one.numbers) in
    let calls = all_calls one.rows two.rows three.rows p q r in
    let short = each_append (λ n. n < 10 ^ most_digits) in
    rw kept (
      calls behind ∙ sym (calls []) ∙ ap (calls_of sections) (append-nil _),
      record {
        openings_most = one.most;
        days_most = rw (day_count_lem one.rows two.rows three.rows p q r behind) two.most;
        corridors_most = rw (corridor_count_lem one.rows two.rows three.rows p q r behind) three.most;
        short = rw (take_at (all_of one.rows two.rows three.rows) behind _ (all_long one.rows two.rows three.rows p q r behind))
            (short (numbers_of one.rows ++ numbers_of two.rows) (numbers_of three.rows)
            (short (numbers_of one.rows) (numbers_of two.rows) (section_short one (lit≤ tt)) (section_short two (lit≤ tt)))
            (section_short three (lit≤ tt)));
      },
    )

-- So many of some numbers are as many as they are.
take_length : (n : ℕ) (ns : List ℕ) → take (length (take n ns)) ns ≡ take n ns
take_length zero ns = refl
take_length (suc n) [] = refl
take_length (suc n) (m ∷ ns) = ap (λ (l : List ℕ). m ∷ l) (take_length n ns)

-- No line is longer than what is left of the text.
pub line_within : (text : List ℕ) → line_length text ≤ length text
unfolding line_length
line_within [] = omega arith
line_within (b ∷ bs) = go (eqb b line_feed) (line_within bs)
  where
    go : (t : Bool) → line_length bs ≤ length bs → cond t 0 (suc (line_length bs)) ≤ suc (length bs)
    go true h = omega arith
    go false h = omega arith

pub end_within : (text : List ℕ) (from : ℕ) → from ≤ length text → from + line_length (drop from text) ≤ length text
end_within text from h = omega (arith, line_within (drop from text), length-drop from text)

-- What a check finds: a sheet that is too long; one that is read to its end; and one with a bad line, which ends at `to`.
pub finds_long : (sheet : List ℕ) → most_bytes < length sheet → HandsOut sheet (nowhere 9) []
unfolding finding
finds_long sheet long = record { finds = rw (lt-leb (length sheet) most_bytes long); hands = refl }

module _ {sheet numbers : List ℕ} (few : length sheet ≤ most_bytes) where
  found : {p : Result Place Bad} → ReadsLines sheet numbers (read_sheet sheet) p → finding sheet ≡ finding_of sheet (progress_of sheet numbers p)
  unfolding finding
  found read = rw (le-leb (length sheet) most_bytes few, read.reads)

  module _ {p : Place} (read : ReadsLines sheet numbers (read_sheet sheet) (Ok p)) where
    pub finds_none : HandsOut sheet (nowhere 0) []
    finds_none = record { finds = found read; hands = refl }

    pub keeps_all : KeepsNumbers sheet numbers
    unfolding asks
    keeps_all =
        let end : read_sheet sheet ≡ reached p.line (take p.kept numbers) (drop p.at sheet) = sym read.reads in
        let all = complete sheet p.line (take p.kept numbers) (drop p.at sheet) (drop p.kept numbers) end in
        let whole = rw (take-append-drop p.kept numbers) at all in
        let reads : numbers_read (read_sheet sheet) ≡ take p.kept numbers = ap numbers_read end in
        record {
          read = rw reads (take_length p.kept numbers);
          form = whole.1;
          calls = whole.0 ∙ rw (found read, end);
        }

  pub finds_bad : {bad : Bad} → ReadsLines sheet numbers (read_sheet sheet) (Err bad) → (to : ℕ) → to ≡ bad.at + line_length (drop bad.at sheet) → (part : List ℕ) → part ≡ take (to - bad.start) (drop bad.start sheet) → HandsOut sheet (record { number = 9; line = bad.line; start = bad.start; length = length part }) part
  finds_bad {bad} read to ends part cut =
      let line = read.stands in
      let long : to - bad.start ≡ line_length (drop bad.start sheet) = omega arith in
      let whole : length part ≡ to - bad.start = ap length cut ∙ length-take-le (to - bad.start) (drop bad.start sheet) (omega (arith, line_within (drop bad.start sheet))) in
      let start : length sheet - length (drop bad.start sheet) ≡ bad.start = omega (arith, length-drop bad.start sheet) in
      record {
        finds = found read ∙ λ i. record { number = 9; line = bad.line; start = start i; length = sym (whole ∙ long) i };
        hands = cut ∙ ap (λ (n : ℕ). take n (drop bad.start sheet)) (sym whole);
      }
