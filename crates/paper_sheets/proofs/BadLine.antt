-- A sheet that is not too long is accepted or has a first bad line: it is read line by line, each of them alike whatever follows it. Assumes nothing.
use mathlib.Core.Path.{◌≡◌, refl, sym, ap, subst, ◌∙◌}
use mathlib.Core.Bool.{Bool, true, false, cond, ◌&&◌, true≢false}
use mathlib.Core.List.{List, [], ◌∷◌, ◌++◌, append-nil, append_assoc}
use mathlib.Core.Logic.{◌⊎◌, inl, inr}
use Prim.Native.Nat.{ℕ, zero, suc, ◌+◌, ◌-◌, ◌≤◌, ◌<◌}
use native.Mathlib.Numerals.{sub-one}
use native.Mathlib.Omega.{arith}
use borrow.Author.Tests.{le-leb}
use lib.Dec.{leb, eqb}
use lib.ListN.{length, get_or, length-append}
use lib.Seq.{take-append_seam, drop-append_seam, take-append-add, get_or-append_seam, get_or-append-add}
use Rattle.paper_sheets.specs.Sheet.{line_feed, most_bytes, value_from, Item, stopped, at, read_items, Section, count_form, sections, Progress, broken, reached, after_line, after_lines, read_rows, read_section, read_nothing, read_sections, read_sheet, line_length, nowhere, finding_of, finding}
use Rattle.paper_sheets.specs.Promises.Sheet.{line_feeds, IsBadLine, FirstBadLine}
use Rattle.paper_sheets.proofs.OneLine.{Free, by_line, value_before, is_whole, numbers, line_unended, line_ended}

-- What reads line by line, from the line of a number on: the last bytes, with no LF, are bad or the end; a line that is ended is bad, or what follows it is read the same way.
data Reads : (List ℕ → Progress) → ℕ → Type 0 where
  lines :
      {f : List ℕ → Progress} {n : ℕ} (is_good : List ℕ → Bool) (next : List ℕ → List ℕ → Progress)
      → ((l : List ℕ) → Free l → (f l ≡ broken n l) ⊎ ((ns : List ℕ) × (f l ≡ reached n ns l)))
      → ((l rest : List ℕ) → Free l → f (l ++ line_feed ∷ rest) ≡ cond (is_good l) (next l rest) (broken n (l ++ line_feed ∷ rest)))
      → ((l : List ℕ) → is_good l ≡ true → Reads (next l) (suc n))
      → Reads f n

-- After a line that is whole and passes a test; the line itself where it is not or does not.
after_line_lem : (q : ℕ → List ℕ → List ℕ → Progress) (n : ℕ) (text ns rest : List ℕ) (next : List ℕ → List ℕ → Progress) (t u : Bool) → after_lines q (after_line n text (λ read more. cond t (next read more) (broken n text)) (cond u (at ns rest) stopped)) ≡ cond (t && u) (after_lines q (next ns rest)) (broken n text)
after_line_lem q n text ns rest next true true = refl
after_line_lem q n text ns rest next true false = refl
after_line_lem q n text ns rest next false true = refl
after_line_lem q n text ns rest next false false = refl

module _ (q : ℕ → List ℕ → List ℕ → Progress) (then : (n : ℕ) (ns : List ℕ) → Reads (q n ns) n) where
  rows_read : (form : List Item) (k n : ℕ) (ns : List ℕ) → Reads (λ text. after_lines q (read_rows form k n ns text)) n
  unfolding read_rows
  rows_read form zero n ns = then n ns
  rows_read form (suc k) n ns =
      let read = read_items form ns in
      lines {f = λ text. after_lines q (read_rows form (suc k) n ns text)} {n = n} (λ l. is_whole (read l))
      (λ l rest. after_lines q (read_rows form k (suc n) (numbers (read l)) rest))
      (λ l free. inl (rw (line_unended form ns l free)))
      (λ l rest free. rw (line_ended form ns l rest free) (after_line_lem q n _ _ rest (read_rows form k (suc n)) true (is_whole (read l))))
      (λ l e. rows_read form k (suc n) (numbers (read l)))

  section_read : (s : Section) (n : ℕ) (ns : List ℕ) → Reads (λ text. after_lines q (read_section s n ns text)) n
  unfolding read_section
  section_read s n ns =
      let read = read_items count_form ns in
      lines {f = λ text. after_lines q (read_section s n ns text)} {n = n} (λ l. leb (value_from 0 l) s.most && is_whole (read l))
      (λ l rest. after_lines q (read_rows s.form (value_from 0 l) (suc n) (numbers (read l)) rest))
      (λ l free. inl (rw (line_unended count_form ns l free)))
      (λ l rest free. rw (line_ended count_form ns l rest free, value_before rest l 0) (after_line_lem q n _ _ rest (read_rows s.form (value_from 0 l) (suc n)) (leb (value_from 0 l) s.most) (is_whole (read l))))
      (λ l e. rows_read s.form (value_from 0 l) (suc n) (numbers (read l)))

nothing_read : (n : ℕ) (ns : List ℕ) → Reads (read_nothing n ns) n
unfolding read_nothing
nothing_read n ns = lines (λ l. false) (λ l rest. broken n rest) ended_by starts_by (λ l e. absurd (true≢false (sym e)))
  where
    ended_by : (l : List ℕ) → Free l → (read_nothing n ns l ≡ broken n l) ⊎ ((ms : List ℕ) × (read_nothing n ns l ≡ reached n ms l))
    ended_by [] free = inr (ns, refl)
    ended_by (b ∷ bs) free = inl refl

    starts_by : (l rest : List ℕ) → Free l → read_nothing n ns (l ++ line_feed ∷ rest) ≡ broken n (l ++ line_feed ∷ rest)
    starts_by [] rest free = refl
    starts_by (b ∷ bs) rest free = refl

sections_read : (ss : List Section) (n : ℕ) (ns : List ℕ) → Reads (read_sections ss n ns) n
unfolding read_sections
sections_read [] n ns = nothing_read n ns
sections_read (s ∷ ss) n ns = section_read (read_sections ss) (sections_read ss) s n ns

-- Nothing is found bad before the line where reading starts.
abbrev NotBefore : ℕ → Progress → Type 0
NotBefore n (broken m text) = n ≤ m
NotBefore n (reached m ns text) = Unit {0}

not_before : {f : List ℕ → Progress} {n : ℕ} → Reads f n → (text : List ℕ) → NotBefore n (f text)
not_before {f} {n} (lines is_good next lasts goes then) text =
    by_line (λ text. NotBefore n (f text)) (λ l free. at_end (lasts l free))
    (λ l rest free. rw (goes l rest free) (at_line (is_good l) (next l rest) _ (λ e. not_before (then l e) rest)))
    text
  where
    at_end : {p : Progress} {l : List ℕ} → (p ≡ broken n l) ⊎ ((ns : List ℕ) × (p ≡ reached n ns l)) → NotBefore n p
    at_end (inl e) = rw e (omega arith)
    at_end (inr r) = rw r.1 tt

    at_line : (t : Bool) (p : Progress) (text : List ℕ) → (t ≡ true → NotBefore (suc n) p) → NotBefore n (cond t p (broken n text))
    at_line true (broken m more) text later = omega (arith, later refl)
    at_line true (reached m ns more) text later = tt
    at_line false p text later = omega arith

-- The last byte of bytes, or another where they are none.
abbrev last_of : ℕ → List ℕ → ℕ
last_of d [] = d
last_of d (b ∷ bs) = last_of b bs

last_is : (l : List ℕ) (d b : ℕ) (bs : List ℕ) → last_of d (l ++ b ∷ bs) ≡ last_of b bs
last_is [] d b bs = refl
last_is (c ∷ cs) d b bs = last_is cs c b bs

last_at : (bs rest : List ℕ) (b : ℕ) → get_or (b ∷ (bs ++ rest)) (length bs) 0 ≡ last_of b bs
last_at [] rest b = refl
last_at (c ∷ cs) rest b = last_at cs rest c

-- How many LF bytes have that have none, and bytes after others.
feeds_free : (l : List ℕ) → Free l → line_feeds l ≡ 0
feeds_free [] free = refl
feeds_free (b ∷ bs) free = rw free.0 (feeds_free bs free.1)

feeds_both : (l m : List ℕ) → line_feeds (l ++ m) ≡ line_feeds l + line_feeds m
feeds_both [] m = omega arith
feeds_both (b ∷ bs) m = go (eqb b line_feed) (feeds_both bs m)
  where
    go : (t : Bool) → line_feeds (bs ++ m) ≡ line_feeds bs + line_feeds m → cond t (suc (line_feeds (bs ++ m))) (line_feeds (bs ++ m)) ≡ cond t (suc (line_feeds bs)) (line_feeds bs) + line_feeds m
    go true e = omega arith
    go false e = e

-- Bytes that do not go on a line: none, or an LF first.
abbrev Ends : List ℕ → Type 0
Ends [] = Unit {0}
Ends (b ∷ bs) = b ≡ line_feed

line_length_lem : (l rest : List ℕ) → Free l → Ends rest → line_length (l ++ rest) ≡ length l
unfolding line_length
line_length_lem [] [] free ends = refl
line_length_lem [] (b ∷ bs) free ends = rw ends
line_length_lem (b ∷ bs) rest free ends = rw free.0 (ap suc (line_length_lem bs rest free.1 ends))

length_parts : (before here rest : List ℕ) → length (before ++ (here ++ rest)) ≡ length before + (length here + length rest)
length_parts before here rest = simp length-append

-- What is to be proved of a sheet.
abbrev Goal : List ℕ → Type 0
Goal sheet = length sheet ≤ most_bytes → (finding sheet ≡ nowhere 0) ⊎ IsBadLine sheet (finding sheet)

found_by : (sheet : List ℕ) → length sheet ≤ most_bytes → finding sheet ≡ finding_of sheet (read_sheet sheet)
unfolding finding
found_by sheet short = rw (le-leb (length sheet) most_bytes short)

-- The bytes before a line, with what reads on from there: as the whole sheet is read after them.
record After (f : List ℕ → Progress) (n : ℕ) (before : List ℕ) : Type 0 where
  same : (other : List ℕ) → read_sheet (before ++ other) ≡ f other
  numbered : n ≡ suc (line_feeds before)
  starts : last_of line_feed before ≡ line_feed

one_line_more : (before l rest : List ℕ) → before ++ l ++ line_feed ∷ [] ++ rest ≡ before ++ (l ++ line_feed ∷ rest)
one_line_more before l rest = simp append_assoc

after_more : {f g : List ℕ → Progress} {n : ℕ} {before : List ℕ} → After f n before → (l : List ℕ) → Free l → ((other : List ℕ) → f (l ++ line_feed ∷ other) ≡ g other) → After g (suc n) (before ++ l ++ line_feed ∷ [])
after_more {before = before} a l free goes =
    record {
      same = λ other. rw (one_line_more before l other) (a.same (l ++ line_feed ∷ other) ∙ goes other);
      numbered = omega (arith, a.numbered, feeds_free l free, feeds_both before l, feeds_both (before ++ l) (line_feed ∷ []));
      starts = last_is (before ++ l) line_feed line_feed [];
    }

-- Where a line is bad, it is what the finding says of it.
placed : (n : ℕ) (before here rest : List ℕ) → Free here → Ends rest → read_sheet (before ++ (here ++ rest)) ≡ broken n (here ++ rest) → length (before ++ (here ++ rest)) ≤ most_bytes → finding (before ++ (here ++ rest)) ≡ record { number = 9; line = n; start = length before; length = length here }
placed n before here rest free ends e short =
    found_by _ short
    ∙ rw (e, line_length_lem here rest free ends)
    (ap (λ (start : ℕ). record { number = 9; line = n; start = start; length = length here }) (omega (arith, length_parts before here rest, length-append here rest)))

module _ {f : List ℕ → Progress} {n : ℕ} {before : List ℕ} (reads : Reads f n) (a : After f n before) (here rest : List ℕ) (free : Free here) (ends : Ends rest) (bad : f (here ++ rest) ≡ broken n (here ++ rest)) (bad_itself : 0 < length rest → (other : List ℕ) → f (here ++ line_feed ∷ other) ≡ broken n (here ++ line_feed ∷ other)) where
  starts_at : (l : List ℕ) → last_of line_feed l ≡ line_feed → (length l ≡ 0) ⊎ (get_or (l ++ (here ++ rest)) (length l - 1) 0 ≡ line_feed)
  starts_at [] s = inl refl
  starts_at (b ∷ bs) s = inr (rw sub-one (last_at bs (here ++ rest) b ∙ s))

  ends_at : (m : List ℕ) → Ends m → (length before + length here ≡ length (before ++ (here ++ m))) ⊎ (get_or (before ++ (here ++ m)) (length before + length here) 0 ≡ line_feed)
  ends_at [] e = inl (omega (arith, length_parts before here []))
  ends_at (b ∷ bs) e = inr (get_or-append-add before (here ++ b ∷ bs) (length here) 0 ∙ get_or-append_seam here b bs 0 ∙ e)

  not_sooner : (sheet : List ℕ) (p : Progress) → NotBefore n p → ((finding_of sheet p).number ≡ 0) ⊎ (n ≤ (finding_of sheet p).line)
  not_sooner sheet (broken m text) h = inr h
  not_sooner sheet (reached m ns text) h = inl refl

  is_bad_line : Goal (before ++ (here ++ rest))
  is_bad_line short =
      inr (rw (placed n before here rest free ends (a.same (here ++ rest) ∙ bad) short)
      (record {
        refused = refl;
        within = omega (arith, length_parts before here rest);
        numbered = rw take-append_seam a.numbered;
        starts = starts_at before a.starts;
        one_line = rw (drop-append_seam, take-append_seam) (feeds_free here free);
        ends = ends_at rest ends;
        good_before =
            rw take-append_seam
            (λ other short. rw (found_by _ short, a.same other) (not_sooner (before ++ other) (f other) (not_before reads other)));
        bad_itself = λ inside other.
            rw (take-append-add, take-append_seam, append_assoc)
            (placed n before here (line_feed ∷ other) free refl
            (a.same (here ++ line_feed ∷ other) ∙ bad_itself (omega (arith, length_parts before here rest)) other));
      }))

-- The lines one after the other.
found_from : {f : List ℕ → Progress} {n : ℕ} → Reads f n → (before text : List ℕ) → After f n before → Goal (before ++ text)
found_from {f} {n} (lines is_good next lasts goes then) before text a =
    by_line (λ text. Goal (before ++ text)) (λ l free. at_end l free (lasts l free))
    (λ l rest free. at_line l rest free (is_good l) refl (λ e. found_from (then l e) (before ++ l ++ line_feed ∷ []) rest))
    text
  where
    reads : Reads f n
    reads = lines is_good next lasts goes then

    at_end : (l : List ℕ) → Free l → (f l ≡ broken n l) ⊎ ((ns : List ℕ) × (f l ≡ reached n ns l)) → Goal (before ++ l)
    at_end l free (inl e) = subst (λ (l : List ℕ). Goal (before ++ l)) (append-nil l) (is_bad_line reads a l [] free tt (rw append-nil e) (λ more. absurd (omega arith)))
    at_end l free (inr r) = λ short. inl (found_by _ short ∙ rw (a.same l ∙ r.1))

    at_line : (l rest : List ℕ) → Free l → (t : Bool) → is_good l ≡ t → (is_good l ≡ true → After (next l) (suc n) (before ++ l ++ line_feed ∷ []) → Goal (before ++ l ++ line_feed ∷ [] ++ rest)) → Goal (before ++ (l ++ line_feed ∷ rest))
    at_line l rest free true e later = subst Goal (one_line_more before l rest) (later e (after_more a l free (λ other. goes l other free ∙ rw e)))
    at_line l rest free false e later = is_bad_line reads a l (line_feed ∷ rest) free refl (goes l rest free ∙ rw e) (λ more other. goes l other free ∙ rw e)

pub first_bad_line : FirstBadLine
unfolding read_sheet
first_bad_line sheet =
    found_from (sections_read sections 1 []) [] sheet (record { same = λ other. refl; numbered = refl; starts = refl })
