-- The calls of rows, acting one after the other: their lines follow each other in the output, each on the book that those before it left. Assumes nothing.
use Prim.Native.Nat.{ℕ, zero, suc, ◌+◌, ◌*◌, ◌-◌, ◌/◌, ◌≤◌, ◌<◌}
use mathlib.Core.Path.{◌≡◌, refl, sym, ap, ap₂, subst, ◌∙◌}
use mathlib.Core.Bool.{true}
use mathlib.Core.List.{List, [], ◌∷◌, ◌++◌, map, map-append, append-nil}
use native.Mathlib.Nat.{zero-add, zero-mul, suc-add, suc-mul, add-mul, add-div_left, mul-add-div_right, mul-div_cancel}
use native.Mathlib.Numerals.{add-one}
use native.Mathlib.Omega.{arith}
use lib.ListN.{length, get_or, take, drop, length-append, length-drop}
use lib.Seq.{take_at, drop_at, take-take, take-add, length-take-le, drop-cons, drop-drop}
use Rattle.paper.specs.Book.{is_sound}
use Rattle.paper.specs.Calls.{Call, Answer, answer, after_all, Kept}
use Rattle.paper_sheets.specs.Sheet.{Section, line_text, answer_line, text_of, cut, calls_of, width_of}
use Rattle.paper_sheets.specs.Written.{AreShort}
use Rattle.paper_sheets.proofs.Morning.{after_append, lines_follow}
use Rattle.lines.specs.Writes.{Writes}
use Rattle.rows.specs.Acts.{HasRoom, Acts}
use Rattle.rows.specs.Rows.{calls_in}
use Rattle.std.proofs.lemmas.Nat.{div-mul-add}
use Rattle.std.proofs.lemmas.Slice.{between_is}
use Rattle.lines.proofs.Texts.{writes_none, writes_then, writes_kept}

-- The same calls, no calls, and calls after calls.
pub acts_as : {book left before after : List ℕ} {at end : ℕ} {xs ys : List Call} → xs ≡ ys → Acts book left before after at end xs → Acts book left before after at end ys
acts_as {book} {left} {before} {after} {at} {end} e a = subst (Acts book left before after at end) e a

pub acts_none : (book before : List ℕ) (at : ℕ) → is_sound book ≡ true → at ≤ length before → Acts book book before before at at []
unfolding text_of
acts_none book before at sound room = record { writes = writes_none before at room; leaves = refl; sound = sound }

pub acts_then : {b₀ b₁ b₂ o₀ o₁ o₂ : List ℕ} {at mid end : ℕ} {xs ys : List Call} → Acts b₀ b₁ o₀ o₁ at mid xs → Acts b₁ b₂ o₁ o₂ mid end ys → Acts b₀ b₂ o₀ o₂ at end (xs ++ ys)
acts_then {b₀} {b₁} {b₂} {o₀} {o₁} {o₂} {at} {mid} {end} {xs} {ys} v w =
    record {
      writes =
          subst (Writes o₀ o₂ at end) (ap (λ (b : List ℕ). text_of b₀ xs ++ text_of b ys) v.leaves ∙ sym (lines_follow.next b₀ xs ys)) (writes_then v.writes w.writes);
      leaves = w.leaves ∙ ap (λ (b : List ℕ). after_all b ys) v.leaves ∙ sym (after_append b₀ xs ys);
      sound = w.sound;
    }

-- A call that kept its promise, and its line: a letter, what it names, and the number and the figures that it answered.
module _ {book left : List ℕ} {call : Call} {answered : Answer} (kept : Kept book call answered left) (letter : ℕ) (names fields : List ℕ)
    (line : (a : Answer) → answer_line call a ≡ line_text letter (names ++ (a.number ∷ a.figures))) (given : fields ≡ answered.number ∷ answered.figures) where
  line_is : text_of book (call ∷ []) ≡ line_text letter (names ++ fields)
  unfolding text_of
  line_is =
      append-nil (answer_line call (answer book call)) ∙ ap (answer_line call) (sym kept.answers) ∙ line answered
      ∙ ap (λ (fs : List ℕ). line_text letter (names ++ fs)) (sym given)

  pub acts_one : {before after : List ℕ} {at end : ℕ} → is_sound left ≡ true → Writes before after at end (line_text letter (names ++ fields)) → Acts book left before after at end (call ∷ [])
  acts_one {before} {after} {at} {end} sound written =
      record { writes = subst (Writes before after at end) (sym line_is) written; leaves = kept.leaves; sound = sound }

  pub line_fits : {out : List ℕ} {at : ℕ} → HasRoom book out at (call ∷ []) → at + length (line_text letter (names ++ fields)) ≤ length out
  line_fits room = omega (arith, room.holds, ap length line_is)

-- Room for the text of calls and of more after them: for the first, and once they have acted for the rest.
text_long : (book : List ℕ) (xs ys : List Call) → length (text_of book (xs ++ ys)) ≡ length (text_of book xs) + length (text_of (after_all book xs) ys)
text_long book xs ys = ap length (lines_follow.next book xs ys) ∙ length-append (text_of book xs) _

room_first : {book out : List ℕ} {at : ℕ} (xs ys : List Call) → HasRoom book out at (xs ++ ys) → HasRoom book out at xs
room_first {book} xs ys room = record { holds = omega (arith, room.holds, text_long book xs ys) }

room_after : {b₀ b₁ o₀ o₁ : List ℕ} {at mid : ℕ} (xs ys : List Call) → Acts b₀ b₁ o₀ o₁ at mid xs → HasRoom b₀ o₀ at (xs ++ ys) → HasRoom b₁ o₁ mid ys
room_after {b₀} xs ys a room =
    record {
      holds = omega (arith, room.holds, text_long b₀ xs ys, a.writes.ends, ap (λ (b : List ℕ). length (text_of b ys)) a.leaves, writes_kept a.writes);
    }

pub room_as : {book out : List ℕ} {at : ℕ} {xs ys : List Call} → xs ≡ ys → HasRoom book out at xs → HasRoom book out at ys
room_as {book} {out} {at} e room = subst (HasRoom book out at) e room

-- The output and the book keep their lengths.
pub acts_length : {book left before after : List ℕ} {at end : ℕ} {calls : List Call} → Acts book left before after at end calls → length after ≡ length before
acts_length a = writes_kept a.writes

pub acts_within : {book left before after : List ℕ} {at end : ℕ} {calls : List Call} → Acts book left before after at end calls → end ≤ length after
acts_within a = omega (arith, a.writes.within, acts_length a)

-- The rows of a section and more after them; and one of them, by the part of the numbers that is lent as the row.
cut_add : (w i n : ℕ) (rows : List ℕ) → cut w (i + n) rows ≡ cut w i rows ++ cut w n (drop (i * w) rows)
unfolding cut
cut_add w zero n rows = (λ j. cut w (zero-add n j) (drop (sym (zero-mul w) j) rows))
cut_add w (suc i) n rows =
    let past : w + i * w ≡ suc i * w = omega (arith, suc-mul i w) in
    ap (λ (k : ℕ). cut w k rows) (suc-add i n)
    ∙ ap (λ (l : List (List ℕ)). take w rows ∷ l)
    (cut_add w i n (drop w rows) ∙ ap (λ (l : List ℕ). cut w i (drop w rows) ++ cut w n l) (drop-drop (i * w) w rows ∙ ap (λ (k : ℕ). drop k rows) past))

-- A row that comes after so many, and what is left of the rows then.
pub record Comes (w i : ℕ) (rows row rest : List ℕ) : Type 0 where
  pub left : drop (i * w) rows ≡ row ++ rest
  pub wide : length row ≡ w

module _ (call : List ℕ → Call) {w i : ℕ} {rows row rest : List ℕ} (some : 0 < w) (comes : Comes w i rows row rest) where
  long : length rows ≡ i * w + (w + length rest)
  long = omega (arith, some, comes.wide, length-drop (i * w) rows, ap length comes.left, length-append row rest)

  row_is : take w (drop (i * w) rows) ≡ row
  row_is = ap (take w) comes.left ∙ take_at row rest w comes.wide

  rest_after : rest ≡ drop w (drop (i * w) rows)
  rest_after = sym (ap (drop w) comes.left ∙ drop_at row rest w comes.wide)

  pub rest_is : rest ≡ drop ((i + 1) * w) rows
  rest_is = rest_after ∙ drop-drop w (i * w) rows ∙ ap (λ (n : ℕ). drop n rows) (omega (arith, add-mul i 1 w))

  pub next_within : (i + 1) * w ≤ length rows
  next_within = omega (arith, long, add-mul i 1 w)

  calls_next : map call (cut w (i + 1) rows) ≡ map call (cut w i rows) ++ (call row ∷ [])
  unfolding cut
  calls_next =
      ap (map call) (cut_add w i 1 rows) ∙ map-append call (cut w i rows) _
      ∙ ap (λ (r : List ℕ). map call (cut w i rows) ++ (call r ∷ [])) row_is

  calls_all : map call (cut w (length rows / w) rows) ≡ map call (cut w i rows) ++ (call row ∷ map call (cut w (length rest / w) rest))
  unfolding cut
  calls_all =
      let count : length rows / w ≡ i + suc (length rest / w) = ap (λ (n : ℕ). n / w) long ∙ mul-add-div_right some i (w + length rest) ∙ omega (arith, add-div_left (length rest) some) in
      ap (λ (n : ℕ). map call (cut w n rows)) count ∙ ap (map call) (cut_add w i (suc (length rest / w)) rows) ∙ map-append call (cut w i rows) _
      ∙ ap₂ (λ (r l : List ℕ). map call (cut w i rows) ++ (call r ∷ map call (cut w (length rest / w) l))) row_is (sym rest_after)

  pub acts_row : {b₀ b₁ b₂ o₀ o₁ o₂ : List ℕ} {at mid end : ℕ} → Acts b₀ b₁ o₀ o₁ at mid (map call (cut w i rows)) → Acts b₁ b₂ o₁ o₂ mid end (call row ∷ []) → Acts b₀ b₂ o₀ o₂ at end (map call (cut w (i + 1) rows))
  acts_row v x = acts_as (sym calls_next) (acts_then v x)

  pub room_row : {b₀ b₁ o₀ o₁ : List ℕ} {at mid : ℕ} → Acts b₀ b₁ o₀ o₁ at mid (map call (cut w i rows)) → HasRoom b₀ o₀ at (map call (cut w (length rows / w) rows)) → HasRoom b₁ o₁ mid (call row ∷ [])
  room_row v room =
      let more : List Call = map call (cut w (length rest / w) rest) in
      room_first (call row ∷ []) more (room_after (map call (cut w i rows)) (call row ∷ more) v (room_as calls_all room))

-- The calls of a section's rows, by another number for how many numbers a row has.
pub calls_wide : (s : Section) (w : ℕ) (rows : List ℕ) → w ≡ width_of s → calls_in s rows ≡ map s.call (cut w (length rows / w) rows)
calls_wide s w rows e = ap (λ (w : ℕ). map s.call (cut w (length rows / w) rows)) (sym e)

-- All the rows are passed where fewer numbers are left than a row has.
pub rows_passed : (w i : ℕ) (rows rest : List ℕ) → rest ≡ drop (i * w) rows → i * w ≤ length rows → length rest < w → length rows / w ≡ i
rows_passed w i rows rest left within few =
    ap (λ (n : ℕ). n / w) (omega (arith, within, ap length left, length-drop (i * w) rows)) ∙ div-mul-add i w (length rest) few

-- The rows of so many numbers are those of a longer list.
cut_take : (w n : ℕ) (rows : List ℕ) → cut w n (take (n * w) rows) ≡ cut w n rows
unfolding cut
cut_take w zero rows = refl
cut_take w (suc n) rows =
    let most : suc n * w ≡ w + n * w = omega (arith, suc-mul n w) in
    let part : drop w (take (suc n * w) rows) ≡ take (n * w) (drop w rows) = sym (between_is rows w (suc n * w)) ∙ ap (λ (m : ℕ). take m (drop w rows)) (omega (arith, most)) in
    ap₂ (λ (row : List ℕ) (l : List (List ℕ)). row ∷ l) (take-take w (suc n * w) rows (omega (arith, most))) (ap (cut w n) part ∙ cut_take w n (drop w rows))

-- The rows of a section whose count stands at a place, as they are lent, and what the sections after it ask.
module _ (s : Section) (ss : List Section) (ns : List ℕ) (k : ℕ) (some : 0 < width_of s) (within : k + 1 + get_or ns k 0 * width_of s ≤ length ns) where
  abbrev lent : List ℕ
  lent = take (k + 1 + get_or ns k 0 * width_of s - (k + 1)) (drop (k + 1) ns)

  abbrev others : List Call
  others = calls_of ss (drop (k + 1 + get_or ns k 0 * width_of s) ns)

  asked_is : calls_in s lent ≡ map s.call (cut (width_of s) (get_or ns k 0) (drop (k + 1) ns))
  asked_is =
      let w = width_of s in
      let count = get_or ns k 0 in
      let long : length lent ≡ count * w = length-take-le _ (drop (k + 1) ns) (omega (arith, within, length-drop (k + 1) ns)) ∙ omega arith in
      let few : length lent / w ≡ count = ap (λ (n : ℕ). n / w) long ∙ mul-div_cancel count some in
      let part : lent ≡ take (count * w) (drop (k + 1) ns) = ap (λ (n : ℕ). take n (drop (k + 1) ns)) (omega arith) in
      ap (map s.call) (ap₂ (cut w) few part ∙ cut_take w count (drop (k + 1) ns))

  calls_at : calls_of (s ∷ ss) (drop k ns) ≡ calls_in s lent ++ others
  unfolding calls_of
  calls_at = rw (drop-cons ns k 0 (omega (arith, within)), ← add-one k, drop-drop, asked_is)

  pub acts_section : {b₀ b₁ b₂ o₀ o₁ o₂ : List ℕ} {at mid end : ℕ} → Acts b₀ b₁ o₀ o₁ at mid (calls_in s lent) → Acts b₁ b₂ o₁ o₂ mid end others → Acts b₀ b₂ o₀ o₂ at end (calls_of (s ∷ ss) (drop k ns))
  acts_section rows more = acts_as (sym calls_at) (acts_then rows more)

  pub room_section : {book out : List ℕ} {at : ℕ} → HasRoom book out at (calls_of (s ∷ ss) (drop k ns)) → HasRoom book out at (calls_in s lent)
  room_section room = room_first (calls_in s lent) others (room_as calls_at room)

  pub room_others : {b₀ b₁ o₀ o₁ : List ℕ} {at mid : ℕ} → Acts b₀ b₁ o₀ o₁ at mid (calls_in s lent) → HasRoom b₀ o₀ at (calls_of (s ∷ ss) (drop k ns)) → HasRoom b₁ o₁ mid others
  room_others rows room = room_after (calls_in s lent) others rows (room_as calls_at room)

-- A part of numbers that are short is short.
short_take : (m : ℕ) (ns : List ℕ) → AreShort ns → AreShort (take m ns)
short_take zero ns short = tt
short_take (suc m) [] short = tt
short_take (suc m) (n ∷ ns) short = (short.0, short_take m ns short.1)

short_right : (xs ys : List ℕ) → AreShort (xs ++ ys) → AreShort ys
short_right [] ys short = short
short_right (x ∷ xs) ys short = short_right xs ys short.1

pub short_part : (n k m : ℕ) (ns : List ℕ) → k + m ≤ n → AreShort (take n ns) → AreShort (take m (drop k ns))
short_part n k m ns within short =
    short_right (take k ns) (take m (drop k ns))
    (subst AreShort (take-take (k + m) n ns within ∙ take-add k m ns) (short_take (k + m) (take n ns) short))
