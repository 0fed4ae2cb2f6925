-- The book word by word: a row is read at its place, the searches find the first, and a row that is written is read back. Assumes nothing.
use mathlib.Core.Path.{◌≡◌, refl, sym, ap, subst, subst⁻¹, ◌∙◌}
use mathlib.Core.Bool.{Bool, true, false}
use mathlib.Core.List.{List, [], ◌∷◌}
use mathlib.Core.Logic.{◌⊎◌, inl, inr, ⊎_elim}
use Prim.Native.Nat.{ℕ, zero, suc, ◌+◌, ◌*◌, ◌-◌, ◌≤◌, ◌<◌, suc-le-suc}
use native.Mathlib.Nat.{not-suc-le-zero, eq-or-lt_of_le, le_of_suc-le-suc, le_antisymm, lt_of_not-le}
use native.Mathlib.Decide.{dec_le}
use native.Mathlib.Omega.{arith}
use borrow.Author.Tests.{eqb-true, eq-eqb, ltb-true, lt-ltb}
use lib.Dec.{eqb, lit<}
use lib.ListN.{length, get_or, take, drop, length-take, length-drop, drop_of_length-le}
use lib.Seq.{length-sets, get_or-take, get_or-drop, take-nil, ext_get_or}
use Rattle.paper.specs.Row.{instrument, width, word}
use Rattle.paper.specs.Book.{rows, row_at, with_row, is_zeros, place_for, row_for, is_open, free_place, all_below, size}
use Rattle.paper.specs.Promises.Found.{IsFirst}
use Rattle.paper.specs.Promises.Book.{word_at, Holds, IsFree, IsOpen, PlacesMean, WritingMeans}
use Rattle.paper.proofs.Tests.{clash, not_passed, and_left, and_right, and_both}
use Rattle.paper.proofs.Found.{first, first_least}
use Rattle.paper.proofs.Stores.{sets_under, sets_at, sets_over}

-- A test that passes at every number below n passes at each, and where it passes at each it passes.
pub below_all : (n : ℕ) (passes : ℕ → Bool) → all_below n passes ≡ true → (k : ℕ) → k < n → passes k ≡ true
unfolding all_below
below_all zero passes e k l = absurd (not-suc-le-zero l)
below_all (suc n) passes e k l =
    ⊎_elim (λ same. subst⁻¹ (λ (i : ℕ). passes i ≡ true) same (and_left (passes n) (all_below n passes) e))
    (below_all n passes (and_right (passes n) (all_below n passes) e) k)
    (eq-or-lt_of_le (le_of_suc-le-suc l))

pub all_below_lem : (n : ℕ) (passes : ℕ → Bool) → ((k : ℕ) → k < n → passes k ≡ true) → all_below n passes ≡ true
unfolding all_below
all_below_lem zero passes each = refl
all_below_lem (suc n) passes each =
    and_both (passes n) (all_below n passes) (each n (omega arith)) (all_below_lem n passes (λ k l. each k (omega arith)))

-- Where it fails at one, it does not pass at every one.
pub below_not : (n : ℕ) (passes : ℕ → Bool) (k : ℕ) → k < n → passes k ≡ false → all_below n passes ≡ false
below_not n passes k l e = not_passed (all_below n passes) (λ f. clash (passes k) (below_all n passes f k l) e)

-- A row is the part of the book from its first word on.
pub part_row : (book : List ℕ) (k : ℕ) → take (k * width + width - k * width) (drop (k * width) book) ≡ row_at book k
unfolding row_at
part_row book k =
    let long : k * width + width - k * width ≡ width = omega arith in
    ap (λ (n : ℕ). take n (drop (k * width) book)) long

-- A row is read word by word at its place.
pub row_word_at : (book : List ℕ) (k place : ℕ) → place < width → word (row_at book k) place ≡ word_at book k place
unfolding row_at
row_word_at book k place l =
    get_or-take width (drop (k * width) book) place 0 l ∙ get_or-drop (k * width) book place 0
    ∙ ap (λ (at : ℕ). get_or book at 0) (omega arith)

pub row_start : (book : List ℕ) (k : ℕ) → word (row_at book k) instrument ≡ get_or book (k * width) 0
row_start book k =
    let at : width * k + 0 ≡ k * width = omega arith in
    row_word_at book k 0 (lit< tt) ∙ ap (λ (n : ℕ). get_or book n 0) at

module _ (book : List ℕ) (long : length book ≡ size) where
  pub row_long_at : (k : ℕ) → k < 64 → length (row_at book k) ≡ width
  unfolding row_at
  row_long_at k l = simp (length-take, length-drop) (omega arith)

  pub row_holds : (k : ℕ) → k < 64 → Holds book k (row_at book k)
  row_holds k l = record { long = row_long_at k l; each = λ place p. sym (row_word_at book k place p) }

  -- What a row holds is the row.
  pub held_row : (k : ℕ) (ws : List ℕ) → k < 64 → Holds book k ws → row_at book k ≡ ws
  held_row k ws l h =
      ext_get_or 0 (row_at book k) ws (row_long_at k l ∙ sym h.long)
      (λ place p. row_word_at book k place (subst (λ (n : ℕ). place < n) (row_long_at k l) p) ∙ h.each place (subst (λ (n : ℕ). place < n) (row_long_at k l) p))

-- All zeros: by the words.
pub zeros_say : (ws : List ℕ) → is_zeros ws ≡ true → (place : ℕ) → get_or ws place 0 ≡ 0
unfolding is_zeros
zeros_say [] e place = refl
zeros_say (n ∷ ns) e zero = eqb-true n 0 (and_left (eqb n 0) (is_zeros ns) e)
zeros_say (n ∷ ns) e (suc place) = zeros_say ns (and_right (eqb n 0) (is_zeros ns) e) place

pub zeros_tell : (ws : List ℕ) → ((place : ℕ) → place < length ws → get_or ws place 0 ≡ 0) → is_zeros ws ≡ true
unfolding is_zeros
zeros_tell [] each = refl
zeros_tell (n ∷ ns) each =
    and_both (eqb n 0) (is_zeros ns) (eq-eqb n 0 (each 0 (omega arith))) (zeros_tell ns (λ place l. each (suc place) (suc-le-suc l)))

pub zeros_not : (ws : List ℕ) (place : ℕ) → ¬ (get_or ws place 0 ≡ 0) → is_zeros ws ≡ false
zeros_not ws place n = not_passed (is_zeros ws) (λ e. n (zeros_say ws e place))

pub free_says : (book : List ℕ) (k : ℕ) → is_zeros (row_at book k) ≡ true → IsFree book k
free_says book k e place l = sym (row_word_at book k place l) ∙ zeros_say (row_at book k) e place

pub free_tells : (book : List ℕ) (k : ℕ) → IsFree book k → is_zeros (row_at book k) ≡ true
unfolding row_at
free_tells book k free =
    zeros_tell (row_at book k)
    (λ place l. let short : place < width = omega (arith, length-take width (drop (k * width) book)) in row_word_at book k place short ∙ free place short)

module _ (book : List ℕ) where
  pub place_first : (i : ℕ) → IsFirst 64 (λ k. word_at book k 0 ≡ i) (place_for book i)
  unfolding place_for
  place_first i =
      first (λ k. eqb (word (row_at book k) instrument) i) (λ k. word_at book k 0 ≡ i) 64
      (λ k e. sym (row_word_at book k 0 (lit< tt)) ∙ eqb-true (word (row_at book k) instrument) i e)
      (λ k e. eq-eqb (word (row_at book k) instrument) i (row_word_at book k 0 (lit< tt) ∙ e))

  pub place_start : (i : ℕ) → IsFirst 64 (λ k. get_or book (k * width) 0 ≡ i) (place_for book i)
  unfolding place_for
  place_start i =
      first (λ k. eqb (word (row_at book k) instrument) i) (λ k. get_or book (k * width) 0 ≡ i) 64
      (λ k e. sym (row_start book k) ∙ eqb-true (word (row_at book k) instrument) i e)
      (λ k e. eq-eqb (word (row_at book k) instrument) i (row_start book k ∙ e))

  pub free_first : IsFirst 64 (IsFree book) (free_place book)
  unfolding free_place
  free_first = first (λ k. is_zeros (row_at book k)) (IsFree book) 64 (free_says book) (free_tells book)

  pub open_says : (i : ℕ) → is_open book i ≡ true → IsOpen book i
  unfolding is_open
  open_says i e =
      let l = ltb-true (place_for book i) rows e in
      record { place = place_for book i; below = l; there = (place_first i).holds l }

  -- The first row that holds an instrument is not past one that does.
  pub place_below : (i : ℕ) → IsOpen book i → place_for book i < 64
  place_below i o = omega (arith, first_least 64 (λ k. word_at book k 0 ≡ i) o.place (place_for book i) (place_first i) o.there, o.below)

  pub open_tells : (i : ℕ) → IsOpen book i → is_open book i ≡ true
  unfolding is_open
  open_tells i o = lt-ltb (place_for book i) rows (place_below i o)

-- An instrument that is not open has the empty row: there is nothing past the last one.
pub closed_place : (book : List ℕ) (i : ℕ) → ¬ IsOpen book i → place_for book i ≡ 64
closed_place book i closed =
    let f = place_first book i in
    le_antisymm f.not_past
    (omega (arith, lt_of_not-le (λ (l : suc (place_for book i) ≤ 64). closed (record { place = place_for book i; below = l; there = f.holds l }))))

pub closed_row : (book : List ℕ) (i : ℕ) → length book ≡ size → ¬ IsOpen book i → row_for book i ≡ []
unfolding row_for row_at
closed_row book i long closed =
    ap (row_at book) (closed_place book i closed) ∙ ap (take width) (drop_of_length-le book {i = size} (omega arith)) ∙ take-nil width

pub places_mean : PlacesMean
unfolding row_for
places_mean =
    record {
      place = place_first;
      held = λ book i. (open_says book i, open_tells book i);
      free = free_first;
      row = λ book i long o. row_holds book long (place_for book i) (place_below book i o);
      no_row = closed_row;
    }

-- A row written.
module _ (book : List ℕ) (k : ℕ) (ws : List ℕ) where
  pub written_long : length (with_row book k ws) ≡ length book
  unfolding with_row
  written_long = length-sets book (k * width) ws

  pub written_outside : (at : ℕ) → length ws ≡ width → (at < width * k) ⊎ (width * k + width ≤ at) → get_or (with_row book k ws) at 0 ≡ get_or book at 0
  unfolding with_row
  written_outside at e (inl l) = sets_under book (k * width) ws at (omega arith)
  written_outside at e (inr l) = sets_over book (k * width) ws at (omega arith)

  pub written_word : (place : ℕ) → length book ≡ size → k < 64 → length ws ≡ width → place < width → word_at (with_row book k ws) k place ≡ get_or ws place 0
  unfolding with_row
  written_word place long l e p =
      ap (λ (at : ℕ). get_or (with_row book k ws) at 0) (omega arith) ∙ sets_at book (k * width) ws place (omega arith) (omega arith)

  -- Every other row is as it was.
  pub written_other : (j place : ℕ) → length ws ≡ width → ¬ (j ≡ k) → place < width → word_at (with_row book k ws) j place ≡ word_at book j place
  written_other j place e n p = written_outside (width * j + place) e (apart (dec_le k j))
    where
      apart : Dec (k ≤ j) → (width * j + place < width * k) ⊎ (width * k + width ≤ width * j + place)
      apart (yes l) = inr (omega (arith, n))
      apart (no l) = inl (omega (arith, l))

  pub written_holds : length book ≡ size → k < 64 → length ws ≡ width → Holds (with_row book k ws) k ws
  written_holds long l e = record { long = e; each = λ place p. written_word place long l e p }

  pub written_row : length book ≡ size → k < 64 → length ws ≡ width → row_at (with_row book k ws) k ≡ ws
  written_row long l e = held_row (with_row book k ws) (written_long ∙ long) k ws l (written_holds long l e)

  pub written_others : (j : ℕ) → length book ≡ size → length ws ≡ width → ¬ (j ≡ k) → j < 64 → row_at (with_row book k ws) j ≡ row_at book j
  written_others j long e n l =
      held_row (with_row book k ws) (written_long ∙ long) j (row_at book j) l
      (record { long = row_long_at book long j l; each = λ place p. written_other j place e n p ∙ sym (row_word_at book j place p) })

pub writing_means : WritingMeans
writing_means =
    record {
      reads_back = λ book k ws long l e. (written_holds book k ws long l e, written_row book k ws long l e);
      outside = λ book k ws at e side. written_outside book k ws at e side;
      long = written_long;
    }
