-- The book: 64 rows one after the other in one list of words.
use Rattle.std.specs.Prelude.{ℕ, zero, suc, ◌*◌, Bool, true, ◌&&◌, ◌||◌, List, [], ◌∷◌, ltb, eqb, length, take, drop}
use Rattle.std.proofs.lemmas.List.Edits.{sets}
use Rattle.paper.specs.Least.{least}
use Rattle.paper.specs.Row.{instrument, width, word, row_in_range}

abbrev pub rows : ℕ
rows = 64

-- How many words it has.
abbrev pub size : ℕ
size = rows * width

-- The row that has this number.
unfoldable pub row_at : List ℕ → ℕ → List ℕ
row_at book k = take width (drop (k * width) book)

-- The book with a row written at this number; every other word stays.
unfoldable pub with_row : List ℕ → ℕ → List ℕ → List ℕ
with_row book k row = sets book (k * width) row

-- A free row is all zeros.
unfoldable pub is_zeros : List ℕ → Bool
is_zeros [] = true
is_zeros (n ∷ ns) = eqb n 0 && is_zeros ns

-- The number of the first row that holds an instrument; `rows` where none does.
unfoldable pub place_for : List ℕ → ℕ → ℕ
place_for book i = least (λ k. eqb (word (row_at book k) instrument) i) rows

-- The row of an instrument; empty where none holds it.
unfoldable pub row_for : List ℕ → ℕ → List ℕ
row_for book i = row_at book (place_for book i)

unfoldable pub is_open : List ℕ → ℕ → Bool
is_open book i = ltb (place_for book i) rows

-- The number of the lowest free row; `rows` where there is none.
unfoldable pub free_place : List ℕ → ℕ
free_place book = least (λ k. is_zeros (row_at book k)) rows

-- A test passes at every number below n.
unfoldable pub all_below : ℕ → (ℕ → Bool) → Bool
all_below zero passes = true
all_below (suc n) passes = passes n && all_below n passes

-- A row is free, or in range and the first that holds its instrument.
unfoldable pub is_row_sound : List ℕ → ℕ → Bool
is_row_sound book k =
    is_zeros (row_at book k)
    || (row_in_range (row_at book k) && eqb (place_for book (word (row_at book k) instrument)) k)

-- A book is sound: it has its length, each row is free or in range, and no instrument stands twice.
unfoldable pub is_sound : List ℕ → Bool
is_sound book = eqb (length book) size && all_below rows (is_row_sound book)
