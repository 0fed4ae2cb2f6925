-- The book word by word: which books are sound, where an instrument stands, which row is free, and what writing a row does.
-- 64 rows stand one after the other, each as wide as there are values.
use Rattle.std.specs.Prelude.{ℕ, ◌+◌, ◌*◌, ◌≤◌, ◌<◌, ◌≡◌, true, List, [], ◌↔◌, ◌⊎◌, length, get_or}
use Rattle.paper.specs.Row.{width}
use Rattle.paper.specs.Book.{row_at, with_row, place_for, row_for, is_open, free_place, is_sound}
use Rattle.paper.specs.Values.{Values, words}
use Rattle.paper.specs.Promises.Ranges.{AreValues}
use Rattle.paper.specs.Promises.Found.{IsFirst}

-- The word at a place of the row that has this number.
abbrev pub word_at : List ℕ → ℕ → ℕ → ℕ
word_at book k place = get_or book (width * k + place) 0

-- That row holds these words.
pub record Holds (book : List ℕ) (k : ℕ) (ws : List ℕ) : Type 0 where
  pub long : length ws ≡ width
  pub each : (place : ℕ) → place < width → word_at book k place ≡ get_or ws place 0

-- It is free: all its words are 0. It is used: it holds values in range.
abbrev pub IsFree : List ℕ → ℕ → Type 0
IsFree book k = (place : ℕ) → place < width → word_at book k place ≡ 0

pub record IsUsed (book : List ℕ) (k : ℕ) : Type 0 where
  pub values : Values
  pub holds : Holds book k (words values)
  pub in_range : AreValues values

-- A sound book has 64 rows and no word more, each row is free or in range, and no two used rows have the same instrument.
pub record IsSoundBook (book : List ℕ) : Type 0 where
  pub long : length book ≡ 64 * width
  pub rows : (k : ℕ) → k < 64 → IsFree book k ⊎ IsUsed book k
  pub once : (j k : ℕ) → j < 64 → k < 64 → IsUsed book j → IsUsed book k → word_at book j 0 ≡ word_at book k 0 → j ≡ k

abbrev pub SoundMeans : Type 0
SoundMeans = (book : List ℕ) → (is_sound book ≡ true) ↔ IsSoundBook book

-- A row holds the instrument.
pub record IsOpen (book : List ℕ) (i : ℕ) : Type 0 where
  pub place : ℕ
  pub below : place < 64
  pub there : word_at book place 0 ≡ i

-- Where an instrument stands and what its row is; the lowest free row. An instrument that is not open has the empty row.
pub record PlacesMean : Type 0 where
  pub place : (book : List ℕ) (i : ℕ) → IsFirst 64 (λ k. word_at book k 0 ≡ i) (place_for book i)
  pub held : (book : List ℕ) (i : ℕ) → (is_open book i ≡ true) ↔ IsOpen book i
  pub free : (book : List ℕ) → IsFirst 64 (IsFree book) (free_place book)
  pub row : (book : List ℕ) (i : ℕ) → length book ≡ 64 * width → IsOpen book i → Holds book (place_for book i) (row_for book i)
  pub no_row : (book : List ℕ) (i : ℕ) → length book ≡ 64 * width → (IsOpen book i → ⊥) → row_for book i ≡ []

-- A row written is read back, and every word outside it is as it was.
pub record WritingMeans : Type 0 where
  pub reads_back :
      (book : List ℕ) (k : ℕ) (ws : List ℕ) → length book ≡ 64 * width → k < 64 → length ws ≡ width
      → (Holds (with_row book k ws) k ws) × (row_at (with_row book k ws) k ≡ ws)
  pub outside :
      (book : List ℕ) (k : ℕ) (ws : List ℕ) (at : ℕ) → length ws ≡ width → (at < width * k) ⊎ (width * k + width ≤ at)
      → get_or (with_row book k ws) at 0 ≡ get_or book at 0
  pub long : (book : List ℕ) (k : ℕ) (ws : List ℕ) → length (with_row book k ws) ≡ length book
