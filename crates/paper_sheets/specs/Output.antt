-- A sheet run into an output that a caller lends: how long a text can be, when an output is too short, and what such a run finds, writes and leaves.
use Rattle.std.specs.Prelude.{ℕ, ◌+◌, ◌*◌, Bool, cond, ◌&&◌, List, [], ◌∷◌, ltb, length}
use Rattle.paper.specs.Refusal.{Refusal, number}
use Rattle.paper.specs.Book.{is_sound}
use Rattle.paper_sheets.specs.Sheet.{openings, days, corridors, Finding, nowhere, sheet_finding, morning_text, book_after}

-- The bytes of a line whose numbers have so many digits: a letter, a space before each number, and LF.
abbrev pub line_bytes : List ℕ → ℕ
line_bytes [] = 2
line_bytes (digits ∷ more) = 1 + digits + line_bytes more

-- The longest line of each kind. An opening that is refused shows an instrument of 18 digits, and its answer.
abbrev pub opening_bytes : ℕ
opening_bytes = line_bytes (18 ∷ 1 ∷ [])

-- A day that is accepted shows an instrument of 9 digits, a day of 6, the answer, three rates of 7, a variance of 13, days of 6 and the price's number.
abbrev pub day_bytes : ℕ
day_bytes = line_bytes (9 ∷ 6 ∷ 1 ∷ 7 ∷ 7 ∷ 7 ∷ 13 ∷ 6 ∷ 1 ∷ [])

-- A corridor that is refused shows an instrument and a k of 18 digits, its answer and two zeros.
abbrev pub corridor_bytes : ℕ
corridor_bytes = line_bytes (18 ∷ 18 ∷ 1 ∷ 1 ∷ 1 ∷ [])

-- The bytes of the longest text.
abbrev pub most_text : ℕ
most_text = openings.most * opening_bytes + days.most * day_bytes + corridors.most * corridor_bytes

-- Room: the book is sound, and the output shorter than the longest text of any sheet, whatever this one is.
unfoldable pub is_short : List ℕ → List ℕ → Bool
is_short book out = is_sound book && ltb (length out) most_text

-- What such a run finds, writes and leaves: as any run, but where the output is too short.
unfoldable pub finding_into : List ℕ → List ℕ → List ℕ → Finding
finding_into book sheet out = cond (is_short book out) (nowhere (number Refusal.Room)) (sheet_finding book sheet)

unfoldable pub text_into : List ℕ → List ℕ → List ℕ → List ℕ
text_into book sheet out = cond (is_short book out) [] (morning_text book sheet)

unfoldable pub left_into : List ℕ → List ℕ → List ℕ → List ℕ
left_into book sheet out = cond (is_short book out) book (book_after book sheet)
