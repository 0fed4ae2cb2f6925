-- The morning sheet: its form, its first bad line, the calls that it asks, and the text that is written for it. A sheet and a text are lists of bytes.
use Rattle.std.specs.Prelude.{ℕ, zero, suc, ◌+◌, ◌*◌, ◌-◌, ◌/◌, ◌%◌, ◌^◌, Bool, false, cond, not, ◌&&◌, ◌||◌, List, [], ◌∷◌, ◌++◌, map, leb, ltb, eqb, ℤ, pos, neg_ℤ, length, take, drop}
use Rattle.paper.specs.Least.{least}
use Rattle.paper.specs.Refusal.{Refusal, number as refusal_number}
use Rattle.paper.specs.Row as Row
use Rattle.paper.specs.Row.{word}
use Rattle.paper.specs.Book.{is_sound}
use Rattle.paper.specs.Calls.{Call, opening, closing, parameters, halt, day, why, corridor, bond, Answer, answer, after, after_all}

-- The bytes of the form beside the digits.
abbrev pub line_feed : ℕ
line_feed = 10

abbrev pub blank : ℕ
blank = 32

abbrev pub minus : ℕ
minus = 45

abbrev pub digit_zero : ℕ
digit_zero = 48

-- A sheet has at most so many bytes, and a number at most so many digits.
abbrev pub most_bytes : ℕ
most_bytes = 65536

abbrev pub most_digits : ℕ
most_digits = 18

-- The last k digits of a number.
unfoldable pub digits : ℕ → ℕ → List ℕ
digits zero n = []
digits (suc k) n = digits k (n / 10) ++ (digit_zero + n % 10) ∷ []

-- How many digits a number has, and the number as text.
unfoldable pub places : ℕ → ℕ
places n = suc (least (λ k. ltb n (10 ^ suc k)) n)

unfoldable pub decimal : ℕ → List ℕ
decimal n = digits (places n) n

-- A byte is a digit.
unfoldable pub is_digit : ℕ → Bool
is_digit b = leb digit_zero b && leb b (digit_zero + 9)

-- How many digits a text starts with, and the value of those digits, read on from the value of what stands before them.
unfoldable pub digit_count : List ℕ → ℕ
digit_count [] = 0
digit_count (b ∷ bs) = cond (is_digit b) (suc (digit_count bs)) 0

unfoldable pub value_from : ℕ → List ℕ → ℕ
value_from v [] = v
value_from v (b ∷ bs) = cond (is_digit b) (value_from (v * 10 + (b - digit_zero)) bs) v

-- A text starts with a byte.
unfoldable pub starts_with : ℕ → List ℕ → Bool
starts_with b [] = false
starts_with b (c ∷ cs) = eqb c b

-- A text starts with a number: 1 to 18 digits, no leading zero but 0 itself.
unfoldable pub is_number : List ℕ → Bool
is_number text =
    leb 1 (digit_count text)
    && leb (digit_count text) most_digits
    && (eqb (digit_count text) 1 || not (starts_with digit_zero text))

-- What stands in a line before its LF: numbers, a space between two, and where a number may have a minus sign, the place for the sign.
pub data Item : Type 0 where
  number : Item
  space : Item
  sign : Item

-- How many numbers a form keeps: each number, and each place for a sign.
abbrev pub keeps : List Item → ℕ
keeps [] = 0
keeps (number ∷ items) = suc (keeps items)
keeps (space ∷ items) = keeps items
keeps (sign ∷ items) = suc (keeps items)

-- Where reading stands: at the numbers read so far and the bytes that are left, or stopped by bytes of another form.
pub data Reading : Type 0 where
  stopped : Reading
  at : List ℕ → List ℕ → Reading

abbrev pub onward : (List ℕ → List ℕ → Reading) → Reading → Reading
onward next stopped = stopped
onward next (at ns text) = next ns text

-- A byte that has to stand, and is no number.
unfoldable pub read_byte : ℕ → List ℕ → List ℕ → Reading
read_byte b ns text = cond (starts_with b text) (at ns (drop 1 text)) stopped

-- The place for a sign is a number of its own: 1 where the minus stands, never before 0, and 0 where none does.
unfoldable pub read_item : Item → List ℕ → List ℕ → Reading
read_item number ns text = cond (is_number text) (at (ns ++ value_from 0 text ∷ []) (drop (digit_count text) text)) stopped
read_item space ns text = read_byte blank ns text
read_item sign ns text =
    cond (starts_with minus text)
    (cond (starts_with digit_zero (drop 1 text)) stopped (at (ns ++ 1 ∷ []) (drop 1 text)))
    (at (ns ++ 0 ∷ []) text)

unfoldable pub read_items : List Item → List ℕ → List ℕ → Reading
read_items [] ns text = at ns text
read_items (item ∷ items) ns text = onward (read_items items) (read_item item ns text)

-- A line: its items, ended by one LF.
unfoldable pub read_line : List Item → List ℕ → List ℕ → Reading
read_line form ns text = onward (read_byte line_feed) (read_items form ns text)

-- So many numbers more, each after a space.
abbrev pub more : ℕ → List Item
more zero = []
more (suc n) = space ∷ number ∷ more n

-- The lines of the sheet: a count; an instrument, the words of a row; a day, its instrument, day, price, m and j; a corridor, its instrument, k, lower, upper, Shift, x, rise, fall and tick.
abbrev pub count_form : List Item
count_form = number ∷ []

abbrev pub opening_form : List Item
opening_form = number ∷ more (Row.width - 1)

abbrev pub day_form : List Item
day_form = number ∷ more 4

abbrev pub corridor_form : List Item
corridor_form = number ∷ space ∷ number ∷ space ∷ sign ∷ number ∷ space ∷ sign ∷ number ∷ more 5

-- The call of a row, by the numbers of its line.
abbrev pub day_call : List ℕ → Call
day_call row =
    day (record {
      instrument = word row 0;
      day = word row 1;
      price = word row 2;
      m = word row 3;
      j = word row 4;
    })

abbrev pub rate : ℕ → ℕ → ℤ
rate s n = cond (eqb s 0) (pos n) (neg_ℤ (pos n))

abbrev pub corridor_call : List ℕ → Call
corridor_call row =
    corridor (word row 0) (record {
      k = word row 1;
      lower = rate (word row 2) (word row 3);
      upper = rate (word row 4) (word row 5);
      shift = word row 6;
      x = word row 7;
      rise = word row 8;
      fall = word row 9;
      tick = word row 10;
    })

-- A section: how many rows it has at most, the form of a row's line, and the call that its numbers ask.
pub record Section : Type 0 where
  pub most : ℕ
  pub form : List Item
  pub call : List ℕ → Call

-- How many numbers a row of it has.
abbrev pub width_of : Section → ℕ
width_of s = keeps s.form

abbrev pub openings : Section
openings = record { most = 64; form = opening_form; call = opening }

abbrev pub days : Section
days = record { most = 1000; form = day_form; call = day_call }

abbrev pub corridors : Section
corridors = record { most = 64; form = corridor_form; call = corridor_call }

abbrev pub sections : List Section
sections = openings ∷ days ∷ corridors ∷ []

-- How far a sheet is of its form: up to the start of a line that is bad, with its number and the bytes from there on; or to the line of a number that is to come next, with the numbers read and the bytes left.
pub data Progress : Type 0 where
  broken : ℕ → List ℕ → Progress
  reached : ℕ → List ℕ → List ℕ → Progress

-- What comes after a line, or the line if it is bad.
abbrev pub after_line : ℕ → List ℕ → (List ℕ → List ℕ → Progress) → Reading → Progress
after_line line text next stopped = broken line text
after_line line text next (at ns rest) = next ns rest

abbrev pub after_lines : (ℕ → List ℕ → List ℕ → Progress) → Progress → Progress
after_lines next (broken line text) = broken line text
after_lines next (reached line ns text) = next line ns text

-- So many rows, each a line.
unfoldable pub read_rows : List Item → ℕ → ℕ → List ℕ → List ℕ → Progress
read_rows form zero line ns text = reached line ns text
read_rows form (suc n) line ns text = after_line line text (read_rows form n (suc line)) (read_line form ns text)

-- A section: a line with its count, which is kept among the numbers, then as many rows.
unfoldable pub read_section : Section → ℕ → List ℕ → List ℕ → Progress
read_section s line ns text =
    let count = value_from 0 text in
    after_line line text
    (λ read rest. cond (leb count s.most) (read_rows s.form count (suc line) read rest) (broken line text))
    (read_line count_form ns text)

-- Nothing follows the last line.
unfoldable pub read_nothing : ℕ → List ℕ → List ℕ → Progress
read_nothing line ns [] = reached line ns []
read_nothing line ns (b ∷ bs) = broken line (b ∷ bs)

unfoldable pub read_sections : List Section → ℕ → List ℕ → List ℕ → Progress
read_sections [] line ns text = read_nothing line ns text
read_sections (s ∷ ss) line ns text = after_lines (read_sections ss) (read_section s line ns text)

unfoldable pub read_sheet : List ℕ → Progress
read_sheet sheet = read_sections sections 1 [] sheet

-- How many bytes a text's first line has, without its LF.
unfoldable pub line_length : List ℕ → ℕ
line_length [] = 0
line_length (b ∷ bs) = cond (eqb b line_feed) 0 (suc (line_length bs))

-- What a check of a sheet finds: 0, or a refusal's number with the bad line's number, where its bytes start and how many they are.
pub record Finding : Type 0 where
  pub number : ℕ
  pub line : ℕ
  pub start : ℕ
  pub length : ℕ

-- A number with an empty part at the sheet's start, and line 0.
abbrev pub nowhere : ℕ → Finding
nowhere n = record { number = n; line = 0; start = 0; length = 0 }

abbrev pub finding_of : List ℕ → Progress → Finding
finding_of sheet (broken n text) =
    record {
      number = refusal_number Refusal.Line;
      line = n;
      start = length sheet - length text;
      length = line_length text;
    }
finding_of sheet (reached n ns text) = nowhere 0

unfoldable pub finding : List ℕ → Finding
finding sheet = cond (leb (length sheet) most_bytes) (finding_of sheet (read_sheet sheet)) (nowhere (refusal_number Refusal.Line))

-- Numbers cut into so many rows of a width.
unfoldable pub cut : ℕ → ℕ → List ℕ → List (List ℕ)
cut width zero ns = []
cut width (suc n) ns = take width ns ∷ cut width n (drop width ns)

-- The calls that numbers ask: for each section its count, then its rows.
unfoldable pub calls_of : List Section → List ℕ → List Call
calls_of [] ns = []
calls_of (s ∷ ss) [] = []
calls_of (s ∷ ss) (n ∷ ns) = map s.call (cut (width_of s) n ns) ++ calls_of ss (drop (n * width_of s) ns)

-- What a sheet asks: its rows, in order. A refused sheet asks nothing.
abbrev pub asks_of : Progress → List Call
asks_of (broken line text) = []
asks_of (reached line ns text) = calls_of sections ns

unfoldable pub asks : List ℕ → List Call
asks sheet = cond (eqb (finding sheet).number 0) (asks_of (read_sheet sheet)) []

-- A line that is written: a letter, its numbers with a space before each, and LF.
unfoldable pub fields_text : List ℕ → List ℕ
fields_text [] = line_feed ∷ []
fields_text (n ∷ ns) = blank ∷ decimal n ++ fields_text ns

unfoldable pub line_text : ℕ → List ℕ → List ℕ
line_text letter ns = letter ∷ fields_text ns

-- The line of a call: O, D or C, what the row names, the answer's number and its figures. A sheet asks no closing, no new parameters, no halt,
-- no reasons and no corridor of a bond.
unfoldable pub answer_line : Call → Answer → List ℕ
answer_line (opening row) a = line_text 79 (word row Row.instrument ∷ a.number ∷ a.figures)
answer_line (closing i) a = []
answer_line (parameters i ps) a = []
answer_line (halt i value) a = []
answer_line (day d) a = line_text 68 (d.instrument ∷ d.day ∷ a.number ∷ a.figures)
answer_line (why d) a = []
answer_line (corridor i t) a = line_text 67 (i ∷ t.k ∷ a.number ∷ a.figures)
answer_line (bond i t b) a = []

-- The lines of calls, each on the book that those before it left.
unfoldable pub text_of : List ℕ → List Call → List ℕ
text_of book [] = []
text_of book (call ∷ calls) = answer_line call (answer book call) ++ text_of (after book call) calls

-- What running a sheet on a book finds: the book's refusal, else the sheet's.
unfoldable pub sheet_finding : List ℕ → List ℕ → Finding
sheet_finding book sheet = cond (is_sound book) (finding sheet) (nowhere (refusal_number Refusal.Book))

-- What is written for any sheet on any book: the lines of its calls; for a sheet that breaks its form only L and the line's number; nothing where the book is refused.
unfoldable pub morning_text : List ℕ → List ℕ → List ℕ
morning_text book sheet =
    cond (is_sound book)
    (cond (eqb (finding sheet).number 0) (text_of book (asks sheet)) (line_text 76 ((finding sheet).line ∷ [])))
    []

-- The book after a sheet: each word as it was where the book or the sheet is refused.
unfoldable pub book_after : List ℕ → List ℕ → List ℕ
book_after book sheet = cond (eqb (sheet_finding book sheet).number 0) (after_all book (asks sheet)) book
