-- What the functions that read say of the paper's reading. A place in the sheet stands for the bytes from there on, and so many of the kept numbers for those read so far.
use Rattle.std.specs.Prelude.{ℕ, suc, ◌+◌, ◌-◌, ◌≤◌, ◌≡◌, cond, List, [], ◌∷◌, ◌++◌, map, eqb, length, take, drop, Option, Some, None, Result, Ok, Err, IfOk}
use Rattle.paper_sheets.specs.Sheet.{Item, number, space, sign, Reading, stopped, at, read_item, Progress, broken, reached, after_line, digit_count, value_from, line_length, keeps}
use Rattle.forms.specs.declared.Digits.{Digits}
use Rattle.forms.specs.declared.Found.{Found}
use Rattle.forms.specs.declared.Kind.{Kind}
use Rattle.forms.specs.declared.Place.{Place}
use Rattle.forms.specs.declared.Bad.{Bad}

-- The item of each kind.
abbrev pub item_of_kind : Kind → Item
item_of_kind Kind.Number = number
item_of_kind Kind.Space = space
item_of_kind Kind.Sign = sign

-- A form as bytes: n is a number, - the place for a sign, and any other byte a space.
abbrev pub item_of : ℕ → Item
item_of b = cond (eqb b 110) number (cond (eqb b 45) sign space)

abbrev pub form_of : List ℕ → List Item
form_of form = map item_of form

-- The numbers with what an item keeps, if anything, and how many that is.
abbrev pub kept : List ℕ → Option ℕ → List ℕ
kept ns (Some value) = ns ++ value ∷ []
kept ns None = ns

abbrev pub value_count : Option ℕ → ℕ
value_count (Some value) = 1
value_count None = 0

-- A place of a text and a later one with no LF between them.
pub record IsInLine (text : List ℕ) (from to : ℕ) : Type 0 where
  pub after : from ≤ to
  pub within : to ≤ length text
  pub same_line : line_length (drop from text) ≡ (to - from) + line_length (drop to text)

-- The digits that a text starts with, as far as they are read: all of them, or 19.
pub record ReadsDigits (text : List ℕ) (d : Digits) : Type 0 where
  pub in_line : IsInLine text 0 d.count
  pub value : value_from d.value (drop d.count text) ≡ value_from 0 text
  pub count : digit_count text ≡ d.count + digit_count (drop d.count text)
  pub most : d.count ≤ 19
  pub all : suc d.count ≤ 19 → digit_count (drop d.count text) ≡ 0

-- Where reading stands after an item, and so many bytes of the text as are answered.
abbrev pub found_of : List ℕ → List ℕ → Result Found ℕ → Reading
found_of text ns (Ok f) = at (kept ns f.value) (drop f.length text)
found_of text ns (Err passed) = stopped

abbrev pub length_of : Result Found ℕ → ℕ
length_of (Ok f) = f.length
length_of (Err passed) = passed

-- The item that a text starts with.
pub record ReadsItem (text : List ℕ) (item : Item) (f : Result Found ℕ) : Type 0 where
  pub in_line : IsInLine text 0 (length_of f)
  pub reads : (ns : List ℕ) → read_item item ns text ≡ found_of text ns f
  pub keeps : IfOk f (λ found. value_count found.value ≡ keeps (item ∷ []))

-- How far a sheet is read: to the start of a line, or to a bad line and a place in it.
abbrev pub progress_of : List ℕ → List ℕ → Result Place Bad → Progress
progress_of text numbers (Ok p) = reached p.line (take p.kept numbers) (drop p.at text)
progress_of text numbers (Err bad) = broken bad.line (drop bad.start text)

abbrev pub StandsAt : List ℕ → Result Place Bad → Type 0
StandsAt text (Ok p) = p.at ≤ length text
StandsAt text (Err bad) = IsInLine text bad.start bad.at

pub record ReadsLines (text numbers : List ℕ) (progress : Progress) (p : Result Place Bad) : Type 0 where
  pub reads : progress_of text numbers p ≡ progress
  pub stands : StandsAt text p

-- A line from its start on: past its LF, where the next line comes, or at a place in it, where it is bad.
abbrev pub line_progress : List ℕ → Place → Reading → Progress
line_progress text from reading = after_line from.line (drop from.at text) (reached (suc from.line)) reading

-- A place past the LF of a line.
pub record IsPastLine (text : List ℕ) (from to : ℕ) : Type 0 where
  pub after : suc from ≤ to
  pub ends : line_length (drop from text) ≡ to - suc from

pub record ReadsLine (text numbers : List ℕ) (from : Place) (reading : Reading) (p : Result Place Bad) : Type 0 where
  pub lines : ReadsLines text numbers (line_progress text from reading) p
  pub past : IfOk p (λ to. IsPastLine text from.at to.at)
