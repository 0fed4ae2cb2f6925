-- The numbers of a sheet as they are kept, in the order of the sheet: for each section its count, then its rows. More may stand behind them.
use Rattle.std.specs.Prelude.{ℕ, ◌+◌, ◌*◌, ◌≤◌, ◌≡◌, List, [], length, get_or, take}
use Rattle.paper_sheets.specs.Sheet.{openings, days, corridors, sections, Progress, broken, reached, read_sheet, calls_of, asks, width_of}
use Rattle.paper_sheets.specs.Written.{AreShort}

-- The most numbers of a sheet: three counts, and the rows of each section.
abbrev pub most_numbers : ℕ
most_numbers = 3 + openings.most * width_of openings + days.most * width_of days + corridors.most * width_of corridors

-- The count of each section, and where the next section's count stands.
abbrev pub opening_count : List ℕ → ℕ
opening_count ns = get_or ns 0 0

abbrev pub days_at : List ℕ → ℕ
days_at ns = 1 + opening_count ns * width_of openings

abbrev pub day_count : List ℕ → ℕ
day_count ns = get_or ns (days_at ns) 0

abbrev pub corridors_at : List ℕ → ℕ
corridors_at ns = days_at ns + 1 + day_count ns * width_of days

abbrev pub corridor_count : List ℕ → ℕ
corridor_count ns = get_or ns (corridors_at ns) 0

abbrev pub end_at : List ℕ → ℕ
end_at ns = corridors_at ns + 1 + corridor_count ns * width_of corridors

-- Numbers of a sheet in its form: no more rows than each section has, and none of more than 18 digits.
pub record AreOfSheet (ns : List ℕ) : Type 0 where
  pub openings_most : opening_count ns ≤ openings.most
  pub days_most : day_count ns ≤ days.most
  pub corridors_most : corridor_count ns ≤ corridors.most
  pub short : AreShort (take (end_at ns) ns)

-- The numbers that are read of a sheet.
abbrev pub numbers_read : Progress → List ℕ
numbers_read (broken line text) = []
numbers_read (reached line ns text) = ns

-- What is kept of an accepted sheet: the words start with the numbers that are read, are those of a sheet in its form, and ask its calls.
pub record KeepsNumbers (sheet numbers : List ℕ) : Type 0 where
  pub read : take (length (numbers_read (read_sheet sheet))) numbers ≡ numbers_read (read_sheet sheet)
  pub form : AreOfSheet numbers
  pub calls : calls_of sections numbers ≡ asks sheet
