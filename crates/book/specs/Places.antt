-- Where an instrument stands, and the row that a day is for, given or asked about, with its move there, or the day's refusal.
use Rattle.std.specs.Prelude.{ℕ, ◌<◌, ◌≡◌, true, false, List, Result, Ok, Err}
use Rattle.paper.specs.Row.{is_halted}
use Rattle.paper.specs.Rates.{Day, day_in_range}
use Rattle.paper.specs.Book.{rows, place_for, row_for, is_open}
use Rattle.paper.specs.Calls.{number_of_day}
use Rattle.row.specs.declared.Refusal.{Refusal}
use Rattle.row.specs.declared.Refusal.TheVariants.{Unknown}
use Rattle.row.specs.Refusals.{refusal_number}
use Rattle.preliminary.specs.declared.Move.{Move}
use Rattle.instrument.specs.Answers.{MovesBy}

-- The number of an instrument's row, or Unknown where it has none.
abbrev pub RowFor : List ℕ → ℕ → Result ℕ Refusal → Type 0
RowFor book i (Ok k) = (k ≡ place_for book i) × (k < rows)
RowFor book i (Err r) = (r ≡ Unknown) × (is_open book i ≡ false)

abbrev pub PlaceFor : List ℕ → Day → Result (ℕ × Move) Refusal → Type 0
PlaceFor book d (Ok (k, moved)) =
    (day_in_range d ≡ true) × (k ≡ place_for book d.instrument) × (k < rows) × (is_halted (row_for book d.instrument) ≡ false) × MovesBy (row_for book d.instrument) d moved
PlaceFor book d (Err r) = number_of_day book d ≡ refusal_number r
