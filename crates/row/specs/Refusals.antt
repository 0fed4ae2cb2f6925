-- The number of a refusal of the code's.
use Rattle.std.specs.Prelude.{ℕ}
use Rattle.paper.specs.Refusal as Paper
use Rattle.paper.specs.Refusal.{number}
use Rattle.row.specs.declared.Refusal.{Refusal}
use Rattle.row.specs.declared.Refusal.TheVariants.{Book, Range, Known, Full, Unknown, Stale, Move, Empty, Line, Step, Room, Halted}

abbrev pub refusal_number : Refusal → ℕ
refusal_number Book = number Paper.Refusal.Book
refusal_number Range = number Paper.Refusal.Range
refusal_number Known = number Paper.Refusal.Known
refusal_number Full = number Paper.Refusal.Full
refusal_number Unknown = number Paper.Refusal.Unknown
refusal_number Stale = number Paper.Refusal.Stale
refusal_number Move = number Paper.Refusal.Move
refusal_number Empty = number Paper.Refusal.Empty
refusal_number Line = number Paper.Refusal.Line
refusal_number Step = number Paper.Refusal.Step
refusal_number Room = number Paper.Refusal.Room
refusal_number Halted = number Paper.Refusal.Halted
