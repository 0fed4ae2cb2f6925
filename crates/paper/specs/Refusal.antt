-- The numbered refusals, in the order in which they are checked, each only where it applies; Room is checked after Book, Halted directly after Unknown. Success is 0.
use Rattle.std.specs.Prelude.{ℕ}

pub data Refusal : Type 0 where
  Book Range Known Full Unknown Stale Move Empty Line Step Room Halted : Refusal

abbrev pub number : Refusal → ℕ
number Book = 1  -- the book is not sound
number Range = 2  -- a value given is outside its range or pairing; on opening, also a preliminary that is no multiple of h, or a last change after the last day
number Known = 3  -- opening an instrument already open
number Full = 4  -- opening with no free row
number Unknown = 5  -- any other call on an instrument not open
number Stale = 6  -- the day is not later than the last day
number Move = 7  -- D above 1,000,000
number Empty = 8  -- the corridor holds no positive multiple of the tick
number Line = 9  -- the sheet breaks its form
number Step = 10  -- new parameters whose h does not divide the kept preliminary
number Room = 11  -- a lent buffer is too short
number Halted = 12  -- a day or a corridor of a halted instrument
