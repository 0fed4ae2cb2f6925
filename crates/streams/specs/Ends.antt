-- How many bytes a read of the whole input keeps, also where it fails, and what a program that ends says by its faults.
use Rattle.std.specs.Prelude.{ℕ, List, Result, Ok, Err, codes}
use Rattle.std.specs.declared.io.ErrorKind.{ErrorKind}
use Rattle.std.specs.declared.io.ErrorKind.TheVariants.{BrokenPipe}
use Rattle.streams.specs.declared.Cut.{Cut}
use Rattle.streams.specs.declared.Fault.{Fault}
use Rattle.streams.specs.declared.Fault.TheVariants.{Unread, Unwritten, NobodyReads}

abbrev pub kept : Result ℕ Cut → ℕ
kept (Ok count) = count
kept (Err cut) = cut.count

-- The fault that an error of a write is.
abbrev pub write_fault : ErrorKind → Fault
write_fault BrokenPipe = NobodyReads
write_fault _ = Unwritten

-- The text of a fault.
abbrev pub fault_text : Fault → List ℕ
fault_text Unread = codes "standard input could not be read"
fault_text Unwritten = codes "standard output could not be written"
fault_text NobodyReads = codes "nobody reads standard output any more"

-- The status of a program: 141 where nobody reads its output any more, else 0.
abbrev pub status_of : Result Unit Fault → ℕ
status_of (Ok _) = 0
status_of (Err Unread) = 0
status_of (Err Unwritten) = 0
status_of (Err NobodyReads) = 141
