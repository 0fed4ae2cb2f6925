-- `forms::read_line` meets its contract. The loop's invariant: what reading the line from its start gives is what reading on from here gives, with the numbers kept so far. Assumes nothing.
use Rattle.forms.proofs.Lines.{IsUpTo}
use Rattle.forms.proofs.read_line.Given as goal

abbrev pub invariant-loop-byte : goal.invariant-loop-byte
invariant-loop-byte l = IsUpTo l.text l.form l.initial.numbers l.fn.from l.numbers l.at l.kept l.byte-index
