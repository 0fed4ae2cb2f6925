-- `forms::read_rows` meets its contract. The loop's invariant: what reading the rows from the first gives is what reading on from here gives, with the numbers kept so far. Assumes nothing.
use Rattle.forms.specs.Reads.{form_of}
use Rattle.forms.proofs.Lines.{AreUpTo}
use Rattle.forms.proofs.read_rows.Given as goal

abbrev pub invariant-loop : goal.invariant-loop
invariant-loop l = AreUpTo l.text (form_of l.form) l.initial.numbers l.fn.from l.count l.numbers l.place l.counter
