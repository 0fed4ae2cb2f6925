use Rattle.std.proofs.lemmas.Result.{err_from_is_err_and}
use Rattle.forms.proofs.Lines.{rows_next, rows_stop, rows_end}
use Rattle.forms.proofs.read_rows.Goals as goal

pub loop-preserved : goal.loop-preserved
loop-preserved c =
    let keeps = c.in_ok-place.ensures.keeps in
    rows_next c.loop.invariant c.loop-test.true c.in_ok-place.ensures.reads keeps.0 keeps.1 c.read_line.auto.numbers

pub returns-in_err-place-clause-reads : goal.returns-in_err-place-clause-reads
returns-in_err-place-clause-reads c =
    let p = err_from_is_err_and c.from_residual.result c.from_residual.ensures.1 in
    rw (p.1, p.2) (rows_stop c.loop.invariant c.loop-test.true c.in_err-place.ensures.reads)

pub returns-clause-reads : goal.returns-clause-reads
returns-clause-reads c = rows_end c.loop.invariant c.loop-test.false
