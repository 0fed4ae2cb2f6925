use Rattle.std.proofs.Common.{◌≡◌, ℕ, ◌+◌, Ok, Err, sym, ◌∙◌, rules}
use Rattle.std.proofs.lemmas.Result.{err_from_is_err_and}
use Rattle.forms.proofs.Items.{rest_all}
use Rattle.forms.proofs.Lines.{up_to_room, up_to_next, line_stops, line_open, line_ends}
use Rattle.forms.proofs.read_line.Goals as goal

pub keep-kept-requires : goal.keep-kept-requires
keep-kept-requires c =
    let was : c.read_item.result ≡ Ok c.in_ok-found.found = search rules in
    up_to_room c.loop-byte.invariant c.loop-byte-test.true c.from.ensures (rw (rest_all, was) at c.read_item.ensures) c.requires.room

pub loop-byte-preserved : goal.loop-byte-preserved
loop-byte-preserved c =
    let was : c.read_item.result ≡ Ok c.in_ok-found.found = search rules in
    up_to_next c.loop-byte.invariant c.loop-byte-test.true c.from.ensures (rw (rest_all, was) at c.read_item.ensures) _ _ c.keep-kept.auto.numbers
    c.keep-kept.ensures.keeps c.keep-kept.ensures.holds

pub returns-in_err-found-clause-reads : goal.returns-in_err-found-clause-reads
returns-in_err-found-clause-reads c =
    let was : (passed : ℕ) × (c.read_item.result ≡ Err passed) × (c.in_err-found.field-0.0 ≡ record { line = c.args.from.line; start = c.args.from.at; at = c.loop-byte.at + passed }) = search rules in
    let p = err_from_is_err_and c.from_residual.result c.from_residual.ensures.1 in
    rw (p.1, p.2, was.2) (line_stops c.loop-byte.invariant c.loop-byte-test.true c.from.ensures {passed = was.0} (rw (rest_all, was.1) at c.read_item.ensures))

pub returns-then-not-stands-clause-reads : goal.returns-then-not-stands-clause-reads
returns-then-not-stands-clause-reads c = rw c.bad.ensures (line_open c.loop-byte.invariant c.loop-byte-test.false (rw rest_all at (sym c.stands.ensures ∙ c.if-not-stands.true)))

pub returns-clause-reads : goal.returns-clause-reads
returns-clause-reads c = line_ends c.loop-byte.invariant c.loop-byte-test.false (rw rest_all at (sym c.stands.ensures ∙ c.if-not-stands.false))
