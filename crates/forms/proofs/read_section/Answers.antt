-- `forms::read_section` meets its contract: its count's line, then as many rows as the number says that this line keeps. Assumes nothing.
use Rattle.std.proofs.Common.{arith}
use native.Mathlib.Nat.{mul-le-mul_right}
use Rattle.std.proofs.lemmas.Result.{err_from_is_err_and, IfOk-weaker}
use Rattle.paper_sheets.specs.Sheet.{keeps}
use Rattle.forms.specs.Reads.{form_of}
use Rattle.forms.proofs.Lines.{section_bad, section_many, section_rows}
use Rattle.forms.proofs.read_section.Goals as goal

pub returns-in_err-first-clause-reads : goal.returns-in_err-first-clause-reads
returns-in_err-first-clause-reads c =
    let p = err_from_is_err_and c.from_residual.result c.from_residual.ensures.1 in
    λ s most form. rw (p.1, p.2) (section_bad _ s c.in_err-first.ensures.reads)

pub returns-then-most-count-clause-reads : goal.returns-then-most-count-clause-reads
returns-then-most-count-clause-reads c = λ s most form. rw c.bad.ensures (section_many _ s c.in_ok-first.ensures.reads c.in_ok-first.ensures.keeps.0 (omega arith) (rw most c.if-most-count.true))

pub returns-clause-reads : goal.returns-clause-reads
returns-clause-reads c = λ s most form. section_rows _ s c.in_ok-first.ensures.reads c.in_ok-first.ensures.keeps.0 (omega arith) _ _ (rw most c.if-most-count.false) (rw form c.read_rows.ensures.reads)

pub returns-clause-keeps : goal.returns-clause-keeps
returns-clause-keeps c =
    let first = c.in_ok-first.ensures.keeps in
    let few = mul-le-mul_right (keeps (form_of c.args.form.now)) c.if-most-count.false in
    IfOk-weaker c.read_rows.result _ _ (λ p h. (omega (arith, h.0, first.0), omega (arith, h.1, first.1))) c.read_rows.ensures.keeps
