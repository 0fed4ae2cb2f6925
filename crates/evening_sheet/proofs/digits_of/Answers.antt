-- `evening_sheet::digits_of` meets its contract: the digits that `io` writes are the number's text, and a word has at most 20. Assumes nothing.
use mathlib.Core.Path.{sym}
use Rattle.lines.proofs.Texts.{decimal_long, word_digits}
use Rattle.evening_sheet.proofs.digits_of.Goals as goal

pub returns-clause-digits : goal.returns-clause-digits
returns-clause-digits c = sym (decimal_long c.args.n c.decimal.result c.decimal.ensures.len)

pub returns-clause-few : goal.returns-clause-few
returns-clause-few c = word_digits c.args.n c.decimal.result c.ranges.n.fits c.decimal.ensures.len
