-- `stringmoss::set_parameters` meets its contract: a book that is not sound and another number of values than thirteen are refused, and the rest is the work of `book`. Assumes nothing.
use mathlib.Core.Path.{refl}
use native.Mathlib.Omega.{arith}
use Rattle.paper.specs.Calls.{parameters}
use Rattle.book.proofs.Kept.{kept_refused, unsound_up}
use Rattle.stringmoss.proofs.Links.{number_uncounted}
use Rattle.stringmoss.proofs.set_parameters.Goals as goal

pub returns-in_err-test : goal.returns-in_err-test
returns-in_err-test c = unsound_up _ 0 _ (parameters c.args.instrument c.args.params.now) _ _ refl c.in_err-test.ensures c.from_residual.ensures.1

pub returns-then-params-ne-PARAMETERS : goal.returns-then-params-ne-PARAMETERS
returns-then-params-ne-PARAMETERS c =
    kept_refused _ (parameters c.args.instrument c.args.params.now) 2 (number_uncounted _ _ _ c.in_ok-test.ensures (λ e. omega arith)) (λ e. omega arith)
