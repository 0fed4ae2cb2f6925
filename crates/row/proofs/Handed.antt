-- What goes up by `?` is the error that came, as the caller's. Assumes nothing.
use mathlib.Core.Path.{◌≡◌, ap, ◌∙◌}
use Rattle.std.specs.Prelude.{Result, Err, IsErrAnd}
use Rattle.std.proofs.lemmas.Result.{err_from_is_err_and}

pub handed_up : {T E : Type 0} (r : Result T E) (s t : E) → t ≡ s → IsErrAnd r (λ u. u ≡ t) → r ≡ Err s
handed_up r s t e h = let p = err_from_is_err_and r h in p.1 ∙ ap Err (p.2 ∙ e)
