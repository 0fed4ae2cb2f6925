-- `book::row_number` meets its contract: the search's row, or Unknown. Assumes nothing.
use mathlib.Core.Path.{◌≡◌, refl, sym, subst}
use mathlib.Core.List.{List}
use Prim.Native.Nat.{ℕ, ◌<◌}
use native.Mathlib.Omega.{arith}
use Rattle.std.specs.Prelude.{Option, None, Some, IfSome}
use Rattle.std.specs.Option.{ok_or}
use Rattle.paper.specs.Book.{rows, place_for}
use Rattle.row.specs.declared.Refusal.TheVariants.{Unknown}
use Rattle.soundness.specs.Found.{place_in}
use Rattle.book.specs.Places.{RowFor}
use Rattle.book.proofs.Kept.{open_nowhere}
use Rattle.book.proofs.row_number.Goals as goal

row_found : (book : List ℕ) (i : ℕ) (found : Option ℕ) → place_in found ≡ place_for book i → IfSome found (λ k. k < rows) → RowFor book i (ok_or found Unknown)
row_found book i (Some k) e l = (e, l)
row_found book i None e l = (refl, open_nowhere book i (omega (arith, e)))

pub returns : goal.returns
returns c =
    subst (RowFor c.args.book.now c.args.instrument) (sym c.ok_or.ensures.value)
    (row_found c.args.book.now c.args.instrument c.place_of.result c.place_of.ensures.place c.place_of.ensures.row)
