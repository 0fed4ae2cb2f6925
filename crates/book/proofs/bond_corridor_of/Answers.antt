-- `book::bond_corridor_of` meets its contract: Range for the bond's values, and the rest by `corridor_as`. Assumes nothing.
use mathlib.Core.Path.{◌≡◌}
use native.Mathlib.Omega.{arith}
use Rattle.paper.specs.Row.{instruments, is_in}
use Rattle.paper.specs.Corridor.{terms_in_range}
use Rattle.paper.specs.Calls.{bond}
use Rattle.paper.proofs.Tests.{and_fails}
use Rattle.corridor.specs.Edges.{paper_terms, paper_bond}
use Rattle.book.proofs.Kept.{kept_refused, bond_range}
use mathlib.Core.Bool.{false}
use Rattle.paper.specs.Bond.{bond_in_range}
use Rattle.book.proofs.bond_corridor_of.Goals as goal

pub returns-then-not-bond_in_range : goal.returns-then-not-bond_in_range
returns-then-not-bond_in_range c =
    let out : bond_in_range (paper_bond c.args.b) ≡ false = cc in record {
      kept = kept_refused _ (bond c.args.instrument (paper_terms c.args.t) (paper_bond c.args.b)) 2
          (bond_range _ c.requires _ _ _ (and_fails (is_in instruments c.args.instrument) _ (and_fails (terms_in_range (paper_terms c.args.t)) _ out))) (λ e. omega arith);
    }
