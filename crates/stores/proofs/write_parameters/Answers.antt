use mathlib.Core.Path.{◌≡◌, ap, sym, ◌∙◌}
use mathlib.Core.List.{List, ◌++◌}
use Prim.Native.Nat.{ℕ, ◌+◌}
use native.Mathlib.Nat.{add_comm}
use native.Mathlib.Numerals.{add-one}
use native.Mathlib.Omega.{arith}
use borrow.Author.Rules.{rules}
use lib.ListN.{length, take, drop, length-set}
use lib.Seq.{sets-eq, take_all, paste, paste-suc}
use Rattle.paper.specs.Row.{parameter_count}
use Rattle.stores.proofs.write_parameters.Goals as goal

pub loop-i-preserved : goal.loop-i-preserved
loop-i-preserved c =
    let row : List ℕ = c.args.row.now in
    let ps : List ℕ = c.args.params in
    let at = c.loop-i in
    let long : length ps ≡ parameter_count = search rules in (
      simp length-set at.invariant.0,
      cc (add-one at.i, add_comm 1 at.i, paste-suc row 1 ps at.i 0 (omega arith) (omega arith)),
    )

pub returns : goal.returns
returns c =
    let row : List ℕ = c.args.row.now in
    let ps : List ℕ = c.args.params in
    let at = c.loop-i in
    let long : length ps ≡ parameter_count = search rules in
    let done : at.i ≡ length ps = omega arith in
    at.invariant.1 ∙ ap (paste row 1 ps) done ∙ ap (λ (l : List ℕ). take 1 row ++ l ++ drop (1 + length ps) row) (take_all (length ps) ps (omega arith)) ∙ sym (sets-eq ps row 1 (omega arith))
