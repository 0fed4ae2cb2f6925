-- `stores::set_parameters` meets its contract: Step where h does not divide the kept preliminary, and else the parameters written. Assumes nothing.
use mathlib.Core.Path.{◌≡◌, ap}
use mathlib.Core.Bool.{true}
use mathlib.Core.List.{List}
use Prim.Native.Nat.{ℕ, ◌<◌}
use native.Mathlib.Omega.{arith}
use lib.ListN.{get_or}
use Rattle.paper.specs.Row.{parameters_in_range}
use Rattle.paper.proofs.Ranges.{parameters_of_lem}
use Rattle.stores.proofs.set_parameters.Goals as goal

-- h among parameters in range is not 0.
step_positive : (ps : List ℕ) → parameters_in_range ps ≡ true → 0 < get_or ps 3 0
step_positive ps e =
    let p = parameters_of_lem ps e in
    omega (arith, ap (λ (l : List ℕ). get_or l 3 0) p.in_order, p.in_range.h.not_below)

pub nonzero_rem-row : goal.nonzero_rem-row
nonzero_rem-row c = step_positive _ c.requires.given
