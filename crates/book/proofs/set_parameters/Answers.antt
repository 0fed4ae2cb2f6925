-- `book::set_parameters` meets its contract: Range, Unknown where the instrument has no row, and else what the row answers. Assumes nothing.
use mathlib.Core.Path.{sym, ap, subst, ◌∙◌}
use mathlib.Core.Bool.{Bool, ◌&&◌}
use mathlib.Core.List.{List}
use Prim.Native.Nat.{ℕ, ◌<◌}
use native.Mathlib.Omega.{arith}
use Rattle.paper.specs.Row.{instruments, is_in, parameters_in_range}
use Rattle.paper.specs.Calls.{parameters}
use Rattle.paper.proofs.Tests.{and_both, and_fails}
use Rattle.paper.proofs.Sound.{sound_long}
use Rattle.stores.specs.Stored.{parameters_answer, parameters_row}
use Rattle.row.proofs.Handed.{handed_up}
use Rattle.book.proofs.Kept.{kept_refused, meets, parameters_range, parameters_unknown, row_part, kept_parameters, parameters_row_long}
use Rattle.book.proofs.set_parameters.Goals as goal

pub returns-then-not-is_instrument-clause-kept : goal.returns-then-not-is_instrument-clause-kept
returns-then-not-is_instrument-clause-kept c =
    kept_refused _ (parameters c.args.instrument c.args.params) 2
    (parameters_range _ c.requires _ _ (ap (λ (b : Bool). b && parameters_in_range c.args.params) (sym c.is_instrument.ensures ∙ c.if-not-is_instrument.true))) (λ e. omega arith)

pub returns-then-not-parameters_in_range-clause-kept : goal.returns-then-not-parameters_in_range-clause-kept
returns-then-not-parameters_in_range-clause-kept c =
    kept_refused _ (parameters c.args.instrument c.args.params) 2
    (parameters_range _ c.requires _ _ (and_fails (is_in instruments c.args.instrument) _ (sym c.parameters_in_range.ensures ∙ c.if-not-parameters_in_range.true))) (λ e. omega arith)

pub row_number-requires : goal.row_number-requires
row_number-requires c = sound_long _ c.requires

pub returns-in_err-k-clause-kept : goal.returns-in_err-k-clause-kept
returns-in_err-k-clause-kept c =
    let none = c.in_err-k.ensures in
    let range = and_both _ _ (sym c.is_instrument.ensures ∙ c.if-not-is_instrument.false) (sym c.parameters_in_range.ensures ∙ c.if-not-parameters_in_range.false) in
    rw (handed_up c.from_residual.result _ _ none.0 c.from_residual.ensures.1)
    (kept_refused _ (parameters c.args.instrument c.args.params) 5 (parameters_unknown _ c.requires _ _ range none.1) (λ e. omega arith))

pub slice_bounds-set_parameters-end : goal.slice_bounds-set_parameters-end
slice_bounds-set_parameters-end c = omega (arith, c.in_ok-k.ensures.1, sound_long _ c.requires)

pub returns : goal.returns
returns c =
    let found = c.in_ok-k.ensures in
    let ps = c.args.params in
    let lent = row_part c.args.book.now c.args.instrument _ found.0 in
    let below = subst (λ (k : ℕ). k < 64) found.0 found.1 in
    let range = and_both _ _ (sym c.is_instrument.ensures ∙ c.if-not-is_instrument.false) (sym c.parameters_in_range.ensures ∙ c.if-not-parameters_in_range.false) in
    let given = c.set_parameters.ensures in
    let both = meets _ (parameters c.args.instrument ps) _ _ c.requires found.0 found.1 _ _ _ _ (kept_parameters _ _ ps c.requires range below) (parameters_row_long _ _ ps c.requires range below)
    (given.answers ∙ ap (λ (row : List ℕ). parameters_answer row ps) lent) (given.leaves ∙ ap (λ (row : List ℕ). parameters_row row ps) lent) in
    record { kept = both.0; sound = both.1 }
