-- `book::close` meets its contract: Range, Unknown where the instrument has no row, and else its row is zeros. Assumes nothing.
use mathlib.Core.Path.{refl, sym, subst, ◌∙◌}
use mathlib.Core.List.{[]}
use Prim.Native.Nat.{ℕ, ◌<◌}
use native.Mathlib.Omega.{arith}
use Rattle.paper.specs.Calls.{closing, figures_for, changed}
use Rattle.paper.proofs.Sound.{sound_long}
use Rattle.row.proofs.Handed.{handed_up}
use Rattle.book.proofs.Kept.{kept_refused, kept_accepted, meets, open_at, closing_range, closing_unknown, closing_taken}
use Rattle.book.proofs.close.Goals as goal

pub returns-then-not-is_instrument-clause-kept : goal.returns-then-not-is_instrument-clause-kept
returns-then-not-is_instrument-clause-kept c =
    kept_refused _ (closing c.args.instrument) 2 (closing_range _ c.requires _ (sym c.is_instrument.ensures ∙ c.if-not-is_instrument.true)) (λ e. omega arith)

pub row_number-requires : goal.row_number-requires
row_number-requires c = sound_long _ c.requires

pub returns-in_err-k-clause-kept : goal.returns-in_err-k-clause-kept
returns-in_err-k-clause-kept c =
    let none = c.in_err-k.ensures in
    let named = sym c.is_instrument.ensures ∙ c.if-not-is_instrument.false in
    rw (handed_up c.from_residual.result _ _ none.0 c.from_residual.ensures.1)
    (kept_refused _ (closing c.args.instrument) 5 (closing_unknown _ c.requires _ named none.1) (λ e. omega arith))

pub slice_bounds-close-end : goal.slice_bounds-close-end
slice_bounds-close-end c = omega (arith, c.in_ok-k.ensures.1, sound_long _ c.requires)

pub returns : goal.returns
unfolding changed figures_for
returns c =
    let found = c.in_ok-k.ensures in
    let named = sym c.is_instrument.ensures ∙ c.if-not-is_instrument.false in
    let taken = closing_taken _ c.requires _ named (open_at _ _ (subst (λ (k : ℕ). k < 64) found.0 found.1)) in
    let both = meets _ (closing c.args.instrument) _ _ c.requires found.0 found.1 _ _ _ _ (kept_accepted _ (closing c.args.instrument) [] _ taken refl refl) refl refl c.close.ensures in
    record { kept = both.0; sound = both.1 }
