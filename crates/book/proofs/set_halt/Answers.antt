-- `book::set_halt` meets its contract: Range, Unknown where the instrument has no row, and else the one word of its row is the value. Assumes nothing.
use mathlib.Core.Path.{refl, sym, ap, subst, ◌∙◌}
use mathlib.Core.Bool.{Bool, ◌&&◌}
use mathlib.Core.List.{List, [], ◌∷◌}
use Prim.Native.Nat.{ℕ, ◌<◌}
use native.Mathlib.Omega.{arith}
use lib.Seq.{sets, length-sets}
use Rattle.paper.specs.Row as Row
use Rattle.paper.specs.Row.{instruments, switches, is_in}
use Rattle.paper.specs.Book.{row_for}
use Rattle.paper.specs.Calls.{halt, figures_for, changed}
use Rattle.paper.proofs.Tests.{and_both, and_fails}
use Rattle.paper.proofs.Sound.{sound_long}
use Rattle.row.proofs.Handed.{handed_up}
use Rattle.book.proofs.Kept.{kept_refused, kept_accepted, meets, open_at, halt_range, halt_unknown, halt_taken, row_part, row_for_long}
use Rattle.book.proofs.set_halt.Goals as goal

pub returns-then-not-is_instrument-clause-kept : goal.returns-then-not-is_instrument-clause-kept
returns-then-not-is_instrument-clause-kept c =
    kept_refused _ (halt c.args.instrument c.args.value) 2
    (halt_range _ c.requires _ _ (ap (λ (b : Bool). b && is_in switches c.args.value) (sym c.is_instrument.ensures ∙ c.if-not-is_instrument.true))) (λ e. omega arith)

pub returns-then-not-word_in_range-clause-kept : goal.returns-then-not-word_in_range-clause-kept
returns-then-not-word_in_range-clause-kept c =
    kept_refused _ (halt c.args.instrument c.args.value) 2
    (halt_range _ c.requires _ _ (and_fails (is_in instruments c.args.instrument) _ (sym c.word_in_range.ensures ∙ c.if-not-word_in_range.true))) (λ e. omega arith)

pub row_number-requires : goal.row_number-requires
row_number-requires c = sound_long _ c.requires

pub returns-in_err-k-clause-kept : goal.returns-in_err-k-clause-kept
returns-in_err-k-clause-kept c =
    let none = c.in_err-k.ensures in
    let range = and_both _ _ (sym c.is_instrument.ensures ∙ c.if-not-is_instrument.false) (sym c.word_in_range.ensures ∙ c.if-not-word_in_range.false) in
    rw (handed_up c.from_residual.result _ _ none.0 c.from_residual.ensures.1)
    (kept_refused _ (halt c.args.instrument c.args.value) 5 (halt_unknown _ c.requires _ _ range none.1) (λ e. omega arith))

pub slice_bounds-set_halt-end : goal.slice_bounds-set_halt-end
slice_bounds-set_halt-end c = omega (arith, c.in_ok-k.ensures.1, sound_long _ c.requires)

pub returns : goal.returns
unfolding changed figures_for
returns c =
    let found = c.in_ok-k.ensures in
    let i = c.args.instrument in
    let value = c.args.value in
    let lent = row_part c.args.book.now i _ found.0 in
    let below = subst (λ (k : ℕ). k < 64) found.0 found.1 in
    let row = row_for c.args.book.now i in
    let range = and_both _ _ (sym c.is_instrument.ensures ∙ c.if-not-is_instrument.false) (sym c.word_in_range.ensures ∙ c.if-not-word_in_range.false) in
    let taken = halt_taken _ c.requires i value range (open_at _ _ below) in
    let both = meets _ (halt i value) _ _ c.requires found.0 found.1 _ _ _ _ (kept_accepted _ (halt i value) [] _ taken refl refl)
    (length-sets row Row.halted (value ∷ []) ∙ row_for_long _ _ c.requires below) refl (c.set_halt.ensures ∙ ap (λ (row : List ℕ). sets row Row.halted (value ∷ [])) lent) in
    record { kept = both.0; sound = both.1 }
