-- `book::open` meets its contract: Range, Known where the search finds the instrument, Full where no row's instrument is 0, and else the row written into the first such. Assumes nothing.
use mathlib.Core.Path.{◌≡◌, refl, sym, subst, ◌∙◌}
use mathlib.Core.Bool.{true, false}
use mathlib.Core.List.{[]}
use Prim.Native.Nat.{ℕ, ◌≤◌, ◌<◌}
use native.Mathlib.Omega.{arith}
use Rattle.paper.specs.Row.{row_in_range}
use Rattle.paper.specs.Book.{free_place}
use Rattle.paper.specs.Calls.{opening, figures_for, changed}
use Rattle.paper.proofs.Row.{row_long}
use Rattle.paper.proofs.Sound.{sound_long, sound_says, free_place_lem}
use Rattle.book.proofs.Kept.{kept_refused, kept_accepted, meets, opening_range, opening_known, opening_full, opening_taken, open_if}
use Rattle.book.proofs.open.Goals as goal

pub returns-then-not-row_in_range-clause-kept : goal.returns-then-not-row_in_range-clause-kept
returns-then-not-row_in_range-clause-kept c =
    let out : row_in_range c.args.row.now ≡ false = cc in
    kept_refused _ (opening c.args.row.now) 2 (opening_range _ c.requires _ out) (λ e. omega arith)

pub bounds-row-0 : goal.bounds-row-0
bounds-row-0 c =
    let range : row_in_range c.args.row.now ≡ true = cc in
    omega (arith, row_long _ range)

pub place_of-requires : goal.place_of-requires
place_of-requires c = sound_long _ c.requires

pub place_of-requires-2 : goal.place_of-requires-2
place_of-requires-2 c = sound_long _ c.requires

pub returns-then-is_some-clause-kept : goal.returns-then-is_some-clause-kept
returns-then-is_some-clause-kept c =
    let range : row_in_range c.args.row.now ≡ true = cc in
    let known = open_if _ _ c.place_of.result c.place_of.ensures.place c.place_of.ensures.row ∙ sym c.is_some.ensures ∙ c.if-is_some.true in
    kept_refused _ (opening c.args.row.now) 3 (opening_known _ c.requires _ range known) (λ e. omega arith)

pub returns-in_default-clause-kept : goal.returns-in_default-clause-kept
returns-in_default-clause-kept c =
    let range : row_in_range c.args.row.now ≡ true = cc in
    let none = open_if _ _ c.place_of.result c.place_of.ensures.place c.place_of.ensures.row ∙ sym c.is_some.ensures ∙ c.if-is_some.false in
    let full : 64 ≤ free_place c.args.book.now = omega (arith, c.in_default.ensures.place, free_place_lem _ (sound_says _ c.requires)) in
    kept_refused _ (opening c.args.row.now) 4 (opening_full _ c.requires _ range none full) (λ e. omega arith)

pub slice_bounds-open-end : goal.slice_bounds-open-end
slice_bounds-open-end c = omega (arith, sound_long _ c.requires)

pub open-requires : goal.open-requires
open-requires c =
    let range : row_in_range c.args.row.now ≡ true = cc in
    (omega (arith, sound_long _ c.requires), row_long _ range)

pub returns : goal.returns
unfolding changed figures_for
returns c =
    let found = c.in-Some.ensures in
    let range : row_in_range c.args.row.now ≡ true = cc in
    let none = open_if _ _ c.place_of.result c.place_of.ensures.place c.place_of.ensures.row ∙ sym c.is_some.ensures ∙ c.if-is_some.false in
    let place = found.place ∙ sym (free_place_lem _ (sound_says _ c.requires)) in
    let taken = opening_taken _ c.requires _ range none (subst (λ (k : ℕ). k < 64) place found.row) in
    let both = meets _ (opening c.args.row.now) _ _ c.requires place found.row _ _ _ _ (kept_accepted _ (opening c.args.row.now) [] _ taken refl refl) (row_long _ range) refl c.open.ensures in
    record { kept = both.0; sound = both.1 }
