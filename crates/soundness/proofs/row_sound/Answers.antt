-- `soundness::row_sound` meets its contract. Assumes nothing.
use mathlib.Core.Path.{◌≡◌, sym, ap, ◌∙◌}
use mathlib.Core.Bool.{true, false}
use native.Mathlib.Omega.{arith}
use mathlib.Core.List.{List}
use Prim.Native.Nat.{ℕ}
use lib.Dec.{eqb}
use Rattle.paper.specs.Row.{word, instrument, row_in_range}
use Rattle.paper.specs.Book.{row_at, place_for, is_zeros, is_row_sound}
use Rattle.paper.proofs.Book.{row_long_at}
use Rattle.soundness.proofs.Found.{found_at}
use Rattle.soundness.proofs.row_sound.Goals as goal

pub returns-then-is_zeros : goal.returns-then-is_zeros
unfolding is_row_sound
returns-then-is_zeros c =
    let free : is_zeros (row_at c.args.book.now c.args.k) ≡ true
    = ap is_zeros (sym c.row_of-row.ensures) ∙ sym c.is_zeros.ensures ∙ c.if-is_zeros.true in
    simp free

pub bounds-row-0 : goal.bounds-row-0
bounds-row-0 c = rw c.row_of-row.ensures (omega (arith, row_long_at c.args.book.now c.requires.0 c.args.k c.requires.1))

pub returns-then-row_in_range : goal.returns-then-row_in_range
unfolding is_row_sound
returns-then-row_in_range c =
    let same = c.row_of-row.ensures in
    let used : is_zeros (row_at c.args.book.now c.args.k) ≡ false
    = ap is_zeros (sym same) ∙ sym c.is_zeros.ensures ∙ c.if-is_zeros.false in
    let whole : row_in_range (row_at c.args.book.now c.args.k) ≡ true
    = ap row_in_range (sym same) ∙ sym c.row_in_range.ensures ∙ c.if-row_in_range.true in
    let book = c.args.book.now in
    let k = c.args.k in
    let first = c.place_of.ensures.place ∙ ap (λ (row : List ℕ). place_for book (word row instrument)) same in
    c.eq.ensures ∙ found_at _ k c.requires.1 ∙ ap (λ (j : ℕ). eqb j k) first ∙ sym (simp (used, whole))

pub returns-else-row_in_range : goal.returns-else-row_in_range
unfolding is_row_sound
returns-else-row_in_range c =
    let same = c.row_of-row.ensures in
    let used : is_zeros (row_at c.args.book.now c.args.k) ≡ false
    = ap is_zeros (sym same) ∙ sym c.is_zeros.ensures ∙ c.if-is_zeros.false in
    let out : row_in_range (row_at c.args.book.now c.args.k) ≡ false
    = ap row_in_range (sym same) ∙ sym c.row_in_range.ensures ∙ c.if-row_in_range.false in
    c.if-row_in_range.false ∙ sym (simp (used, out))
