use mathlib.Core.Path.{sym, ◌∙◌}
use native.Mathlib.Omega.{arith}
use borrow.Author.Tests.{eq-eqb, ne_eqb}
use Rattle.paper.specs.Book.{rows, is_row_sound, is_sound}
use Rattle.paper.proofs.Book.{all_below_lem, below_not}
use Rattle.soundness.proofs.is_sound.Goals as goal

pub returns-then-book-ne-WORDS : goal.returns-then-book-ne-WORDS
unfolding is_sound
returns-then-book-ne-WORDS c = simp (ne_eqb _ _ c.if-book-ne-WORDS.true)

pub returns-then-not-row_sound : goal.returns-then-not-row_sound
unfolding is_sound
returns-then-not-row_sound c =
    let at = c.loop-row in
    simp (
      eq-eqb _ _ at.invariant.0,
      below_not rows (is_row_sound c.args.book.now) at.row (omega arith) (sym c.row_sound.ensures ∙ c.if-not-row_sound.true),
    )

pub returns : goal.returns
unfolding is_sound
returns c =
    let at = c.loop-row in
    simp (
      eq-eqb _ _ at.invariant.0,
      all_below_lem rows (is_row_sound c.args.book.now) (λ k l. at.invariant.1 k (omega arith)),
    )
