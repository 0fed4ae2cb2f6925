-- What a day that its row takes gives, by its move and the figures that are worked of it. Assumes nothing.
use mathlib.Core.Path.{◌≡◌, sym, ap, subst, ◌∙◌}
use mathlib.Core.Bool.{true}
use mathlib.Core.List.{List}
use Prim.Native.Nat.{ℕ, ◌≤◌, ◌<◌}
use borrow.Author.Tests.{lt-leb, le-ltb}
use Rattle.paper.specs.Row as Row
use Rattle.paper.specs.Row.{word, parameters_of}
use Rattle.paper.specs.Rates as Rules
use Rattle.paper.specs.Rates.{greatest_move, accepted, day_in_range, move_on, figures_on, figures_of, state_of, next_row, day_on}
use Rattle.paper.proofs.Ranges.{day_of_lem}
use Rattle.preliminary.specs.declared.Move.{Move}
use Rattle.preliminary.specs.Moves.{paper_move}
use Rattle.instrument.specs.Answers.{MovesBy}

module _ (row : List ℕ) (d : Rules.Day) (moved : Move) (by : MovesBy row d moved) where
  -- What `work_day` asks beside a row in range.
  pub asked : day_in_range d ≡ true → (word row Row.last_day < d.day) × ((d.m ≤ 30) × (moved.size ≤ 1000000))
  asked range = (by.later, ((day_of_lem d range).m.not_above, by.small))

  pub taken_of : day_on row d ≡ accepted (figures_of row d) (next_row row (figures_of row d) d)
  unfolding day_on
  taken_of =
      let small = subst (λ (m : Rules.Move). m.size ≤ greatest_move) by.moves by.small in
      rw (lt-leb d.day (word row Row.last_day) by.later, le-ltb greatest_move (move_on row d).size small)

  pub taken : (f : Rules.Figures) → f ≡ figures_on (parameters_of row) (state_of row) d.day d.m d.j (paper_move moved) → day_on row d ≡ accepted f (next_row row f d)
  unfolding figures_of
  taken f e =
      taken_of
      ∙ sym (ap (λ (f : Rules.Figures). accepted f (next_row row f d)) (e ∙ ap (figures_on (parameters_of row) (state_of row) d.day d.m d.j) by.moves))
