-- One outcome: the reading of a move is one-to-one, so a promise of the paper's fixes the code's.
use Rattle.std.specs.Prelude.{◌≡◌}
use Rattle.preliminary.specs.declared.Move.{Move}
use Rattle.preliminary.specs.Moves.{paper_move}

abbrev pub MovesSettled : Type 0
MovesSettled = (a b : Move) → paper_move a ≡ paper_move b → a ≡ b
