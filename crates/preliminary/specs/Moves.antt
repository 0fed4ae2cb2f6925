-- The code's move as the paper's.
use Rattle.paper.specs.Rates as Rules
use Rattle.preliminary.specs.declared.Price.{Price}
use Rattle.preliminary.specs.declared.Price.TheVariants.{Newer, Older}
use Rattle.preliminary.specs.declared.Move.{Move}

abbrev pub paper_price : Price → Rules.Price
paper_price Newer = Rules.Newer
paper_price Older = Rules.Older

abbrev pub paper_move : Move → Rules.Move
paper_move moved = record { size = moved.size; from = paper_price moved.from }
