-- The code's range as the paper's.
use Rattle.paper.specs.Row.{Interval}
use Rattle.row.specs.declared.Range.{Range}

abbrev pub interval : Range → Interval
interval r = record { from = r.0; to = r.1 }
