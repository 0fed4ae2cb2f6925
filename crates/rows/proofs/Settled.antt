-- Two outcomes of rows that act are equal. Assumes nothing.
use mathlib.Core.Path.{sym, ◌∙◌}
use Rattle.lines.proofs.Settled.{writes_one}
use Rattle.rows.specs.Settled.{ActsSettled}

pub acts_settled : ActsSettled
acts_settled book left left' before after after' at end end' calls p q =
    let written = writes_one p.writes q.writes in
    (p.leaves ∙ sym q.leaves, written.0, written.1)
