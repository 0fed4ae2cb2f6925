-- What is written is an equation, so it is one. Assumes nothing.
use Prim.Native.Nat.{ℕ}
use mathlib.Core.Path.{◌≡◌, sym, ◌∙◌}
use mathlib.Core.List.{List}
use Rattle.lines.specs.Writes.{Writes}
use Rattle.lines.specs.Settled.{WritesSettled}

pub writes_one : {before after after' text : List ℕ} {at end end' : ℕ} → Writes before after at end text → Writes before after' at end' text → (after ≡ after') × (end ≡ end')
writes_one w v = (w.holds ∙ sym v.holds, w.ends ∙ sym v.ends)

pub writes_settled : WritesSettled
writes_settled before after after' text at end end' w v = writes_one w v
