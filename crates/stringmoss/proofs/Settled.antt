-- Two outcomes under one promise are equal, number by number. Assumes nothing.
use Prim.Native.Nat.{ℕ}
use mathlib.Core.Path.{◌≡◌, sym, ap, ◌∙◌}
use mathlib.Core.List.{List}
use Rattle.paper.specs.Calls.{Answer}
use Rattle.paper_sheets.specs.Sheet.{Finding}
use Rattle.paper.proofs.Ends.{one_outcome}
use Rattle.lines.proofs.Settled.{writes_one}
use Rattle.stringmoss.specs.Linked.{RanInto}
use Rattle.stringmoss.specs.Settled.{LinkedSettled}

ran_one : (book left left' sheet before after after' : List ℕ) (number line start length written number' line' start' length' written' : ℕ)
    → RanInto book left sheet before after number line start length written
    → RanInto book left' sheet before after' number' line' start' length' written'
    → (left ≡ left') × (after ≡ after') × (number ≡ number') × (line ≡ line') × (start ≡ start') × (length ≡ length') × (written ≡ written')
ran_one book left left' sheet before after after' number line start length written number' line' start' length' written' p q =
    let found = p.finds ∙ sym q.finds in
    let text = writes_one p.writes q.writes in (
      p.leaves ∙ sym q.leaves,
      text.0,
      ap (λ (f : Finding). f.number) found,
      ap (λ (f : Finding). f.line) found,
      ap (λ (f : Finding). f.start) found,
      ap (λ (f : Finding). f.length) found,
      text.1,
    )

pub linked_settled : LinkedSettled
linked_settled =
    record {
      calls = λ book call number number' figures figures' left left' k l.
          let both = one_outcome book call _ _ left left' k l in
          (ap (λ (a : Answer). a.number) both.0, ap (λ (a : Answer). a.figures) both.0, both.1);
      runs = ran_one;
      evenings = λ book before after after' number written number' written' p q.
          let text = writes_one p.writes q.writes in
          (text.0, p.answers ∙ sym q.answers, text.1);
    }
