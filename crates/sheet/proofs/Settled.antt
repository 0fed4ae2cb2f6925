-- What is found and what is kept is an equation each, so it is one. Assumes nothing.
use mathlib.Core.Path.{◌≡◌, sym, ap, ◌∙◌}
use mathlib.Core.List.{List}
use Prim.Native.Nat.{ℕ}
use lib.ListN.{take, drop}
use Rattle.paper_sheets.specs.Sheet.{Finding}
use Rattle.sheet.specs.Checked.{check_finding, check_part, HandsOut}
use Rattle.sheet.specs.Settled.{SheetSettled}

hands_out_one : (sheet : List ℕ) (f f' : Finding) (part part' : List ℕ) → HandsOut sheet f part → HandsOut sheet f' part' → (f ≡ f') × (part ≡ part')
hands_out_one sheet f f' part part' h k =
    let same : f ≡ f' = sym h.finds ∙ k.finds in
    (same, h.hands ∙ ap (λ (g : Finding). take g.length (drop g.start sheet)) same ∙ sym k.hands)

pub sheet_settled : SheetSettled
sheet_settled =
    record {
      hands_out = hands_out_one;
      hands_back = λ sheet found found' h k. hands_out_one sheet (check_finding found) (check_finding found') (check_part found) (check_part found') h k;
      keeps = λ sheet numbers numbers' k l. k.read ∙ sym l.read;
    }
