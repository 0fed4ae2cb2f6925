-- `forms::stands` meets its contract, at a text with no byte and at any other. Assumes nothing.
use Rattle.std.proofs.Common.{◌≡◌, ℕ, Option, Some, None, List, [], ◌∷◌, Bor, nat_eq, refl, ap, ◌∙◌}
use Rattle.std.specs.List.{slice_get}
use Rattle.std.specs.Option.{option_copied, option_eq}
use Rattle.paper_sheets.specs.Sheet.{starts_with}
use Rattle.forms.proofs.stands.Goals as goal

stood : (found : Option (Bor ℕ)) (byte : Bor ℕ) (text : List ℕ) → option_copied found ≡ slice_get text 0 → option_eq (λ (x y : Bor ℕ). nat_eq x.now y.now) found (Some byte) ≡ starts_with byte.now text
unfolding starts_with
stood None byte [] e = refl
stood None byte (b ∷ bs) e = cc
stood (Some x) byte [] e = cc
stood (Some x) byte (b ∷ bs) e =
    let same : x.now ≡ b = cc in
    ap (λ (n : ℕ). nat_eq n byte.now) same

pub returns : goal.returns
returns c = c.eq.ensures ∙ stood c.first.result _ c.args.text.now c.first.ensures.value
