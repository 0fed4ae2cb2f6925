-- `sheet::line_length` meets its contract: the first LF ends the first line, or the end of the text. Assumes nothing.
use Rattle.std.proofs.Common.{◌≡◌, ℕ, refl, ◌∙◌, Bool, nat_eq, List, length, unwrap_or, arith, rules, tests, position}
use Rattle.std.proofs.lemmas.Bool.Decides.{nat_tests}
use Rattle.std.proofs.lemmas.Iterator.{YieldsList-from_slice}
use Rattle.std.proofs.lemmas.Iterator.Search.{position_from_yields_List}
use Rattle.std.proofs.lemmas.List.Recursion.{is_position_or_len}
use Rattle.paper_sheets.specs.Sheet.{line_length}
use Rattle.sheet.proofs.Complete.{line_within}
use Rattle.sheet.proofs.line_length.Goals as goal

abbrev is_feed : ℕ → Bool
is_feed b = nat_eq b 10

line_found : (text : List ℕ) → unwrap_or (position is_feed text) (length text) ≡ line_length text
unfolding line_length
line_found text =
    let place = is_position_or_len line_length is_feed refl (λ b bs. grind arith) text in
    let within = line_within text in
    grind (arith, nat_tests)

pub returns : goal.returns
returns c =
    let text = c.args.text.now in
    let first = position_from_yields_List is_feed _ _ c.position.result c.position.ensures.ran (YieldsList-from_slice _ c.iter.ensures.rest) (λ x b q k. search (rules, tests)) in
    c.unwrap_or.ensures ∙ rw first (line_found text)
