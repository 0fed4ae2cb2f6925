-- `sheet::read_sheet` meets its contract: the three sections in turn, each read on from where the one before it ended, and nothing after them. Assumes nothing.
use mathlib.Core.Path.{◌≡◌, refl, sym}
use mathlib.Core.List.{[], ◌∷◌}
use lib.ListN.{take, drop}
use Rattle.std.proofs.lemmas.Result.{err_from_is_err_and}
use Rattle.paper_sheets.specs.Sheet.{openings, days, corridors, read_sections, read_sheet}
use Rattle.sheet.proofs.Sections.{sheet_on, sheet_stops, sheet_long, sheet_ends}
use Rattle.sheet.proofs.read_sheet.Goals as goal
use Rattle.sheet.proofs.read_sheet.Goals.{In_ok-opened, In_ok-dated, In_ok-asked}

-- What is left of the sheet after each section.
after_openings : (c : In_ok-opened) → let p = c.in_ok-opened.opened in read_sheet c.args.text.now ≡ read_sections (days ∷ corridors ∷ []) p.line (take p.kept c.read_section.new.numbers) (drop p.at c.args.text.now)
unfolding read_sheet
after_openings c = sheet_on _ openings (days ∷ corridors ∷ []) 1 [] _ refl (c.in_ok-opened.ensures.reads openings refl (sym c.opening_form.ensures))

after_days : (c : In_ok-dated) → let p = c.in_ok-dated.dated in read_sheet c.args.text.now ≡ read_sections (corridors ∷ []) p.line (take p.kept c.read_section-2.new.numbers) (drop p.at c.args.text.now)
after_days c = sheet_on _ days (corridors ∷ []) _ _ _ (after_openings (goal.at.In_ok-dated c).In_ok-opened) (c.in_ok-dated.ensures.reads days refl refl)

after_corridors : (c : In_ok-asked) → let p = c.in_ok-asked.asked in read_sheet c.args.text.now ≡ read_sections [] p.line (take p.kept c.read_section-3.new.numbers) (drop p.at c.args.text.now)
after_corridors c = sheet_on _ corridors [] _ _ _ (after_days (goal.at.In_ok-asked c).In_ok-dated) (c.in_ok-asked.ensures.reads corridors refl refl)

pub returns-in_err-opened : goal.returns-in_err-opened
unfolding read_sheet
returns-in_err-opened c =
    let p = err_from_is_err_and c.from_residual.result c.from_residual.ensures.1 in
    rw (p.1, p.2) (sheet_stops _ openings (days ∷ corridors ∷ []) 1 [] _ refl (c.in_err-opened.ensures.reads openings refl (sym c.opening_form.ensures)))

pub returns-in_err-dated : goal.returns-in_err-dated
returns-in_err-dated c =
    let p = err_from_is_err_and c.from_residual-in_err-dated.result c.from_residual-in_err-dated.ensures.1 in
    rw (p.1, p.2) (sheet_stops _ days (corridors ∷ []) _ _ _ (after_openings (goal.at.returns-in_err-dated c).In_ok-opened) (c.in_err-dated.ensures.reads days refl refl))

pub read_section-requires-2-clause-text : goal.read_section-requires-2-clause-text
read_section-requires-2-clause-text c = (c.in_ok-opened.ensures.reads openings refl (sym c.opening_form.ensures)).stands

pub read_section-requires-3-clause-text : goal.read_section-requires-3-clause-text
read_section-requires-3-clause-text c = (c.in_ok-dated.ensures.reads days refl refl).stands

pub returns-in_err-asked : goal.returns-in_err-asked
returns-in_err-asked c =
    let p = err_from_is_err_and c.from_residual-in_err-asked.result c.from_residual-in_err-asked.ensures.1 in
    rw (p.1, p.2) (sheet_stops _ corridors [] _ _ _ (after_days (goal.at.returns-in_err-asked c).In_ok-dated) (c.in_err-asked.ensures.reads corridors refl refl))

pub returns-then-asked-text : goal.returns-then-asked-text
returns-then-asked-text c = sheet_long _ _ c.in_ok-asked.asked (c.in_ok-asked.ensures.reads corridors refl refl).stands (after_corridors (goal.at.returns-then-asked-text c).In_ok-asked) c.if-asked-text.true

pub returns : goal.returns
returns c = sheet_ends _ _ c.in_ok-asked.asked (c.in_ok-asked.ensures.reads corridors refl refl).stands (after_corridors (goal.at.returns c).In_ok-asked) c.if-asked-text.false
