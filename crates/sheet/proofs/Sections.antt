-- A sheet section by section, and nothing after the last: what one section more gives of the paper's reading. Assumes nothing.
use Rattle.std.specs.Prelude.{Result, Ok, Err}
use mathlib.Core.Path.{◌≡◌, refl, sym, ap, ◌∙◌}
use mathlib.Core.List.{List, [], ◌∷◌}
use Prim.Native.Nat.{ℕ, ◌≤◌, ◌<◌}
use native.Mathlib.Omega.{arith}
use lib.ListN.{length, take, drop, length-drop}
use Rattle.paper_sheets.specs.Sheet.{Section, broken, reached, after_lines, read_section, read_nothing, read_sections, read_sheet}
use Rattle.forms.specs.declared.Place.{Place}
use Rattle.forms.specs.declared.Bad.{Bad}
use Rattle.forms.specs.Reads.{progress_of, ReadsLines}
use Rattle.forms.proofs.Items.{in_line_here}

-- A sheet up to a section: what is left is read on from the place after it. Where that is bad, the sheet is bad there.
module _ (sheet : List ℕ) (s : Section) (ss : List Section) (line : ℕ) (ns text : List ℕ) (so_far : read_sheet sheet ≡ read_sections (s ∷ ss) line ns text) {numbers : List ℕ} where
  section_read : {p : Result Place Bad} → ReadsLines sheet numbers (read_section s line ns text) p → read_sheet sheet ≡ after_lines (read_sections ss) (progress_of sheet numbers p)
  unfolding read_sections
  section_read read = so_far ∙ ap (after_lines (read_sections ss)) (sym read.reads)

  pub sheet_on : {p : Place} → ReadsLines sheet numbers (read_section s line ns text) (Ok p) → read_sheet sheet ≡ read_sections ss p.line (take p.kept numbers) (drop p.at sheet)
  sheet_on read = section_read read

  pub sheet_stops : {bad : Bad} → ReadsLines sheet numbers (read_section s line ns text) (Err bad) → ReadsLines sheet numbers (read_sheet sheet) (Err bad)
  sheet_stops read = record { reads = sym (section_read read); stands = read.stands }

-- After the last section nothing follows.
nothing_none : (line : ℕ) (ns text : List ℕ) → length text ≡ 0 → read_nothing line ns text ≡ reached line ns text
unfolding read_nothing
nothing_none line ns [] e = refl
nothing_none line ns (b ∷ bs) e = absurd (omega arith)

nothing_some : (line : ℕ) (ns text : List ℕ) → 1 ≤ length text → read_nothing line ns text ≡ broken line text
unfolding read_nothing
nothing_some line ns [] h = absurd (omega arith)
nothing_some line ns (b ∷ bs) h = refl

module _ (sheet numbers : List ℕ) (p : Place) (within : p.at ≤ length sheet) (so_far : read_sheet sheet ≡ read_sections [] p.line (take p.kept numbers) (drop p.at sheet)) where
  pub sheet_long : p.at < length sheet → ReadsLines sheet numbers (read_sheet sheet) (Err (record { line = p.line; start = p.at; at = p.at }))
  unfolding read_sections
  sheet_long more =
      record {
        reads = sym (so_far ∙ nothing_some p.line (take p.kept numbers) (drop p.at sheet) (omega (arith, length-drop p.at sheet)));
        stands = in_line_here sheet p.at within;
      }

  pub sheet_ends : length sheet ≤ p.at → ReadsLines sheet numbers (read_sheet sheet) (Ok p)
  unfolding read_sections
  sheet_ends last =
      record {
        reads = sym (so_far ∙ nothing_none p.line (take p.kept numbers) (drop p.at sheet) (omega (arith, length-drop p.at sheet)));
        stands = within;
      }
