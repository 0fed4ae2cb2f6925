-- What a run of a sheet says where the book is not sound, where the sheet breaks its form, and where its rows have acted. Assumes nothing.
use mathlib.Core.Path.{◌≡◌, ap, ◌∙◌}
use mathlib.Core.Bool.{true, false}
use mathlib.Core.List.{List, [], ◌∷◌}
use Prim.Native.Nat.{ℕ, ◌≤◌}
use native.Mathlib.Omega.{arith}
use lib.ListN.{length}
use Rattle.io.proofs.Counting.{prefix_len_of_le}
use Rattle.paper.specs.Book.{is_sound}
use Rattle.paper.specs.Calls.{Call}
use Rattle.paper_sheets.specs.Sheet.{Finding, nowhere, finding, asks, line_text, text_of, sheet_finding, morning_text, book_after}
use Rattle.paper_sheets.proofs.Morning.{text_accepted, text_refused}
use Rattle.row.specs.declared.Refusal.TheVariants.{Book, Line}
use Rattle.std.specs.Prelude.{Ok, Err}
use Rattle.sheet.specs.Checked.{HandsOut}
use Rattle.lines.specs.Writes.{Writes}
use Rattle.rows.specs.Acts.{HasRoom, Acts}
use Rattle.runs.specs.Runs.{Ran}
use Rattle.lines.proofs.Texts.{writes_none, writes_counted}

-- A book that is not sound is left as it was, and nothing is written.
pub ran_unsound : (book sheet out : List ℕ) → is_sound book ≡ false → Ran book book sheet out out (Err (record { refusal = Book; line = 0; start = 0; length = 0; written = 0 }))
unfolding sheet_finding book_after morning_text
ran_unsound book sheet out e =
    record {
      finds = rw e;
      leaves = rw e;
      writes = rw e (writes_none out 0 (omega arith));
      counts = prefix_len_of_le 0 out (omega arith);
    }

-- A sheet that breaks its form, on a sound book: the text is its bad line's, and only that is written.
module _ (book : List ℕ) {sheet part : List ℕ} {line start : ℕ} (sound : is_sound book ≡ true)
    (found : HandsOut sheet (record { number = 9; line = line; start = start; length = length part }) part) where
  pub line_long : length (morning_text book sheet) ≡ length (line_text 76 (line ∷ []))
  line_long =
      let text : morning_text book sheet ≡ line_text 76 (line ∷ []) = text_refused book sheet sound (λ z. omega (arith, z, ap (λ (f : Finding). f.number) found.finds)) ∙ ap (λ (f : Finding). line_text 76 (f.line ∷ [])) found.finds in
      ap length text

  pub ran_refused : {before after : List ℕ} {written : ℕ} → Writes before after 0 written (line_text 76 (line ∷ []))
      → Ran book book sheet before after (Err (record { refusal = Line; line = line; start = start; length = length part; written = written }))
  unfolding sheet_finding book_after morning_text
  ran_refused writes =
      record {
        finds = rw (sound, found.finds);
        leaves = rw (sound, found.finds);
        writes = rw (sound, found.finds) writes;
        counts = writes_counted writes;
      }

-- A sheet in its form, on a sound book: the text is that of its calls, which act.
module _ (book sheet : List ℕ) {calls : List Call} (sound : is_sound book ≡ true) (good : finding sheet ≡ nowhere 0) (asked : calls ≡ asks sheet) where
  pub calls_fit : {out : List ℕ} → length (morning_text book sheet) ≤ length out → HasRoom book out 0 calls
  calls_fit room =
      record { holds = omega (arith, room, ap length (text_accepted book sheet sound (ap (λ (f : Finding). f.number) good)), ap (λ (calls : List Call). length (text_of book calls)) asked) }

  pub ran_done : {left before after : List ℕ} {written : ℕ} → Acts book left before after 0 written calls → Ran book left sheet before after (Ok written)
  unfolding sheet_finding book_after morning_text
  ran_done acts =
      record {
        finds = rw (sound, good);
        leaves = rw (sound, good, ← asked) acts.leaves;
        writes = rw (sound, good, ← asked) acts.writes;
        counts = writes_counted acts.writes;
      }
