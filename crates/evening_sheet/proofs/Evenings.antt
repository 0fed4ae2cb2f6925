-- What the evening sheet's call says where the book is not sound, where the buffer is too short, and where the sheet is written. Assumes nothing.
use mathlib.Core.Path.{◌≡◌}
use mathlib.Core.Bool.{true, false}
use mathlib.Core.List.{List}
use Prim.Native.Nat.{ℕ}
use native.Mathlib.Omega.{arith}
use lib.Dec.{leb}
use lib.ListN.{length}
use Rattle.paper.specs.Book.{is_sound}
use Rattle.paper_sheets.specs.Evening.{evening_sheet, evening_number, evening_text}
use Rattle.row.specs.declared.Refusal.TheVariants.{Book, Room}
use Rattle.std.specs.Prelude.{Ok, Err}
use Rattle.lines.specs.Writes.{Writes}
use Rattle.lines.proofs.Texts.{writes_none, writes_counted}
use Rattle.evening_sheet.specs.Evenings.{Evened}

-- A refused call writes nothing.
pub evened_unsound : (book out : List ℕ) → is_sound book ≡ false → Evened book out out (Err Book)
unfolding evening_number evening_text
evened_unsound book out e =
    let none = writes_none out 0 (omega arith) in
    record { answers = rw e; writes = rw e none; counts = writes_counted none }

pub evened_room : (book out : List ℕ) → is_sound book ≡ true → leb (length (evening_sheet book)) (length out) ≡ false → Evened book out out (Err Room)
unfolding evening_number evening_text
evened_room book out sound short =
    let none = writes_none out 0 (omega arith) in
    record { answers = rw (sound, short); writes = rw (sound, short) none; counts = writes_counted none }

pub evened_done : {book before after : List ℕ} {written : ℕ} → is_sound book ≡ true → leb (length (evening_sheet book)) (length before) ≡ true
    → Writes before after 0 written (evening_sheet book) → Evened book before after (Ok written)
unfolding evening_number evening_text
evened_done sound room w = record { answers = rw (sound, room); writes = rw (sound, room) w; counts = writes_counted w }
