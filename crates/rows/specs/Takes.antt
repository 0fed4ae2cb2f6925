-- Calls made on a book, and their lines written into a text.
use Rattle.std.specs.Prelude.{◌≡◌, List, ℕ}
use Rattle.paper.specs.Calls.{Call}
use Rattle.lines.specs.declared.Text.{Text}
use Rattle.rows.specs.Acts.{Acts}

pub record Takes (book left : List ℕ) (before after : Text) (calls : List Call) : Type 0 where
  pub same : after.out.ghost_name ≡ before.out.ghost_name
  pub acts : Acts book left before.out.now after.out.now before.at after.at calls
