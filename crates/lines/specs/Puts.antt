-- What the methods of a text say.
use Rattle.std.specs.Prelude.{ℕ, ◌+◌, ◌≤◌, ◌≡◌, List, length}
use Rattle.lines.specs.declared.Text.{Text}
use Rattle.lines.specs.Writes.{Writes}

pub record HoldsMore (t : Text) (text : List ℕ) : Type 0 where
  pub holds : t.at + length text ≤ length t.out.now

pub record Puts (before after : Text) (text : List ℕ) : Type 0 where
  pub same : after.out.ghost_name ≡ before.out.ghost_name
  pub writes : Writes before.out.now after.out.now before.at after.at text
