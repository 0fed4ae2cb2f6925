-- `book::corridor_of` meets its contract: a share's corridor is a bond's. Assumes nothing.
use mathlib.Core.Path.{refl}
use Rattle.paper.specs.Row.{is_in, are_in}
use Rattle.paper.specs.Bond.{bond_in_range}
use Rattle.book.proofs.Kept.{kept_share}
use Rattle.book.proofs.corridor_of.Goals as goal

pub corridor_as-requires : goal.corridor_as-requires
unfolding bond_in_range are_in is_in
corridor_as-requires c = record {
  sound = c.requires;
  given = refl;
}

pub returns : goal.returns
returns c = record { kept = kept_share _ _ _ _ c.corridor_as.ensures }
