-- What a search answers is had back from where it ends. Assumes nothing.
use mathlib.Core.Path.{refl, ap}
use native.Mathlib.Omega.{arith}
use Rattle.std.specs.Prelude.{None, Some}
use Rattle.soundness.specs.Settled.{PlacesSettled}

pub places_settled : PlacesSettled
places_settled (Some j) (Some k) below under e = ap Some e
places_settled (Some j) None below under e = absurd (omega (arith, below, e))
places_settled None (Some k) below under e = absurd (omega (arith, under, e))
places_settled None None below under e = refl
