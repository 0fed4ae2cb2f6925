-- Words in the ranges of as many places, by their number. Assumes nothing.
use mathlib.Core.Path.{◌≡◌, sym, ap, ◌∙◌}
use mathlib.Core.Bool.{Bool, true}
use mathlib.Core.List.{List}
use Prim.Native.Nat.{ℕ, ◌<◌}
use native.Mathlib.Omega.{arith}
use lib.Dec.{lit<}
use lib.ListN.{length, get_or, take, drop}
use Rattle.paper.specs.Row.{Interval, ◌up_to◌, ranges, range_at, are_in, width}
use Rattle.paper.proofs.Row.{in_from, are_at}

pub are_of_length : (rs : List Interval) (ns : List ℕ) (n : ℕ) (b : Bool) → length ns ≡ n → b ≡ are_in (take (length ns) rs) ns → b ≡ are_in (take n rs) ns
are_of_length rs ns n b long e = e ∙ ap (λ (k : ℕ). are_in (take k rs) ns) long

-- The step of words in the ranges of a row is not 0.
pub step_some : (ns : List ℕ) → length ns ≡ width → are_in (take (length ns) (drop 0 ranges)) ns ≡ true → 0 < get_or ns 4 0
step_some ns long e =
    omega (arith, in_from (range_at 4) _ (are_at ranges ns (0 up_to 0) (sym (are_of_length ranges ns width _ long (sym e))) 4 (lit< tt)))
