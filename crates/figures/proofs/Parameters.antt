-- What the range check of the parameters says of those that the rules multiply, and how great a figure then is. Assumes nothing.
use mathlib.Core.Path.{◌≡◌}
use mathlib.Core.Bool.{true}
use mathlib.Core.List.{List}
use Prim.Native.Nat.{ℕ, ◌≤◌, ◌<◌}
use native.Mathlib.Nat.{mul-le-mul}
use lib.ListN.{get_or}
use Rattle.paper.specs.Row.{◌up_to◌, parameter_count, parameter_ranges, are_in, is_paired, parameters_in_range}
use Rattle.paper.specs.Rates.{next_variance, next_preliminary}
use Rattle.paper.proofs.Tests.{and_left}
use Rattle.paper.proofs.Row.{in_from, in_to, are_at}
use Rattle.paper.proofs.Limits.{variance_limit, candidate_limit, preliminary_limit}

module _ (ps : List ℕ) (sound : parameters_in_range ps ≡ true) where
  each : are_in parameter_ranges ps ≡ true
  unfolding parameters_in_range
  each = and_left (are_in parameter_ranges ps) (is_paired ps) sound

  -- Each is within the ends of its place's range.
  pub parameter_from : (k : ℕ) → k < parameter_count → (get_or parameter_ranges k (0 up_to 0)).from ≤ get_or ps k 0
  parameter_from k l = in_from _ _ (are_at parameter_ranges ps (0 up_to 0) each k l)

  pub parameter_to : (k : ℕ) → k < parameter_count → get_or ps k 0 ≤ (get_or parameter_ranges k (0 up_to 0)).to
  parameter_to k l = in_to _ _ (are_at parameter_ranges ps (0 up_to 0) each k l)

-- The new variance and the new preliminary are within the bounds of their words.
pub variance_small : (upper lower v D : ℕ) → upper ≤ 10000 → lower ≤ 10000 → v ≤ 1000000000000 → D ≤ 1000000 → next_variance upper lower v D ≤ 1000000000000
variance_small upper lower v D p q r s = variance_limit upper lower v D 1000000000000 p q r (mul-le-mul {n₂ = 1000000} {m₂ = 1000000} s s)

pub rate_small : (h n old days c : ℕ) → old ≤ 4100000 → c ≤ 4100000 → next_preliminary h n old days c ≤ 4100000
rate_small h n old days c p q = preliminary_limit h n old days c 4100000 p q

pub ruleset small = (parameter_from, parameter_to, variance_small, candidate_limit, rate_small)
