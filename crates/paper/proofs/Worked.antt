-- The table of worked cases holds: each line by computing, P4 by what a weighted mean of equal numbers is. Assumes nothing.
use mathlib.Core.Path.{◌≡◌, refl}
use Prim.Native.Nat.{ℕ, ◌≤◌}
use native.Mathlib.Omega.{arith}
use lib.Dec.{T}
use Rattle.paper.specs.Row.{weights, is_in}
use Rattle.paper.specs.Rates.{ceil_div, weight, next_variance}
use Rattle.paper.specs.Promises.Worked.{Worked, Edges, WhichPrice, DistinctDays}
use Rattle.paper.proofs.Tests.{passed}
use Rattle.paper.proofs.Row.{in_to}
use Rattle.paper.proofs.Computing.{computing}

unchanged : (upper lower : ℕ) → T (is_in weights upper) → T (is_in weights lower) → next_variance upper lower 400000000 20000 ≡ 400000000
unfolding next_variance ceil_div weight
unchanged upper lower u l =
    let top : lower ≤ 10000 = in_to weights lower (passed (is_in weights lower) l) in
    omega arith

pub worked : Worked
unfolding computing
worked =
    record {
      p1 = refl;
      p2_move = refl;
      p2_accepted = refl;
      p2_refused = refl;
      p2_number = refl;
      p3 = λ upper u. refl;
      p4 = unchanged;
      p5 = refl;
      p5_candidate = refl;
      p6 = refl;
      p7_margin = refl;
      p7_concentration = refl;
      p8_shock = λ lower. refl;
      p8_calm = λ lower. refl;
      p8_shock_day = refl;
      p8_calm_day = refl;
      p9 = refl;
      p10_empty = λ margin k lower upper. refl;
      p10_number = λ margin k lower upper. refl;
      p10_one = λ margin k lower upper. refl;
    }

pub edges : Edges
unfolding computing
edges = record { past_whole = refl; past_whole_refused = refl; root_unrounded = refl; repo_decides = refl; negative_product = refl }

pub which_price : WhichPrice
unfolding computing
which_price =
    record {
      alike = refl;
      rise_and_fall = refl;
      newer_alone = refl;
      older_alone = refl;
      newer_by_one = refl;
      older_by_one = refl;
      newer_has_more = refl;
      older_has_more = refl;
      stale = refl;
      too_far = refl;
    }

pub distinct_days : DistinctDays
unfolding computing
distinct_days =
    record {
      rises = refl;
      leaves = refl;
      greatest = refl;
      least = refl;
      unmonitored = refl;
      by_lower_weight = refl;
      waits = refl;
      falls = refl;
    }
