-- The bounds from the prices are real, by computing. Assumes nothing.
use mathlib.Core.Path.{refl}
use lib.Dec.{lit<}
use Rattle.paper_prices.specs.Days.{no_days, a_day}
use Rattle.paper_prices.specs.Prices.{quotient, is_less, exact_move, exact_move_on, price_next, price_denominator, price_variance, price_shock, covers_price_need, price_candidate, is_root_within_one}
use Rattle.paper_prices.specs.Promises.Cases.{day_at, NotByName, WeightsDiffer, StepFromPrices, RootNearlyMet}
use Rattle.paper.proofs.Computing.{computing}

-- The definitions by which these compute.
unfoldable pub pricing : Unit {0}
unfolding computing quotient is_less exact_move exact_move_on price_next price_denominator price_variance price_shock covers_price_need price_candidate is_root_within_one
pricing = tt

pub not_by_name : NotByName
unfolding pricing
not_by_name = record { named = refl; size = refl; older = refl; newer = refl; same = refl }

pub weights_differ : WeightsDiffer
unfolding pricing
weights_differ =
    record {
      in_range = refl;
      run = a_day (day_at 4) no_days refl;
      moves = refl;
      exact = refl;
      whole_weight = refl;
      own_weight = refl;
      kept = refl;
      under = refl;
      own = refl;
      farther = lit< tt;
    }

pub step_from_prices : StepFromPrices
unfolding pricing
step_from_prices =
    record {
      in_range = refl;
      run = a_day (day_at 307) no_days refl;
      exact = refl;
      kept = refl;
      own = refl;
      above = lit< tt;
      own_candidate = refl;
      candidate = refl;
    }

pub root_nearly_met : RootNearlyMet
unfolding pricing
root_nearly_met =
    record {
      in_range = refl;
      run = a_day (day_at 1000000) no_days refl;
      moves = refl;
      whole = refl;
      within = refl;
      nearly = lit< tt;
    }
