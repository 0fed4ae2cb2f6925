-- The bounds of demand 3 are real, by computing. Assumes nothing.
use mathlib.Core.Path.{refl}
use lib.Dec.{lit<}
use Rattle.paper.specs.Promises.Drift.{begun, another, still_day, AboveIsReal, StepIsReal}
use Rattle.paper.proofs.Computing.{computing}

pub above_is_real : AboveIsReal
unfolding computing
above_is_real =
    record {
      in_range = refl;
      run = another (still_day 102) (another (still_day 101) begun refl) refl;
      kept = refl;
      exact = refl;
      above = lit< tt;
    }

pub step_is_real : StepIsReal
unfolding computing
step_is_real =
    record {
      in_range = refl;
      figures = refl;
      run = another (still_day 101) begun refl;
      exact = refl;
      candidate_exact = refl;
      candidate = refl;
      above = refl;
    }
