-- Runs that keep their days are the runs of demand 3, and their days' moves are its moves.
use Rattle.std.specs.Prelude.{ℕ, ◌≡◌, List, []}
use Rattle.paper.specs.Calls.{Call}
use Rattle.paper.specs.Promises.Drift.{Run}
use Rattle.paper.specs.Promises.AnyCalls.{moves_after, IsHistory}
use Rattle.paper_sheets.specs.Promises.Evening.{moves_through, without_nights}
use Rattle.paper_prices.specs.Days.{RunDay, moves_of, RunOver, days_after, days_through}

-- Such a run is a run with its days' moves, and each run is one of some days.
pub record RunsAreTheSame : Type 0 where
  pub is_run : (start row : List ℕ) (days : List RunDay) → RunOver start row days → Run start row (moves_of days)
  pub has_days : (start row moves : List ℕ) → Run start row moves → (days : List RunDay) × RunOver start row days × (moves_of days ≡ moves)

-- The moves of the days over calls, and through nights, are those that demand 3 has over them.
pub record MovesAreTheSame : Type 0 where
  pub over_calls : (i : ℕ) (book : List ℕ) (calls : List Call) (days : List RunDay) → moves_of (days_after i book calls days) ≡ moves_after i book calls (moves_of days)
  pub through_nights :
      (i : ℕ) (book : List ℕ) (past : List (List Call)) (calls : List Call)
      → moves_of (days_through i book past calls) ≡ moves_through i book past calls

-- Wherever nights are put into a history, its days are those that it has without them.
abbrev pub NightsKeepDays : Type 0
NightsKeepDays =
    (i : ℕ) (book : List ℕ) (past : List (List Call)) (calls : List Call) → IsHistory i book (without_nights past calls)
    → days_through i book past calls ≡ days_after i book (without_nights past calls) []
