-- What the calls under C's names answer, by what the calls that they make have answered. Assumes nothing.
use mathlib.Core.Path.{◌≡◌, ap}
use mathlib.Core.Bool.{Bool, true, false, ◌&&◌}
use mathlib.Core.List.{List}
use Prim.Native.Nat.{ℕ, ◌≤◌, ◌<◌}
use native.Mathlib.Omega.{arith}
use borrow.Author.Tests.{lt-ltb, le-ltb}
use lib.Dec.{ltb}
use lib.ListN.{length}
use Rattle.paper.specs.Row.{instruments, is_in, parameter_ranges, is_paired, parameters_in_range, parameter_count}
use Rattle.paper.specs.Book.{is_sound}
use Rattle.paper.specs.Calls.{parameters, number_of}
use Rattle.paper_sheets.specs.Output.{most_text, is_short, finding_into, text_into, left_into}
use Rattle.paper.proofs.Tests.{and_both, and_fails}
use Rattle.paper.proofs.Row.{are_not_long}
use Rattle.lines.proofs.Texts.{writes_none}
use Rattle.std.specs.Prelude.{Result, Err}
use Rattle.row.specs.declared.Refusal.TheVariants.{Book, Room}
use Rattle.book.proofs.Kept.{parameters_range}
use Rattle.runs.specs.declared.Stopped.{Stopped}
use Rattle.runs.specs.Before.{stopped_before}
use Rattle.runs.specs.Runs.{Ran}
use Rattle.runs.proofs.Runs.{ran_unsound}
use Rattle.stringmoss.specs.Linked.{RunsInto}

-- Another number of parameters is out of range.
pub number_uncounted : (book : List ℕ) (i : ℕ) (ps : List ℕ) → is_sound book ≡ true → ¬ (length ps ≡ parameter_count) → number_of book (parameters i ps) ≡ 2
unfolding parameters_in_range
number_uncounted book i ps sound n =
    parameters_range book sound i ps (and_fails (is_in instruments i) (parameters_in_range ps) (ap (λ (b : Bool). b && is_paired ps) (are_not_long parameter_ranges ps n)))

-- A run into an output of any length: as any run where the output is not too short, and else the book and the output stay.
module _ {book sheet out : List ℕ} where
  ran_as : {left after : List ℕ} (r : Result ℕ Stopped) → is_short book out ≡ false → Ran book left sheet out after r → RunsInto book left sheet out after r
  unfolding finding_into text_into left_into
  ran_as r long ran = record { finds = rw long ran.finds; leaves = rw long ran.leaves; writes = rw long ran.writes }

  pub ran_into : {left after : List ℕ} (r : Result ℕ Stopped) → most_text ≤ length out → Ran book left sheet out after r → RunsInto book left sheet out after r
  unfolding is_short
  ran_into r room = ran_as r (and_fails (is_sound book) _ (le-ltb (length out) most_text room))

  pub unsound_into : is_sound book ≡ false → RunsInto book book sheet out out (Err (stopped_before Book))
  unfolding is_short
  unsound_into e = ran_as _ (ap (λ (b : Bool). b && ltb (length out) most_text) e) (ran_unsound book sheet out e)

  pub short_into : is_sound book ≡ true → length out < most_text → RunsInto book book sheet out out (Err (stopped_before Room))
  unfolding is_short finding_into text_into left_into
  short_into sound few =
      let short : is_short book out ≡ true = and_both _ _ sound (lt-ltb (length out) most_text few) in
      record { finds = rw short; leaves = rw short; writes = rw short (writes_none out 0 (omega arith)) }
