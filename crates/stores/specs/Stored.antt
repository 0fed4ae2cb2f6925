-- The code's day as the paper's, and what new parameters answer and leave of the one row.
use Rattle.std.specs.Prelude.{ℕ, ◌%◌, Bool, cond, List, [], eqb}
use Rattle.std.proofs.lemmas.List.Edits.{sets}
use Rattle.paper.specs.Refusal.{number, Step}
use Rattle.paper.specs.Row as Row
use Rattle.paper.specs.Row.{word, parameter}
use Rattle.paper.specs.Rates as Rules
use Rattle.paper.specs.Calls.{Answer}
use Rattle.stores.specs.declared.Day.{Day}

abbrev pub paper_day : Day → Rules.Day
paper_day d =
    record {
      instrument = d.instrument;
      day = d.day;
      price = d.price;
      m = d.m;
      j = d.j;
    }

-- New parameters on a row: Step where their h does not divide the preliminary that it keeps, and else they are written over its own.
abbrev pub step_divides : List ℕ → List ℕ → Bool
step_divides row ps = eqb (word row Row.preliminary % parameter ps Row.step) 0

abbrev pub parameters_answer : List ℕ → List ℕ → Answer
parameters_answer row ps = record { number = cond (step_divides row ps) 0 (number Step); figures = [] }

abbrev pub parameters_row : List ℕ → List ℕ → List ℕ
parameters_row row ps = cond (step_divides row ps) (sets row Row.alpha ps) row
