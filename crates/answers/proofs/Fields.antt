-- An answer without figures that is handed out as its number is the answer. Assumes nothing.
use mathlib.Core.Path.{◌≡◌, ap}
use mathlib.Core.List.{[]}
use Prim.Native.Nat.{ℕ}
use Rattle.std.specs.Prelude.{Result, Ok, Err}
use Rattle.paper.specs.Calls.{Answer}
use Rattle.row.specs.declared.Refusal.{Refusal}
use Rattle.row.specs.Answers.{call_answer_of}

abbrev pub bare : ℕ → Answer
bare n = record { number = n; figures = [] }

pub bare_is : {n : ℕ} (a : Result Unit Refusal) → n ≡ (call_answer_of a).number → bare n ≡ call_answer_of a
bare_is (Ok x) e = ap bare e
bare_is (Err r) e = ap bare e
