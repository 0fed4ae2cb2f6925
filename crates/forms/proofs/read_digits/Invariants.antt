-- `forms::read_digits` meets its contract. The loop's invariant: the bytes passed are at most 19 digits, the value is theirs and has no more digits than they are. Assumes nothing.
use mathlib.Core.Path.{◌≡◌}
use Prim.Native.Nat.{◌+◌, ◌^◌, ◌≤◌, ◌<◌}
use lib.ListN.{drop}
use Rattle.paper_sheets.specs.Sheet.{digit_count, value_from}
use Rattle.forms.specs.Reads.{IsInLine}
use Rattle.forms.proofs.read_digits.Given as goal

abbrev pub invariant-loop-count : goal.invariant-loop-count
invariant-loop-count l = record {
  in_line : IsInLine l.text 0 l.count;
  value : value_from l.value (drop l.count l.text) ≡ value_from 0 l.text;
  count : digit_count l.text ≡ l.count + digit_count (drop l.count l.text);
  most : l.count ≤ 19;
  small : l.value < 10 ^ l.count;
}
