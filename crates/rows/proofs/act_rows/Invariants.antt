-- `rows::act_rows` meets its contract. The loop's invariant: the rows passed have acted. Assumes nothing.
use mathlib.Core.Path.{◌≡◌}
use mathlib.Core.List.{map}
use Prim.Native.Nat.{◌*◌, ◌≤◌}
use lib.ListN.{length, drop}
use Rattle.std.specs.Slice.Iter.{chunks_exact_rest, chunks_exact_size}
use Rattle.paper_sheets.specs.Sheet.{cut}
use Rattle.rows.specs.Takes.{Takes}
use Rattle.rows.proofs.act_rows.Given as goal

abbrev pub invariant-loop-row : goal.invariant-loop-row
invariant-loop-row g l = record {
  wide : chunks_exact_size l.row-iterator ≡ g.R.Rows.WIDTH;
  left : chunks_exact_rest l.row-iterator ≡ drop (length l.yielded * g.R.Rows.WIDTH) l.rows;
  within : length l.yielded * g.R.Rows.WIDTH ≤ length l.rows;
  taken : Takes l.initial.book l.book l.initial.text l.text (map g.R.Rows.section.call (cut g.R.Rows.WIDTH (length l.yielded) l.rows));
}
