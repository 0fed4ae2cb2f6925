use mathlib.Core.Path.{◌≡◌}
use Prim.Native.Nat.{◌*◌}
use native.Mathlib.Omega.{arith}
use lib.ListN.{get_or}
use Rattle.paper.specs.Row.{width}
use Rattle.paper.proofs.Found.{first_same}
use Rattle.paper.proofs.Book.{place_start}
use Rattle.soundness.proofs.place_of.Goals as goal

pub returns-then-book-k-clause-place : goal.returns-then-book-k-clause-place
returns-then-book-k-clause-place c =
    let a = c.args in
    first_same 64 (λ k. get_or a.book.now (k * width) 0 ≡ a.instrument) _ _
    (record {
      not_past = omega arith;
      holds = λ l. c.if-book-k.true;
      none_before = c.loop-k.invariant;
    })
    (place_start a.book.now a.instrument)

pub returns-clause-place : goal.returns-clause-place
returns-clause-place c =
    let a = c.args in
    first_same 64 (λ k. get_or a.book.now (k * width) 0 ≡ a.instrument) _ _
    (record {
      not_past = omega arith;
      holds = λ l. absurd (omega arith);
      none_before = λ j l. c.loop-k.invariant j (omega arith);
    })
    (place_start a.book.now a.instrument)
