-- `book::day_place` meets its contract: Range, Unknown where the instrument has no row, Halted, and else what the row at the place says of the move. Assumes nothing.
use mathlib.Core.Path.{refl, sym, ap, subst, ◌∙◌}
use mathlib.Core.List.{List}
use Prim.Native.Nat.{ℕ, ◌<◌}
use lib.ListN.{length}
use Rattle.std.specs.Prelude.{Ok, Err}
use Rattle.paper.specs.Row.{is_halted, row_in_range}
use Rattle.paper.proofs.Book.{row_long_at}
use Rattle.paper.proofs.Sound.{sound_long}
use Rattle.stores.specs.Stored.{paper_day}
use Rattle.instrument.specs.Answers.{MovedFor}
use Rattle.row.proofs.Handed.{handed_up}
use Rattle.book.proofs.Kept.{day_unknown, day_halted, day_met, open_at, row_at_place, row_in_range_lem}
use Rattle.paper.proofs.Accepted.{day_names}
use Rattle.book.proofs.day_place.Goals as goal

pub row_number-requires : goal.row_number-requires
row_number-requires c = sound_long _ c.requires

pub returns-in_err-k : goal.returns-in_err-k
returns-in_err-k c =
    let none = c.in_err-k.ensures in
    let range = sym c.day_in_range.ensures ∙ c.if-not-day_in_range.false in
    rw (handed_up c.from_residual.result _ _ none.0 c.from_residual.ensures.1) (day_unknown _ c.requires _ range none.1)

pub row_of-row-requires : goal.row_of-row-requires
row_of-row-requires c = (sound_long _ c.requires, c.in_ok-k.ensures.1)

pub is_halted-requires : goal.is_halted-requires
is_halted-requires c = ap length c.row_of-row.ensures ∙ row_long_at _ (sound_long _ c.requires) _ c.in_ok-k.ensures.1

pub returns-then-is_halted : goal.returns-then-is_halted
returns-then-is_halted c =
    let found = c.in_ok-k.ensures in
    let range = sym c.day_in_range.ensures ∙ c.if-not-day_in_range.false in
    let below = subst (λ (k : ℕ). k < 64) found.0 found.1 in
    let same = c.row_of-row.ensures ∙ row_at_place _ _ _ found.0 in
    day_halted _ c.requires _ range (open_at _ _ below) (ap is_halted (sym same) ∙ sym c.is_halted.ensures ∙ c.if-is_halted.true)

pub day_move-requires : goal.day_move-requires
day_move-requires c =
    let found = c.in_ok-k.ensures in
    let d = paper_day c.args.d in
    let range = sym c.day_in_range.ensures ∙ c.if-not-day_in_range.false in
    let below = subst (λ (k : ℕ). k < 64) found.0 found.1 in
    let same = c.row_of-row.ensures ∙ row_at_place _ _ _ found.0 in
    record { kept = ap row_in_range same ∙ row_in_range_lem _ _ c.requires (day_names d range) below; given = range }

pub returns-in_err-moved : goal.returns-in_err-moved
returns-in_err-moved c =
    let found = c.in_ok-k.ensures in
    let d = paper_day c.args.d in
    let range = sym c.day_in_range.ensures ∙ c.if-not-day_in_range.false in
    let below = subst (λ (k : ℕ). k < 64) found.0 found.1 in
    let same = c.row_of-row.ensures ∙ row_at_place _ _ _ found.0 in
    let going = ap is_halted (sym same) ∙ sym c.is_halted.ensures ∙ c.if-is_halted.false in
    rw (handed_up c.from_residual-in_err-moved.result _ _ refl c.from_residual-in_err-moved.ensures.1)
    (day_met _ c.requires d range (open_at _ _ below) going ∙ subst (λ (row : List ℕ). MovedFor row d (Err c.in_err-moved.field-0.0)) same c.in_err-moved.ensures)

pub returns : goal.returns
returns c =
    let found = c.in_ok-k.ensures in
    let d = paper_day c.args.d in
    let range = sym c.day_in_range.ensures ∙ c.if-not-day_in_range.false in
    let same = c.row_of-row.ensures ∙ row_at_place _ _ _ found.0 in
    let going = ap is_halted (sym same) ∙ sym c.is_halted.ensures ∙ c.if-is_halted.false in
    (range, found.0, found.1, going, subst (λ (row : List ℕ). MovedFor row d (Ok c.in_ok-moved.moved)) same c.in_ok-moved.ensures)
