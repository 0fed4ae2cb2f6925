-- `book::give_day` meets its contract: the day's refusal, or else what the row answers. Assumes nothing.
use mathlib.Core.Path.{refl, ap, subst, ◌∙◌}
use mathlib.Core.List.{List}
use Prim.Native.Nat.{ℕ, ◌<◌}
use native.Mathlib.Omega.{arith}
use Rattle.paper.specs.Rates.{day_on}
use Rattle.paper.specs.Book.{row_for}
use Rattle.paper.specs.Calls.{day, day_row}
use Rattle.paper.proofs.Sound.{sound_long}
use Rattle.stores.specs.Stored.{paper_day}
use Rattle.instrument.specs.Answers.{day_answer_for}
use Rattle.row.proofs.Handed.{handed_up}
use Rattle.book.proofs.Kept.{meets, row_part, row_for_long, lent_asked, day_row_long, day_refused, kept_day}
use Rattle.book.proofs.give_day.Goals as goal

pub returns-in_err-k-clause-kept : goal.returns-in_err-k-clause-kept
returns-in_err-k-clause-kept c =
    rw (handed_up c.from_residual.result _ _ refl c.from_residual.ensures.1) (day_refused _ (paper_day c.args.d) _ c.in_err-k.ensures)

pub slice_bounds-give_day-end : goal.slice_bounds-give_day-end
slice_bounds-give_day-end c = omega (arith, c.in_ok-k.ensures.2, sound_long _ c.requires)

pub give_day-requires : goal.give_day-requires
give_day-requires c =
    let p = c.in_ok-k.ensures in
    let all = lent_asked c.args.book.now (paper_day c.args.d) _ c.requires p.0 p.1 p.2 _ p.4 in
    record { kept = all.0; given = all.1.0; taken = all.1.1 }

pub returns : goal.returns
returns c =
    let p = c.in_ok-k.ensures in
    let d = paper_day c.args.d in
    let lent = row_part c.args.book.now d.instrument _ p.1 in
    let below = subst (λ (k : ℕ). k < 64) p.1 p.2 in
    let given = c.give_day.ensures in
    let both = meets _ (day d) _ _ c.requires p.1 p.2 _ _ _ _ (kept_day _ d c.requires p.0 below p.3) (day_row_long (row_for c.args.book.now d.instrument) d ∙ row_for_long _ _ c.requires below)
    (given.answers ∙ ap (λ (row : List ℕ). day_answer_for (day_on row d)) lent) (given.leaves ∙ ap (λ (row : List ℕ). day_row row (day_on row d)) lent) in
    record { kept = both.0; sound = both.1 }
