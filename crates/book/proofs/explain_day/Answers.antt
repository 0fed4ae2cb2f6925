-- `book::explain_day` meets its contract: the day's refusal, or else what the row answers. Assumes nothing.
use mathlib.Core.Path.{refl, sym, ap, subst, subst⁻¹, ◌∙◌}
use mathlib.Core.List.{List}
use Prim.Native.Nat.{ℕ, ◌<◌}
use Rattle.paper.specs.Row.{row_in_range}
use Rattle.paper.specs.Rates.{day_on}
use Rattle.paper.specs.Calls.{why, Answer, Kept}
use Rattle.paper.proofs.Sound.{sound_long}
use Rattle.paper.proofs.Accepted.{day_names}
use Rattle.stores.specs.Stored.{paper_day}
use Rattle.instrument.specs.Answers.{MovesBy, why_answer_for}
use Rattle.row.proofs.Handed.{handed_up}
use Rattle.book.proofs.Kept.{row_at_place, row_in_range_lem, why_refused, kept_why}
use Rattle.book.proofs.explain_day.Goals as goal

pub returns-in_err-number : goal.returns-in_err-number
returns-in_err-number c =
    rw (handed_up c.from_residual.result _ _ refl c.from_residual.ensures.1) (why_refused _ (paper_day c.args.d) _ c.in_err-number.ensures)

pub row_of-requires : goal.row_of-requires
row_of-requires c = (sound_long _ c.requires, c.in_ok-number.ensures.2)

pub explain_day-requires : goal.explain_day-requires
explain_day-requires c =
    let p = c.in_ok-number.ensures in
    let d = paper_day c.args.d in
    let same = c.row_of.ensures ∙ row_at_place _ _ _ p.1 in
    let below = subst (λ (k : ℕ). k < 64) p.1 p.2 in
    record {
      kept = ap row_in_range same ∙ row_in_range_lem _ _ c.requires (day_names d p.0) below;
      given = p.0;
      taken = subst⁻¹ (λ (row : List ℕ). MovesBy row d c.in_ok-number.moved) same p.4;
    }

pub returns : goal.returns
returns c =
    let place = c.in_ok-number.ensures in
    let d = paper_day c.args.d in
    let same = c.row_of.ensures ∙ row_at_place _ _ _ place.1 in
    let below = subst (λ (k : ℕ). k < 64) place.1 place.2 in
    subst (λ (a : Answer). Kept c.args.book.now (why d) a c.args.book.now) (sym (c.explain_day.ensures ∙ ap (λ (row : List ℕ). why_answer_for row d (day_on row d)) same))
    (kept_why _ d c.requires place.0 below place.3)
