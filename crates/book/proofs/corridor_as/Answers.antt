-- `book::corridor_as` meets its contract: Range, Unknown where the instrument has no row, Halted, and else what the row answers. Assumes nothing.
use mathlib.Core.Path.{◌≡◌, sym, ap, subst, ◌∙◌}
use mathlib.Core.Bool.{Bool, ◌&&◌, true, false}
use mathlib.Core.List.{List}
use Prim.Native.Nat.{ℕ, ◌<◌}
use native.Mathlib.Omega.{arith}
use lib.ListN.{length}
use Rattle.paper.specs.Row.{instruments, is_in, is_halted, row_in_range}
use Rattle.paper.specs.Corridor.{terms_in_range}
use Rattle.paper.specs.Bond.{bond_in_range}
use Rattle.paper.specs.Calls.{Answer, bond, Kept}
use Rattle.paper.proofs.Tests.{and_both, and_fails}
use Rattle.paper.proofs.Book.{row_long_at}
use Rattle.paper.proofs.Sound.{sound_long}
use Rattle.corridor.specs.Edges.{paper_terms, paper_bond}
use Rattle.instrument.specs.Answers.{bond_in, ticks_answer_for}
use Rattle.row.proofs.Handed.{handed_up}
use Rattle.book.proofs.Kept.{kept_refused, open_at, bond_range, bond_unknown, bond_halted, row_at_place, row_in_range_lem, kept_bond}
use Rattle.book.proofs.corridor_as.Goals as goal

pub returns-then-not-is_instrument : goal.returns-then-not-is_instrument
returns-then-not-is_instrument c =
    kept_refused _ (bond c.args.instrument (paper_terms c.args.t) (paper_bond c.args.b)) 2
    (bond_range _ c.requires.sound _ _ _ (ap (λ (a : Bool). a && (terms_in_range (paper_terms c.args.t) && bond_in_range (paper_bond c.args.b))) (sym c.is_instrument.ensures ∙ c.if-not-is_instrument.true))) (λ e. omega arith)

pub returns-then-not-terms_in_range : goal.returns-then-not-terms_in_range
returns-then-not-terms_in_range c =
    let out : terms_in_range (paper_terms c.args.t) ≡ false = cc in
    kept_refused _ (bond c.args.instrument (paper_terms c.args.t) (paper_bond c.args.b)) 2
    (bond_range _ c.requires.sound _ _ _ (and_fails (is_in instruments c.args.instrument) _ (ap (λ (a : Bool). a && bond_in_range (paper_bond c.args.b)) out))) (λ e. omega arith)

pub row_number-requires : goal.row_number-requires
row_number-requires c = sound_long _ c.requires.sound

pub returns-in_err-k : goal.returns-in_err-k
returns-in_err-k c =
    let none = c.in_err-k.ensures in
    let within : terms_in_range (paper_terms c.args.t) ≡ true = cc in
    let range = and_both _ _ (sym c.is_instrument.ensures ∙ c.if-not-is_instrument.false) (and_both _ _ within c.requires.given) in
    rw (handed_up c.from_residual.result _ _ none.0 c.from_residual.ensures.1)
    (kept_refused _ (bond c.args.instrument (paper_terms c.args.t) (paper_bond c.args.b)) 5 (bond_unknown _ c.requires.sound _ _ _ range none.1) (λ e. omega arith))

pub row_of-row-requires : goal.row_of-row-requires
row_of-row-requires c = (sound_long _ c.requires.sound, c.in_ok-k.ensures.1)

pub is_halted-requires : goal.is_halted-requires
is_halted-requires c = ap length c.row_of-row.ensures ∙ row_long_at _ (sound_long _ c.requires.sound) _ c.in_ok-k.ensures.1

pub returns-then-is_halted : goal.returns-then-is_halted
returns-then-is_halted c =
    let found = c.in_ok-k.ensures in
    let within : terms_in_range (paper_terms c.args.t) ≡ true = cc in
    let range = and_both _ _ (sym c.is_instrument.ensures ∙ c.if-not-is_instrument.false) (and_both _ _ within c.requires.given) in
    let below = subst (λ (k : ℕ). k < 64) found.0 found.1 in
    let same = c.row_of-row.ensures ∙ row_at_place _ _ _ found.0 in
    let halted = ap is_halted (sym same) ∙ sym c.is_halted.ensures ∙ c.if-is_halted.true in
    kept_refused _ (bond c.args.instrument (paper_terms c.args.t) (paper_bond c.args.b)) 12
    (bond_halted _ c.requires.sound _ _ _ range (open_at _ _ below) halted) (λ e. omega arith)

pub corridor_of-requires : goal.corridor_of-requires
corridor_of-requires c =
    let found = c.in_ok-k.ensures in
    let within : terms_in_range (paper_terms c.args.t) ≡ true = cc in
    let below = subst (λ (k : ℕ). k < 64) found.0 found.1 in
    let same = c.row_of-row.ensures ∙ row_at_place _ _ _ found.0 in
    record { kept = ap row_in_range same ∙ row_in_range_lem _ _ c.requires.sound (sym c.is_instrument.ensures ∙ c.if-not-is_instrument.false) below; given = (within, c.requires.given) }

pub returns : goal.returns
returns c =
    let found = c.in_ok-k.ensures in
    let t = paper_terms c.args.t in
    let b = paper_bond c.args.b in
    let within : terms_in_range t ≡ true = cc in
    let range = and_both _ _ (sym c.is_instrument.ensures ∙ c.if-not-is_instrument.false) (and_both _ _ within c.requires.given) in
    let below = subst (λ (k : ℕ). k < 64) found.0 found.1 in
    let same = c.row_of-row.ensures ∙ row_at_place _ _ _ found.0 in
    let going = ap is_halted (sym same) ∙ sym c.is_halted.ensures ∙ c.if-is_halted.false in
    subst (λ (a : Answer). Kept c.args.book.now (bond c.args.instrument t b) a c.args.book.now) (sym (c.corridor_of.ensures ∙ ap (λ (row : List ℕ). ticks_answer_for (bond_in row t b)) same))
    (kept_bond _ _ t b c.requires.sound range below going)
