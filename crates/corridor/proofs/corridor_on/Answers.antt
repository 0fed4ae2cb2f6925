-- `corridor::corridor_on` meets its contract: the prices within are those from one on and below another, by the fall and the rise and, monitored, by the two edges
-- of the spread; and the ticks between them are the only answer. Assumes nothing.
use mathlib.Core.Path.{◌≡◌, refl, sym, ap, subst⁻¹, fun_ext, ◌∙◌}
use mathlib.Core.Bool.{Bool, ◌&&◌}
use Prim.Native.Nat.{ℕ, ◌+◌, ◌*◌}
use native.Mathlib.Nat.{le_trans}
use native.Mathlib.Omega.{arith}
use lib.Dec.{leb, ltb}
use Rattle.wide.specs.Value.{value}
use Rattle.paper.specs.Corridor.{Terms, Ticks, year}
use Rattle.paper.specs.Bond.{Bond, is_bond_within, bond_on}
use Rattle.paper.specs.Promises.Found.{AreTicks}
use Rattle.paper.specs.Promises.Bonds.{with_taken}
use Rattle.paper.proofs.Rates.{ceil_of_rest}
use Rattle.paper.proofs.Found.{ticks_same}
use Rattle.paper.proofs.Bonds.{bond_found}
use Rattle.corridor.specs.Edges.{paper_terms, paper_bond, paper_ticks}
use Rattle.corridor.proofs.Edges.{end_price, within_limits, within_edges, above_stays, from_stays}
use Rattle.corridor.proofs.Known.{Known, known}
use Rattle.corridor.proofs.corridor_on.Goals as goal

-- Ticks of the prices within are the answer.
answered : (price margin monitored : ℕ) (t : Terms) (b : Bond) → Known price t b → (first above : ℕ) (ticks : Ticks)
    → ((q : ℕ) → is_bond_within price margin monitored t b q ≡ leb first q && ltb q above)
    → AreTicks (λ q. leb first q && ltb q above) t.tick ticks → ticks ≡ bond_on price margin monitored t b
answered price margin monitored t b k first above ticks parts found =
    ticks_same (is_bond_within price margin monitored t b) t.tick ticks _
    (subst⁻¹ (λ (within : ℕ → Bool). AreTicks within t.tick ticks) (fun_ext parts) found)
    (bond_found price margin monitored t b k.fits.ticks k.face)

pub overflow_sub-t : goal.overflow_sub-t
overflow_sub-t c = let k = known _ _ _ c.requires.kept.0 c.requires.given.0 c.requires.given.1 in k.fits.fall

pub div_ceil-from-requires : goal.div_ceil-from-requires
div_ceil-from-requires c = let k = known _ _ _ c.requires.kept.0 c.requires.given.0 c.requires.given.1 in k.face

pub overflow_add-end : goal.overflow_add-end
overflow_add-end c = let k = known _ _ _ c.requires.kept.0 c.requires.given.0 c.requires.given.1 in record { fits = omega (arith, k.fits.rise) }

pub overflow_mul-end : goal.overflow_mul-end
overflow_mul-end c = let k = known _ _ _ c.requires.kept.0 c.requires.given.0 c.requires.given.1 in record { fits = omega (arith, k.risen) }

pub nonzero_div-end : goal.nonzero_div-end
nonzero_div-end c = let k = known _ _ _ c.requires.kept.0 c.requires.given.0 c.requires.given.1 in k.face

pub overflow_add-end-2 : goal.overflow_add-end-2
overflow_add-end-2 c = let k = known _ _ _ c.requires.kept.0 c.requires.given.0 c.requires.given.1 in record { fits = omega (arith, k.last) }

pub ticks_between-requires : goal.ticks_between-requires
ticks_between-requires c =
    let k = known _ _ _ c.requires.kept.0 c.requires.given.0 c.requires.given.1 in
    let from = c.div_ceil-from.ensures ∙ ceil_of_rest _ _ k.face in
    (k.fits.ticks, k.fits.tick, omega (arith, from, k.order, k.last), k.last)

pub returns-then-monitored-ne1 : goal.returns-then-monitored-ne1
returns-then-monitored-ne1 c =
    let a = c.args in let t = paper_terms a.t in let b = paper_bond a.b in
    let k = known _ _ _ c.requires.kept.0 c.requires.given.0 c.requires.given.1 in
    let from = c.div_ceil-from.ensures ∙ ceil_of_rest _ _ k.face in
    answered a.price a.margin a.monitored t b k c.div_ceil-from.result (end_price a.price t b) (paper_ticks c.ticks_between.result)
    (λ q. within_limits a.price a.margin a.monitored t b k.fits.fall k.face c.if-monitored-ne1.true q ∙ ap (λ (n : ℕ). leb n q && ltb q (end_price a.price t b)) (sym from))
    c.ticks_between.ensures

pub overflow_add-costs : goal.overflow_add-costs
overflow_add-costs c = let k = known _ _ _ c.requires.kept.0 c.requires.given.0 c.requires.given.1 in record { fits = omega (arith, k.taken) }

pub overflow_mul-costs : goal.overflow_mul-costs
overflow_mul-costs c = let k = known _ _ _ c.requires.kept.0 c.requires.given.0 c.requires.given.1 in record { fits = omega (arith, k.taken) }

pub overflow_mul-costs-2 : goal.overflow_mul-costs-2
overflow_mul-costs-2 c = let k = known _ _ _ c.requires.kept.0 c.requires.given.0 c.requires.given.1 in record { fits = omega (arith, k.fits.x) }

pub first_past-above-requires-clause-order : goal.first_past-above-requires-clause-order
first_past-above-requires-clause-order c =
    let k = known _ _ _ c.requires.kept.0 c.requires.given.0 c.requires.given.1 in
    let from = c.div_ceil-from.ensures ∙ ceil_of_rest _ _ k.face in
    omega (arith, from, k.order)

pub first_past-above-requires-clause-callable : goal.first_past-above-requires-clause-callable
first_past-above-requires-clause-callable c = λ q l. let k = known _ _ _ c.requires.kept.0 c.requires.given.0 c.requires.given.1 in (k.amount q (omega arith), k.taken)

pub first_past-first-requires-clause-callable : goal.first_past-first-requires-clause-callable
first_past-first-requires-clause-callable c = λ q l. let k = known _ _ _ c.requires.kept.0 c.requires.given.0 c.requires.given.1 in (k.amount q (omega (arith, c.first_past-above.ensures.ends.1)), k.taken)

pub first_past-above-requires-clause-stays : goal.first_past-above-requires-clause-stays
first_past-above-requires-clause-stays c = λ p q a b l m e f h.
    f ∙ above_stays (record { face = c.args.b.face; taken = (c.args.b.carry + c.args.b.accrued) * 1000000; scale = c.args.t.x * 3650000 }) (value c.product-upper.result) p q l (sym e ∙ h)

pub first_past-first-requires-clause-stays : goal.first_past-first-requires-clause-stays
first_past-first-requires-clause-stays c = λ p q a b l m e f h.
    f ∙ from_stays (record { face = c.args.b.face; taken = (c.args.b.carry + c.args.b.accrued) * 1000000; scale = c.args.t.x * 3650000 }) (value c.product-lower.result) p q l (sym e ∙ h)

pub ticks_between-requires-2 : goal.ticks_between-requires-2
ticks_between-requires-2 c =
    let k = known _ _ _ c.requires.kept.0 c.requires.given.0 c.requires.given.1 in
    let high = le_trans c.first_past-above.ensures.ends.1 k.last in
    (k.fits.ticks, k.fits.tick, le_trans c.first_past-first.ensures.ends.1 high, high)

pub returns : goal.returns
returns c =
    let a = c.args in let t = paper_terms a.t in let b = paper_bond a.b in
    let k = known _ _ _ c.requires.kept.0 c.requires.given.0 c.requires.given.1 in
    let from = c.div_ceil-from.ensures ∙ ceil_of_rest _ _ k.face in
    let over = c.first_past-above in
    let under = c.first_past-first in
    let cost : ℕ → ℕ = λ q. with_taken b q * (t.x * year) in
    let upper = value c.product-upper.result in
    let lower = value c.product-lower.result in
    answered a.price a.margin a.monitored t b k under.result over.result (paper_ticks c.ticks_between-2.result)
    (within_edges a.price a.margin a.monitored t b k.fits.fall k.face _ _ upper lower
    c.upper_product.ensures.result_value c.lower_product.ensures c.product-upper.ensures c.product-lower.ensures over.result under.result
    (omega (arith, from, under.ensures.ends.0)) over.ensures.ends.1
    (λ q l m. over.ensures.parts q _ (omega (arith, from)) m refl)
    (λ q l m. under.ensures.parts q _ (omega (arith, from)) m refl) c.if-monitored-ne1.false)
    c.ticks_between-2.ensures
