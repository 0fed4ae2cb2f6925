-- The two edges as tests of a price: past an edge, every higher price is past it too; and a price is within exactly where it is from the lower edge on and not above the upper. Assumes nothing.
use mathlib.Core.Path.{◌≡◌, refl, sym, ap, ap₂, ◌∙◌}
use mathlib.Core.Bool.{Bool, true, false, not, ◌&&◌, ◌||◌}
use Prim.Native.Nat.{ℕ, zero, suc, ◌+◌, ◌*◌, ◌-◌, ◌/◌, ◌≤◌, ◌<◌}
use native.Mathlib.Decide.{dec_lt}
use native.Mathlib.Nat.{le_trans, mul-le-mul_left, mul-le-mul_right, mul-zero, le-div_iff_mul-le}
use native.Mathlib.Omega.{arith}
use borrow.Author.Tests.{leb-true, leb-false, le-leb, lt-leb, ltb-true, lt-ltb, le-ltb, eq-eqb, ne_eqb, not-true, not-false}
use lib.Dec.{leb, ltb, eqb}
use lib.IntN.{ℤ, pos, negsuc, neg_ℤ, ◌*ℤ◌}
use lib.Signed.{le_z}
use Rattle.paper.specs.Rates.{ceil_div}
use Rattle.paper.specs.Corridor.{Terms, whole, year, spread_up, spread_down, factor, fallen, spread_above, spread_below}
use Rattle.paper.specs.Bond.{Bond, is_bond_within}
use Rattle.paper.specs.Promises.Bonds.{with_taken}
use Rattle.paper.proofs.Bounds.{sub_pos}
use Rattle.paper.proofs.Bonds.{bond_inside}
use Rattle.paper.proofs.Tests.{clash, and_fails, and_true}
use Rattle.paper.proofs.Rates.{ceil_covers, ceil_least}
use Rattle.corridor.specs.Edges.{at_least_zero, cost_of}
use Rattle.corridor.specs.declared.Costs.{Costs}

-- Under a test that keeps passing downwards, a failure stays one upwards.
down_up : (p : ℕ → Bool) → ((a b : ℕ) → a ≤ b → p b ≡ true → p a ≡ true) → (a b : ℕ) → a ≤ b → not (p a) ≡ true → not (p b) ≡ true
down_up p down a b h e = go (p b) refl
  where
    go : (t : Bool) → p b ≡ t → not t ≡ true
    go false f = refl
    go true f = absurd (clash (p a) (down a b h f) (not-true (p a) e))

-- What a price costs is greater where the price is; so past an edge, every higher price is past it too.
cost_more : (costs : Costs) (p q : ℕ) → p ≤ q → cost_of costs p ≤ cost_of costs q
cost_more costs p q l = mul-le-mul_right costs.scale (omega (arith, mul-le-mul_right costs.face l))

pub above_stays : (costs : Costs) (edge p q : ℕ) → p ≤ q → not (leb (cost_of costs p) edge) ≡ true → not (leb (cost_of costs q) edge) ≡ true
above_stays costs edge = down_up (λ q. leb (cost_of costs q) edge) (λ p q l e. le-leb _ _ (le_trans (cost_more costs p q l) (leb-true _ _ e)))

pub from_stays : (costs : Costs) (edge p q : ℕ) → p ≤ q → leb edge (cost_of costs p) ≡ true → leb edge (cost_of costs q) ≡ true
from_stays costs edge p q l e = le-leb _ _ (le_trans (leb-true _ _ e) (cost_more costs p q l))

-- A product of a number without sign and one with, compared with one without: the sign decides, or the sizes.
clamp_product : (P : ℕ) (z : ℤ) (n : ℕ) → le_z (pos P *ℤ z) (pos n) ≡ leb (P * at_least_zero z) n
clamp_product P (pos a) n = refl
clamp_product P (negsuc a) n =
    below (P * suc a) ∙ sym (ap (λ (m : ℕ). leb m n) (mul-zero P) ∙ le-leb 0 n (omega arith))
  where
    below : (m : ℕ) → le_z (neg_ℤ (pos m)) (pos n) ≡ true
    below zero = le-leb 0 n (omega arith)
    below (suc m) = refl

-- Tests of two numbers that say the same.
same_test : (x y : Bool) → (x ≡ true → y ≡ true) → (y ≡ true → x ≡ true) → x ≡ y
same_test true y there back = sym (there refl)
same_test false true there back = back refl
same_test false false there back = refl

and_swap : (x y : Bool) → x && y ≡ y && x
and_swap true y = sym (and_true y)
and_swap false y = sym (and_fails y false refl)

-- Prices from one on and below another, of which two tests leave those from a third on and below a fourth.
between : (from end first above q : ℕ) (c d : Bool) → from ≤ first → above ≤ end → (from ≤ q → q < end → not c ≡ leb above q) → (from ≤ q → q < above → d ≡ leb first q)
    → ltb q end && leb from q && (c && d) ≡ leb first q && ltb q above
between from end first above q c d later sooner over under = go (dec_lt q from) (dec_lt q end) (dec_lt q above)
  where
    go : Dec (q < from) → Dec (q < end) → Dec (q < above) → ltb q end && leb from q && (c && d) ≡ leb first q && ltb q above
    go (yes p) e a =
        ap (λ (b : Bool). ltb q end && b && (c && d)) (lt-leb from q p) ∙ ap (λ (b : Bool). b && (c && d)) (and_fails (ltb q end) false refl)
        ∙ sym (ap (λ (b : Bool). b && ltb q above) (lt-leb first q (omega arith)))
    go (no p) (no e) a =
        ap (λ (b : Bool). b && leb from q && (c && d)) (le-ltb q end (omega arith))
        ∙ sym (and_fails (leb first q) (ltb q above) (le-ltb q above (omega arith)))
    go (no p) (yes e) (no a) =
        ap (λ (c : Bool). ltb q end && leb from q && (c && d)) (not-true c (over (omega arith) e ∙ le-leb above q (omega arith)))
        ∙ and_fails (ltb q end && leb from q) false refl
        ∙ sym (and_fails (leb first q) (ltb q above) (le-ltb q above (omega arith)))
    go (no p) (yes e) (yes a) =
        ap₂ (λ (x y : Bool). x && y && (c && d)) (lt-ltb q end e) (le-leb from q (omega arith))
        ∙ ap₂ (λ (x y : Bool). x && y) (not-false c (over (omega arith) e ∙ lt-leb above q a)) (under (omega arith) a)
        ∙ sym (ap (λ (b : Bool). leb first q && b) (lt-ltb q above a) ∙ and_true (leb first q))

-- The first price not below P (1 - fall), and the first above P (1 + rise).
abbrev pub from_price : ℕ → Terms → Bond → ℕ
from_price P t b = ceil_div (P * (whole - t.fall)) b.face

abbrev pub end_price : ℕ → Terms → Bond → ℕ
end_price P t b = P * (whole + t.rise) / b.face + 1

module _ (P margin M : ℕ) (t : Terms) (b : Bond) (low : t.fall ≤ whole) (some : 0 < b.face) where
  under_end : (q : ℕ) → leb (q * b.face) (P * (whole + t.rise)) ≡ ltb q (end_price P t b)
  under_end q =
      same_test _ _
      (λ e. lt-ltb q _ (omega (arith, (le-div_iff_mul-le {k = b.face} some).1 (leb-true _ _ e))))
      (λ e. le-leb _ _ ((le-div_iff_mul-le {k = b.face} some).0 (omega (arith, ltb-true q (end_price P t b) e))))

  over_from : (q : ℕ) → le_z (fallen P t) (pos (q * b.face)) ≡ leb (from_price P t b) q
  over_from q =
      ap (λ (z : ℤ). le_z (pos P *ℤ z) (pos (q * b.face))) (sub_pos whole t.fall low)
      ∙ same_test (leb (P * (whole - t.fall)) (q * b.face)) _
      (λ e. le-leb _ q (ceil_least (P * (whole - t.fall)) b.face some q (leb-true _ _ e)))
      (λ e. le-leb _ _ (le_trans (ceil_covers (P * (whole - t.fall)) b.face some) (mul-le-mul_right b.face (leb-true _ q e))))

  -- The one is not after the other.
  pub in_order : from_price P t b ≤ end_price P t b
  in_order =
      let end = end_price P t b in
      let shrinks : whole - t.fall ≤ whole + t.rise = omega arith in
      ceil_least (P * (whole - t.fall)) b.face some end
      (le_trans (mul-le-mul_left P shrinks) (omega (arith, leb-false (end * b.face) (P * (whole + t.rise)) (under_end end ∙ le-ltb end end (omega arith)))))

  -- What the spread says of a price.
  abbrev cost : ℕ → ℕ
  cost q = with_taken b q * (t.x * year)

  abbrev spread : ℕ → Bool
  spread q = le_z (pos (cost q)) (spread_above P margin t) && le_z (spread_below P margin t) (pos (cost q))

  within_both : (q : ℕ) (m : Bool) → eqb M 1 ≡ m → is_bond_within P margin M t b q ≡ ltb q (end_price P t b) && leb (from_price P t b) q && (not m || spread q)
  within_both q m e =
      bond_inside P margin M t b q
      ∙ ap (λ (m : Bool). leb (q * b.face) (P * (whole + t.rise)) && le_z (fallen P t) (pos (q * b.face)) && (not m || spread q)) e
      ∙ ap₂ (λ (x y : Bool). x && y && (not m || spread q)) (under_end q) (over_from q)

  -- Not monitored, a price is within where it is from the one on and below the other.
  pub within_limits : ¬ (M ≡ 1) → (q : ℕ) → is_bond_within P margin M t b q ≡ leb (from_price P t b) q && ltb q (end_price P t b)
  within_limits n q =
      within_both q false (ne_eqb M 1 n) ∙ and_true (ltb q (end_price P t b) && leb (from_price P t b) q) ∙ and_swap (ltb q (end_price P t b)) (leb (from_price P t b) q)

  -- Monitored, where the edges of the spread leave it too.
  module _ (U L SU SL : ℕ) (up : pos U ≡ spread_up margin t *ℤ factor t.upper t.k)
      (down : L ≡ at_least_zero (spread_down margin t *ℤ factor t.lower t.k)) (su : SU ≡ P * U) (sl : SL ≡ P * L) (above first : ℕ)
      (later : from_price P t b ≤ first) (sooner : above ≤ end_price P t b)
      (over : (q : ℕ) → from_price P t b ≤ q → q < end_price P t b → not (leb (cost q) SU) ≡ leb above q)
      (under : (q : ℕ) → from_price P t b ≤ q → q < above → leb SL (cost q) ≡ leb first q) where
    pub within_edges : M ≡ 1 → (q : ℕ) → is_bond_within P margin M t b q ≡ leb first q && ltb q above
    within_edges one q =
        let limits = ltb q (end_price P t b) && leb (from_price P t b) q in
        let below_spread : le_z (pos (cost q)) (spread_above P margin t) ≡ leb (cost q) SU
        = ap (λ (z : ℤ). le_z (pos (cost q)) (pos P *ℤ z)) (sym up) ∙ ap (leb (cost q)) (sym su) in
        let above_spread : le_z (spread_below P margin t) (pos (cost q)) ≡ leb SL (cost q)
        = clamp_product P (spread_down margin t *ℤ factor t.lower t.k) (cost q)
        ∙ ap (λ (n : ℕ). leb n (cost q)) (ap (λ (n : ℕ). P * n) (sym down) ∙ sym sl) in
        within_both q true (eq-eqb M 1 one)
        ∙ ap₂ (λ (c d : Bool). limits && (c && d)) below_spread above_spread
        ∙ between (from_price P t b) (end_price P t b) first above q (leb (cost q) SU) (leb SL (cost q)) later sooner (over q) (under q)
