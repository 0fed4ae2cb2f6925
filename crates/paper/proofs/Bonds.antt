-- A bond's corridor: its tests are those of an amount in P's unit, once what is divided and what is taken away stand on the other side. Assumes nothing.
use mathlib.Core.Path.{◌≡◌, refl, sym, ap, ap₂, fun_ext, ◌∙◌}
use mathlib.Core.Bool.{Bool, false, cond, not, ◌&&◌, ◌||◌}
use mathlib.Core.List.{List}
use Prim.Native.Nat.{ℕ, zero, suc, ◌+◌, ◌*◌, ◌-◌, ◌≤◌, ◌<◌}
use native.Mathlib.Nat.{lt_of_not-le, add-mul, mul_comm, mul_assoc, mul-pos, mul-le-mul_left, le_of_mul-le-mul_left}
use native.Mathlib.Decide.{dec_le}
use native.Mathlib.Omega.{arith}
use borrow.Author.Tests.{leb-true, le-leb, lt-leb}
use lib.Dec.{leb, eqb, lit<}
use lib.IntN.{ℤ, pos, negsuc, neg_ℤ, ◌-ℤ◌, ◌*ℤ◌, +ℤ_idr}
use lib.ListN.{replicate}
use lib.Signed.{le_z}
use Rattle.paper.specs.Row as Row
use Rattle.paper.specs.Row.{is_in, are_in, word}
use Rattle.paper.specs.Corridor.{Terms, Ticks, terms_in_range, whole, year, scaled, risen, fallen, spread_above, spread_below, under_rise, over_fall, under_spread, over_spread, is_within, reach, ticks_within, corridor_on}
use Rattle.paper.specs.Bond.{Bond, bond_in_range, bond_under_rise, bond_over_fall, bond_under_spread, bond_over_spread, is_bond_within, bond_reach, bond_on}
use Rattle.paper.specs.Book.{row_for}
use Rattle.paper.specs.Calls.{corridor, bond, ticks_figures, corridor_for, bond_for, number_of_ticks, number_of, figures_for, Answer, answer}
use Rattle.paper.specs.Promises.Bonds.{with_taken, BondMeans, BondFound, bond_of, ShareIsBond}
use Rattle.paper.proofs.Tests.{and_left, and_true}
use Rattle.paper.proofs.Bounds.{sub_pos, sub_neg, below_zero, is_inside, inside_says}
use Rattle.paper.proofs.Found.{ticks_found, in_reach}

-- Tests of two numbers that say the same.
same_test : (a b c d : ℕ) → (a ≤ b → c ≤ d) → (c ≤ d → a ≤ b) → leb a b ≡ leb c d
same_test a b c d there back = go (dec_le a b)
  where
    go : Dec (a ≤ b) → leb a b ≡ leb c d
    go (yes l) = le-leb a b l ∙ sym (le-leb c d (there l))
    go (no n) = lt-leb a b (omega (arith, n)) ∙ sym (lt-leb c d (lt_of_not-le (λ l. n (back l))))

-- What is taken away stands on the other side.
put_back_above : (n c : ℕ) (z : ℤ) → le_z (pos n) (z -ℤ pos c) ≡ le_z (pos (n + c)) z
put_back_above n c (pos a) = go (dec_le c a)
  where
    go : Dec (c ≤ a) → le_z (pos n) (pos a -ℤ pos c) ≡ leb (n + c) a
    go (yes l) = ap (le_z (pos n)) (sub_pos a c l) ∙ same_test n (a - c) (n + c) a (λ h. omega arith) (λ h. omega arith)
    go (no l) = ap (le_z (pos n)) (sub_neg a c (omega (arith, l))) ∙ sym (lt-leb (n + c) a (omega (arith, l)))
put_back_above n zero (negsuc a) = ap (le_z (pos n)) (+ℤ_idr (negsuc a))
put_back_above n (suc c) (negsuc a) = refl

put_back_below : (n c : ℕ) (z : ℤ) → le_z (z -ℤ pos c) (pos n) ≡ le_z z (pos (n + c))
put_back_below n c (pos a) = go (dec_le c a)
  where
    go : Dec (c ≤ a) → le_z (pos a -ℤ pos c) (pos n) ≡ leb a (n + c)
    go (yes l) = ap (λ (z : ℤ). le_z z (pos n)) (sub_pos a c l) ∙ same_test (a - c) n a (n + c) (λ h. omega arith) (λ h. omega arith)
    go (no l) = ap (λ (z : ℤ). le_z z (pos n)) (sub_neg a c (omega (arith, l))) ∙ sym (le-leb a (n + c) (omega (arith, l)))
put_back_below n zero (negsuc a) = ap (λ (z : ℤ). le_z z (pos n)) (+ℤ_idr (negsuc a))
put_back_below n (suc c) (negsuc a) = refl

-- A positive number that both sides are multiplied by.
module _ (c : ℕ) (some : 0 < c) where
  above_zero : (k m : ℕ) → 0 < m → le_z (pos k) (neg_ℤ (pos m)) ≡ false
  above_zero k zero l = absurd (omega arith)
  above_zero k (suc m) l = refl

  divided_above : (n : ℕ) (z : ℤ) → le_z (pos (n * c)) (pos c *ℤ z) ≡ le_z (pos n) z
  divided_above n (pos a) =
      same_test (n * c) (c * a) n a (λ l. le_of_mul-le-mul_left {k = c} (omega (arith, mul_comm n c)) some) (λ l. omega (arith, mul_comm n c, mul-le-mul_left c l))
  divided_above n (negsuc a) = above_zero (n * c) (c * suc a) (mul-pos some (omega arith))

  divided_below : (n : ℕ) (z : ℤ) → le_z (pos c *ℤ z) (pos (n * c)) ≡ le_z z (pos n)
  divided_below n (pos a) =
      same_test (c * a) (n * c) a n (λ l. le_of_mul-le-mul_left {k = c} (omega (arith, mul_comm n c)) some) (λ l. omega (arith, mul_comm n c, mul-le-mul_left c l))
  divided_below n (negsuc a) = below_zero (c * suc a) (n * c)

-- The denominators of a product, with the whole apart.
whole_apart : (n x : ℕ) → n * (x * whole * year) ≡ n * whole * (x * year)
whole_apart n x = ap (λ (m : ℕ). n * m) (omega arith) ∙ sym (mul_assoc n whole (x * year))

module _ (P margin M : ℕ) (t : Terms) (b : Bond) (q : ℕ) where
  abbrev K : ℕ
  K = t.x * year

  -- A price with carry and accrued interest is its parts.
  taken_parts : q * b.face * K + b.accrued * (t.x * whole * year) + b.carry * (t.x * whole * year) ≡ with_taken b q * K
  taken_parts =
      ap₂ (λ (a c : ℕ). q * b.face * K + a + c) (whole_apart b.accrued t.x) (whole_apart b.carry t.x)
      ∙ sym (ap (λ (n : ℕ). n * K) (omega arith) ∙ add-mul (q * b.face + b.accrued * whole) (b.carry * whole) K ∙ ap (λ (n : ℕ). n + b.carry * whole * K) (add-mul (q * b.face) (b.accrued * whole) K))

  scaled_is : scaled t (q * b.face) ≡ pos (q * b.face * K * whole)
  unfolding scaled
  scaled_is = ap pos (ap (λ (m : ℕ). q * b.face * m) (omega arith) ∙ sym (mul_assoc (q * b.face) K whole))

  -- What is taken of a product, and the price, in its unit.
  abbrev C : ℕ
  C = b.carry * (t.x * whole * year)

  abbrev A : ℕ
  A = b.accrued * (t.x * whole * year)

  abbrev N : ℕ
  N = q * b.face * K

  below_spread : bond_under_spread P margin t b q ≡ le_z (pos (with_taken b q * K)) (spread_above P margin t)
  unfolding bond_under_spread scaled
  below_spread =
      let z = spread_above P margin t in
      ap (λ (w : ℤ). le_z w (pos whole *ℤ (z -ℤ pos C -ℤ pos A))) scaled_is ∙ divided_above whole (lit< tt) N (z -ℤ pos C -ℤ pos A)
      ∙ put_back_above N A (z -ℤ pos C) ∙ put_back_above (N + A) C z ∙ ap (λ (n : ℕ). le_z (pos n) z) taken_parts

  above_spread : bond_over_spread P margin t b q ≡ le_z (spread_below P margin t) (pos (with_taken b q * K))
  unfolding bond_over_spread scaled
  above_spread =
      let z = spread_below P margin t in
      ap (λ (w : ℤ). le_z (pos whole *ℤ (z -ℤ pos C -ℤ pos A)) w) scaled_is ∙ divided_below whole (lit< tt) N (z -ℤ pos C -ℤ pos A)
      ∙ put_back_below N A (z -ℤ pos C) ∙ put_back_below (N + A) C z ∙ ap (λ (n : ℕ). le_z z (pos n)) taken_parts

  -- The tests of a bond's price are those of an amount: by itself against the rise and the fall, with what is taken put back against the spread.
  pub bond_inside : is_bond_within P margin M t b q ≡ is_inside P margin M t (q * b.face) (with_taken b q * K)
  unfolding is_bond_within bond_under_rise bond_over_fall
  bond_inside =
      ap₂ (λ (c d : Bool). c && d && (not (eqb M 1) || (bond_under_spread P margin t b q && bond_over_spread P margin t b q)))
      (divided_above whole (lit< tt) (q * b.face) (risen P t)) (divided_below whole (lit< tt) (q * b.face) (fallen P t))
      ∙ ap₂ (λ (c d : Bool). le_z (pos (q * b.face)) (risen P t) && le_z (fallen P t) (pos (q * b.face)) && (not (eqb M 1) || (c && d))) below_spread above_spread

pub bond_means : BondMeans
bond_means P margin M t r b q =
    let says = inside_says P margin M t r (q * b.face) (with_taken b q * (t.x * 3650000)) in (
      λ e.
          let all = says.0 (sym (bond_inside P margin M t b q) ∙ e) in
          record {
            below_rise = all.0.0;
            above_fall = all.0.1;
            below_spread = λ one. (all.1 one).0;
            above_spread = λ one. (all.1 one).1;
          },
      λ i. bond_inside P margin M t b q ∙ says.1 ((i.below_rise, i.above_fall), λ one. (i.below_spread one, i.above_spread one)),
    )

pub bond_found : BondFound
unfolding bond_on bond_reach
bond_found P margin M t b positive some =
    ticks_found (is_bond_within P margin M t b) t.tick (bond_reach P t b) (λ i e.
    let q = t.tick * i in
    in_reach (P * (whole + t.rise)) b.face t.tick i some positive
    (leb-true (q * b.face) (P * (whole + t.rise)) (and_left (le_z (pos (q * b.face)) (risen P t)) (le_z (fallen P t) (pos (q * b.face)))
    (and_left _ (not (eqb M 1) || (le_z (pos (with_taken b q * (t.x * year))) (spread_above P margin t) && le_z (spread_below P margin t) (pos (with_taken b q * (t.x * year)))))
    (sym (bond_inside P margin M t b q) ∙ e)))))

-- A share's price is a bond's of that face value.
share_within : (P margin M : ℕ) (t : Terms) (q : ℕ) → is_bond_within P margin M t (bond_of 1000000 0 0) q ≡ is_within P margin M t q
unfolding is_within under_rise over_fall under_spread over_spread scaled
share_within P margin M t q =
    bond_inside P margin M t (bond_of 1000000 0 0) q
    ∙ ap (is_inside P margin M t (q * 1000000)) (ap (λ (n : ℕ). n * (t.x * year)) (omega arith) ∙ sym (whole_apart q t.x))

share_rule : (P margin M : ℕ) (t : Terms) → bond_on P margin M t (bond_of 1000000 0 0) ≡ corridor_on P margin M t
unfolding bond_on bond_reach corridor_on reach
share_rule P margin M t = ap (λ (within : ℕ → Bool). ticks_within within t.tick (reach P t)) (fun_ext (share_within P margin M t))

share_call : (book : List ℕ) (i : ℕ) (t : Terms) → answer book (bond i t (bond_of 1000000 0 0)) ≡ answer book (corridor i t)
unfolding answer number_of figures_for corridor_for bond_for bond_in_range are_in is_in
share_call book i t =
    let row = row_for book i in
    ap₂ (λ (range : Bool) (ticks : Ticks). let handed : Answer = record { number = number_of_ticks book i range ticks; figures = cond (eqb (number_of_ticks book i range ticks) 0) (ticks_figures ticks) (replicate 2 0) } in handed)
    (and_true (terms_in_range t)) (share_rule (word row Row.newer) (word row Row.margin) (word row Row.monitored) t)

pub share_is_bond : ShareIsBond
share_is_bond = record { rule = share_rule; call = share_call }
