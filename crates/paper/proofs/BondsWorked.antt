-- A bond's cases worked by hand: by computing, those of the least face value by the only ticks there can be, so that a wrong test fails at one price and not after a search, those of a book by the row that is met. Assumes nothing.
use mathlib.Core.Path.{◌≡◌, refl, sym, ◌∙◌}
use mathlib.Core.Bool.{true, false, ◌&&◌}
use mathlib.Core.List.{[], ◌∷◌}
use Prim.Native.Nat.{ℕ, ◌*◌, ◌≤◌, ◌<◌}
use native.Mathlib.Omega.{arith}
use borrow.Author.Tests.{leb-true}
use lib.Dec.{leb, lit<}
use lib.IntN.{ℤ, pos}
use lib.ListN.{replicate}
use Rattle.paper.specs.Row.{instruments, is_in}
use Rattle.paper.specs.Corridor.{Terms, between, terms_in_range}
use Rattle.paper.specs.Bond.{Bond, bond_in_range, is_bond_within, bond_on}
use Rattle.paper.specs.Calls.{bond, number_of, answer}
use Rattle.paper.specs.Promises.Found.{IsTick}
use Rattle.paper.specs.Promises.Worked.{terms_at}
use Rattle.paper.specs.Promises.Alive.{greatest_instrument, three_book}
use Rattle.paper.specs.Promises.Bonds.{bond_of, BondWorked, book_terms, BondOfBook}
use Rattle.paper.proofs.Tests.{and_left, and_right}
use Rattle.paper.proofs.Computing.{computing}
use Rattle.paper.proofs.Found.{ticks_same}
use Rattle.paper.proofs.Bonds.{bond_inside, bond_found}
use Rattle.paper.proofs.Standing.{number_by, figures_by, answer_by, number_by_lem, answer_by_lem}
use Rattle.paper.proofs.Alive.{middle_row, last_row, last_stands, three_keeps, three_closed}

-- Two ticks between which all that are within stand are the answer.
only_ticks :
    (P margin M : ℕ) (t : Terms) (b : Bond) (lowest highest : ℕ) → 0 < t.tick → 0 < b.face
    → IsTick (is_bond_within P margin M t b) t.tick lowest → IsTick (is_bond_within P margin M t b) t.tick highest
    → ((i : ℕ) → 0 < i → is_bond_within P margin M t b (t.tick * i) ≡ true → (lowest ≤ t.tick * i) × (t.tick * i ≤ highest))
    → bond_on P margin M t b ≡ between lowest highest
only_ticks P margin M t b lowest highest ticks some low high bounds =
    ticks_same (is_bond_within P margin M t b) t.tick _ _ (bond_found P margin M t b ticks some) (low, high, bounds)

-- The least face value, not monitored: the price is the only one.
least_face : (margin k carry accrued : ℕ) (lower upper : ℤ) → bond_on 1000000000 margin 0 (terms_at k lower upper 0 0 1000000) (bond_of 1 carry accrued) ≡ between 1000000000000000 1000000000000000
unfolding computing
least_face margin k carry accrued lower upper =
    let t = terms_at k lower upper 0 0 1000000 in
    let b = bond_of 1 carry accrued in
    let it : IsTick (is_bond_within 1000000000 margin 0 t b) 1000000 1000000000000000 = record { count = 1000000000; positive = lit< tt; multiple = refl; inside = refl } in
    only_ticks 1000000000 margin 0 t b _ _ (lit< tt) (lit< tt) it it (λ i p e.
    let inside = and_left (leb (1000000 * i * 1) 1000000000000000 && leb 1000000000000000 (1000000 * i * 1)) true (sym (bond_inside 1000000000 margin 0 t b (1000000 * i)) ∙ e) in
    (omega (arith, leb-true 1000000000000000 (1000000 * i * 1) (and_right (leb (1000000 * i * 1) 1000000000000000) _ inside)), omega (arith, leb-true (1000000 * i * 1) 1000000000000000 (and_left (leb (1000000 * i * 1) 1000000000000000) _ inside))))

-- The widest corridor: the rise alone bounds it, and the lowest tick is the first.
widest : bond_on 1000000000 1000000 1 (record { k = 365; lower = pos 50000; upper = pos 50000; shift = 1000; x = 1; rise = 1000000; fall = 1000000; tick = 1000000 }) (bond_of 1 1000000000 1000000000) ≡ between 1000000 2000000000000000
unfolding computing
widest =
    let t : Terms = record { k = 365; lower = pos 50000; upper = pos 50000; shift = 1000; x = 1; rise = 1000000; fall = 1000000; tick = 1000000 } in
    let b = bond_of 1 1000000000 1000000000 in
    let low : IsTick (is_bond_within 1000000000 1000000 1 t b) 1000000 1000000 = record { count = 1; positive = lit< tt; multiple = refl; inside = refl } in
    let high : IsTick (is_bond_within 1000000000 1000000 1 t b) 1000000 2000000000000000 = record { count = 2000000000; positive = lit< tt; multiple = refl; inside = refl } in
    only_ticks 1000000000 1000000 1 t b _ _ (lit< tt) (lit< tt) low high (λ i p e.
    let under = and_left (leb (1000000 * i * 1) 2000000000000000) _ (and_left _ _ (sym (bond_inside 1000000000 1000000 1 t b (1000000 * i)) ∙ e)) in
    (omega arith, omega (arith, leb-true (1000000 * i * 1) 2000000000000000 under)))

pub bond_worked : BondWorked
unfolding computing
bond_worked =
    record {
      coupon = refl;
      unmonitored = λ margin k carry accrued lower upper. refl;
      repo_decides = refl;
      spread_met = refl;
      more_accrued = refl;
      less_accrued = refl;
      more_carry = refl;
      less_carry = refl;
      limits_met = refl;
      less_rise = refl;
      less_fall = refl;
      more_face = refl;
      less_face = refl;
      upper_negative = refl;
      upper_zero = refl;
      lower_negative = refl;
      least_face = least_face;
      widest = widest;
      greatest_face = λ margin M k fall carry accrued lower upper. refl;
      one_part = λ margin k carry accrued lower upper. refl;
    }

-- What a book is asked, by the rows that are met.
record OnRows : Type 0 where
  middle : answer_by middle_row (bond 11 (book_terms 10000) (bond_of 50000 500 1000)) ≡ record { number = 0; figures = 910000 ∷ 1030000 ∷ [] }
  last : answer_by last_row (bond greatest_instrument (book_terms 10000) (bond_of 100000 0 500)) ≡ record { number = 0; figures = 970000 ∷ 1020000 ∷ [] }
  no_tick : answer_by middle_row (bond 11 (book_terms 10000) (bond_of 50000 50000 3000)) ≡ record { number = 8; figures = replicate 2 0 }
  no_face : answer_by middle_row (bond 11 (book_terms 10000) (bond_of 0 500 1000)) ≡ record { number = 2; figures = replicate 2 0 }
  past_face : number_by middle_row (bond 11 (book_terms 10000) (bond_of 1000000001 500 1000)) ≡ 2
  past_carry : number_by middle_row (bond 11 (book_terms 10000) (bond_of 50000 1000000001 1000)) ≡ 2
  past_accrued : number_by middle_row (bond 11 (book_terms 10000) (bond_of 50000 500 1000000001)) ≡ 2
  greatest_values : number_by middle_row (bond 11 (book_terms 10000) (bond_of 1000000000 1000000000 1000000000)) ≡ 8
  no_tick_at_all : number_by middle_row (bond 11 (book_terms 0) (bond_of 50000 500 1000)) ≡ 2
  no_instrument : is_in instruments 0 && (terms_in_range (book_terms 10000) && bond_in_range (bond_of 50000 500 1000)) ≡ false
  another : is_in instruments 8 && (terms_in_range (book_terms 10000) && bond_in_range (bond_of 50000 500 1000)) ≡ true

on_rows : OnRows
unfolding computing number_by figures_by answer_by
on_rows =
    record {
      middle = refl;
      last = refl;
      no_tick = refl;
      no_face = refl;
      past_face = refl;
      past_carry = refl;
      past_accrued = refl;
      greatest_values = refl;
      no_tick_at_all = refl;
      no_instrument = refl;
      another = refl;
    }

by_middle : (t : Terms) (b : Bond) (n : ℕ) → number_by middle_row (bond 11 t b) ≡ n → (answer three_book (bond 11 t b)).number ≡ n
unfolding answer
by_middle t b n e = number_by_lem three_book middle_row (lit< tt) (bond 11 t b) tt three_keeps.1 ∙ e

no_instrument : (answer three_book (bond 0 (book_terms 10000) (bond_of 50000 500 1000))).number ≡ 2
unfolding answer number_of
no_instrument = rw (last_stands.sound, on_rows.no_instrument)

unknown : (answer three_book (bond 8 (book_terms 10000) (bond_of 50000 500 1000))).number ≡ 5
unfolding answer number_of
unknown = rw (last_stands.sound, on_rows.another, three_closed)

unsound : (answer [] (bond 0 (book_terms 0) (bond_of 0 500 1000))).number ≡ 1
unfolding computing
unsound = refl

pub bond_of_book : BondOfBook
bond_of_book =
    record {
      middle = answer_by_lem three_book middle_row (lit< tt) (bond 11 (book_terms 10000) (bond_of 50000 500 1000)) tt three_keeps.1 ∙ on_rows.middle;
      last = answer_by_lem three_book last_row (lit< tt) (bond greatest_instrument (book_terms 10000) (bond_of 100000 0 500)) tt last_stands ∙ on_rows.last;
      no_tick = answer_by_lem three_book middle_row (lit< tt) (bond 11 (book_terms 10000) (bond_of 50000 50000 3000)) tt three_keeps.1 ∙ on_rows.no_tick;
      no_face = answer_by_lem three_book middle_row (lit< tt) (bond 11 (book_terms 10000) (bond_of 0 500 1000)) tt three_keeps.1 ∙ on_rows.no_face;
      past_face = by_middle _ _ 2 on_rows.past_face;
      past_carry = by_middle _ _ 2 on_rows.past_carry;
      past_accrued = by_middle _ _ 2 on_rows.past_accrued;
      greatest_values = by_middle _ _ 8 on_rows.greatest_values;
      no_tick_at_all = by_middle _ _ 2 on_rows.no_tick_at_all;
      no_instrument = no_instrument;
      unknown = unknown;
      unsound = unsound;
    }
